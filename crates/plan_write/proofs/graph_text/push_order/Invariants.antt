use Rattle.std.specs.Prelude.{◌≡◌, ◌++◌, flat_map}
use Rattle.std.specs.List.{range_with_len}
use Rattle.track_order.specs.Order.{is_above}
use Rattle.plan_write.specs.GraphText.{above_lines}
use Rattle.plan_write.proofs.graph_text.push_order.Given as goal

abbrev pub invariant-loop-e : goal.invariant-loop-e
invariant-loop-e l = l.into.items ≡ l.fn.into.items ++ flat_map (above_lines (is_above l.t) l.t.edges) (range_with_len 0 l.e)
