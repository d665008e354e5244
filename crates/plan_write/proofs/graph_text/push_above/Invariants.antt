use Rattle.std.specs.Prelude.{◌≡◌, ◌++◌, flat_map}
use Rattle.std.specs.List.{range_with_len}
use Rattle.track_order.specs.Order.{is_above}
use Rattle.plan_write.specs.GraphText.{above_line}
use Rattle.plan_write.proofs.graph_text.push_above.Given as goal

abbrev pub invariant-loop-f : goal.invariant-loop-f
invariant-loop-f l = l.into.items ≡ l.fn.into.items ++ flat_map (above_line (is_above l.t) l.e) (range_with_len 0 l.f)
