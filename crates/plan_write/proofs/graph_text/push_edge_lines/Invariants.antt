use Rattle.std.specs.Prelude.{◌≡◌, ◌++◌, flat_map}
use Rattle.std.specs.List.{range_with_len}
use Rattle.plan_write.specs.GraphText.{edge_line}
use Rattle.plan_write.proofs.graph_text.push_edge_lines.Given as goal

abbrev pub invariant-loop-e : goal.invariant-loop-e
invariant-loop-e l = l.into.items ≡ l.fn.into.items ++ flat_map (edge_line l.g) (range_with_len 0 l.e)
