use Rattle.std.specs.Prelude.{◌≡◌, ◌++◌, flat_map}
use Rattle.std.specs.List.{range_with_len}
use Rattle.plan_write.specs.GraphText.{node_line}
use Rattle.plan_write.proofs.graph_text.push_node_lines.Given as goal

abbrev pub invariant-loop-n : goal.invariant-loop-n
invariant-loop-n l = l.into.items ≡ l.fn.into.items ++ flat_map (node_line l.g) (range_with_len 0 l.n)
