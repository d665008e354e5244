use Rattle.std.proofs.Common.{◌≡◌, ◌++◌, map}
use Rattle.port_graph.specs.declared.runs.Join.{Join}
use Rattle.port_graph.proofs.order.push_joins.Given as goal

abbrev pub invariant-loop-join : goal.invariant-loop-join
invariant-loop-join l = l.runs.items ≡ l.fn.runs.items ++ map (λ (j : Join). j.run) l.yielded
