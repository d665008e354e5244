use Rattle.std.proofs.Common.{◌≡◌, ◌<◌, ℕ, Some}
use Rattle.std.specs.Prelude.{slice_get}
use Rattle.port_graph.specs.declared.runs.Run.{Run}
use Rattle.port_graph.specs.TopologyGraph.{IsForward}
use Rattle.port_graph.proofs.edges.check_forward.Given as goal

abbrev pub invariant-loop-number : goal.invariant-loop-number
invariant-loop-number l = (f : ℕ) (q : Run) → f < l.number → slice_get l.runs f ≡ Some q → IsForward q
