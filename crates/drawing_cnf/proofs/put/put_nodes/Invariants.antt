use Rattle.std.specs.Prelude.{◌≡◌, ◌≤◌, ℕ, length}
use Rattle.cnf_core.specs.Truths.{assignment}
use Rattle.cnf_laws.specs.Expected.{edges_first}
use Rattle.drawing_cnf.proofs.PutLemmas.{NodesReadTo}
use Rattle.drawing_cnf.proofs.put.put_nodes.Given as goal

abbrev pub invariant-loop-n : goal.invariant-loop-n
invariant-loop-n l = NodesReadTo l.g l.grid l.d (assignment l.m) l.n × (length l.m ≡ length l.initial.m)
    × ((y : ℕ) → edges_first l.g l.grid ≤ y → assignment l.m y ≡ assignment l.initial.m y)
