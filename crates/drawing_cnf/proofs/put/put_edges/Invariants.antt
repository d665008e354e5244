use Rattle.std.specs.Prelude.{◌≡◌, ◌≤◌, ℕ, length}
use Rattle.cnf_core.specs.Truths.{assignment}
use Rattle.cnf_laws.specs.Expected.{laws_first}
use Rattle.drawing_cnf.proofs.PutLemmas.{EdgesPutTo}
use Rattle.drawing_cnf.proofs.put.put_edges.Given as goal

abbrev pub invariant-loop-e : goal.invariant-loop-e
invariant-loop-e l = EdgesPutTo l.g l.grid l.d (assignment l.m) l.e × (length l.m ≡ length l.initial.m)
    × ((y : ℕ) → laws_first l.g l.grid ≤ y → assignment l.m y ≡ assignment l.initial.m y)
