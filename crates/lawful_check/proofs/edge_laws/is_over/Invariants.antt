use Rattle.std.specs.Prelude.{ℕ, ◌<◌}
use Rattle.lawful_check.specs.Columns.{IsHigherAt}
use Rattle.lawful_check.proofs.edge_laws.is_over.Given as goal

abbrev pub invariant-loop-x : goal.invariant-loop-x
invariant-loop-x l = (c : ℕ) → c < l.x → IsHigherAt l.g l.d l.e.0 l.f.0 c
