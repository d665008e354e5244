use Rattle.std.proofs.Common.{length, ◌-◌, ◌≤◌, ◌<◌, ℕ, get_or}
use Rattle.cnf_core.specs.Lit.{Literal, negate, has}
use Rattle.cnf_core.specs.Propagation.{IsIn}
use Rattle.cdcl_core.proofs.given.open_place.Given as goal

abbrev pub invariant-loop-i : goal.invariant-loop-i
invariant-loop-i l = record {
  from : l.from ≤ l.i;
  to : l.i ≤ length l.lits;
  before : (i : ℕ) (d : Literal) → l.from ≤ i → i < l.i → IsIn (has l.trail.lits) (negate (get_or l.lits i d));
}

abbrev pub decreases-loop-i : goal.decreases-loop-i
decreases-loop-i l = length l.lits - l.i
