use Rattle.std.proofs.Common.{length, ◌-◌, ◌≤◌, ◌<◌, ℕ, get_or}
use Rattle.cnf_core.specs.Lit.{Literal, has}
use Rattle.cnf_core.specs.Propagation.{IsIn}
use Rattle.cdcl_core.proofs.choices.past_true.Given as goal

abbrev pub invariant-loop-i : goal.invariant-loop-i
invariant-loop-i l = record {
  from : l.from ≤ l.i;
  to : l.i ≤ length l.query;
  before : (i : ℕ) (d : Literal) → l.from ≤ i → i < l.i → IsIn (has l.trail.lits) (get_or l.query i d);
}

abbrev pub decreases-loop-i : goal.decreases-loop-i
decreases-loop-i l = length l.query - l.i
