use Rattle.std.proofs.Common.{◌≡◌, take, length, true}
use Rattle.cnf_core.specs.Lit.{Literal, has}
use Rattle.cnf_core.specs.Assignment.{truth}
use Rattle.cnf_core.specs.Truths.{assignment}
use Rattle.cnf_core.specs.Propagation.{IsIn}
use Rattle.cdcl_core.proofs.models.truths_of.Given as goal

abbrev pub invariant-loop-i : goal.invariant-loop-i
invariant-loop-i l = record {
  vars : length l.truths ≡ l.trail.vars;
  so_far : (k : Literal) → IsIn (has (take l.i l.trail.lits)) k → truth (assignment l.truths) k ≡ true;
}
