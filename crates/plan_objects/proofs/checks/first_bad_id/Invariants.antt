use Rattle.plan_objects.specs.Faults.{HasBadId}
use Rattle.plan_core.specs.Searching.{NoneBefore}
use Rattle.plan_objects.proofs.checks.first_bad_id.Given as goal

abbrev pub invariant-loop-i : goal.invariant-loop-i
invariant-loop-i l = NoneBefore (λ _ signal. HasBadId signal) l.signals l.i
