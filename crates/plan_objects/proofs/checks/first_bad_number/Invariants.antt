use Rattle.plan_objects.specs.Faults.{HasNoNumber}
use Rattle.plan_core.specs.Searching.{NoneBefore}
use Rattle.plan_objects.proofs.checks.first_bad_number.Given as goal

abbrev pub invariant-loop-i : goal.invariant-loop-i
invariant-loop-i l = NoneBefore (λ _ signal. HasNoNumber signal) l.signals l.i
