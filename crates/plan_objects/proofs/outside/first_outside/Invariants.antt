use Rattle.plan_objects.specs.Faults.{LiesOutside}
use Rattle.plan_core.specs.Searching.{NoneBefore}
use Rattle.plan_objects.proofs.outside.first_outside.Given as goal

abbrev pub invariant-loop-i : goal.invariant-loop-i
invariant-loop-i l = NoneBefore (λ _ signal. LiesOutside l.rows l.t signal) l.signals l.i
