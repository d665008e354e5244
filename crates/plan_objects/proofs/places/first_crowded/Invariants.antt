use Rattle.std.proofs.Common.{◌≡◌}
use Rattle.plan_objects.specs.declared.places.TheConstants.{SIGNALS_OF_AN_EDGE}
use Rattle.plan_objects.specs.Faults.{earlier_on_edge}
use Rattle.plan_core.specs.Searching.{NoneBefore}
use Rattle.plan_objects.proofs.places.first_crowded.Given as goal

abbrev pub invariant-loop-i : goal.invariant-loop-i
invariant-loop-i l = NoneBefore (λ i _. earlier_on_edge l.signals i ≡ SIGNALS_OF_AN_EDGE) l.signals l.i
