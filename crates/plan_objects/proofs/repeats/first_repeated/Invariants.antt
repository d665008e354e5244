use Rattle.std.specs.Prelude.{List, ℕ}
use Rattle.plan_objects.specs.Faults.{RepeatsId}
use Rattle.plan_core.specs.Searching.{NoneBefore}
use Rattle.plan_objects.proofs.repeats.first_repeated.Given as goal

abbrev pub invariant-loop-i : goal.invariant-loop-i
invariant-loop-i l = NoneBefore (λ i _. (id : List ℕ) × RepeatsId l.signals i id) l.signals l.i
