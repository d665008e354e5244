use Rattle.std.specs.Prelude.{IsSome}
use Rattle.plan_objects.specs.Faults.{first_lacking}
use Rattle.plan_core.specs.Searching.{NoneBefore}
use Rattle.plan_objects.proofs.checks.first_missing.Given as goal

abbrev pub invariant-loop-i : goal.invariant-loop-i
invariant-loop-i l = NoneBefore (λ _ signal. IsSome (first_lacking signal)) l.signals l.i
