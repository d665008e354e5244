use Rattle.railml_faults.specs.Faults.{RefersToItself}
use Rattle.plan_core.specs.Searching.{NoneBefore}
use Rattle.railml_faults.proofs.references.first_self_ref.Given as goal

abbrev pub invariant-loop-i : goal.invariant-loop-i
invariant-loop-i l = NoneBefore (λ _ row. RefersToItself row) l.rows l.i
