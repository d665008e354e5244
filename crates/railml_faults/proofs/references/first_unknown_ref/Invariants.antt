use Rattle.railml_faults.specs.Faults.{RefersToNone}
use Rattle.plan_core.specs.Searching.{NoneBefore}
use Rattle.railml_faults.proofs.references.first_unknown_ref.Given as goal

abbrev pub invariant-loop-i : goal.invariant-loop-i
invariant-loop-i l = NoneBefore (λ _ row. RefersToNone l.rows row) l.rows l.i
