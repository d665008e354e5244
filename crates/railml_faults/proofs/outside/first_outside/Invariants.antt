use Rattle.railml_faults.specs.Faults.{LiesOutside}
use Rattle.plan_core.specs.Searching.{NoneBefore}
use Rattle.railml_faults.proofs.outside.first_outside.Given as goal

abbrev pub invariant-loop-i : goal.invariant-loop-i
invariant-loop-i l = NoneBefore (λ _ row. LiesOutside l.rows row row.kind) l.rows l.i
