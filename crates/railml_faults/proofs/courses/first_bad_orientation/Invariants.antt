use Rattle.railml_faults.specs.Faults.{HasBadOrientation}
use Rattle.plan_core.specs.Searching.{NoneBefore}
use Rattle.railml_faults.proofs.courses.first_bad_orientation.Given as goal

abbrev pub invariant-loop-i : goal.invariant-loop-i
invariant-loop-i l = NoneBefore (λ _ row. HasBadOrientation l.rows row) l.rows l.i
