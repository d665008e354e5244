use Rattle.railml_faults.specs.Faults.{HasBadCourse}
use Rattle.plan_core.specs.Searching.{NoneBefore}
use Rattle.railml_faults.proofs.courses.first_bad_course.Given as goal

abbrev pub invariant-loop-i : goal.invariant-loop-i
invariant-loop-i l = NoneBefore (λ _ row. HasBadCourse l.rows row) l.rows l.i
