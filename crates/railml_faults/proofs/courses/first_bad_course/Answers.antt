use Rattle.plan_core.proofs.SearchLemmas.{none_more_tested}
use Rattle.railml_faults.proofs.courses.first_bad_course.Goals as goal

pub loop-i-preserved : goal.loop-i-preserved
loop-i-preserved c = none_more_tested c.has_bad_course.result c.loop-i.invariant c.loop-i-test.true c.index-rows-i.is (c.has_bad_course.ensures.1)
    c.if-has_bad_course.false
