use Rattle.plan_core.proofs.SearchLemmas.{none_more}
use Rattle.railml_faults.proofs.parts.first_without_parts.Goals as goal

pub loop-i-preserved : goal.loop-i-preserved
loop-i-preserved c = none_more c.loop-i.invariant c.loop-i-test.true c.index-rows-i.is (λ lacks. lacks (c.has_its_parts.ensures.0 c.if-not-has_its_parts.false))
