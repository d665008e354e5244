use Rattle.std.proofs.Common.{None, get_or}
use Rattle.plan_core.proofs.SearchLemmas.{found_first, none_more_tested}
use Rattle.railml_faults.proofs.ReferenceLemmas.{target_at, not_answered, answered}
use Rattle.railml_faults.proofs.references.first_not_mutual.Goals as goal

pub returns-then-is_not_answered : goal.returns-then-is_not_answered
returns-then-is_not_answered c =
    let rows = c.args.rows.now in
    let row = c.index-rows-i.result in
    let i = c.loop-i.i in
    let target = target_at rows c.args.targets.now i row c.requires.targets c.loop-i-test.true c.index-rows-i.is in
    found_first c.loop-i.invariant c.loop-i-test.true c.index-rows-i.is (not_answered rows row (get_or c.args.targets.now i None) target
    (c.is_not_answered.ensures.0 c.if-is_not_answered.true))

pub loop-i-preserved : goal.loop-i-preserved
loop-i-preserved c =
    let rows = c.args.rows.now in
    let row = c.index-rows-i.result in
    let i = c.loop-i.i in
    let target = target_at rows c.args.targets.now i row c.requires.targets c.loop-i-test.true c.index-rows-i.is in
    none_more_tested c.is_not_answered.result c.loop-i.invariant c.loop-i-test.true c.index-rows-i.is
    (λ had. c.is_not_answered.ensures.1 (answered rows row (get_or c.args.targets.now i None) c.requires.distinct target had)) c.if-is_not_answered.false
