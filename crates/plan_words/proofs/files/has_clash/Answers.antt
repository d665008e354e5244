use Rattle.plan_words.proofs.FileLemmas.{clash_at, one_more_stands, all_stand}
use Rattle.plan_words.proofs.files.has_clash.Goals as goal

pub returns-then-clash : goal.returns-then-clash
returns-then-clash c = clash_at c.args.earlier.now c.loop-other.other-index c.other-item.result c.args.file.now c.loop-other-test.true c.other-item.is
    c.if-clash.ensures

pub loop-other-preserved : goal.loop-other-preserved
loop-other-preserved c = one_more_stands c.args.earlier.now c.loop-other.other-index c.other-item.result c.args.file.now c.loop-other-test.true c.other-item.is
    c.if-clash.ensures c.loop-other.invariant

pub returns : goal.returns
returns c = all_stand c.args.earlier.now c.loop-other.other-index c.args.file.now c.loop-other-test.false c.loop-other.invariant
