use Rattle.plan_words.proofs.FileLemmas.{one_file_more, repeat_at, all_apart}
use Rattle.plan_words.proofs.files.first_repeat.Goals as goal

pub returns-then-has_clash : goal.returns-then-has_clash
returns-then-has_clash c = repeat_at c.args.files.now c.loop-i.i c.index-files-i.result c.loop-i-test.true c.index-files-i.is c.if-has_clash.ensures
    c.loop-i.invariant

pub loop-i-preserved : goal.loop-i-preserved
loop-i-preserved c = one_file_more c.args.files.now c.loop-i.i c.index-files-i.result c.loop-i-test.true c.index-files-i.is c.if-has_clash.ensures
    c.loop-i.invariant

pub returns : goal.returns
returns c = all_apart c.args.files.now c.loop-i.i c.loop-i-test.false c.loop-i.invariant
