use Rattle.refute_check.proofs.WordLemmas.{words_more, words_all}
use Rattle.refute_check.proofs.question.words_of.Goals as goal

pub loop-l-preserved : goal.loop-l-preserved
loop-l-preserved c = words_more c.loop-l.words c.insert.new.self c.args.lits.now c.loop-l.l-index c.word.result c.l-item.result c.loop-l-test.true c.l-item.is
    c.word.ensures.value c.loop-l.invariant c.in_ok-insert.ensures.updates

pub returns : goal.returns
returns c = words_all c.loop-l.words c.args.lits.now c.loop-l.l-index c.loop-l-test.false c.loop-l.invariant
