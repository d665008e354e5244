use Rattle.refute_check.proofs.TimelyLemmas.{answers_told}
use Rattle.refute_check.proofs.timely.answers.Goals as goal

pub returns-in-Refuted : goal.returns-in-Refuted
returns-in-Refuted c = answers_told c.args.query.now c.args.line.now c.in-Refuted.c c.as_slice.result.now c.answer.result c.in-Refuted.is
    c.as_slice.ensures.value c.answer.ensures.yes c.answer.ensures.no
