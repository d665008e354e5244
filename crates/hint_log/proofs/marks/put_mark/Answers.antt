use Rattle.std.proofs.Common.{◌∙◌}
use Rattle.hint_log.proofs.MarksLemmas.{marked_more}
use Rattle.hint_log.proofs.marks.put_mark.Goals as goal

pub returns-clause-ok : goal.returns-clause-ok
returns-clause-ok c = λ lits m. rw c.word.ensures.value (marked_more c.reach.new.table.items lits c.args.l (λ k. c.reach.ensures.same k ∙ m k)
    c.in_ok-reach.ensures.reaches)
