use Rattle.std.proofs.Common.{◌∙◌, sym}
use Rattle.log_trim.proofs.UsedLemmas.{line_used, line_refuted}
use Rattle.log_trim.proofs.shortening.use_line.Goals as goal

pub returns-then-is_used-clause-marked : goal.returns-then-is_used-clause-marked
returns-then-is_used-clause-marked c rest h = line_used c.args.line.now c.in-Learnt.lits c.in-Learnt.hints c.args.used.now c.use_all.new.used c.args.n rest
    c.in-Learnt.is c.requires.below (sym c.is_used.ensures ∙ c.if-is_used.true) c.use_all.ensures h

pub returns-in-Refuted-clause-marked : goal.returns-in-Refuted-clause-marked
returns-in-Refuted-clause-marked c rest h = line_refuted c.args.line.now c.in-Refuted.lits c.in-Refuted.hints c.args.used.now c.use_all-in-Refuted.new.used
    c.args.n rest c.in-Refuted.is c.requires.below c.use_all-in-Refuted.ensures h
