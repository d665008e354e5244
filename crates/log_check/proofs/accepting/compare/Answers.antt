use Rattle.std.proofs.Common.{subst}
use Rattle.log_check.specs.Progress.{AreAwaited}
use Rattle.log_check.proofs.AcceptingLemmas.{over, next_comes, other_comes}
use Rattle.log_check.proofs.accepting.compare.Goals as goal

pub returns-in-None-clause-compared : goal.returns-in-None-clause-compared
returns-in-None-clause-compared c = λ e lines a w.
    over e lines c.args.line.now a (subst (AreAwaited e lines) c.in-None.is w) c.if-not-is_clause_line.ensures

pub returns-in-None-behind-clause-compared : goal.returns-in-None-behind-clause-compared
returns-in-None-behind-clause-compared c = λ e lines a w.
    other_comes e lines c.args.line.now c.in-Some.now c.if-not-is_clause_line.ensures (subst (AreAwaited e lines) c.in-Some.is w) c.in-None-behind.ensures

pub returns-in-Some-behind-clause-compared : goal.returns-in-Some-behind-clause-compared
returns-in-Some-behind-clause-compared c = λ e lines a w.
    next_comes e lines c.args.line.now c.in-Some.now c.in-Some-behind.more c.if-not-is_clause_line.ensures (subst (AreAwaited e lines) c.in-Some.is w)
    c.in-Some-behind.ensures.0 c.in-Some-behind.ensures.1
