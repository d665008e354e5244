use Rattle.std.proofs.Common.{sym}
use Rattle.std.specs.Prelude.{Contains}
use Rattle.cnf_core.proofs.PropagationLemmas.{contains_from_has}
use Rattle.refute_log.proofs.AmongLemmas.{all_more_at, all_not_at, all_end, lacks_not}
use Rattle.refute_log.proofs.among.are_among.Goals as goal

pub loop-l-preserved : goal.loop-l-preserved
loop-l-preserved c = all_more_at (λ k. Contains c.args.others.now k) c.args.lits.now c.loop-l.l-index c.l-item.result c.loop-l-test.true c.l-item.is
    c.loop-l.invariant (contains_from_has c.args.others.now c.l-item.result (sym c.if-not-is_among.ensures))

pub returns-then-not-is_among-clause-no : goal.returns-then-not-is_among-clause-no
returns-then-not-is_among-clause-no c = λ _ all. all_not_at (λ k. Contains c.args.others.now k) c.args.lits.now c.loop-l.l-index c.l-item.result
    c.loop-l-test.true c.l-item.is (lacks_not c.args.others.now c.l-item.result (sym c.if-not-is_among.ensures)) all

pub returns-clause-yes : goal.returns-clause-yes
returns-clause-yes c = λ _. all_end (λ k. Contains c.args.others.now k) c.args.lits.now c.loop-l.l-index c.loop-l-test.false c.loop-l.invariant
