use Rattle.std.proofs.Common.{◌≡◌, ◌∙◌, sym, ap, true, false}
use Rattle.std.specs.Prelude.{Contains}
use Rattle.cnf_core.specs.Lit.{negate, has}
use Rattle.cnf_core.proofs.PropagationLemmas.{contains_from_has}
use Rattle.refute_log.proofs.AmongLemmas.{all_more_at, all_not_at, all_end, lacks_not}
use Rattle.refute_check.proofs.judging.are_negated.Goals as goal

pub loop-l-preserved : goal.loop-l-preserved
loop-l-preserved c =
    let h : has c.args.query.now (negate c.l-item.result) ≡ true = ap (has c.args.query.now) (sym c.negated.ensures) ∙ sym c.if-not-has.ensures in
    all_more_at (λ k. Contains c.args.query.now (negate k)) c.args.lits.now c.loop-l.l-index c.l-item.result c.loop-l-test.true c.l-item.is c.loop-l.invariant
    (contains_from_has c.args.query.now (negate c.l-item.result) h)

pub returns-then-not-has-clause-no : goal.returns-then-not-has-clause-no
returns-then-not-has-clause-no c = λ _ all.
    let h : has c.args.query.now (negate c.l-item.result) ≡ false = ap (has c.args.query.now) (sym c.negated.ensures) ∙ sym c.if-not-has.ensures in
    all_not_at (λ k. Contains c.args.query.now (negate k)) c.args.lits.now c.loop-l.l-index c.l-item.result c.loop-l-test.true c.l-item.is
    (lacks_not c.args.query.now (negate c.l-item.result) h) all

pub returns-clause-yes : goal.returns-clause-yes
returns-clause-yes c = λ _. all_end (λ k. Contains c.args.query.now (negate k)) c.args.lits.now c.loop-l.l-index c.loop-l-test.false c.loop-l.invariant
