use Rattle.std.proofs.Common.{◌≢◌, refl, sym, ◌∙◌, subst, arith, List}
use Rattle.std.specs.Prelude.{AllPairs}
use Rattle.std.proofs.lemmas.Bool.{false≢true}
use Rattle.std.proofs.lemmas.List.{take_all, get_or_default}
use Rattle.plan_core.specs.declared.criterion.Criterion.{Criterion}
use Rattle.plan_core.proofs.OrderLemmas.{once_more}
use Rattle.plan_core.proofs.order.are_distinct.Goals as goal

pub loop-i-preserved : goal.loop-i-preserved
loop-i-preserved c =
    once_more c.args.list.now c.loop-i.i _ c.loop-i-test.true (get_or_default c.args.list.now c.loop-i.i _ _ c.loop-i-test.true)
    (λ there. false≢true (sym c.if-stands_in.false ∙ c.stands_in.ensures.1 there)) c.loop-i.invariant

pub returns : goal.returns
returns c = (
  λ _. let P : List Criterion → Type 0 = λ xs. AllPairs (λ a b. a ≢ b) xs in
      subst P (take_all c.loop-i.i c.args.list.now (omega arith)) c.loop-i.invariant,
  λ _. refl,
)
