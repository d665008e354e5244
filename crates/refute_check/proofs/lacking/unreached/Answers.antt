use Rattle.std.proofs.Common.{◌≡◌, ◌+◌, ◌∙◌, List, [], ◌∷◌, ◌++◌, take, sym, subst, arith}
use Rattle.std.proofs.lemmas.Bool.{false≢true}
use Rattle.std.proofs.lemmas.List.{take_all}
use Rattle.plan_core.specs.Values.{value_of}
use Rattle.cnf_core.specs.Lit.{Literal}
use Rattle.refute_check.specs.declared.told_bound.ToldBound.{ToldBound}
use Rattle.refute_check.proofs.JudgeLemmas.{AreUnreached, unreached_more, unreached_same, bounds_next}
use Rattle.refute_check.proofs.lacking.unreached.Goals as goal
use Rattle.refute_check.proofs.lacking.unreached.Goals.{then-is_unreached+in_ok-push, else-is_unreached}

pub loop-bound-preserved : goal.loop-bound-preserved
loop-bound-preserved c =
    let greatest = value_of c.args.greatest.now in
    let i = c.loop-bound.bound-index in
    let bounds = c.args.bounds.now in
    let b = c.bound-item.result in
    let more : take (i + 1) bounds ≡ take i bounds ++ b ∷ [] = bounds_next bounds i b c.loop-bound-test.true c.bound-item.is in
    elim c.if-is_unreached.branch [
      | then-is_unreached+in_ok-push w ↦
          subst (λ v. AreUnreached greatest (take (i + 1) bounds) c.args.earlier.now c.args.c c.args.v.now v.items) (sym w.literals-is)
          (subst (λ (ls : List Literal). AreUnreached greatest (take (i + 1) bounds) c.args.earlier.now c.args.c c.args.v.now ls)
          (sym w.in_ok-push.ensures.items)
          (subst (λ (bs : List ToldBound). AreUnreached greatest bs c.args.earlier.now c.args.c c.args.v.now (c.loop-bound.literals.items ++ b.literal ∷ []))
          (sym more)
          (unreached_more greatest (take i bounds) b c.args.earlier.now c.args.c c.args.v.now c.loop-bound.literals.items
          (c.is_unreached.ensures.0 w.if-is_unreached.true) c.loop-bound.invariant)))
      | else-is_unreached w ↦
          subst (λ v. AreUnreached greatest (take (i + 1) bounds) c.args.earlier.now c.args.c c.args.v.now v.items) (sym w.literals-is)
          (subst (λ (bs : List ToldBound). AreUnreached greatest bs c.args.earlier.now c.args.c c.args.v.now c.loop-bound.literals.items) (sym more)
          (unreached_same greatest (take i bounds) b c.args.earlier.now c.args.c c.args.v.now c.loop-bound.literals.items
          (λ u. false≢true (sym w.if-is_unreached.false ∙ c.is_unreached.ensures.1 u)) c.loop-bound.invariant))
    ]

pub returns : goal.returns
returns c =
    subst (λ (bs : List ToldBound). AreUnreached (value_of c.args.greatest.now) bs c.args.earlier.now c.args.c c.args.v.now c.loop-bound.literals.items)
    (take_all c.loop-bound.bound-index c.args.bounds.now (omega arith)) c.loop-bound.invariant
