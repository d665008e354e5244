use Rattle.std.proofs.Common.{arith, ◌≡◌, ◌+◌, ◌-◌, sym, subst, take, set, false}
use Rattle.cnf_core.specs.Trail.{IsTrail}
use Rattle.watch_arena.proofs.UndoLemmas.{last_there, last_unset}
use Rattle.watch_arena.proofs.trail.unset.Goals as goal

pub bounds-truth-word : goal.bounds-truth-word
bounds-truth-word c =
    let n = c.loop-len.len - 1 in
    let next : c.loop-len.len ≡ (c.loop-len.len - 1) + 1 = omega arith in
    let vars = c.requires.trail.0 in
    let t = c.loop-len.invariant.trail vars c.requires.trail.1 in
    let below = last_there vars c.loop-len.truth c.args.order.now c.index-order-len.result (c.loop-len.len - 1) (omega arith) (sym c.index-order-len.is)
    (subst (λ n. IsTrail vars c.loop-len.truth (take n c.args.order.now)) next t) in
    omega (arith, c.word.ensures.value)

pub loop-len-preserved : goal.loop-len-preserved
loop-len-preserved c =
    let next : c.loop-len.len ≡ (c.loop-len.len - 1) + 1 = omega arith in
    record {
      from = omega arith;
      to = omega arith;
      trail = λ vars t. subst (λ w. IsTrail vars (set c.loop-len.truth w false) (take (c.loop-len.len - 1) c.args.order.now)) (sym c.word.ensures.value)
          (last_unset vars c.loop-len.truth c.args.order.now c.index-order-len.result (c.loop-len.len - 1) (omega arith) (sym c.index-order-len.is)
          (subst (λ n. IsTrail vars c.loop-len.truth (take n c.args.order.now)) next (c.loop-len.invariant.trail vars t)));
    }

pub returns : goal.returns
returns c =
    let end : c.loop-len.len ≡ c.args.from = omega arith in
    λ vars t. subst (λ n. IsTrail vars c.loop-len.truth (take n c.args.order.now)) end (c.loop-len.invariant.trail vars t)
