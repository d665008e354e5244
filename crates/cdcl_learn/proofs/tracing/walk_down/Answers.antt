use Rattle.std.proofs.Common.{◌≡◌, subst, arith, sym}
use Rattle.cdcl_learn.specs.Sight.{sight}
use Rattle.cdcl_learn.specs.Trace.{IsTracing}
use Rattle.cdcl_learn.proofs.TraceLemmas.{traced}
use Rattle.cdcl_learn.proofs.tracing.walk_down.Goals as goal

pub loop-end-init : goal.loop-end-init
loop-end-init c = record {
  vars = c.requires.vars;
  within = let e = c.len-end.ensures.value in omega arith;
  tracing = λ front t. subst (λ n. IsTracing (sight c.args.arena.now c.args.trail.now) c.args.work.now front n) (sym c.len-end.ensures.value) t;
}

pub returns-clause-traced : goal.returns-clause-traced
returns-clause-traced c = λ front t.
    let z : c.loop-end.end ≡ 0 = omega arith in
    traced (sight c.args.arena.now c.args.trail.now) c.loop-end.work front (subst
    (λ n. IsTracing (sight c.args.arena.now c.args.trail.now) c.loop-end.work front n) z (c.loop-end.invariant.tracing front t))
