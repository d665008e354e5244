use Rattle.std.proofs.Common.{◌≡◌, length, subst, arith}
use Rattle.cdcl_core.specs.Search.{DeniedUpto}
use Rattle.cdcl_core.proofs.RefuteLemmas.{denied_at_end}
use Rattle.cdcl_core.proofs.endings.denied.Goals as goal

pub loop-i-init : goal.loop-i-init
loop-i-init c = denied_at_end c.args.trail.now 0 c.new-lits.result.items c.new-lits.ensures.items

pub loop-i-preserved : goal.loop-i-preserved
loop-i-preserved c = c.in_ok-push_denied.ensures c.loop-i.invariant

pub returns : goal.returns
returns c =
    let end : c.loop-i.i ≡ length c.args.trail.now.lits = let a = c.loop-i.auto.i-end in let b = c.loop-i-test.false in let e = c.len-i-end.ensures.value in
    omega arith in
    subst (λ n. DeniedUpto c.args.trail.now n c.loop-i.lits.items) end c.loop-i.invariant
