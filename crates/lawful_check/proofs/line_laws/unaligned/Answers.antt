use Rattle.std.specs.Prelude.{◌<◌, length}
use Rattle.std.proofs.Common.{arith}
use Rattle.plan_core.specs.Laws.{NodeIsAligned}
use Rattle.lawful_check.proofs.HoldingLemmas.{to_on, to_all}
use Rattle.lawful_check.proofs.line_laws.unaligned.Goals as goal

pub loop-n-preserved : goal.loop-n-preserved
loop-n-preserved c = to_on (λ n. n < length c.args.g.now.nodes) (NodeIsAligned c.args.g.now c.args.d.now) c.loop-n.n c.loop-n.invariant
    (c.is_aligned.ensures.0 c.if-not-is_aligned.false)

pub returns : goal.returns
returns c = to_all (NodeIsAligned c.args.g.now c.args.d.now) (length c.args.g.now.nodes) c.loop-n.n
    (omega (arith, c.loop-n-test.false, c.nodes-n-end.ensures.value)) c.loop-n.invariant
