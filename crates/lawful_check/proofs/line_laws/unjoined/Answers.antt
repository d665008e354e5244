use Rattle.std.specs.Prelude.{◌<◌, length}
use Rattle.std.proofs.Common.{arith}
use Rattle.plan_core.specs.Laws.{LineJoinsItsNodes}
use Rattle.lawful_check.proofs.HoldingLemmas.{to_on, to_all}
use Rattle.lawful_check.proofs.line_laws.unjoined.Goals as goal

pub loop-e-preserved : goal.loop-e-preserved
loop-e-preserved c = to_on (λ e. e < length c.args.g.now.edges) (LineJoinsItsNodes c.args.g.now c.args.grid.now c.args.d.now) c.loop-e.e c.loop-e.invariant
    (c.joins_its_nodes.ensures.0 c.if-not-joins_its_nodes.false)

pub returns : goal.returns
returns c = to_all (LineJoinsItsNodes c.args.g.now c.args.grid.now c.args.d.now) (length c.args.g.now.edges) c.loop-e.e
    (omega (arith, c.loop-e-test.false, c.edges-e-end.ensures.value)) c.loop-e.invariant
