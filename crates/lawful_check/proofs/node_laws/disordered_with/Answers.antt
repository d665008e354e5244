use Rattle.std.specs.Prelude.{◌+◌, length}
use Rattle.std.proofs.Common.{arith}
use Rattle.plan_core.specs.Laws.{NodesAreOrdered}
use Rattle.plan_core.specs.Lawful.{IsPair}
use Rattle.lawful_check.proofs.HoldingLemmas.{pair_from, pair_on, row_ends}
use Rattle.lawful_check.proofs.node_laws.disordered_with.Goals as goal

pub loop-v-init : goal.loop-v-init
loop-v-init c = pair_from (IsPair (length c.args.g.now.nodes)) (NodesAreOrdered c.args.g.now c.args.d.now) c.args.u (c.args.u + 1)
    (λ b less is. let rising = is.rising in omega (arith, rising, less)) c.requires.before

pub loop-v-preserved : goal.loop-v-preserved
loop-v-preserved c = pair_on (IsPair (length c.args.g.now.nodes)) (NodesAreOrdered c.args.g.now c.args.d.now) c.args.u c.loop-v.v c.loop-v.invariant (record {
  met = λ is. c.are_ordered.ensures.0 c.if-not-are_ordered.false;
})

pub returns : goal.returns
returns c = row_ends (IsPair (length c.args.g.now.nodes)) (NodesAreOrdered c.args.g.now c.args.d.now) c.args.u c.loop-v.v
    (λ b past is. let within = is.within in omega (arith, within, past, c.loop-v-test.false, c.nodes-count.ensures.value)) c.loop-v.invariant
