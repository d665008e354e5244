use Rattle.std.specs.Prelude.{length}
use Rattle.std.proofs.Common.{arith}
use Rattle.plan_core.specs.Laws.{NodesAreApart}
use Rattle.plan_core.specs.Lawful.{IsPair}
use Rattle.lawful_check.proofs.HoldingLemmas.{pairs_end}
use Rattle.lawful_check.proofs.node_laws.meeting.Goals as goal

pub returns : goal.returns
returns c = pairs_end (IsPair (length c.args.d.now.places)) (NodesAreApart c.args.d.now) c.loop-u.u
    (λ a b past is. let one = is.rising in let two = is.within in omega (arith, one, two, past, c.loop-u-test.false, c.nodes-u-end.ensures.value))
    c.loop-u.invariant
