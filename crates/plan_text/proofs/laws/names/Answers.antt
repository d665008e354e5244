use Rattle.std.proofs.Common.{below_more, subst, arith}
use Rattle.std.specs.Str.{IsUtf8}
use Rattle.std.proofs.lemmas.List.Elements.{All-get_or}
use Rattle.plan_core.specs.Topology.{IsId}
use Rattle.plan_core.specs.Graph.{node, no_node}
use Rattle.plan_text.proofs.WrittenSheet.{id_is_name}
use Rattle.plan_text.proofs.laws.names.Goals as goal

pub loop-n-preserved : goal.loop-n-preserved
loop-n-preserved c = below_more _ _ c.loop-n.invariant (subst IsUtf8 c.name.ensures c.bytes.ensures.utf8)

pub returns : goal.returns
returns c = λ n less.
    let all = c.loop-n-test.false in
    let end = c.nodes-n-end.ensures.value in
    let id = All-get_or (λ m. IsId m.name) c.args.g.now.nodes n no_node less c.nodes-n-end.ensures.station.names in
    id_is_name (node c.args.g.now n).name id (c.loop-n.invariant n (omega (arith, less, all, end)))
