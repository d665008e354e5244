use Rattle.std.proofs.Common.{below_more, subst, arith}
use Rattle.std.specs.Str.{IsUtf8}
use Rattle.std.proofs.lemmas.List.Elements.{All-get_or}
use Rattle.plan_core.specs.Topology.{IsId}
use Rattle.plan_core.specs.Graph.{edge, no_edge}
use Rattle.plan_text.proofs.WrittenSheet.{id_is_name}
use Rattle.plan_text.proofs.laws.tracks.Goals as goal

pub loop-e-preserved : goal.loop-e-preserved
loop-e-preserved c = below_more _ _ c.loop-e.invariant (subst IsUtf8 c.track.ensures c.bytes.ensures.utf8)

pub returns : goal.returns
returns c = λ n less.
    let all = c.loop-e-test.false in
    let end = c.edges-e-end.ensures.value in
    let id = All-get_or (λ m. IsId m.track) c.args.g.now.edges n no_edge less c.edges-e-end.ensures.station.track_names in
    id_is_name (edge c.args.g.now n).track id (c.loop-e.invariant n (omega (arith, less, all, end)))
