use Rattle.std.proofs.Common.{ap, ◌∙◌}
use Rattle.port_graph.specs.declared.runs.Spot.{Spot}
use Rattle.port_graph.specs.Sites.{number_among}
use Rattle.port_graph.proofs.EdgeLemmas.{pushed_edge}
use Rattle.port_graph.proofs.edges.push_edge_row.Goals as goal

pub returns : goal.returns
returns c =
    pushed_edge c.args.sites.now c.args.run.now _ _ _ c.in_ok-push.ensures.items c.in_ok-track.ensures
    (c.node_number-west.ensures ∙ ap (λ (s : Spot). number_among c.args.sites.now s.at) c.west_spot.ensures)
    (c.node_number-east.ensures ∙ ap (λ (s : Spot). number_among c.args.sites.now s.at) c.east_spot.ensures)
