use Rattle.std.proofs.Common.{subst}
use Rattle.cnf_core.specs.Assignment.{SameOutside}
use Rattle.cnf_core.specs.Truths.{assignment}
use Rattle.edge_shape.specs.EdgeVars.{EdgeSpot, edge_size}
use Rattle.drawing_cnf.proofs.PutLemmas.{line_on_grid, edge_is_put}
use Rattle.drawing_cnf.proofs.put.put_edge.Goals as goal

pub put-requires-clause-on_grid : goal.put-requires-clause-on_grid
put-requires-clause-on_grid c =
    line_on_grid c.args.g.now c.args.grid.now c.args.d.now c.args.e c.edge_vars.result c.line.result.now c.edge_vars.ensures.edge c.line.ensures c.requires.e
    c.requires.loose

pub returns-clause-reads : goal.returns-clause-reads
returns-clause-reads c =
    let a = c.args in
    (edge_is_put a.g.now a.grid.now a.d.now a.e (assignment a.m.now) (assignment c.put.new.m) c.edge_vars.result c.line.result.now c.edge_vars.ensures.edge
    c.line.ensures c.requires.e c.nodes.ensures.station.track_graph c.requires.loose c.requires.nodes c.put.ensures.reads c.put.ensures.satisfies).reads

pub returns-clause-satisfies : goal.returns-clause-satisfies
returns-clause-satisfies c =
    let a = c.args in
    (edge_is_put a.g.now a.grid.now a.d.now a.e (assignment a.m.now) (assignment c.put.new.m) c.edge_vars.result c.line.result.now c.edge_vars.ensures.edge
    c.line.ensures c.requires.e c.nodes.ensures.station.track_graph c.requires.loose c.requires.nodes c.put.ensures.reads c.put.ensures.satisfies).satisfies

pub returns-clause-same : goal.returns-clause-same
returns-clause-same c =
    subst (λ (s : EdgeSpot). SameOutside s.first (edge_size s.high s.width) (assignment c.args.m.now) (assignment c.put.new.m)) c.edge_vars.ensures.edge
    c.put.ensures.same
