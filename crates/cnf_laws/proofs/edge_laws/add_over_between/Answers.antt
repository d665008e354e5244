use Rattle.std.proofs.Common.{◌∙◌, sym, ap}
use Rattle.edge_shape.specs.EdgeVars.{EdgeSpot}
use Rattle.cnf_laws.proofs.BaseLemmas.{node_x_there}
use Rattle.cnf_laws.proofs.SpotLemmas.{spot_there}
use Rattle.cnf_laws.proofs.edge_laws.add_over_between.Goals as goal

pub add_over-requires-clause-e_there : goal.add_over-requires-clause-e_there
add_over-requires-clause-e_there c = spot_there c.args.g.now c.args.grid.now c.args.e.0 c.args.f.now.vars c.edge_vars-e_vars.result
    c.edge_vars-e_vars.ensures.edge c.edge_vars-e_vars.ensures.within c.requires.there

pub add_over-requires-clause-g_there : goal.add_over-requires-clause-g_there
add_over-requires-clause-g_there c = spot_there c.args.g.now c.args.grid.now c.args.h.0 c.args.f.now.vars c.edge_vars-h_vars.result
    c.edge_vars-h_vars.ensures.edge c.edge_vars-h_vars.ensures.within c.requires.there

pub add_over-requires-clause-e_columns : goal.add_over-requires-clause-e_columns
add_over-requires-clause-e_columns c = ap (λ (x : EdgeSpot). x.width) c.edge_vars-e_vars.ensures.edge ∙ sym c.width.ensures.value

pub add_over-requires-clause-g_columns : goal.add_over-requires-clause-g_columns
add_over-requires-clause-g_columns c = ap (λ (x : EdgeSpot). x.width) c.edge_vars-h_vars.ensures.edge ∙ sym c.width.ensures.value

pub add_over-requires-clause-west : goal.add_over-requires-clause-west
add_over-requires-clause-west c = node_x_there c.args.g.now c.args.grid.now c.west-west.result.0 c.args.f.now.vars c.node_vars-west_vars.result.x
    c.west-west.ensures.there c.requires.there c.node_vars-west_vars.ensures.x

pub add_over-requires-clause-east : goal.add_over-requires-clause-east
add_over-requires-clause-east c = node_x_there c.args.g.now c.args.grid.now c.east-east.result.0 c.args.f.now.vars c.node_vars-east_vars.result.x
    c.east-east.ensures.there c.requires.there c.node_vars-east_vars.ensures.x
