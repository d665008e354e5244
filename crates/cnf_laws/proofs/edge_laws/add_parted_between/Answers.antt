use Rattle.std.proofs.Common.{◌∙◌, sym, ap}
use Rattle.cnf_laws.proofs.BaseLemmas.{node_x_there}
use Rattle.edge_shape.specs.EdgeVars.{EdgeSpot}
use Rattle.cnf_laws.proofs.SpotLemmas.{spot_there}
use Rattle.cnf_laws.proofs.edge_laws.add_parted_between.Goals as goal

pub add_parted-requires-clause-e_west : goal.add_parted-requires-clause-e_west
add_parted-requires-clause-e_west c = node_x_there c.args.g.now c.args.grid.now c.west-e_west.result.0 c.args.f.now.vars c.node_vars-e_from.result.x
    c.west-e_west.ensures.there c.requires.there c.node_vars-e_from.ensures.x

pub add_parted-requires-clause-e_east : goal.add_parted-requires-clause-e_east
add_parted-requires-clause-e_east c = node_x_there c.args.g.now c.args.grid.now c.east-e_east.result.0 c.args.f.now.vars c.node_vars-e_to.result.x
    c.east-e_east.ensures.there c.requires.there c.node_vars-e_to.ensures.x

pub add_parted-requires-clause-g_west : goal.add_parted-requires-clause-g_west
add_parted-requires-clause-g_west c = node_x_there c.args.g.now c.args.grid.now c.west-h_west.result.0 c.args.f.now.vars c.node_vars-h_from.result.x
    c.west-h_west.ensures.there c.requires.there c.node_vars-h_from.ensures.x

pub add_parted-requires-clause-e_there : goal.add_parted-requires-clause-e_there
add_parted-requires-clause-e_there c = spot_there c.args.g.now c.args.grid.now c.args.e.0 c.args.f.now.vars c.edge_vars-e_vars.result
    c.edge_vars-e_vars.ensures.edge c.edge_vars-e_vars.ensures.within c.requires.there

pub add_parted-requires-clause-g_there : goal.add_parted-requires-clause-g_there
add_parted-requires-clause-g_there c = spot_there c.args.g.now c.args.grid.now c.args.h.0 c.args.f.now.vars c.edge_vars-h_vars.result
    c.edge_vars-h_vars.ensures.edge c.edge_vars-h_vars.ensures.within c.requires.there

pub add_parted-requires-clause-e_columns : goal.add_parted-requires-clause-e_columns
add_parted-requires-clause-e_columns c = ap (λ (x : EdgeSpot). x.width) c.edge_vars-e_vars.ensures.edge ∙ sym c.width.ensures.value

pub add_parted-requires-clause-g_columns : goal.add_parted-requires-clause-g_columns
add_parted-requires-clause-g_columns c = ap (λ (x : EdgeSpot). x.width) c.edge_vars-h_vars.ensures.edge ∙ sym c.width.ensures.value

pub add_parted-requires-clause-g_east : goal.add_parted-requires-clause-g_east
add_parted-requires-clause-g_east c = node_x_there c.args.g.now c.args.grid.now c.east-h_east.result.0 c.args.f.now.vars c.node_vars-h_to.result.x
    c.east-h_east.ensures.there c.requires.there c.node_vars-h_to.ensures.x
