use Rattle.cnf_laws.proofs.SpotLemmas.{spot_there}
use Rattle.cnf_laws.proofs.edge_laws.add_joint.Goals as goal

pub add_same-requires-clause-a_there : goal.add_same-requires-clause-a_there
add_same-requires-clause-a_there c = spot_there c.args.g.now c.args.grid.now c.args.west.0 c.args.f.now.vars c.edge_vars-west_vars.result
    c.edge_vars-west_vars.ensures.edge c.edge_vars-west_vars.ensures.within c.requires.there

pub add_same-requires-clause-b_there : goal.add_same-requires-clause-b_there
add_same-requires-clause-b_there c = spot_there c.args.g.now c.args.grid.now c.args.east.0 c.args.f.now.vars c.edge_vars-east_vars.result
    c.edge_vars-east_vars.ensures.edge c.edge_vars-east_vars.ensures.within c.requires.there
