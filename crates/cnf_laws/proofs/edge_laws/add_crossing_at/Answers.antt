use Rattle.cnf_laws.proofs.SpotLemmas.{spot_there}
use Rattle.cnf_laws.proofs.edge_laws.add_crossing_at.Goals as goal

pub add_crossing-requires-clause-a_there : goal.add_crossing-requires-clause-a_there
add_crossing-requires-clause-a_there c = spot_there c.args.g.now c.args.grid.now c.args.west_upper.0 c.args.f.now.vars c.edge_vars-a.result
    c.edge_vars-a.ensures.edge c.edge_vars-a.ensures.within c.requires.there

pub add_crossing-requires-clause-b_there : goal.add_crossing-requires-clause-b_there
add_crossing-requires-clause-b_there c = spot_there c.args.g.now c.args.grid.now c.args.west_lower.0 c.args.f.now.vars c.edge_vars-b.result
    c.edge_vars-b.ensures.edge c.edge_vars-b.ensures.within c.requires.there

pub add_crossing-requires-clause-c_there : goal.add_crossing-requires-clause-c_there
add_crossing-requires-clause-c_there c = spot_there c.args.g.now c.args.grid.now c.args.east_upper.0 c.args.f.now.vars c.edge_vars-c.result
    c.edge_vars-c.ensures.edge c.edge_vars-c.ensures.within c.requires.there

pub add_crossing-requires-clause-d_there : goal.add_crossing-requires-clause-d_there
add_crossing-requires-clause-d_there c = spot_there c.args.g.now c.args.grid.now c.args.east_lower.0 c.args.f.now.vars c.edge_vars-d.result
    c.edge_vars-d.ensures.edge c.edge_vars-d.ensures.within c.requires.there
