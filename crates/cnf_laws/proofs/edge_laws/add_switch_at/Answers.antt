use Rattle.cnf_laws.proofs.SpotLemmas.{spot_there}
use Rattle.cnf_laws.proofs.edge_laws.add_switch_at.Goals as goal

pub add_switch-requires-clause-trunk_there : goal.add_switch-requires-clause-trunk_there
add_switch-requires-clause-trunk_there c = spot_there c.args.g.now c.args.grid.now c.args.trunk.0 c.args.f.now.vars c.edge_vars-a.result
    c.edge_vars-a.ensures.edge c.edge_vars-a.ensures.within c.requires.there

pub add_switch-requires-clause-straight_there : goal.add_switch-requires-clause-straight_there
add_switch-requires-clause-straight_there c = spot_there c.args.g.now c.args.grid.now c.args.straight.0 c.args.f.now.vars c.edge_vars-b.result
    c.edge_vars-b.ensures.edge c.edge_vars-b.ensures.within c.requires.there

pub add_switch-requires-clause-diverging_there : goal.add_switch-requires-clause-diverging_there
add_switch-requires-clause-diverging_there c = spot_there c.args.g.now c.args.grid.now c.args.diverging.0 c.args.f.now.vars c.edge_vars-c.result
    c.edge_vars-c.ensures.edge c.edge_vars-c.ensures.within c.requires.there
