use Rattle.std.proofs.Common.{◌+◌}
use Rattle.cnf_laws.proofs.OneLaw.{over_says, over_allows}
use Rattle.cnf_laws.proofs.one_law.add_over_law.Goals as goal

pub returns-clause-says : goal.returns-clause-says
returns-clause-says c = over_says c.args.g.now c.args.grid.now c.args.e.0 c.args.h.0 c.args.unless.now c.nodes.ensures.station.track_graph c.requires.e
    c.requires.h

pub returns-clause-allows : goal.returns-clause-allows
returns-clause-allows c = over_allows c.args.g.now c.args.grid.now c.args.e.0 c.args.h.0 c.args.unless.now (c.args.f.now.vars + 1)
    c.nodes.ensures.station.track_graph c.requires.e c.requires.h
