use Rattle.std.proofs.Common.{◌+◌}
use Rattle.cnf_laws.proofs.OneLaw.{aligned_says, aligned_allows}
use Rattle.cnf_laws.proofs.one_law.add_aligned_law.Goals as goal

pub returns-clause-says : goal.returns-clause-says
returns-clause-says c = aligned_says c.args.g.now c.args.grid.now c.args.n.0 c.args.unless.now c.nodes.ensures.station.track_graph c.requires.n

pub returns-clause-allows : goal.returns-clause-allows
returns-clause-allows c = aligned_allows c.args.g.now c.args.grid.now c.args.n.0 c.args.unless.now (c.args.f.now.vars + 1) c.nodes.ensures.station.track_graph
    c.requires.n
