use Rattle.std.proofs.Common.{◌+◌}
use Rattle.cnf_laws.proofs.OneLaw.{parted_says, parted_allows}
use Rattle.cnf_laws.proofs.MainLemmas.{few_variables}
use Rattle.cnf_laws.proofs.one_law.add_parted_law.Goals as goal

pub returns-clause-says : goal.returns-clause-says
returns-clause-says c = parted_says c.args.g.now c.args.grid.now c.args.e.0 c.args.h.0 c.args.unless.now (c.args.f.now.vars + 1)
    c.nodes.ensures.station.track_graph c.requires.e c.requires.h

pub returns-clause-allows : goal.returns-clause-allows
returns-clause-allows c = parted_allows c.args.g.now c.args.grid.now c.args.e.0 c.args.h.0 c.args.unless.now (c.args.f.now.vars + 1)
    c.nodes.ensures.station.track_graph c.width.ensures.is_grid (few_variables c.args.g.now c.args.grid.now c.width.ensures.is_grid
    c.nodes.ensures.station.few_nodes c.nodes.ensures.station.few_edges) c.requires.there c.requires.e c.requires.h
