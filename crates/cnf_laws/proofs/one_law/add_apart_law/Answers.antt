use Rattle.std.proofs.Common.{◌+◌}
use Rattle.cnf_laws.proofs.OneLaw.{anywhere_says, anywhere_allows}
use Rattle.cnf_laws.proofs.MainLemmas.{few_variables}
use Rattle.cnf_laws.proofs.one_law.add_apart_law.Goals as goal

pub returns-clause-says : goal.returns-clause-says
returns-clause-says c = anywhere_says c.args.g.now c.args.grid.now c.args.u.0 c.args.v.0 c.args.unless.now (c.args.f.now.vars + 1) c.requires.u c.requires.v

pub returns-clause-allows : goal.returns-clause-allows
returns-clause-allows c = anywhere_allows c.args.g.now c.args.grid.now c.args.u.0 c.args.v.0 c.args.unless.now (c.args.f.now.vars + 1) c.width.ensures.is_grid
    (few_variables c.args.g.now c.args.grid.now c.width.ensures.is_grid c.nodes.ensures.station.few_nodes c.nodes.ensures.station.few_edges) c.requires.there
    c.requires.u c.requires.v
