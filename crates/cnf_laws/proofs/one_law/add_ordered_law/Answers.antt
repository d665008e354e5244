use Rattle.std.proofs.Common.{◌+◌}
use Rattle.cnf_laws.proofs.OneLaw.{ordered_says, ordered_allows}
use Rattle.cnf_laws.proofs.one_law.add_ordered_law.Goals as goal

pub returns-clause-says : goal.returns-clause-says
returns-clause-says c = ordered_says c.args.g.now c.args.grid.now c.args.u.0 c.args.v.0 c.args.unless.now c.requires.u c.requires.v

pub returns-clause-allows : goal.returns-clause-allows
returns-clause-allows c = ordered_allows c.args.g.now c.args.grid.now c.args.u.0 c.args.v.0 c.args.unless.now (c.args.f.now.vars + 1) c.requires.u c.requires.v
