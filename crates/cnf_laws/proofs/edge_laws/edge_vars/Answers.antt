use Rattle.cnf_laws.proofs.BaseLemmas.{spot_within}
use Rattle.cnf_laws.proofs.edge_laws.edge_vars.Goals as goal

pub returns-clause-within : goal.returns-clause-within
returns-clause-within c = spot_within c.args.g.now c.args.grid.now c.args.e.0 c.requires
