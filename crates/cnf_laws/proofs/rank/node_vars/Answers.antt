use Rattle.cnf_laws.proofs.BaseLemmas.{node_spot}
use Rattle.std.proofs.Common.{arith}
use Rattle.cnf_laws.proofs.rank.node_vars.Goals as goal

pub returns-clause-within : goal.returns-clause-within
returns-clause-within c = node_spot c.args.g.now c.args.grid.now c.args.n.0 c.requires

pub returns-clause-there : goal.returns-clause-there
returns-clause-there c = λ vars le. let s = node_spot c.args.g.now c.args.grid.now c.args.n.0 c.requires in
    record { x = record { from = omega arith; to = omega (arith, s, le) }; y = record { from = omega arith; to = omega (arith, s, le) } }
