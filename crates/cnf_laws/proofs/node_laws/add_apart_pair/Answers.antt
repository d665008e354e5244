use Rattle.std.proofs.Common.{◌+◌}
use Rattle.cnf_laws.proofs.OneLaw.{apart_says, apart_allows}
use Rattle.cnf_laws.proofs.MainLemmas.{few_variables}
use Rattle.cnf_laws.proofs.node_laws.add_apart_pair.Goals as goal

pub returns-clause-says : goal.returns-clause-says
returns-clause-says c = apart_says c.args.g.now c.args.grid.now c.args.u c.args.v (c.args.f.now.vars + 1) c.requires.u c.requires.v

pub returns-clause-allows : goal.returns-clause-allows
returns-clause-allows c =
    let g = c.args.g.now in
    let grid = c.args.grid.now in
    let s = c.nodes.ensures.station in
    let size = c.width.ensures.is_grid in
    apart_allows g grid c.args.u c.args.v (c.args.f.now.vars + 1) size (few_variables g grid size s.few_nodes s.few_edges) c.requires.there c.requires.u
    c.requires.v
