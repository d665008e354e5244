use Rattle.std.proofs.Common.{◌≡◌, ◌++◌, drop}
use Rattle.cnf_laws.specs.Expected.{drawing_vars}
use Rattle.drawing_cnf.specs.Bounds.{bend_lits}
use Rattle.drawing_cnf.proofs.sum_bounds.bend_literals.Given as goal

abbrev pub invariant-loop-e : goal.invariant-loop-e
invariant-loop-e l = l.lits.items ++ bend_lits (drawing_vars l.g l.grid) (drop l.e-index l.edges) ≡ bend_lits (drawing_vars l.g l.grid) l.edges
