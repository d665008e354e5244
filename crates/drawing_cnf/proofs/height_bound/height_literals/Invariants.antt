use Rattle.std.proofs.Common.{◌≡◌, ◌++◌, ◌-◌, length}
use Rattle.cnf_laws.specs.Expected.{drawing_vars}
use Rattle.drawing_cnf.specs.Bounds.{height_lits}
use Rattle.drawing_cnf.proofs.height_bound.height_literals.Given as goal

abbrev pub invariant-loop-e : goal.invariant-loop-e
invariant-loop-e l = l.lits.items ++ height_lits (drawing_vars l.g l.grid) l.grid.width l.k l.e (length l.g.edges - l.e) ≡ height_lits (drawing_vars l.g l.grid)
    l.grid.width l.k 0 (length l.g.edges)
