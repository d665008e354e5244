use Rattle.std.proofs.Common.{◌≡◌, ◌++◌, ◌-◌, length}
use Rattle.cnf_laws.specs.Expected.{drawing_vars}
use Rattle.drawing_cnf.specs.Bounds.{node_columns}
use Rattle.drawing_cnf.proofs.width_bound.columns_at_least.Given as goal

abbrev pub invariant-loop-n : goal.invariant-loop-n
invariant-loop-n l = l.columns.items ++ node_columns (drawing_vars l.g l.grid) l.k l.n (length l.g.nodes - l.n) ≡ node_columns (drawing_vars l.g l.grid) l.k 0
    (length l.g.nodes)
