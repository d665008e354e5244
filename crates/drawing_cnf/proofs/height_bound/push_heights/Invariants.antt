use Rattle.std.proofs.Common.{◌≡◌, ◌++◌, ◌+◌, ◌-◌}
use Rattle.edge_shape.specs.EdgeVars.{lits_of}
use Rattle.drawing_cnf.specs.Bounds.{column_lits}
use Rattle.drawing_cnf.proofs.height_bound.push_heights.Given as goal

abbrev pub invariant-loop-c : goal.invariant-loop-c
invariant-loop-c l = l.lits.items ++ column_lits (lits_of l.e) l.k l.c (l.width + 1 - l.c) ≡ l.fn.lits.items ++ column_lits (lits_of l.e) l.k 0 (l.width + 1)
