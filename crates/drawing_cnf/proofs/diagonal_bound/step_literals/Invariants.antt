use Rattle.std.proofs.Common.{◌≡◌, ◌++◌, ◌-◌}
use Rattle.edge_shape.specs.EdgeVars.{lits_of}
use Rattle.drawing_cnf.specs.Bounds.{step_lits}
use Rattle.drawing_cnf.proofs.diagonal_bound.step_literals.Given as goal

abbrev pub invariant-loop-c : goal.invariant-loop-c
invariant-loop-c l = l.lits.items ++ step_lits (lits_of l.e) l.c (l.width - l.c) ≡ step_lits (lits_of l.e) 0 l.width
