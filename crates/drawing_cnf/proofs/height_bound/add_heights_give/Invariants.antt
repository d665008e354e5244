use Rattle.std.specs.Prelude.{◌+◌}
use Rattle.cnf_core.specs.Formula.{each}
use Rattle.cnf_core.proofs.StepLemmas.{IsAdding}
use Rattle.edge_shape.specs.EdgeVars.{lits_of}
use Rattle.drawing_cnf.specs.Bounds.{column_gives_bound}
use Rattle.drawing_cnf.proofs.height_bound.add_heights_give.Given as goal

abbrev pub invariant-loop-c : goal.invariant-loop-c
invariant-loop-c l = IsAdding (column_gives_bound (lits_of l.e) l.b l.k) l.fn.f l.f (each (column_gives_bound (lits_of l.e) l.b l.k) 0 (l.width + 1)) l.c l.end
