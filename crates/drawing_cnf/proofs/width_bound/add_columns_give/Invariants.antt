use Rattle.std.specs.Prelude.{length}
use Rattle.cnf_core.specs.Formula.{each}
use Rattle.cnf_core.proofs.StepLemmas.{IsAdding}
use Rattle.cnf_laws.specs.Expected.{drawing_vars}
use Rattle.drawing_cnf.specs.Bounds.{column_gives}
use Rattle.drawing_cnf.proofs.width_bound.add_columns_give.Given as goal

abbrev pub invariant-loop-n : goal.invariant-loop-n
invariant-loop-n l = IsAdding (column_gives (drawing_vars l.g l.grid) l.b l.k) l.fn.f l.f
    (each (column_gives (drawing_vars l.g l.grid) l.b l.k) 0 (length l.g.nodes)) l.n l.end
