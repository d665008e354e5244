use Rattle.std.specs.Prelude.{length}
use Rattle.cnf_core.specs.Formula.{each}
use Rattle.cnf_core.proofs.StepLemmas.{IsAdding}
use Rattle.cnf_laws.specs.Expected.{drawing_vars}
use Rattle.drawing_cnf.specs.Bounds.{edge_height_gives}
use Rattle.drawing_cnf.proofs.height_bound.add_edges_give.Given as goal

abbrev pub invariant-loop-e : goal.invariant-loop-e
invariant-loop-e l = IsAdding (edge_height_gives l.g (drawing_vars l.g l.grid) l.grid.width l.b l.k) l.fn.f l.f
    (each (edge_height_gives l.g (drawing_vars l.g l.grid) l.grid.width l.b l.k) 0 (length l.g.edges)) l.e l.end
