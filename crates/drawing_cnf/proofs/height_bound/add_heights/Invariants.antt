use Rattle.std.specs.Prelude.{◌+◌}
use Rattle.cnf_core.specs.Formula.{each}
use Rattle.cnf_core.proofs.StepLemmas.{IsAdding}
use Rattle.cnf_laws.specs.Expected.{drawing_vars}
use Rattle.drawing_cnf.specs.Bounds.{height_at}
use Rattle.drawing_cnf.proofs.height_bound.add_heights.Given as goal

abbrev pub invariant-loop-k : goal.invariant-loop-k
invariant-loop-k l = IsAdding (λ k. height_at l.g (drawing_vars l.g l.grid) l.grid.width (l.last + k) k) l.fn.f l.f
    (each (λ k. height_at l.g (drawing_vars l.g l.grid) l.grid.width (l.last + k) k) 1 (l.cap)) l.k l.end
