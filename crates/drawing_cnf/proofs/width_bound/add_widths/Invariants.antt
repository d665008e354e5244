use Rattle.std.specs.Prelude.{◌+◌}
use Rattle.cnf_core.specs.Formula.{each}
use Rattle.cnf_core.proofs.StepLemmas.{IsAdding}
use Rattle.cnf_laws.specs.Expected.{drawing_vars}
use Rattle.drawing_cnf.specs.Bounds.{width_at}
use Rattle.drawing_cnf.proofs.width_bound.add_widths.Given as goal

abbrev pub invariant-loop-k : goal.invariant-loop-k
invariant-loop-k l = IsAdding (λ k. width_at l.g (drawing_vars l.g l.grid) (l.last + k) k) l.fn.f l.f
    (each (λ k. width_at l.g (drawing_vars l.g l.grid) (l.last + k) k) 1 (l.cap)) l.k l.end
