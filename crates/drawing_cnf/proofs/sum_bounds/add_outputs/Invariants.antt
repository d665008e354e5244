use Rattle.std.specs.Prelude.{◌+◌}
use Rattle.cnf_core.specs.Formula.{each}
use Rattle.cnf_core.proofs.StepLemmas.{IsAdding}
use Rattle.unary_sum.specs.Sum.{sum_at_least as sum_at_least}
use Rattle.drawing_cnf.specs.Bounds.{same_as}
use Rattle.drawing_cnf.proofs.sum_bounds.add_outputs.Given as goal

abbrev pub invariant-loop-k : goal.invariant-loop-k
invariant-loop-k l = IsAdding (λ k. same_as (l.last + k) (sum_at_least l.s k)) l.fn.f l.f (each (λ k. same_as (l.last + k) (sum_at_least l.s k)) 1 (l.cap)) l.k
    l.end
