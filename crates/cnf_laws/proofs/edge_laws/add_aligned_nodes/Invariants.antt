use Rattle.std.specs.Prelude.{[], ◌∷◌, length}
use Rattle.plan_core.specs.Lawful.{Aligned}
use Rattle.cnf_laws.specs.Expected.{drawing_vars, instances_from}
use Rattle.cnf_laws.proofs.LawCode.{IsLawing}
use Rattle.cnf_laws.proofs.edge_laws.add_aligned_nodes.Given as goal

abbrev pub invariant-loop-n : goal.invariant-loop-n
invariant-loop-n l = IsLawing l.g (drawing_vars l.g l.grid) l.grid.width (λ n. Aligned n ∷ []) l.fn.f l.f
    (instances_from (λ n. Aligned n ∷ []) 0 (length l.g.nodes)) l.n l.end
