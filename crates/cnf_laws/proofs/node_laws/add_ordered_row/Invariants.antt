use Rattle.std.specs.Prelude.{[], ◌∷◌, length}
use Rattle.plan_core.specs.Lawful.{Ordered}
use Rattle.cnf_laws.specs.Expected.{drawing_vars, pairs_from}
use Rattle.cnf_laws.proofs.LawCode.{IsLawing}
use Rattle.cnf_laws.proofs.node_laws.add_ordered_row.Given as goal

abbrev pub invariant-loop-v : goal.invariant-loop-v
invariant-loop-v l = IsLawing l.g (drawing_vars l.g l.grid) l.grid.width (λ v. Ordered l.u v ∷ []) l.fn.f l.f
    (pairs_from (length l.g.nodes) (λ u v. Ordered u v ∷ []) l.u) l.v l.end
