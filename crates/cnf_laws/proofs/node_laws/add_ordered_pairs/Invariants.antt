use Rattle.std.specs.Prelude.{[], ◌∷◌, length}
use Rattle.plan_core.specs.Lawful.{Ordered}
use Rattle.cnf_laws.specs.Expected.{drawing_vars, pairs_from, instance_pairs}
use Rattle.cnf_laws.proofs.LawCode.{IsLawing}
use Rattle.cnf_laws.proofs.node_laws.add_ordered_pairs.Given as goal

abbrev pub invariant-loop-u : goal.invariant-loop-u
invariant-loop-u l = IsLawing l.g (drawing_vars l.g l.grid) l.grid.width (pairs_from (length l.g.nodes) (λ u v. Ordered u v ∷ [])) l.fn.f l.f
    (instance_pairs (length l.g.nodes) (λ u v. Ordered u v ∷ [])) l.u l.end
