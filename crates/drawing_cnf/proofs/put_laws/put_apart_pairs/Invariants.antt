use Rattle.std.specs.Prelude.{◌≡◌, [], ◌∷◌, length}
use Rattle.plan_core.specs.Lawful.{Apart}
use Rattle.cnf_core.specs.Truths.{assignment}
use Rattle.cnf_laws.specs.Expected.{pairs_from, instance_pairs}
use Rattle.drawing_cnf.proofs.PutLaws.{IsPuttingLaws}
use Rattle.drawing_cnf.proofs.put_laws.put_apart_pairs.Given as goal

abbrev pub invariant-loop-u : goal.invariant-loop-u
invariant-loop-u l = IsPuttingLaws l.s.graph.now l.s.grid.now (pairs_from (length l.s.graph.now.nodes) (λ a b. Apart a b ∷ []))
    (instance_pairs (length l.s.graph.now.nodes) (λ a b. Apart a b ∷ [])) l.first (assignment l.initial.m) (assignment l.m) l.next l.u l.end ×
    (length l.m ≡ length l.initial.m)
