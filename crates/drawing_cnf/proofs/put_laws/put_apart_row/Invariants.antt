use Rattle.std.specs.Prelude.{◌≡◌, [], ◌∷◌, length}
use Rattle.plan_core.specs.Lawful.{Apart}
use Rattle.cnf_core.specs.Truths.{assignment}
use Rattle.cnf_laws.specs.Expected.{pairs_from}
use Rattle.drawing_cnf.proofs.PutLaws.{IsPuttingLaws}
use Rattle.drawing_cnf.proofs.put_laws.put_apart_row.Given as goal

abbrev pub invariant-loop-v : goal.invariant-loop-v
invariant-loop-v l = IsPuttingLaws l.s.graph.now l.s.grid.now (λ b. Apart l.u b ∷ []) (pairs_from (length l.s.graph.now.nodes) (λ a b. Apart a b ∷ []) l.u)
    l.first (assignment l.initial.m) (assignment l.m) l.next l.v l.end × (length l.m ≡ length l.initial.m)
