use Rattle.cnf_core.specs.Formula.{each}
use Rattle.cnf_core.proofs.StepLemmas.{IsAdding}
use Rattle.cnf_laws.specs.Rank.{west_rank}
use Rattle.cnf_laws.specs.Expected.{ints_at_place, node_clauses}
use Rattle.cnf_laws.proofs.nodes.add_node_clauses.Given as goal

abbrev pub invariant-loop-n : goal.invariant-loop-n
invariant-loop-n l = IsAdding (λ n. node_clauses (ints_at_place l.grid (west_rank l.g n))) l.fn.f l.f
    (each (λ n. node_clauses (ints_at_place l.grid (west_rank l.g n))) 0 l.count) l.n l.count
