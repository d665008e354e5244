-- "At least j moved" stands in a clause, and no more moved than have a former point.
use Rattle.std.proofs.Common.{ℕ, zero, suc, ◌+◌, ◌≤◌, Bool, true, false, length, arith}
use Rattle.std.specs.Prelude.{Option, None, Some}
use Rattle.plan_core.specs.declared.point.Point.{Point}
use Rattle.cnf_core.specs.Clause.{IsNamed}
use Rattle.edge_shape.specs.EdgeVars.{NodeInts}
use Rattle.cnf_laws.specs.Rank.{one_when, count_below}
use Rattle.drawing_cnf.specs.Bounds.{sum_bound}
use Rattle.drawing_cnf.proofs.BoundNames.{behind, sum_bound_named, block_avoids}
use Rattle.drawing_cnf.specs.Moved.{Former, former_at, is_matched, is_moved, matched, moved}
use Rattle.drawing_cnf.specs.MovedClauses.{nodes_first, nodes_clauses, moved_sum, count_clauses}

pub moved_named : (x : ℕ → NodeInts) (former : Former) (vars j : ℕ) → 1 ≤ j → j ≤ matched former → IsNamed (count_clauses x former vars) (vars + j)
moved_named x former vars j from to =
    let n = matched former in
    let first = nodes_first former vars in
    let s = moved_sum former vars in
    behind (nodes_clauses x former first) (sum_bound s vars) (vars + j)
    (sum_bound_named s vars j from to (omega (arith, to)) (block_avoids (vars + j) first n (omega (arith, to))))

-- no more moved than have a former point
one_less : (f : Option Point) (p : Point) → one_when (is_moved f p) ≤ one_when (is_matched f)
one_less None p = omega arith
one_less (Some q) p = by (is_moved (Some q) p)
  where
    by : (b : Bool) → one_when b ≤ one_when true
    by true = omega arith
    by false = omega arith

how_many_less : (p q : ℕ → Bool) (n : ℕ) → ((k : ℕ) → one_when (p k) ≤ one_when (q k)) → count_below p n ≤ count_below q n
how_many_less p q zero h = omega arith
how_many_less p q (suc n) h = let a = how_many_less p q n h in let b = h n in omega (arith, a, b)

pub moved_within : (former : Former) (place : ℕ → Point) → moved former place ≤ matched former
moved_within former place = how_many_less (λ k. is_moved (former_at former k) (place k)) (λ k. is_matched (former_at former k)) (length former)
    (λ k. one_less (former_at former k) (place k))
