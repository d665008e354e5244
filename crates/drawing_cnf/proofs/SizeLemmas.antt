-- How many words and variables the count has at most.
use Rattle.std.proofs.Common.{◌≡◌, ℕ, zero, suc, ◌+◌, ◌*◌, ◌≤◌, Bool, true, false, [], ◌∷◌, ◌++◌, length, subst, arith}
use Rattle.std.specs.Prelude.{Option, None, Some}
use Rattle.std.proofs.Math.Nat.{mul-le-mul_left, mul-le-mul_right}
use Rattle.plan_core.specs.declared.point.Point.{Point}
use Rattle.cnf_core.specs.LitOrTruth.{yes, flip, clause_of}
use Rattle.cnf_core.specs.Clause.{words_of}
use Rattle.cnf_core.proofs.ClauseLemmas.{words_append, words_each}
use Rattle.cnf_core.proofs.GatherLemmas.{clause_words}
use Rattle.order_int.specs.IntVars.{IntVars}
use Rattle.order_int.specs.OrderInt.{int_at_least}
use Rattle.edge_shape.specs.EdgeVars.{NodeInts}
use Rattle.unary_sum.specs.Part.{block}
use Rattle.unary_sum.specs.Sum.{sum_count as sum_size}
use Rattle.unary_sum.proofs.SizeLemmas.{sum_count}
use Rattle.drawing_cnf.specs.Bounds.{sum_bound}
use Rattle.drawing_cnf.proofs.BoundWords.{sum_bound_words}
use Rattle.unary_sum.proofs.OutputLemmas.{length-block}
use Rattle.cnf_laws.specs.Rank.{count_below, one_when}
use Rattle.drawing_cnf.specs.Moved.{Former, former_at, is_matched, matched_before, matched}
use Rattle.drawing_cnf.specs.MovedClauses.{kept_clause, unlike_clauses, moved_clauses, clauses_by, clauses_at, nodes_first, nodes_clauses, moved_sum}
use Rattle.drawing_cnf.specs.MovedClauses.{count_size, count_clauses}
use Rattle.cnf_laws.proofs.RankLemmas.{count_few}

pub matched_few : (former : Former) → matched former ≤ length former
matched_few former = count_few (λ k. is_matched (former_at former k)) (length former)

unlike_words : (i : IntVars) (k m : ℕ) → words_of (unlike_clauses i k m) ≤ 10
unlike_words i k m =
    let a = clause_words [] (int_at_least i k ∷ yes m ∷ []) in
    let b = clause_words [] (flip (int_at_least i (k + 1)) ∷ yes m ∷ []) in
    let e = words_append (clause_of [] (int_at_least i k ∷ yes m ∷ [])) (clause_of [] (flip (int_at_least i (k + 1)) ∷ yes m ∷ [])) in
    omega (arith, a, b, e)

node_words : (n : NodeInts) (q : Point) (m : ℕ) → words_of (moved_clauses n q m) ≤ 28
node_words n q m =
    let x = unlike_clauses n.x q.x m in
    let y = unlike_clauses n.y q.y m in
    let a = clause_words [] (flip (int_at_least n.x q.x) ∷ int_at_least n.x (q.x + 1) ∷ flip (int_at_least n.y q.y) ∷ int_at_least n.y (q.y + 1) ∷ flip (yes m)
    ∷ []) in
    let b = unlike_words n.x q.x m in
    let c = unlike_words n.y q.y m in
    let e = words_append (kept_clause n q m) (x ++ y) in
    let f = words_append x y in
    omega (arith, a, b, c, e, f)

by_words : (f : Option Point) (n : NodeInts) (m : ℕ) → words_of (clauses_by f n m) ≤ 28
by_words None n m = omega arith
by_words (Some q) n m = node_words n q m

square_more : (k n : ℕ) → k ≤ n → (k + 1) * (k + 2) ≤ (n + 1) * (n + 2)
square_more k n le =
    let a : (k + 1) * (k + 2) ≤ (k + 1) * (n + 2) = mul-le-mul_left (k + 1) (omega (arith, le)) in
    let b : (k + 1) * (n + 2) ≤ (n + 1) * (n + 2) = mul-le-mul_right (n + 2) (omega (arith, le)) in
    omega (arith, a, b)

pub count_words : (x : ℕ → NodeInts) (former : Former) (vars : ℕ) → words_of (count_clauses x former vars) ≤ 200 * ((length former + 1) * (length former + 2))
count_words x former vars =
    let n = length former in
    let k = matched former in
    let first = nodes_first former vars in
    let s = moved_sum former vars in
    let nodes = nodes_clauses x former first in
    let sum = sum_bound s vars in
    let a : words_of nodes ≤ n * 28 = words_each 28 (clauses_at x former first) 0 n
    (λ j from to. by_words (former_at former j) (x j) (first + matched_before former j)) in
    let b : words_of sum ≤ 100 * (length (block first k) + 1) * (k + 2) + k * 10 = sum_bound_words s vars in
    let c : words_of sum ≤ 100 * (k + 1) * (k + 2) + k * 10 = subst (λ l. words_of sum ≤ 100 * (l + 1) * (k + 2) + k * 10) (length-block first k) b in
    total (words_of (nodes ++ sum)) (words_of nodes) (words_of sum) n k a c (square_more k n (matched_few former)) (matched_few former) (words_append nodes sum)
  where
    total : (w a b n k : ℕ) → a ≤ n * 28 → b ≤ 100 * (k + 1) * (k + 2) + k * 10 → (k + 1) * (k + 2) ≤ (n + 1) * (n + 2) → k ≤ n → w ≡ a + b →
        w ≤ 200 * ((n + 1) * (n + 2))
    total w a b n k ha hb hs le e = omega (arith, ha, hb, hs, le, e)

pub count_vars : (former : Former) (vars : ℕ) → count_size former vars ≤ 20 * ((length former + 1) * (length former + 2))
count_vars former vars =
    let n = length former in
    let k = matched former in
    let first = nodes_first former vars in
    let b : sum_size (moved_sum former vars) ≤ 10 * (length (block first k) + 1) * (k + 2) = sum_count k (block first k) in
    let c : sum_size (moved_sum former vars) ≤ 10 * (k + 1) * (k + 2) = subst (λ l. sum_size (moved_sum former vars) ≤ 10 * (l + 1) * (k + 2))
    (length-block first k) b in
    total (sum_size (moved_sum former vars)) n k c (square_more k n (matched_few former)) (matched_few former)
  where
    total : (b n k : ℕ) → b ≤ 10 * (k + 1) * (k + 2) → (k + 1) * (k + 2) ≤ (n + 1) * (n + 2) → k ≤ n → k + k + b ≤ 20 * ((n + 1) * (n + 2))
    total b n k hb hs le = omega (arith, hb, hs, le)
