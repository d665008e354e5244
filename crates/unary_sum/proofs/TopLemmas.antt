-- The literals of a whole sum: truth values at its ends, and literals between them.
use Rattle.std.proofs.Common.{◌≡◌, ℕ, ◌+◌, ◌<◌, ◌≤◌, true, zero, suc, List, [], ◌∷◌, length, take, drop, arith}
use Rattle.std.specs.Prelude.{◌/◌, nat_lt, min}
use Rattle.std.proofs.lemmas.Bool.Decides.{nat_tests}
use Rattle.cnf_core.specs.declared.literal.LitOrTruth.TheVariants.{False}
use Rattle.cnf_core.specs.Lit.{Literal}
use Rattle.unary_sum.specs.Part.{part_at_least, IsLit}
use Rattle.unary_sum.specs.Sum.{tree_of, tree_size, tree_top}
use Rattle.unary_sum.proofs.JoinLemmas.{at_above}
use Rattle.unary_sum.proofs.SumLemmas.{part_size-top}
use Rattle.unary_sum.proofs.SizeLemmas.{halves, depths, size_bound}

pub top_above : (most vars k : ℕ) (ls : List Literal) → length ls < k → part_at_least (tree_top most vars (tree_of (length ls) ls)) k ≡ False
top_above most vars k ls h =
    let is = part_size-top most vars (tree_of (length ls) ls) in
    let size = size_bound most (length ls) ls (omega arith) in
    at_above (tree_top most vars (tree_of (length ls) ls)) k (omega arith)

-- there are as many outputs as inputs, up to the cap
size_enough : (most depth : ℕ) (ls : List Literal) → length ls ≤ 1 + depth → min (length ls) most ≤ tree_size most (tree_of depth ls)
size_enough most depth [] h = omega arith
size_enough most depth (l ∷ []) h = omega arith
size_enough most zero (k ∷ l ∷ ls) h = absurd (omega arith)
size_enough most (suc depth) (k ∷ l ∷ ls) h =
    let all = k ∷ l ∷ ls in
    let half = halves all (omega arith) in
    let whole = half.0 in
    let deep = depths depth all (omega arith) h in
    let a = size_enough most depth (take (length all / 2) all) deep.0 in
    let b = size_enough most depth (drop (length all / 2) all) deep.1 in
    omega arith

pub top_between : (most vars depth k : ℕ) (ls : List Literal) → length ls ≤ 1 + depth → 1 ≤ k → k ≤ most → k ≤ length ls →
    IsLit (part_at_least (tree_top most vars (tree_of depth ls)) k)
top_between most vars depth zero ls h some le within = absurd (omega arith)
top_between most vars depth (suc j) [] h some le within = absurd (omega arith)
top_between most vars depth (suc zero) (l ∷ []) h some le within = tt
top_between most vars depth (suc (suc j)) (l ∷ []) h some le within = absurd (omega arith)
top_between most vars zero (suc j) (k ∷ l ∷ ls) h some le within = absurd (omega arith)
top_between most vars (suc depth) (suc j) (k ∷ l ∷ ls) h some le within =
    let size = size_enough most (suc depth) (k ∷ l ∷ ls) h in
    let small : j < tree_size most (tree_of (suc depth) (k ∷ l ∷ ls)) = omega arith in
    let t : nat_lt j (tree_size most (tree_of (suc depth) (k ∷ l ∷ ls))) ≡ true = grind (arith, nat_tests, small) in
    rw t tt
