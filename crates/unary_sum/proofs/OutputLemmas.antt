-- The outputs of a sum as literals: where they lie, and how many are true.
use Rattle.std.proofs.Common.{◌≡◌, ℕ, ◌+◌, ◌<◌, ◌≤◌, Bool, true, false, cond, zero, suc, List, [], ◌∷◌, ◌++◌, length, take, refl, sym, ◌∙◌, ap, arith}
use Rattle.std.proofs.Common.{append_assoc}
use Rattle.std.specs.Prelude.{◌-◌, nat_le, nat_lt, min}
use Rattle.std.proofs.lemmas.List.{take_all}
use Rattle.std.proofs.lemmas.Bool.Decides.{nat_tests}
use Rattle.cnf_core.specs.Lit.{Literal, positive_of}
use Rattle.cnf_core.specs.Clause.{AreThere}
use Rattle.cnf_core.specs.Assignment.{Assignment, truth, SatisfiesAll}
use Rattle.unary_sum.specs.declared.joins.Part.{Part}
use Rattle.unary_sum.specs.declared.joins.Part.TheVariants.{Input, Outputs}
use Rattle.unary_sum.specs.Part.{part_size, PartIsThere, Counts, block, part_outputs}
use Rattle.unary_sum.specs.Sum.{count_true, tree_of, tree_count, tree_top, tree_clauses}
use Rattle.unary_sum.proofs.JoinLemmas.{counts_to}
use Rattle.unary_sum.proofs.SumLemmas.{part_size-top, top_there, tree_there, there_take, sum_means}
use Rattle.unary_sum.proofs.SizeLemmas.{size_bound}

-- a block, variable by variable
pub block_next : (first count k : ℕ) (front : List Literal) → k < count →
    front ++ block (first + k) (count - k) ≡ (front ++ positive_of (first + k) ∷ []) ++ block (first + (k + 1)) (count - (k + 1))
block_next first count k front lt =
    let one : count - k ≡ suc (count - (k + 1)) = omega arith in
    let next : first + k + 1 ≡ first + (k + 1) = omega arith in
    ap (λ n. front ++ block (first + k) n) one
    ∙ ap (λ n. front ++ (positive_of (first + k) ∷ block n (count - (k + 1)))) next
    ∙ sym (append_assoc front (positive_of (first + k) ∷ []) (block (first + (k + 1)) (count - (k + 1))))

pub length-block : (first count : ℕ) → length (block first count) ≡ count
length-block first zero = refl
length-block first (suc count) = omega (arith, length-block (first + 1) count)

-- as many outputs as it can tell of
pub length-outputs : (p : Part) → length (part_outputs p) ≡ part_size p
length-outputs (Input l) = refl
length-outputs (Outputs first count) = length-block first count

pub block_there : (vars first count : ℕ) → 1 ≤ first → first + count ≤ vars + 1 → AreThere vars (block first count)
block_there vars first zero from to = tt
block_there vars first (suc count) from to = ((omega arith, omega arith), block_there vars (first + 1) count (omega arith) (omega arith))

outputs_there : (vars : ℕ) (p : Part) → PartIsThere vars p → AreThere vars (part_outputs p)
outputs_there vars (Input l) h = (h, tt)
outputs_there vars (Outputs first count) h = block_there vars first count h.0 h.1

-- as many are true as there are inputs that are, up to the cap
one_more : (b : Bool) (n count : ℕ) → b ≡ nat_lt 0 n → cond b 1 0 + min (n - 1) count ≡ min n (suc count)
one_more true zero count h = absurd (cc (h, none))
  where
    none : nat_lt 0 0 ≡ false
    none = refl
one_more true (suc n) count h = omega arith
one_more false zero count h = omega arith
one_more false (suc n) count h = absurd (cc (h, some))
  where
    some : nat_lt 0 (suc n) ≡ true
    some = grind (arith, nat_tests)

block_true : (v : Assignment) (first count n : ℕ) → ((k : ℕ) → k < count → v (first + k) ≡ nat_lt k n) → count_true v (block first count) ≡ min n count
block_true v first zero n h = omega arith
block_true v first (suc count) n h =
    let here : first + 0 ≡ first = omega arith in
    let first_is : v first ≡ nat_lt 0 n = sym (ap v here) ∙ h 0 (omega arith) in
    let rest = block_true v (first + 1) count (n - 1) (λ k lt.
    let z : first + 1 + k ≡ first + suc k = omega arith in
    let t : nat_lt (suc k) n ≡ nat_lt k (n - 1) = grind (arith, nat_tests) in
    ap v z ∙ h (suc k) (omega arith) ∙ t) in
    omega (arith, rest, one_more (v first) n count first_is)

outputs_true : (v : Assignment) (most : ℕ) (p : Part) (n : ℕ) → 1 ≤ most → part_size p ≤ most → Counts v most p n → count_true v (part_outputs p) ≡ min n most
outputs_true v most (Input l) n some small c =
    let few = counts_to v most (Input l) n c in
    by_truth (truth v l) (c 1 some) few
  where
    by_truth : (b : Bool) → b ≡ nat_le 1 n → min n most ≤ 1 → cond b 1 0 + 0 ≡ min n most
    by_truth true e few = let le : 1 ≤ n = grind (arith, nat_tests, e) in omega arith
    by_truth false e few = let gt : n < 1 = grind (arith, nat_tests, e) in omega arith
outputs_true v most (Outputs first count) n some small c =
    let enough = counts_to v most (Outputs first count) n c in
    let all = block_true v first count n (λ k lt.
    let t : nat_lt k count ≡ true = grind (arith, nat_tests) in
    let u : nat_le (suc k) n ≡ nat_lt k n = grind (arith, nat_tests) in
    (rw t at (c (suc k) (omega arith))) ∙ u) in
    omega (arith, all, enough)

pub sum_outputs_true : (v : Assignment) (most vars : ℕ) (ls : List Literal) → SatisfiesAll v (tree_clauses most vars (tree_of (length ls) ls)) →
    count_true v (take most (part_outputs (tree_top most vars (tree_of (length ls) ls)))) ≡ min (count_true v ls) most
sum_outputs_true v zero vars ls h = omega arith
sum_outputs_true v (suc m) vars ls h =
    let most = suc m in
    let p = tree_top most vars (tree_of (length ls) ls) in
    let size = part_size-top most vars (tree_of (length ls) ls) in
    let bound = size_bound most (length ls) ls (omega arith) in
    let whole : take most (part_outputs p) ≡ part_outputs p = take_all most (part_outputs p) (omega (arith, length-outputs p, size, bound)) in
    ap (count_true v) whole ∙ outputs_true v most p (count_true v ls) (omega arith) (omega (arith, size, bound)) (sum_means v most vars ls h)

pub sum_outputs_whole : (most vars : ℕ) (ls : List Literal) → 1 ≤ most →
    take most (part_outputs (tree_top most vars (tree_of (length ls) ls))) ≡ part_outputs (tree_top most vars (tree_of (length ls) ls))
sum_outputs_whole most vars ls some =
    let p = tree_top most vars (tree_of (length ls) ls) in
    let size = part_size-top most vars (tree_of (length ls) ls) in
    let bound = size_bound most (length ls) ls (omega arith) in
    take_all most (part_outputs p) (omega (arith, length-outputs p, size, bound))

pub sum_outputs_there : (most vars : ℕ) (ls : List Literal) → AreThere vars ls →
    AreThere (vars + tree_count most (tree_of (length ls) ls)) (take most (part_outputs (tree_top most vars (tree_of (length ls) ls))))
sum_outputs_there most vars ls h =
    let t = tree_of (length ls) ls in
    there_take (vars + tree_count most t) most (part_outputs (tree_top most vars t))
    (outputs_there (vars + tree_count most t) (tree_top most vars t) (top_there most vars t (tree_there vars (length ls) ls h)))
