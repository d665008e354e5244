-- How many variables and words a sum has.
use Rattle.std.proofs.Common.{◌≡◌, ℕ, ◌+◌, ◌*◌, ◌≤◌, zero, suc, List, [], ◌∷◌, ◌++◌, length, take, drop, ap, subst, arith, inl, inr, length-take, length-drop}
use Rattle.std.specs.Prelude.{◌-◌, ◌/◌, min, max}
use Rattle.std.proofs.Math.Nat.{mul-le-mul_left, mul-le-mul_right}
use Rattle.std.proofs.lemmas.Bool.Decides.{leb_tells}
use Rattle.cnf_core.specs.Lit.{Literal}
use Rattle.cnf_core.specs.Clause.{words_of}
use Rattle.cnf_core.proofs.ClauseLemmas.{words_append}
use Rattle.unary_sum.specs.Part.{part_size, join_clauses}
use Rattle.unary_sum.specs.Sum.{InputTree, tree_of, tree_size, tree_count, tree_top, tree_clauses}
use Rattle.unary_sum.proofs.JoinLemmas.{join_words}
use Rattle.unary_sum.proofs.SumLemmas.{part_size-top, node_join}

-- the halves of two literals or more are a whole, and neither is empty
pub halves : (ls : List Literal) → 2 ≤ length ls → (length (take (length ls / 2) ls) + length (drop (length ls / 2) ls) ≡ length ls) ×
    (1 ≤ length (take (length ls / 2) ls)) × (1 ≤ length (drop (length ls / 2) ls))
halves ls two = let a = length-take (length ls / 2) ls in let b = length-drop (length ls / 2) ls in (omega arith, omega arith, omega arith)

pub depths : (depth : ℕ) (ls : List Literal) → 2 ≤ length ls → length ls ≤ 1 + suc depth →
    (length (take (length ls / 2) ls) ≤ 1 + depth) × (length (drop (length ls / 2) ls) ≤ 1 + depth)
depths depth ls two h = let a = length-take (length ls / 2) ls in let b = length-drop (length ls / 2) ls in (omega arith, omega arith)

-- variables: a join of at most the cap for each input but one
pub count_bound : (most depth : ℕ) (ls : List Literal) → length ls ≤ 1 + depth → 1 ≤ length ls → tree_count most (tree_of depth ls) + most ≤ length ls * most
count_bound most depth [] h some = absurd (omega arith)
count_bound most depth (l ∷ []) h some = omega arith
count_bound most zero (k ∷ l ∷ ls) h some = absurd (omega arith)
count_bound most (suc depth) (k ∷ l ∷ ls) h some =
    let all = k ∷ l ∷ ls in
    let half = halves all (omega arith) in
    let deep = depths depth all (omega arith) h in
    let a = count_bound most depth (take (length all / 2) all) deep.0 half.1 in
    let b = count_bound most depth (drop (length all / 2) all) deep.1 half.2 in
    let whole : (length (take (length all / 2) all) + length (drop (length all / 2) all)) * most ≡ length all * most = ap (λ n. n * most) half.0 in
    omega arith

-- outputs: one for each input up to the cap, and one where there is one input
pub size_bound : (most depth : ℕ) (ls : List Literal) → length ls ≤ 1 + depth → tree_size most (tree_of depth ls) ≤ min (length ls) (max most 1)
size_bound most depth [] h = omega arith
size_bound most depth (l ∷ []) h = omega arith
size_bound most zero (k ∷ l ∷ ls) h = absurd (omega arith)
size_bound most (suc depth) (k ∷ l ∷ ls) h =
    let all = k ∷ l ∷ ls in
    let half = halves all (omega arith) in
    let whole = half.0 in
    let deep = depths depth all (omega arith) h in
    let a = size_bound most depth (take (length all / 2) all) deep.0 in
    let b = size_bound most depth (drop (length all / 2) all) deep.1 in
    omega arith

-- the pairs of a join, of p and q outputs or fewer
pairs_bound : (p q m n : ℕ) → p ≤ m → q ≤ n → 1 ≤ m → 1 ≤ n → (p + 1) * ((q + 1) * 12) ≤ 48 * (m * n)
pairs_bound p q m n hp hq one two =
    let a : (p + 1) * ((q + 1) * 12) ≤ (2 * m) * ((q + 1) * 12) = mul-le-mul_right ((q + 1) * 12) (omega arith) in
    let b : (2 * m) * ((q + 1) * 12) ≤ (2 * m) * ((2 * n) * 12) = mul-le-mul_left (2 * m) (omega arith) in
    omega arith

-- words: with m the lesser of the s inputs and the cap, at most 96 s m - 48 m m
both_small : (s t w x y : ℕ) → x + 48 * (s * s) ≤ 96 * (s * s) → y + 48 * (t * t) ≤ 96 * (t * t) → w ≤ x + y + 48 * (s * t) →
    w + 48 * ((s + t) * (s + t)) ≤ 96 * ((s + t) * (s + t))
both_small s t w x y a b h = omega arith

past_cap : (a b d w x y : ℕ) → x + 48 * ((b + d) * (b + d)) ≤ 96 * ((b + d) * (b + d)) → y + 48 * ((a + d) * (a + d)) ≤ 96 * ((a + d) * (a + d)) →
    w ≤ x + y + 48 * ((b + d) * (a + d)) →
    w + 48 * ((a + b + d) * (a + b + d)) ≤ 96 * (((b + d) + (a + d)) * (a + b + d))
past_cap a b d w x y h k m = omega arith

right_large : (s t c w x y : ℕ) → s ≤ c → x + 48 * (s * s) ≤ 96 * (s * s) → y + 48 * (c * c) ≤ 96 * (t * c) → w ≤ x + y + 48 * (s * c) →
    w + 48 * (c * c) ≤ 96 * ((s + t) * c)
right_large s t c w x y le a b h = let z : s * s ≤ s * c = mul-le-mul_left s le in omega arith

left_large : (s t c w x y : ℕ) → t ≤ c → x + 48 * (c * c) ≤ 96 * (s * c) → y + 48 * (t * t) ≤ 96 * (t * t) → w ≤ x + y + 48 * (c * t) →
    w + 48 * (c * c) ≤ 96 * ((s + t) * c)
left_large s t c w x y le a b h = let z : t * t ≤ t * c = mul-le-mul_left t le in omega arith

both_large : (s t c w x y : ℕ) → x + 48 * (c * c) ≤ 96 * (s * c) → y + 48 * (c * c) ≤ 96 * (t * c) → w ≤ x + y + 48 * (c * c) →
    w + 48 * (c * c) ≤ 96 * ((s + t) * c)
both_large s t c w x y a b h = omega arith

at_cap : (s t c w x y : ℕ) → s ≤ c → t ≤ c → c ≤ s + t → x + 48 * (s * s) ≤ 96 * (s * s) → y + 48 * (t * t) ≤ 96 * (t * t) → w ≤ x + y + 48 * (s * t) →
    w + 48 * (c * c) ≤ 96 * ((s + t) * c)
at_cap s t c w x y hs ht hc ha hb h =
    let es : c - t + (s + t - c) ≡ s = omega arith in
    let et : c - s + (s + t - c) ≡ t = omega arith in
    let ec : c - s + (c - t) + (s + t - c) ≡ c = omega arith in
    let r = past_cap (c - s) (c - t) (s + t - c) w x y (rw es ha) (rw et hb) (rw (es, et) h) in
    rw (es, et, ec) at r

words_step : (c s t w x y : ℕ) → x + 48 * (min s c * min s c) ≤ 96 * (s * min s c) → y + 48 * (min t c * min t c) ≤ 96 * (t * min t c) →
    w ≤ x + y + 48 * (min s c * min t c) → w + 48 * (min (s + t) c * min (s + t) c) ≤ 96 * ((s + t) * min (s + t) c)
words_step c s t w x y a b h = elim (leb_tells s c) [
  | inl hs ↦ elim (leb_tells t c) [
    | inl ht ↦
        let le = hs.1 in
        let ge = ht.1 in
        let es : min s c ≡ s = omega arith in
        let et : min t c ≡ t = omega arith in
        elim (leb_tells (s + t) c) [
          | inl all ↦ let x' = all.1 in let e : min (s + t) c ≡ s + t = omega arith in rw e (both_small s t w x y (rw es at a) (rw et at b) (rw (es, et) at h))
          | inr past ↦ let x' = past.1 in let e : min (s + t) c ≡ c = omega arith in rw e
              (at_cap s t c w x y le ge (omega arith) (rw es at a) (rw et at b) (rw (es, et) at h))
        ]
    | inr ht ↦
        let le = hs.1 in
        let gt = ht.1 in
        let es : min s c ≡ s = omega arith in
        let et : min t c ≡ c = omega arith in
        let e : min (s + t) c ≡ c = omega arith in
        rw e (right_large s t c w x y le (rw es at a) (rw et at b) (rw (es, et) at h))
  ]
  | inr hs ↦ elim (leb_tells t c) [
    | inl ht ↦
        let gt = hs.1 in
        let le = ht.1 in
        let es : min s c ≡ c = omega arith in
        let et : min t c ≡ t = omega arith in
        let e : min (s + t) c ≡ c = omega arith in
        rw e (left_large s t c w x y le (rw es at a) (rw et at b) (rw (es, et) at h))
    | inr ht ↦
        let gt = hs.1 in
        let ge = ht.1 in
        let es : min s c ≡ c = omega arith in
        let et : min t c ≡ c = omega arith in
        let e : min (s + t) c ≡ c = omega arith in
        rw e (both_large s t c w x y (rw es at a) (rw et at b) (rw (es, et) at h))
  ]
]

one_input : (m : ℕ) → m ≡ 1 → 0 + 48 * (m * m) ≤ 96 * (1 * m)
one_input m e = rw e (omega arith)

node_words : (most vars : ℕ) (a b : InputTree) (m n : ℕ) → tree_size most a ≤ m → tree_size most b ≤ n → 1 ≤ m → 1 ≤ n →
    words_of (join_clauses (node_join most vars a b)) ≤ 48 * (m * n)
node_words most vars a b m n ha hb one two =
    let sa = part_size-top most vars a in
    let sb = part_size-top most (vars + tree_count most a) b in
    let words = join_words (node_join most vars a b) in
    let pairs = pairs_bound (part_size (tree_top most vars a)) (part_size (tree_top most (vars + tree_count most a) b)) m n (omega arith) (omega arith) one
    two in
    omega arith

pub words_bound : (most vars depth : ℕ) (ls : List Literal) → length ls ≤ 1 + depth → 1 ≤ length ls →
    words_of (tree_clauses most vars (tree_of depth ls)) + 48 * (min (length ls) (max most 1) * min (length ls) (max most 1)) ≤ 96 *
    (length ls * min (length ls) (max most 1))
words_bound most vars depth [] h some = absurd (omega arith)
words_bound most vars depth (l ∷ []) h some = one_input (min 1 (max most 1)) (omega arith)
words_bound most vars zero (k ∷ l ∷ ls) h some = absurd (omega arith)
words_bound most vars (suc depth) (k ∷ l ∷ ls) h some =
    let all = k ∷ l ∷ ls in
    let half = halves all (omega arith) in
    let deep = depths depth all (omega arith) h in
    let left = take (length all / 2) all in
    let right = drop (length all / 2) all in
    let a = tree_of depth left in
    let b = tree_of depth right in
    let next = vars + tree_count most a in
    let c = max most 1 in
    let x = words_bound most vars depth left deep.0 half.1 in
    let y = words_bound most next depth right deep.1 half.2 in
    let one = half.1 in
    let two = half.2 in
    let z = node_words most vars a b (min (length left) c) (min (length right) c) (size_bound most depth left deep.0) (size_bound most depth right deep.1)
    (omega arith) (omega arith) in
    let xs = tree_clauses most vars a in
    let ys = tree_clauses most next b in
    let zs = join_clauses (node_join most vars a b) in
    let sum : words_of ((xs ++ ys) ++ zs) ≤ words_of xs + words_of ys + 48 * (min (length left) c * min (length right) c) = omega
    (arith, z, words_append (xs ++ ys) zs, words_append xs ys) in
    let r = words_step c (length left) (length right) (words_of ((xs ++ ys) ++ zs)) (words_of xs) (words_of ys) x y sum in
    subst (λ n. words_of ((xs ++ ys) ++ zs) + 48 * (min n c * min n c) ≤ 96 * (n * min n c)) half.0 r

-- the bounds in terms of the inputs and the cap
capped : (n m most : ℕ) → m ≤ most + 1 → n * m ≤ n * (most + 1)
capped n m most h = mul-le-mul_left n h

pub sum_words : (most vars : ℕ) (ls : List Literal) → words_of (tree_clauses most vars (tree_of (length ls) ls)) ≤ 100 * (length ls + 1) * (most + 2)
sum_words most vars [] = omega arith
sum_words most vars (l ∷ ls) =
    let all = l ∷ ls in
    let n = length all in
    let w = words_bound most vars n all (omega arith) (omega arith) in
    let m = capped n (min n (max most 1)) most (omega arith) in
    omega arith

pub sum_count : (most : ℕ) (ls : List Literal) → tree_count most (tree_of (length ls) ls) ≤ 10 * (length ls + 1) * (most + 2)
sum_count most [] = omega arith
sum_count most (l ∷ ls) =
    let all = l ∷ ls in
    let c = count_bound most (length all) all (omega arith) (omega arith) in
    omega arith
