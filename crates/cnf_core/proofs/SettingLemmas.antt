-- Blocks of variables that are given truth values one after another.
use Rattle.std.proofs.Common.{◌≡◌, ℕ, ◌+◌, ◌<◌, ◌≤◌, Bool, true, false, cond, zero, suc, ◌++◌, refl, sym, ◌∙◌, ap, subst, inl, inr, arith}
use Rattle.std.specs.Prelude.{◌-◌, nat_lt}
use Rattle.std.proofs.lemmas.Bool.Decides.{nat_tests, eqb_tells}
use Rattle.cnf_core.specs.Clause.{Clauses, AllThere}
use Rattle.cnf_core.specs.Assignment.{Assignment, SatisfiesAll, SameOutside, Extends}
use Rattle.cnf_core.proofs.ClauseLemmas.{satisfies_append, satisfies_all_same}

-- assignments that differ in a block alone
pub same_none : (first count : ℕ) (v : Assignment) → SameOutside first count v v
same_none first count v = record { below = λ x h. refl; above = λ x h. refl }

-- a block behind another
pub same_both : (first m n : ℕ) (u v w : Assignment) → SameOutside first m u v → SameOutside (first + m) n v w → SameOutside first (m + n) u w
same_both first m n u v w a b = record {
  below = λ x h. b.below x (omega arith) ∙ a.below x h;
  above = λ x h. b.above x (omega arith) ∙ a.above x (omega arith);
}

-- clauses of the variables before the block say the same
pub satisfies_before : (first count vars : ℕ) (v w : Assignment) (cs : Clauses) → vars < first → AllThere vars cs → SameOutside first count v w →
    SatisfiesAll v cs → SatisfiesAll w cs
satisfies_before first count vars v w cs before there s h = satisfies_all_same v w vars cs there (λ x le. s.below x (omega arith)) h

-- one block after another
pub extends_both : (first m n : ℕ) (v : Assignment) (P Q : Assignment → Type 0) → Extends first m v P →
    ((w : Assignment) → SameOutside first m v w → P w → Extends (first + m) n w Q) → Extends first (m + n) v Q
extends_both first m n v P Q a f =
    let b : Extends (first + m) n a.to Q = f a.to a.same a.holds in
    record { to = b.to; same = same_both first m n v a.to b.to a.same b.same; holds = b.holds }

pub extends_weaker : (first n : ℕ) (v : Assignment) (P Q : Assignment → Type 0) → ((w : Assignment) → SameOutside first n v w → P w → Q w) →
    Extends first n v P → Extends first n v Q
extends_weaker first n v P Q f a = record { to = a.to; same = a.same; holds = f a.to a.same a.holds }

-- clauses behind clauses: what the first say stays, since they speak of variables before the second block
pub extends_clauses : (first m n vars : ℕ) (v : Assignment) (xs ys : Clauses) → vars < first + m → AllThere vars xs →
    Extends first m v (λ w. SatisfiesAll w xs) → ((w : Assignment) → SameOutside first m v w → SatisfiesAll w xs → Extends (first + m) n w
    (λ u. SatisfiesAll u ys)) → Extends first (m + n) v (λ u. SatisfiesAll u (xs ++ ys))
extends_clauses first m n vars v xs ys before there a f = extends_both first m n v (λ w. SatisfiesAll w xs) (λ u. SatisfiesAll u (xs ++ ys)) a
    (λ w same h. extends_weaker (first + m) n w (λ u. SatisfiesAll u ys) (λ u. SatisfiesAll u (xs ++ ys))
    (λ u later k. satisfies_append u xs ys (satisfies_before (first + m) n vars w u xs before there later h) k) (f w same h))

-- the count variables from first on are given the truth values of f
abbrev pub patch : ℕ → ℕ → (ℕ → Bool) → Assignment → Assignment
patch first count f v x = cond (nat_lt x first) (v x) (cond (nat_lt x (first + count)) (f (x - first)) (v x))

pub patch_same : (first count : ℕ) (f : ℕ → Bool) (v : Assignment) → SameOutside first count v (patch first count f v)
patch_same first count f v = record {
  below = λ x h. grind (arith, nat_tests);
  above = λ x h. grind (arith, nat_tests);
}

pub patch_at : (first count : ℕ) (f : ℕ → Bool) (v : Assignment) (k : ℕ) → k < count → patch first count f v (first + k) ≡ f k
patch_at first count f v k h =
    let a : nat_lt (first + k) first ≡ false = grind (arith, nat_tests) in
    let b : nat_lt (first + k) (first + count) ≡ true = grind (arith, nat_tests) in
    let z : first + k - first ≡ k = omega arith in
    rw (a, b, z) refl

-- blocks for one party after another, each of its own size
pub place_rises : (place size : ℕ → ℕ) → ((k : ℕ) → place (k + 1) ≡ place k + size k) → (a b : ℕ) → a ≤ b → place a ≤ place b
place_rises place size next a zero le = let z : a ≡ 0 = omega arith in let y : place a ≡ place 0 = ap place z in omega arith
place_rises place size next a (suc b) le = elim (eqb_tells a (suc b)) [
  | inl same ↦ let y : place a ≡ place (suc b) = ap place same.1 in omega arith
  | inr other ↦
      let ne = other.1 in
      let s : b + 1 ≡ suc b = omega arith in
      let y : place (suc b) ≡ place b + size b = ap place (sym s) ∙ next b in
      omega (arith, y, place_rises place size next a b (omega arith))
]

pub each_extends : (place size : ℕ → ℕ) → ((k : ℕ) → place (k + 1) ≡ place k + size k) →
    (Before : Assignment → Type 0) → ((v w : Assignment) → ((x : ℕ) → x < place 0 → w x ≡ v x) → Before v → Before w) →
    (Q : ℕ → Assignment → Type 0) → ((k : ℕ) (v w : Assignment) → ((x : ℕ) → x < place (k + 1) → w x ≡ v x) → Q k v → Q k w) →
    (n total : ℕ) → place n ≡ place 0 + total →
    ((k : ℕ) (v : Assignment) → k < n → Before v → Extends (place k) (size k) v (Q k)) →
    (v : Assignment) → Before v → Extends (place 0) total v (λ w. (k : ℕ) → k < n → Q k w)
each_extends place size next Before stays Q keeps zero total e step v before = record {
  to = v;
  same = same_none (place 0) total v;
  holds = λ k lt. absurd (omega arith);
}
each_extends place size next Before stays Q keeps (suc n) total e step v before =
    let rise = place_rises place size next 0 n (omega arith) in
    let so_far = place n - place 0 in
    let s : n + 1 ≡ suc n = omega arith in
    let last : place (suc n) ≡ place n + size n = ap place (sym s) ∙ next n in
    let there : place 0 + so_far ≡ place n = omega arith in
    let z : so_far + size n ≡ total = omega (arith, e, last) in
    subst (λ t. Extends (place 0) t v (λ w. (k : ℕ) → k < suc n → Q k w)) z
    (extends_both (place 0) so_far (size n) v (λ w. (k : ℕ) → k < n → Q k w) (λ w. (k : ℕ) → k < suc n → Q k w)
    (each_extends place size next Before stays Q keeps n so_far (sym there) (λ k u lt o. step k u (omega arith) o) v before)
    (λ w same h. subst (λ p. Extends p (size n) w (λ u. (k : ℕ) → k < suc n → Q k u)) (sym there)
    (extends_weaker (place n) (size n) w (Q n) (λ u. (k : ℕ) → k < suc n → Q k u)
    (λ u later q k lt. elim (eqb_tells k n) [
      | inl same_k ↦ subst (λ x. Q x u) (sym same_k.1) q
      | inr other ↦
          let ne = other.1 in
          let less : k < n = omega arith in
          keeps k w u (λ x below. later.below x (let m = place_rises place size next (k + 1) n (omega arith) in omega (arith, m, below))) (h k less)
    ])
    (step n w (omega arith) (stays v w (λ x lt. same.below x lt) before)))))
