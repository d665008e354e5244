-- Each node has a place of its own in the row from west to east.
use Rattle.std.proofs.Common.{◌≡◌, ◌≢◌, ◌⊎◌, ℕ, ℤ, zero, suc, ◌+◌, ◌≤◌, ◌<◌, Bool, true, false, inl, inr, refl, sym, ◌∙◌, ap, subst, length, arith}
use Rattle.std.specs.Prelude.{◌<ℤ◌}
use Rattle.std.specs.Ordering.{int_cmp, MatchOrdering}
use Rattle.std.specs.Cmp.{int_ranks}
use Rattle.std.specs.declared.cmp.Ordering.{Ordering}
use Rattle.std.specs.declared.cmp.Ordering.TheVariants.{Less, Equal, Greater}
use Rattle.std.proofs.lemmas.Bool.Decides.{nat_tests, leb_tells, eqb_tells}
use Rattle.std.proofs.lemmas.Int.{ints}
use Rattle.plan_core.specs.Graph.{Graph, mileage}
use Rattle.cnf_laws.specs.Rank.{comes_by, comes_before, one_when, count_below, west_rank}

-- COUNTS
pub count_next : (p : ℕ → Bool) (n : ℕ) → count_below p (n + 1) ≡ count_below p n + one_when (p n)
count_next p n = let z : n + 1 ≡ suc n = omega arith in ap (count_below p) z

one_few : (b : Bool) → one_when b ≤ 1
one_few true = omega arith
one_few false = omega arith

pub count_few : (p : ℕ → Bool) (n : ℕ) → count_below p n ≤ n
count_few p zero = omega arith
count_few p (suc n) = let a = count_few p n in let b = one_few (p n) in omega arith

more_here : (b c : Bool) → (b ≡ true → c ≡ true) → one_when b ≤ one_when c
more_here true c h = let e : one_when c ≡ 1 = ap one_when (h refl) in omega arith
more_here false true h = omega arith
more_here false false h = omega arith

count_more : (p q : ℕ → Bool) (n : ℕ) → ((k : ℕ) → p k ≡ true → q k ≡ true) → count_below p n ≤ count_below q n
count_more p q zero h = omega arith
count_more p q (suc n) h = let a = count_more p q n h in let b = more_here (p n) (q n) (h n) in omega arith

-- one number passes the second test alone
count_one_more : (p q : ℕ → Bool) (n k : ℕ) → ((k : ℕ) → p k ≡ true → q k ≡ true) → k < n → p k ≡ false → q k ≡ true → count_below p n < count_below q n
count_one_more p q zero k h lt off on = absurd (omega arith)
count_one_more p q (suc n) k h lt off on = elim (eqb_tells k n) [
  | inl same ↦
      let a = count_more p q n h in
      let b : one_when (p n) ≡ 0 = ap one_when (subst (λ j. p j ≡ false) same.1 off) in
      let c : one_when (q n) ≡ 1 = ap one_when (subst (λ j. q j ≡ true) same.1 on) in
      omega arith
  | inr other ↦
      let ne = other.1 in
      let a = count_one_more p q n k h (omega arith) off on in
      let b = more_here (p n) (q n) (h n) in
      omega arith
]

count_always : (n : ℕ) → count_below (λ k. true) n ≡ n
count_always zero = refl
count_always (suc n) = omega (arith, count_always n)

count_fewer : (p : ℕ → Bool) (n k : ℕ) → k < n → p k ≡ false → count_below p n < n
count_fewer p n k lt off = let a = count_one_more p (λ j. true) n k (λ j h. refl) lt off refl in omega (arith, count_always n)

-- THE ORDER
abbrev pub Comes : ℤ → ℤ → ℕ → ℕ → Type 0
Comes a b u v = (a <ℤ b) ⊎ ((a ≡ b) × (u < v))

by_tells : (o : Ordering) (a b : ℤ) (u v : ℕ) → MatchOrdering o (a <ℤ b) (a ≡ b) (b <ℤ a) → comes_by o u v ≡ true → Comes a b u v
by_tells Less a b u v r h = inl r
by_tells Equal a b u v r h = inr (r, grind (arith, nat_tests))
by_tells Greater a b u v r h = absurd (cc)

by_says : (o : Ordering) (a b : ℤ) (u v : ℕ) → MatchOrdering o (a <ℤ b) (a ≡ b) (b <ℤ a) → Comes a b u v → comes_by o u v ≡ true
by_says Less a b u v r h = refl
by_says Equal a b u v r (inl less) = absurd (omega (arith, ints))
by_says Equal a b u v r (inr tied) = let lt = tied.1 in grind (arith, nat_tests)
by_says Greater a b u v r (inl less) = absurd (omega (arith, ints))
by_says Greater a b u v r (inr tied) = let e = tied.0 in absurd (omega (arith, ints))

comes_tells : (g : Graph) (u v : ℕ) → comes_before g u v ≡ true → Comes (mileage g u) (mileage g v) u v
comes_tells g u v h = by_tells (int_cmp (mileage g u) (mileage g v)) (mileage g u) (mileage g v) u v (int_ranks (mileage g u) (mileage g v)) h

comes_says : (g : Graph) (u v : ℕ) → Comes (mileage g u) (mileage g v) u v → comes_before g u v ≡ true
comes_says g u v h = by_says (int_cmp (mileage g u) (mileage g v)) (mileage g u) (mileage g v) u v (int_ranks (mileage g u) (mileage g v)) h

comes_through : (a b c : ℤ) (u v w : ℕ) → Comes a b u v → Comes b c v w → Comes a c u w
comes_through a b c u v w (inl x) (inl y) = inl (omega (arith, ints))
comes_through a b c u v w (inl x) (inr y) = let e = y.0 in inl (omega (arith, ints))
comes_through a b c u v w (inr x) (inl y) = let e = x.0 in inl (omega (arith, ints))
comes_through a b c u v w (inr x) (inr y) = let p = x.1 in let q = y.1 in inr (x.0 ∙ y.0, omega arith)

comes_not : (a : ℤ) (u : ℕ) → Comes a a u u → ⊥
comes_not a u (inl x) = omega (arith, ints)
comes_not a u (inr x) = let p = x.1 in omega arith

never_before_itself : (g : Graph) (u : ℕ) (b : Bool) → b ≡ comes_before g u u → b ≡ false
never_before_itself g u true e = absurd (comes_not (mileage g u) u (comes_tells g u u (sym e)))
never_before_itself g u false e = refl

by_total : (o : Ordering) (a b : ℤ) (u v : ℕ) → MatchOrdering o (a <ℤ b) (a ≡ b) (b <ℤ a) → u ≢ v → Comes a b u v ⊎ Comes b a v u
by_total Less a b u v r ne = inl (inl r)
by_total Equal a b u v r ne = elim (leb_tells u v) [
  | inl le ↦ let z = le.1 in inl (inr (r, omega arith))
  | inr more ↦ let z = more.1 in inr (inr (sym r, omega arith))
]
by_total Greater a b u v r ne = inr (inl r)

-- RANKS
pub rank_below : (g : Graph) (n : ℕ) → n < length g.nodes → west_rank g n < length g.nodes
unfolding west_rank
rank_below g n lt = count_fewer (λ u. comes_before g u n) (length g.nodes) n lt (never_before_itself g n (comes_before g n n) refl)

-- a count over all nodes
pub rank_of_count : (g : Graph) (n u count end : ℕ) → end ≤ u → u ≤ end → end ≡ length g.nodes → count ≡ count_below (λ k. comes_before g k n) u →
    count ≡ west_rank g n
unfolding west_rank
rank_of_count g n u count end from to e h = let z : u ≡ length g.nodes = omega arith in h ∙ ap (count_below (λ k. comes_before g k n)) z

pub rank_rises : (g : Graph) (u v : ℕ) → u < length g.nodes → Comes (mileage g u) (mileage g v) u v → west_rank g u < west_rank g v
unfolding west_rank
rank_rises g u v lt h = count_one_more (λ k. comes_before g k u) (λ k. comes_before g k v) (length g.nodes) u
    (λ k before. comes_says g k v (comes_through (mileage g k) (mileage g u) (mileage g v) k u v (comes_tells g k u before) h))
    lt (never_before_itself g u (comes_before g u u) refl) (comes_says g u v h)

pub rank_once : (g : Graph) (u v : ℕ) → u < length g.nodes → v < length g.nodes → west_rank g u ≡ west_rank g v → u ≡ v
rank_once g u v in_u in_v e = elim (eqb_tells u v) [
  | inl same ↦ same.1
  | inr other ↦ elim (by_total (int_cmp (mileage g u) (mileage g v)) (mileage g u) (mileage g v) u v (int_ranks (mileage g u) (mileage g v)) other.1) [
    | inl before ↦ let less = rank_rises g u v in_u before in absurd (omega arith)
    | inr behind ↦ let less = rank_rises g v u in_v behind in absurd (omega arith)
  ]
]

-- the node at a place, if there is one
pub record IsAtPlace (g : Graph) (k n : ℕ) : Type 0 where
  pub within : n < length g.nodes
  pub place : west_rank g n ≡ k

seek : (g : Graph) (k count : ℕ) → count ≤ length g.nodes → ((n : ℕ) × IsAtPlace g k n) ⊎ ((n : ℕ) → n < count → west_rank g n ≡ k → ⊥)
seek g k zero few = inr (λ n lt e. omega arith)
seek g k (suc count) few = elim (eqb_tells (west_rank g count) k) [
  | inl here ↦ inl (count, record { within = omega arith; place = here.1 })
  | inr other ↦ elim (seek g k count (omega arith)) [
    | inl found ↦ inl found
    | inr none ↦ inr (λ n lt e. elim (eqb_tells n count) [
      | inl same ↦ other.1 (subst (λ j. west_rank g j ≡ k) same.1 e)
      | inr less ↦ let ne = less.1 in none n (omega arith) e
    ])
  ]
]

pub at_place : (g : Graph) (k : ℕ) → ((n : ℕ) × IsAtPlace g k n) ⊎ ((n : ℕ) → n < length g.nodes → west_rank g n ≡ k → ⊥)
at_place g k = seek g k (length g.nodes) (omega arith)
