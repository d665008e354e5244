-- Counts by number, and the numbers of the clauses that have a literal.
use Rattle.std.proofs.Common.{◌≡◌, ◌≢◌, ℕ, ◌+◌, ◌-◌, ◌<◌, ◌≤◌, cond, nat_eq, List, [], ◌∷◌, length, take, get_or, set, refl, sym, ap, arith, inl, inr}
use Rattle.std.proofs.lemmas.Bool.Decides.{eqb_tells}
use Rattle.std.proofs.lemmas.List.{get_or-set_other}
use Rattle.std.proofs.lemmas.Grind.{get_or-set_at}
use Rattle.std.proofs.lemmas.List.Sums.{sum_by-cons, sum_by_more, sum_by_more_le}
use Rattle.std.specs.List.{sum_by}
use Rattle.cnf_core.specs.Times.{times}
use Rattle.refute_check.specs.Tables.{CountedUp}

abbrev one_at : ℕ → ℕ → ℕ
one_at n m = cond (nat_eq m n) 1 0

times_sum : (ns : List ℕ) (n : ℕ) → times ns n ≡ sum_by (one_at n) ns
times_sum [] n = refl
times_sum (m ∷ ms) n = omega (arith, sum_by-cons (one_at n) m ms, times_sum ms n)

times_more : (ns : List ℕ) (i m : ℕ) → i < length ns → times (take (i + 1) ns) m ≡ times (take i ns) m + one_at m (get_or ns i 0)
times_more ns i m within = omega (arith, sum_by_more (one_at m) ns i 0 within, times_sum (take (i + 1) ns) m, times_sum (take i ns) m)

pub times_at : (ns : List ℕ) (i : ℕ) → i < length ns → times (take i ns) (get_or ns i 0) + 1 ≤ times ns (get_or ns i 0)
times_at ns i within =
    let it = get_or ns i 0 in
    elim (eqb_tells it it) [
      | inl e ↦ let one : one_at it it ≡ 1 = rw e.0 refl in omega (
        arith,
        sum_by_more_le (one_at it) ns i 0 within,
        times_sum (take i ns) it,
        times_sum ns it,
        one,
      )
      | inr e ↦ absurd (e.1 refl)
    ]

-- one more
pub counted_more : (ns old now : List ℕ) (i : ℕ) → i < length ns → get_or ns i 0 < length now → CountedUp (take i ns) old now →
    CountedUp (take (i + 1) ns) old (set now (get_or ns i 0) (get_or now (get_or ns i 0) 0 + 1))
counted_more ns old now i within there up = λ m. elim (eqb_tells (get_or ns i 0) m) [
  | inl e ↦
      let one : one_at m (get_or ns i 0) ≡ 1 = rw e.0 refl in
      let same : m ≡ get_or ns i 0 = sym e.1 in
      let at = get_or-set_at now (get_or ns i 0) m (get_or now (get_or ns i 0) 0 + 1) 0 same there in
      let was : get_or now (get_or ns i 0) 0 ≡ get_or now m 0 = ap (λ k. get_or now k 0) e.1 in
      omega (arith, at, was, up m, times_more ns i m within, one)
  | inr e ↦
      let one : one_at m (get_or ns i 0) ≡ 0 = rw e.0 refl in
      let ne : m ≢ get_or ns i 0 = λ h. e.1 (sym h) in
      let at = get_or-set_other now (get_or ns i 0) m (get_or now (get_or ns i 0) 0 + 1) 0 ne in
      omega (arith, at, up m, times_more ns i m within, one)
]

-- one less
pub counted_less : (ns old now : List ℕ) (i : ℕ) → i < length ns → get_or ns i 0 < length now → 1 ≤ get_or now (get_or ns i 0) 0 →
    CountedUp (take i ns) now old → CountedUp (take (i + 1) ns) (set now (get_or ns i 0) (get_or now (get_or ns i 0) 0 - 1)) old
counted_less ns old now i within there some up = λ m. elim (eqb_tells (get_or ns i 0) m) [
  | inl e ↦
      let one : one_at m (get_or ns i 0) ≡ 1 = rw e.0 refl in
      let same : m ≡ get_or ns i 0 = sym e.1 in
      let at = get_or-set_at now (get_or ns i 0) m (get_or now (get_or ns i 0) 0 - 1) 0 same there in
      let was : get_or now (get_or ns i 0) 0 ≡ get_or now m 0 = ap (λ k. get_or now k 0) e.1 in
      omega (arith, at, was, up m, times_more ns i m within, one)
  | inr e ↦
      let one : one_at m (get_or ns i 0) ≡ 0 = rw e.0 refl in
      let ne : m ≢ get_or ns i 0 = λ h. e.1 (sym h) in
      let at = get_or-set_other now (get_or ns i 0) m (get_or now (get_or ns i 0) 0 - 1) 0 ne in
      omega (arith, at, up m, times_more ns i m within, one)
]

-- while counting down, there is something to take
pub some_left : (ns old now : List ℕ) (i : ℕ) → i < length ns → times ns (get_or ns i 0) ≤ get_or old (get_or ns i 0) 0 → CountedUp (take i ns) now old →
    1 ≤ get_or now (get_or ns i 0) 0
some_left ns old now i within enough up = omega (arith, times_at ns i within, up (get_or ns i 0))

-- what is left then is at least one less than what was there
pub one_less : (ns old now : List ℕ) (i : ℕ) → CountedUp (take i ns) now old → get_or now (get_or ns i 0) 0 - 1 ≤ get_or old (get_or ns i 0) 0 - 1
one_less ns old now i up = omega (arith, up (get_or ns i 0))
