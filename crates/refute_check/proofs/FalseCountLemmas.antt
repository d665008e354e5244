-- Counts of false literals: as the trail grows and shrinks, and as clauses are added.
use Rattle.std.proofs.Common.{◌≡◌, ◌≢◌, ℕ, ◌+◌, ◌-◌, ◌<◌, ◌≤◌, Bool, true, false, cond, nat_eq, zero, suc, List, [], ◌∷◌, ◌++◌, length, get_or, set, refl}
use Rattle.std.proofs.Common.{sym, ◌∙◌, ap, subst, inl, inr, arith}
use Rattle.std.specs.Prelude.{All, Contains}
use Rattle.std.proofs.lemmas.Bool.Decides.{eqb_tells}
use Rattle.std.proofs.lemmas.List.Elements.{All-weaker, All-nil, All-cons, All-from_get_or}
use Rattle.std.proofs.lemmas.List.Sums.{sum_by-cons, count_by-le-length}
use Rattle.cnf_core.specs.Lit.{Literal, negate, has}
use Rattle.cnf_core.specs.Clause.{Clauses, Avoids, AreDistinct, AllDistinct}
use Rattle.cnf_core.specs.Propagation.{LiteralSet}
use Rattle.cnf_core.proofs.PropagationLemmas.{negate-negate, contains_from_has, has_from_contains, contains_later}
use Rattle.cnf_core.proofs.ClauseLemmas.{distinct_at}
use Rattle.cnf_core.proofs.TrailLemmas.{has_last, has_front, same_literal_or}
use Rattle.plan_core.proofs.TruthFacts.{same_when}
use Rattle.cnf_core.specs.Trail.{weight}
use Rattle.cnf_core.specs.Times.{times}
use Rattle.refute_check.specs.Entries.{is_short, is_counted, places_from}
use Rattle.refute_check.specs.Tables.{CountedUp, IsCounted, false_count, AreCounts}
use Rattle.refute_check.proofs.CountLemmas.{times_at}

abbrev one_at : ℕ → ℕ → ℕ
one_at n m = cond (nat_eq m n) 1 0

pub times_cons : (m : ℕ) (ms : List ℕ) (n : ℕ) → times (m ∷ ms) n ≡ one_at n m + times ms n
times_cons m ms n = refl

one_other : (n m : ℕ) → m ≢ n → one_at n m ≡ 0
one_other n m ne = elim (eqb_tells m n) [ inl e ↦ absurd (ne e.1) | inr e ↦ rw e.0 refl ]

one_same : (n m : ℕ) → m ≡ n → one_at n m ≡ 1
one_same n m e = elim (eqb_tells m n) [ inl h ↦ rw h.0 refl | inr h ↦ absurd (h.1 e) ]

abbrev one_has : List Literal → Literal → ℕ
one_has c l = weight (has c l)

-- the clause is named once where it has the literal and is counted, and else not
abbrev one_counted : List Literal → Literal → ℕ
one_counted c l = weight (is_counted c l)

counted_long : (c : List Literal) (l : Literal) → is_short c ≡ false → is_counted c l ≡ has c l
counted_long c l e = ap (λ b. cond b false (has c l)) e

counted_short : (c : List Literal) (l : Literal) → is_short c ≡ true → is_counted c l ≡ false
counted_short c l e = ap (λ b. cond b false (has c l)) e

times_head : (b : Bool) (m : ℕ) (ms : List ℕ) (n : ℕ) → times (cond b (m ∷ ms) ms) n ≡ cond b (one_at n m) 0 + times ms n
times_head true m ms n = times_cons m ms n
times_head false m ms n = omega arith

cond_none : (b : Bool) (n : ℕ) → n ≡ 0 → cond b n 0 ≡ 0
cond_none true n e = e
cond_none false n e = refl

cond_one : (b : Bool) (n : ℕ) → n ≡ 1 → cond b n 0 ≡ weight b
cond_one true n e = e
cond_one false n e = refl

times_before : (cs : Clauses) (l : Literal) (s n : ℕ) → n < s → times (places_from s cs l) n ≡ 0
times_before [] l s n lt = refl
times_before (c ∷ cs) l s n lt =
    let ne : s ≢ n = omega arith in
    omega (
      arith,
      times_head (is_counted c l) s (places_from (s + 1) cs l) n,
      cond_none (is_counted c l) (one_at n s) (one_other n s ne),
      times_before cs l
          (s + 1) n (omega arith),
    )

times_place : (cs : Clauses) (l : Literal) (s k n : ℕ) → n ≡ s + k → k < length cs → times (places_from s cs l) n ≡ one_counted (get_or cs k []) l
times_place [] l s k n e within = absurd (omega arith)
times_place (c ∷ cs) l s zero n e within =
    let same : s ≡ n = omega arith in
    omega (
      arith,
      times_head (is_counted c l) s (places_from (s + 1) cs l) n,
      cond_one (is_counted c l) (one_at n s) (one_same n s same),
      times_before cs l
          (s + 1) n (omega arith),
    )
times_place (c ∷ cs) l s (suc k) n e within =
    let ne : s ≢ n = omega arith in
    omega (
      arith,
      times_head (is_counted c l) s (places_from (s + 1) cs l) n,
      cond_none (is_counted c l) (one_at n s) (one_other n s ne),
      times_place cs l
          (s + 1) k n (omega arith) (omega arith),
    )

pub times_in : (cs : Clauses) (l : Literal) (n : ℕ) → n < length cs → times (places_from 0 cs l) n ≡ one_counted (get_or cs n []) l
times_in cs l n within = times_place cs l 0 n n (omega arith) within

-- each number is that of a clause
abbrev IsBelow : ℕ → ℕ → Type 0
IsBelow m n = n < m

all_head : (b : Bool) (m s : ℕ) (ms : List ℕ) → s < m → All (IsBelow m) ms → All (IsBelow m) (cond b (s ∷ ms) ms)
all_head true m s ms h all = All-cons (IsBelow m) s ms h all
all_head false m s ms h all = all

places_below : (cs : Clauses) (l : Literal) (s m : ℕ) → s + length cs ≤ m → All (λ n. n < m) (places_from s cs l)
places_below [] l s m le = All-nil (IsBelow m)
places_below (c ∷ cs) l s m le = all_head (is_counted c l) m s (places_from (s + 1) cs l) (omega arith) (places_below cs l (s + 1) m (omega arith))

pub places_there : (cs : Clauses) (l : Literal) → All (λ n. n < length cs) (places_from 0 cs l)
places_there cs l = places_below cs l 0 (length cs) (omega arith)

-- one more literal on the trail
count_cons : (set : LiteralSet) (k : Literal) (c : List Literal) → false_count set (k ∷ c) ≡ weight (set (negate k)) + false_count set c
count_cons set k c = sum_by-cons (λ m. weight (set (negate m))) k c

negated_back : (k l : Literal) → negate k ≡ l → k ≡ negate l
negated_back k l e = sym (negate-negate k) ∙ ap negate e

avoids_lacks : (c : List Literal) (l : Literal) → Avoids l.var c → has c l ≡ false
avoids_lacks [] l h = refl
avoids_lacks (k ∷ c) l h = elim (eqb_tells k.var l.var) [
  | inl e ↦ absurd (h.0 (sym e.1))
  | inr e ↦ rw e.0 (avoids_lacks c l h.1)
]

pub has_cons_same : (k l : Literal) (c : List Literal) → k ≡ l → has (k ∷ c) l ≡ true
has_cons_same k l c e = has_from_contains (k ∷ c) l (0, omega arith, e)

tail_of : (k l : Literal) (c : List Literal) (i : ℕ) → i < length (k ∷ c) → get_or (k ∷ c) i l ≡ l → (k ≡ l → ⊥) → has c l ≡ true
tail_of k l c zero lt e ne = absurd (ne e)
tail_of k l c (suc i) lt e ne = has_from_contains c l (i, omega arith, e)

pub has_cons_other : (k l : Literal) (c : List Literal) → (k ≡ l → ⊥) → has (k ∷ c) l ≡ has c l
has_cons_other k l c ne = same_when (has (k ∷ c) l) (has c l)
    (λ h. let m = contains_from_has (k ∷ c) l h in tail_of k l c m.0 m.1 m.2 ne)
    (λ h. has_from_contains (k ∷ c) l (contains_later k l c (contains_from_has c l h)))

pub false_more : (trail c : List Literal) (l : Literal) → AreDistinct c → has trail l ≡ false →
    false_count (has (trail ++ l ∷ [])) c ≡ false_count (has trail) c + one_has c (negate l)
false_more trail [] l distinct none = refl
false_more trail (k ∷ c) l distinct none =
    let now = count_cons (has (trail ++ l ∷ [])) k c in
    let was = count_cons (has trail) k c in
    let rest = false_more trail c l distinct.1 none in
    elim (same_literal_or (negate k) l) [
      | inl e ↦
          let back : k ≡ negate l = negated_back k l e in
          let a : weight (has (trail ++ l ∷ []) (negate k)) ≡ 1 = ap (λ m. weight (has (trail ++ l ∷ []) m)) e ∙ ap (λ b. weight b) (has_last trail l) in
          let b : weight (has trail (negate k)) ≡ 0 = ap (λ m. weight (has trail m)) e ∙ ap (λ b. weight b) none in
          let h : one_has (k ∷ c) (negate l) ≡ 1 = ap (λ b. weight b) (has_cons_same k (negate l) c back) in
          let g : one_has c (negate l) ≡ 0 = ap (λ b. weight b) (avoids_lacks c (negate l) (subst (λ (m : Literal). Avoids m.var c) back distinct.0)) in
          omega (arith, now, was, rest, a, b, h, g)
      | inr ne ↦
          let a : weight (has (trail ++ l ∷ []) (negate k)) ≡ weight (has trail (negate k)) = ap (λ b. weight b) (has_front trail l (negate k) ne) in
          let h : one_has (k ∷ c) (negate l) ≡ one_has c (negate l) = ap (λ b. weight b)
          (has_cons_other k (negate l) c (λ e. ne (ap negate e ∙ negate-negate l))) in
          omega (arith, now, was, rest, a, h)
    ]

pub false_small : (set : LiteralSet) (clauses : Clauses) (n : ℕ) → false_count set (get_or clauses n []) ≤ length (get_or clauses n [])
false_small set clauses n = count_by-le-length (λ k. set (negate k)) (get_or clauses n [])

-- a clause that is named is counted
named_long : (clauses : Clauses) (l : Literal) (n : ℕ) → n < length clauses → 1 ≤ times (places_from 0 clauses l) n → is_short (get_or clauses n []) ≡ false
named_long clauses l n within some = by_test (is_short (get_or clauses n [])) refl
  where
    by_test : (b : Bool) → is_short (get_or clauses n []) ≡ b → b ≡ false
    by_test true e = let none : one_counted (get_or clauses n []) l ≡ 0 = ap weight (counted_short (get_or clauses n []) l e) in absurd
        (omega (arith, none, some, times_in clauses l n within))
    by_test false e = refl

-- a number of the list is a clause's, which is counted, and stands there once
record IsNamed (clauses : Clauses) (l : Literal) (n : ℕ) : Type 0 where
  within : n < length clauses
  long : is_short (get_or clauses n []) ≡ false
  once : times (places_from 0 clauses l) n ≡ one_has (get_or clauses n []) l

named_at : (clauses : Clauses) (l : Literal) (n : ℕ) → n < length clauses → is_short (get_or clauses n []) ≡ false → IsNamed clauses l n
named_at clauses l n within long = record {
  within = within;
  long = long;
  once = times_in clauses l n within ∙ ap weight (counted_long (get_or clauses n []) l long);
}

all_named : (clauses : Clauses) (l : Literal) → All (IsNamed clauses l) (places_from 0 clauses l)
all_named clauses l = All-from_get_or (IsNamed clauses l) (places_from 0 clauses l) 0 (λ i low.
    let n = get_or (places_from 0 clauses l) i 0 in
    let within : n < length clauses = places_there clauses l i 0 low in
    named_at clauses l n within (named_long clauses l n within (omega (arith, times_at (places_from 0 clauses l) i low))))

pub places_counted : (clauses : Clauses) (l : Literal) → All (IsCounted clauses) (places_from 0 clauses l)
places_counted clauses l =
    All-weaker (IsNamed clauses l) (IsCounted clauses) (λ n h. record { within = h.within; not_short = h.long }) (places_from 0 clauses l)
    (all_named clauses l)

-- what counting down needs and leaves
pub down_enough : (clauses : Clauses) (trail : List Literal) (l : Literal) (counts : List ℕ) → AllDistinct clauses → has trail l ≡ false →
    AreCounts clauses (has trail) counts → All (λ n. times (places_from 0 clauses (negate l)) n ≤ get_or counts n 0) (places_from 0 clauses (negate l))
down_enough clauses trail l counts distinct none right = All-weaker (IsNamed clauses (negate l))
    (λ n. times (places_from 0 clauses (negate l)) n ≤ get_or counts n 0)
    (λ n h. omega (
      arith,
      right.each n h.within h.long,
      h.once,
      false_more trail (get_or clauses n []) l (distinct_at clauses n distinct) none,
      false_small
          (has (trail ++ l ∷ [])) clauses n,
    ))
    (places_from 0 clauses (negate l)) (all_named clauses (negate l))

pub counts_down : (clauses : Clauses) (trail : List Literal) (l : Literal) (old new : List ℕ) → AllDistinct clauses → has trail l ≡ false →
    AreCounts clauses (has trail) old → length new ≡ length old → CountedUp (places_from 0 clauses (negate l)) new old →
    AreCounts clauses (has (trail ++ l ∷ [])) new
counts_down clauses trail l old new distinct none right same up = record {
  size = same ∙ right.size;
  each = λ n within long. let h = named_at clauses (negate l) n within long in omega
      (arith, up n, right.each n within long, h.once, false_more trail (get_or clauses n []) l (distinct_at clauses n distinct) none);
}

-- one less than before is enough where the literal is counted
pub one_taken : (clauses : Clauses) (trail : List Literal) (l : Literal) (counts : List ℕ) (n : ℕ) → AllDistinct clauses → has trail l ≡ false →
    AreCounts clauses (has trail) counts → n < length clauses → is_short (get_or clauses n []) ≡ false → has (get_or clauses n []) (negate l) ≡ true →
    get_or counts n 0 - 1 + false_count (has (trail ++ l ∷ [])) (get_or clauses n []) ≤ length (get_or clauses n [])
one_taken clauses trail l counts n distinct none right within long h =
    let one : one_has (get_or clauses n []) (negate l) ≡ 1 = ap weight h in
    omega (
      arith,
      right.each n within long,
      one,
      false_more trail (get_or clauses n []) l (distinct_at clauses n distinct) none,
      false_small
          (has (trail ++ l ∷ [])) clauses n,
    )

pub named_by : (clauses : Clauses) (l : Literal) (n : ℕ) → n < length clauses → is_short (get_or clauses n []) ≡ false → has (get_or clauses n []) l ≡ true →
    Contains (places_from 0 clauses l) n
named_by clauses l n within long h = named_from clauses l 0 n n (omega arith) within (counted_long (get_or clauses n []) l long ∙ h)
  where
    later : (b : Bool) (m n : ℕ) (ms : List ℕ) → Contains ms n → Contains (cond b (m ∷ ms) ms) n
    later true m n ms h = let lt = h.1 in (suc h.0, omega arith, h.2)
    later false m n ms h = h

    named_from : (cs : Clauses) (l : Literal) (s k n : ℕ) → n ≡ s + k → k < length cs → is_counted (get_or cs k []) l ≡ true → Contains (places_from s cs l) n
    named_from [] l s k n e within h = absurd (omega arith)
    named_from (c ∷ cs) l s zero n e within h = let same : s ≡ n = omega arith in rw h (0, omega arith, same)
    named_from (c ∷ cs) l s (suc k) n e within h = later (is_counted c l) s n (places_from (s + 1) cs l)
        (named_from cs l (s + 1) k n (omega arith) (omega arith) h)
