-- Entries that come to a row and go from it, and how many a row can have.
use Rattle.std.proofs.Common.{◌≡◌, ◌≢◌, ℕ, zero, suc, ◌+◌, ◌-◌, ◌<◌, ◌≤◌, ◌⊎◌, Bool, true, false, cond, eqb, List, [], ◌∷◌, ◌++◌, length, take, get_or, set}
use Rattle.std.proofs.Common.{map}
use Rattle.std.proofs.Common.{refl, sym, ◌∙◌, ap, subst, inl, inr, arith, length-set, length-take-le}
use Rattle.std.specs.Prelude.{Contains, nat_eq}
use Rattle.std.specs.List.{count_by, sum_by, filter, IsDistinct}
use Rattle.std.proofs.lemmas.Bool.{cases_lt, cases_eq, false_from_ne_true, eqb-true}
use Rattle.std.proofs.lemmas.Bool.Decides.{eqb_tells}
use Rattle.std.proofs.lemmas.Cmp.{nat_eq_equiv}
use Rattle.std.proofs.lemmas.List.{get_or-take, get_or-map, get_or-set_same, get_or-set_other, get_or_append_left, get_or_push, get_or_default, length-map}
use Rattle.std.proofs.lemmas.List.{length_push}
use Rattle.std.proofs.lemmas.List.Elements.{Contains-get_or}
use Rattle.std.proofs.lemmas.List.Sums.{sum_by-cons, sum_by_push, sum_by-set, sum_by_more_le, get_or-le-sum_by, sum_by-swap_remove, length-filter}
use Rattle.std.proofs.lemmas.Map.Keys.{IsDistinct-from_apart}
use Rattle.std.proofs.lemmas.Map.Made.{length-le_from_is_member}
use Rattle.std.proofs.lemmas.Map.Views.{Contains-from_any, list_any-from_Contains}
use Rattle.cnf_core.specs.Lit.{Literal}
use Rattle.watch_arena.specs.declared.rows.Entry.{Entry}
use Rattle.watch_arena.specs.Rows.{no_entry, entry_at, fronted, without, with_other}
use Rattle.watch_arena.specs.Filed.{place_at, entries_for}

-- 1 for an entry of the clause at a place, else 0
abbrev pub weigh : ℕ → Entry → ℕ
weigh p e = cond (nat_eq e.clause.0 p) 1 0

pub weigh_here : (p : ℕ) (e : Entry) → e.clause.0 ≡ p → weigh p e ≡ 1
weigh_here p e is = elim (eqb_tells e.clause.0 p) [ inl a ↦ ap (λ b. cond b 1 0) a.0 | inr a ↦ absurd (a.1 is) ]

pub weigh_other : (p : ℕ) (e : Entry) → e.clause.0 ≢ p → weigh p e ≡ 0
weigh_other p e ne = elim (eqb_tells e.clause.0 p) [ inl a ↦ absurd (ne a.1) | inr a ↦ ap (λ b. cond b 1 0) a.0 ]

-- a row that has one has it at a place
pub entry_from : (row : List Entry) (p : ℕ) → 1 ≤ entries_for row p → (k : ℕ) × (k < length row) × (place_at row k ≡ p)
entry_from [] p h = absurd (omega arith)
entry_from (e ∷ row) p h = elim (cases_eq e.clause.0 p) [
  | inl is ↦ (0, omega arith, is)
  | inr ne ↦ let x = entry_from row p (omega (arith, sum_by-cons (weigh p) e row, weigh_other p e ne)) in let lt = x.1 in (suc x.0, omega arith, x.2)
]

pub entry_one : (row : List Entry) (k p : ℕ) → k < length row → place_at row k ≡ p → 1 ≤ entries_for row p
entry_one row k p lt is = omega (arith, get_or-le-sum_by (weigh p) row k no_entry lt, weigh_here p (entry_at row k) is)

-- two entries of one clause count twice
pub entry_twice : (row : List Entry) (j k p : ℕ) → j < k → k < length row → place_at row j ≡ p → place_at row k ≡ p → 2 ≤ entries_for row p
entry_twice row j k p lt below first second =
    let size = length-take-le k row (omega arith) in
    let front : weigh p (get_or (take k row) j no_entry) ≤ sum_by (weigh p) (take k row) = get_or-le-sum_by (weigh p) (take k row) j no_entry (omega arith) in
    let same : weigh p (get_or (take k row) j no_entry) ≡ weigh p (entry_at row j) = ap (weigh p) (get_or-take k row j no_entry lt) in
    omega (arith, sum_by_more_le (weigh p) row k no_entry below, weigh_here p (entry_at row j) first, weigh_here p (entry_at row k) second)

-- a row came from another one and one further entry
pub record IsMore (old new : List Entry) (e : Entry) : Type 0 where
  pub came : (k : ℕ) → k < length new → (entry_at new k ≡ e) ⊎ ((j : ℕ) × (j < length old) × (entry_at new k ≡ entry_at old j))
  pub times : (p : ℕ) → entries_for new p ≡ entries_for old p + weigh p e

pub more_pushed : (row : List Entry) (e : Entry) → IsMore row (row ++ e ∷ []) e
more_pushed row e = record {
  came = λ k below.
      let size = length_push row e in
      elim (cases_lt k (length row)) [
        | inl lt ↦ inr (k, lt, get_or_append_left row (e ∷ []) no_entry k lt)
        | inr ge ↦ inl (get_or_push row e no_entry k (omega arith))
      ];
  times = λ p. sum_by_push (weigh p) row e;
}

module _ (row : List Entry) (n : ℕ) (e : Entry) (le : n ≤ length row) where
  abbrev first : Entry
  first = get_or row n e

  first_there : get_or (row ++ first ∷ []) n first ≡ first
  first_there = elim (cases_lt n (length row)) [
    | inl lt ↦ get_or_append_left row (first ∷ []) first n lt ∙ get_or_default row n first e lt
    | inr ge ↦ get_or_push row first first n (omega arith)
  ]

  pub more_fronted : IsMore row (fronted row n e) e
  more_fronted = record {
    came = λ k below.
        let size = length_push row first in
        let same = length-set (row ++ first ∷ []) n e in
        elim (cases_eq k n) [
          | inl is ↦ inl (ap (λ i. get_or (fronted row n e) i no_entry) is ∙ get_or-set_same (row ++ first ∷ []) n e no_entry (omega arith))
          | inr ne ↦ inr (elim (cases_lt k (length row)) [
            | inl lt ↦ (k, lt, get_or-set_other (row ++ first ∷ []) n k e no_entry ne ∙ get_or_append_left row (first ∷ []) no_entry k lt)
            | inr ge ↦
                let low : n < length row = omega arith in (
                  n,
                  low,
                  get_or-set_other (row ++ first ∷ []) n k e no_entry ne ∙ get_or_push row first no_entry k (omega arith)
                      ∙ get_or_default row n e no_entry low,
                )
          ])
        ];
    times = λ p.
        let size = length_push row first in
        let there : weigh p (get_or (row ++ first ∷ []) n first) ≡ weigh p first = ap (weigh p) first_there in
        omega (arith, sum_by-set (weigh p) (row ++ first ∷ []) n e first (omega arith), sum_by_push (weigh p) row first);
  }

-- a row came from another one, without one entry
pub record IsLess (old new : List Entry) (e : Entry) : Type 0 where
  pub came : (k : ℕ) → k < length new → (j : ℕ) × (j < length old) × (entry_at new k ≡ entry_at old j)
  pub times : (p : ℕ) → entries_for new p + weigh p e ≡ entries_for old p

module _ (row : List Entry) (i : ℕ) (below : i < length row) where
  abbrev last : Entry
  last = get_or row (length row - 1) no_entry

  pub without_length : length (without row i) ≡ length row - 1
  without_length = let same = length-set row i last in length-take-le (length row - 1) (set row i last) (omega arith)

  pub without_here : i < length row - 1 → entry_at (without row i) i ≡ entry_at row (length row - 1)
  without_here lt = get_or-take (length row - 1) (set row i last) i no_entry lt ∙ get_or-set_same row i last no_entry below

  pub without_other : (k : ℕ) → k < length row - 1 → k ≢ i → entry_at (without row i) k ≡ entry_at row k
  without_other k lt ne = get_or-take (length row - 1) (set row i last) k no_entry lt ∙ get_or-set_other row i k last no_entry ne

  pub less_without : IsLess row (without row i) (entry_at row i)
  less_without = record {
    came = λ k lt.
        let size = without_length in
        elim (cases_eq k i) [
          | inl is ↦ (length row - 1, omega arith, ap (λ n. entry_at (without row i) n) is ∙ without_here (omega arith))
          | inr ne ↦ (k, omega arith, without_other k (omega arith) ne)
        ];
    times = λ p. sum_by-swap_remove (weigh p) row i no_entry below;
  }

-- an entry has another literal of its clause
module _ (row : List Entry) (i : ℕ) (l : Literal) (below : i < length row) where
  abbrev changed : Entry
  changed = record { other = l; clause = (entry_at row i).clause }

  pub other_length : length (with_other row i l) ≡ length row
  other_length = length-set row i changed

  pub other_here : entry_at (with_other row i l) i ≡ changed
  other_here = get_or-set_same row i changed no_entry below

  pub other_rest : (k : ℕ) → k ≢ i → entry_at (with_other row i l) k ≡ entry_at row k
  other_rest k ne = get_or-set_other row i k changed no_entry ne

  pub other_place : (k : ℕ) → place_at (with_other row i l) k ≡ place_at row k
  other_place k = elim (cases_eq k i) [
    | inl e ↦ ap (λ n. place_at (with_other row i l) n) e ∙ ap (λ (x : Entry). x.clause.0) other_here ∙ ap (place_at row) (sym e)
    | inr ne ↦ ap (λ (x : Entry). x.clause.0) (other_rest k ne)
  ]

  pub other_times : (p : ℕ) → entries_for (with_other row i l) p ≡ entries_for row p
  other_times p =
      let same : weigh p changed ≡ weigh p (entry_at row i) = refl in
      omega (arith, sum_by-set (weigh p) row i changed no_entry below)

-- entries of clauses that pass a test, no two of one clause, are no more than those clauses
filter_step : (f : ℕ → Bool) (q : ℕ) (ps : List ℕ) (p : ℕ) → f p ≡ true → (Contains ps p → Contains (filter f ps) p) → (k : ℕ) → k < length (q ∷ ps) →
    get_or (q ∷ ps) k p ≡ p → Contains (filter f (q ∷ ps)) p
filter_step f q ps p t rest zero lt e = subst (λ b. Contains (cond b (q ∷ filter f ps) (filter f ps)) p) (sym (ap f e ∙ t)) (0, omega arith, e)
filter_step f q ps p t rest (suc k) lt e = behind (rest (k, omega arith, e)) (f q) refl
  where
    behind : Contains (filter f ps) p → (b : Bool) → f q ≡ b → Contains (filter f (q ∷ ps)) p
    behind h true is = subst (λ b. Contains (cond b (q ∷ filter f ps) (filter f ps)) p) (sym is) (let lt = h.1 in (suc h.0, omega arith, h.2))
    behind h false is = subst (λ b. Contains (cond b (q ∷ filter f ps) (filter f ps)) p) (sym is) h

filter_in : (f : ℕ → Bool) (ps : List ℕ) (p : ℕ) → Contains ps p → f p ≡ true → Contains (filter f ps) p
filter_in f [] p c t = let lt = c.1 in absurd (omega arith)
filter_in f (q ∷ ps) p c t = filter_step f q ps p t (λ h. filter_in f ps p h t) c.0 c.1 c.2

pub room_for : (row : List Entry) (ps : List ℕ) (f : ℕ → Bool) →
    ((k : ℕ) → k < length row → Contains ps (place_at row k) × (f (place_at row k) ≡ true)) →
    ((j k : ℕ) → j < k → k < length row → place_at row j ≢ place_at row k) → length row ≤ count_by f ps
room_for row ps f among apart =
    let size = length-map row (λ (e : Entry). e.clause.0) in
    let le = length-le_from_is_member nat_eq_equiv places (filter f ps) distinct (λ q h. list_any-from_Contains nat_eq_equiv q (filter f ps)
    (passes q (Contains-from_any eqb-true q places h))) in
    omega (arith, length-filter f ps)
  where
    places : List ℕ
    places = map (λ (e : Entry). e.clause.0) row

    place_is : (k d : ℕ) → k < length row → get_or places k d ≡ place_at row k
    place_is k d lt = get_or-map (λ (e : Entry). e.clause.0) row k no_entry d lt

    distinct : IsDistinct eqb places
    distinct = IsDistinct-from_apart eqb places (λ j k d lt below.
        let size = length-map row (λ (e : Entry). e.clause.0) in
        false_from_ne_true (eqb (get_or places j d) (get_or places k d)) (λ t. apart j k lt (omega arith)
        (sym (place_is j d (omega arith)) ∙ eqb-true (get_or places j d) (get_or places k d) t ∙ place_is k d (omega arith))))

    passes : (q : ℕ) → Contains places q → Contains (filter f ps) q
    passes q c =
        let size = length-map row (λ (e : Entry). e.clause.0) in
        let lt = c.1 in
        let is : place_at row c.0 ≡ q = sym (place_is c.0 q (omega arith)) ∙ c.2 in
        let x = among c.0 (omega arith) in
        filter_in f ps q (subst (Contains ps) is x.0) (sym (ap f is) ∙ x.1)
