-- What follows from clauses alone is made true by one of them: a trail is grown until it is closed.
use Rattle.std.proofs.Common.{◌≡◌, ℕ, ◌+◌, ◌<◌, ◌≤◌, ◌⊎◌, Bool, true, false, cond, zero, suc, List, [], ◌∷◌, ◌++◌, length, get_or, refl, sym, ◌∙◌, ap, subst}
use Rattle.std.proofs.Common.{inl, inr, arith}
use Rattle.std.specs.Prelude.{All, Contains}
use Rattle.std.proofs.lemmas.Bool.{both_ways}
use Rattle.std.proofs.lemmas.List.Elements.{All-weaker, All-nil, All-cons, All-head, All-tail, Contains-append_left, Contains-append_right}
use Rattle.cnf_core.specs.Lit.{Literal, negate, has}
use Rattle.cnf_core.specs.Clause.{Clauses}
use Rattle.cnf_core.specs.Propagation.{LiteralSet, IsIn, nothing, IsClosed, Closure, units, Falsifies, Rup}
use Rattle.cnf_core.proofs.PropagationLemmas.{IsForced, forced_follows, closure_without, falsifies_without, rup_without}
use Rattle.cnf_core.proofs.TrailLemmas.{same_literal_or, has_last, has_front, push_keeps}

-- lists
first_of : {X : Type 0} (x : X) (xs : List X) → Contains (x ∷ xs) x
first_of {X} x xs = (0, omega arith, refl)

later_of : {X : Type 0} (x y : X) (xs : List X) → Contains xs y → Contains (x ∷ xs) y
later_of {X} x y xs h = let lt = h.1 in (suc h.0, omega arith, h.2)

either_of : {X : Type 0} (x y : X) (xs : List X) → Contains (x ∷ xs) y → (x ≡ y) ⊎ Contains xs y
either_of {X} x y xs h = by_place h.0 h.1 h.2
  where
    by_place : (k : ℕ) → k < length (x ∷ xs) → get_or (x ∷ xs) k y ≡ y → (x ≡ y) ⊎ Contains xs y
    by_place zero lt e = inl e
    by_place (suc k) lt e = inr (k, omega arith, e)

-- the negation of each other literal of the clause is in the set, or not
abbrev IsOther : LiteralSet → Literal → Literal → Type 0
IsOther set l k = (k ≡ l) ⊎ IsIn set (negate k)

other_or : (set : LiteralSet) (l k : Literal) → IsOther set l k ⊎ (IsOther set l k → ⊥)
other_or set l k = elim (same_literal_or k l) [
  | inl e ↦ inl (inl e)
  | inr ne ↦ elim (set (negate k)) as (λ b. set (negate k) ≡ b → IsOther set l k ⊎ (IsOther set l k → ⊥)) [
    | true ↦ λ t. inl (inr t)
    | false ↦ λ f. inr (λ h. elim h [ inl e ↦ ne e | inr t ↦ both_ways (set (negate k)) f t ])
  ] refl
]

others_or : (set : LiteralSet) (l : Literal) (c : List Literal) → All (IsOther set l) c ⊎ (All (IsOther set l) c → ⊥)
others_or set l [] = inl (All-nil (IsOther set l))
others_or set l (k ∷ c) = elim (other_or set l k) [
  | inl h ↦ elim (others_or set l c) [
    | inl all ↦ inl (All-cons (IsOther set l) k c h all)
    | inr never ↦ inr (λ all. never (All-tail (IsOther set l) k c all))
  ]
  | inr never ↦ inr (λ all. never (All-head (IsOther set l) k c all))
]

-- a literal that the clause makes true, and the set lacks
record Missed (set : LiteralSet) (c among : List Literal) : Type 0 where
  lit : Literal
  inside : Contains among lit
  others : All (IsOther set lit) c
  lacks : set lit ≡ false

look_in : (set : LiteralSet) (c ds : List Literal) → Missed set c ds ⊎ ((l : Literal) → Contains ds l → All (IsOther set l) c → IsIn set l)
look_in set c [] = inr (λ l h all. let lt = h.1 in absurd (omega arith))
look_in set c (d ∷ ds) = elim (look_in set c ds) [
  | inl m ↦ inl (record { lit = m.lit; inside = later_of d m.lit ds m.inside; others = m.others; lacks = m.lacks })
  | inr rest ↦ elim (set d) as (λ b. set d ≡ b → Missed set c (d ∷ ds) ⊎ ((l : Literal) → Contains (d ∷ ds) l → All (IsOther set l) c → IsIn set l)) [
    | true ↦ λ t. inr (λ l h all. elim (either_of d l ds h) [ inl e ↦ subst (IsIn set) e t | inr m ↦ rest l m all ])
    | false ↦ λ f. elim (others_or set d c) [
      | inl all ↦ inl (record { lit = d; inside = first_of d ds; others = all; lacks = f })
      | inr never ↦ inr (λ l h all. elim (either_of d l ds h) [
        | inl e ↦ absurd (never (subst (λ (k : Literal). All (IsOther set k) c) (sym e) all))
        | inr m ↦
            rest l m all
      ])
    ]
  ] refl
]

record MissedBy (set : LiteralSet) (clauses : Clauses) : Type 0 where
  clause : List Literal
  among : Contains clauses clause
  missed : Missed set clause clause

look_at_all : (set : LiteralSet) (clauses : Clauses) → MissedBy set clauses ⊎ IsClosed clauses set
look_at_all set [] = inr (λ c among l unit. let lt = among.1 in absurd (omega arith))
look_at_all set (c ∷ cs) = elim (look_in set c c) [
  | inl m ↦ inl (record { clause = c; among = first_of c cs; missed = m })
  | inr all ↦ elim (look_at_all set cs) [
    | inl m ↦ inl (record { clause = m.clause; among = later_of c m.clause cs m.among; missed = m.missed })
    | inr closed ↦ inr (λ d among l unit. elim (either_of c d cs among) [
      | inl e ↦ all l (subst (λ (x : List Literal). Contains x l) (sym e) unit.among) (subst (All (IsOther set l)) (sym e) unit.others)
      | inr m ↦ closed d m l unit
    ])
  ]
]

-- how many of the literals the set lacks
abbrev one_lacking : Bool → ℕ
one_lacking b = cond b 0 1

abbrev missing : LiteralSet → List Literal → ℕ
missing set [] = 0
missing set (k ∷ ks) = one_lacking (set k) + missing set ks

lacks_less : (a b : Bool) → (a ≡ true → b ≡ true) → one_lacking b ≤ one_lacking a
lacks_less true true h = omega arith
lacks_less true false h = absurd (both_ways false refl (h refl))
lacks_less false true h = omega arith
lacks_less false false h = omega arith

missing_less : (trail : List Literal) (l : Literal) (ks : List Literal) → missing (has (trail ++ l ∷ [])) ks ≤ missing (has trail) ks
missing_less trail l [] = omega arith
missing_less trail l (k ∷ ks) = omega (arith, lacks_less (has trail k) (has (trail ++ l ∷ []) k) (push_keeps trail l k), missing_less trail l ks)

missing_one : (trail : List Literal) (l : Literal) (ks : List Literal) → Contains ks l → has trail l ≡ false →
    missing (has (trail ++ l ∷ [])) ks + 1 ≤ missing (has trail) ks
missing_one trail l [] h f = let lt = h.1 in absurd (omega arith)
missing_one trail l (k ∷ ks) h f = elim (either_of k l ks h) [
  | inl e ↦
      let now : one_lacking (has (trail ++ l ∷ []) k) ≡ 0 = ap one_lacking (ap (has (trail ++ l ∷ [])) e ∙ has_last trail l) in
      let was : one_lacking (has trail k) ≡ 1 = ap one_lacking (ap (has trail) e ∙ f) in
      omega (arith, now, was, missing_less trail l ks)
  | inr m ↦ omega (arith, lacks_less (has trail k) (has (trail ++ l ∷ []) k) (push_keeps trail l k), missing_one trail l ks m f)
]

-- the literals of all clauses
abbrev literals_of : Clauses → List Literal
literals_of [] = []
literals_of (c ∷ cs) = c ++ literals_of cs

among_literals : (clauses : Clauses) (c : List Literal) (l : Literal) → Contains clauses c → Contains c l → Contains (literals_of clauses) l
among_literals [] c l among inside = let lt = among.1 in absurd (omega arith)
among_literals (d ∷ cs) c l among inside = elim (either_of d c cs among) [
  | inl e ↦ Contains-append_left d (literals_of cs) l (subst (λ (x : List Literal). Contains x l) (sym e) inside)
  | inr m ↦ Contains-append_right d (literals_of cs) l (among_literals cs c l m inside)
]

-- a closed trail, each of whose literals some clause makes true
record Saturated (clauses : Clauses) : Type 0 where
  trail : List Literal
  closed : IsClosed clauses (has trail)
  forced : (l : Literal) → IsIn (has trail) l → IsForced clauses l

forced_push : (clauses : Clauses) (trail : List Literal) → ((l : Literal) → IsIn (has trail) l → IsForced clauses l) → (m : MissedBy (has trail) clauses) →
    (l : Literal) → IsIn (has (trail ++ m.missed.lit ∷ [])) l → IsForced clauses l
forced_push clauses trail forced m l h =
    let x : Missed (has trail) m.clause m.clause = m.missed in
    elim (same_literal_or l x.lit) [
      | inl e ↦ subst (IsForced clauses) (sym e) (record {
        clause = m.clause;
        among = m.among;
        inside = x.inside;
        others = All-weaker (IsOther (has trail) x.lit) (λ k. (k ≡ x.lit) ⊎ Closure clauses nothing (negate k))
            (λ k o. elim o [ inl same ↦ inl same | inr f ↦ inr (forced_follows clauses nothing (negate k) (forced (negate k) f)) ]) m.clause x.others;
      })
      | inr ne ↦ forced l (sym (has_front trail x.lit l ne) ∙ h)
    ]

saturate : (n : ℕ) (clauses : Clauses) (trail : List Literal) → missing (has trail) (literals_of clauses) ≤ n →
    ((l : Literal) → IsIn (has trail) l → IsForced clauses l) → Saturated clauses
saturate zero clauses trail few forced = elim (look_at_all (has trail) clauses) [
  | inl m ↦ let x = m.missed in absurd (omega (
    arith,
    few,
    missing_one trail x.lit (literals_of clauses)
        (among_literals clauses m.clause x.lit m.among x.inside) x.lacks,
  ))
  | inr closed ↦ record { trail = trail; closed = closed; forced = forced }
]
saturate (suc n) clauses trail few forced = elim (look_at_all (has trail) clauses) [
  | inl m ↦
      let x = m.missed in
      saturate n clauses (trail ++ x.lit ∷ []) (omega (
        arith,
        few,
        missing_one trail x.lit (literals_of clauses)
            (among_literals clauses m.clause x.lit m.among x.inside) x.lacks,
      ))
      (forced_push clauses trail forced m)
  | inr closed ↦ record { trail = trail; closed = closed; forced = forced }
]

-- so what follows from the clauses alone is forced, and adds nothing
pub forced_by_closure : (clauses : Clauses) (l : Literal) → Closure clauses nothing l → IsForced clauses l
forced_by_closure clauses l h =
    let s = saturate (missing (has []) (literals_of clauses)) clauses [] (omega arith) (λ k m. cc) in
    s.forced l (h (has s.trail) s.closed (λ k m. cc))

all_forced : (clauses : Clauses) (ls : List Literal) → All (Closure clauses nothing) ls → All (IsForced clauses) ls
all_forced clauses ls all = All-weaker (Closure clauses nothing) (IsForced clauses) (forced_by_closure clauses) ls all

pub closure_without_known : (clauses : Clauses) (ls : List Literal) (start : LiteralSet) (l : Literal) → All (Closure clauses nothing) ls →
    Closure (clauses ++ units ls) start l → Closure clauses start l
closure_without_known clauses ls start l all h = closure_without clauses ls start l (all_forced clauses ls all) h

pub falsifies_without_known : (clauses : Clauses) (ls : List Literal) (start : LiteralSet) → All (Closure clauses nothing) ls →
    Falsifies (clauses ++ units ls) start → Falsifies clauses start
falsifies_without_known clauses ls start all h = falsifies_without clauses ls start (all_forced clauses ls all) h

pub rup_without_known : (clauses : Clauses) (ls c : List Literal) → All (Closure clauses nothing) ls → Rup (clauses ++ units ls) c → Rup clauses c
rup_without_known clauses ls c all h = rup_without clauses ls c (all_forced clauses ls all) h
