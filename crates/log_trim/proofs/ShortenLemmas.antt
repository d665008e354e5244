-- Lines with new numbers for their hints.
use Rattle.std.proofs.Common.{◌≡◌, ℕ, ◌+◌, ◌<◌, ◌≤◌, Bool, true, false, zero, suc, List, [], ◌∷◌, ◌++◌, length, get_or, map, refl, sym, ◌∙◌, ap, subst, inl}
use Rattle.std.proofs.Common.{inr, arith, length-append}
use Rattle.std.specs.Prelude.{All, Contains}
use Rattle.std.proofs.lemmas.Bool.{both_ways, cases_lt}
use Rattle.std.proofs.lemmas.List.{map-append, get_or_append_left, get_or_past, get_or_push}
use Rattle.std.proofs.lemmas.List.Elements.{All-nil, All-cons, All-push, All-contains, All-head, All-tail, All-weaker, Contains-push}
use Rattle.plan_core.proofs.Listing.{Contains-map}
use Rattle.cnf_core.specs.Lit.{Literal, negate, has}
use Rattle.cnf_core.specs.Clause.{Clauses}
use Rattle.hint_log.specs.declared.hint_line.HintLine.TheVariants.{Learnt, Refuted}
use Rattle.hint_log.specs.Hint.{numbered, NamesClause, left_of, Leads, IsGoodHint}
use Rattle.hint_log.specs.HintedLines.{HintLines}
use Rattle.log_trim.specs.Trimmed.{IsInNamed, AreLean}
use Rattle.log_trim.specs.Shortened.{is_used, AllUsed, NamesLater, MarksUsed, new_number_in}
use Rattle.log_trim.proofs.FinderLemmas.{numbered_front}

-- clauses by number
pub numbered_at : (cs : Clauses) (n k : ℕ) → n ≡ k + 1 → numbered cs n ≡ get_or cs k []
numbered_at cs zero k e = absurd (omega (arith, e))
numbered_at cs (suc n) k e = ap (λ m. get_or cs m []) (omega (arith, e))

pub numbered_last : (cs : Clauses) (c : List Literal) (n : ℕ) → n ≡ length cs + 1 → numbered (cs ++ c ∷ []) n ≡ c
numbered_last cs c n e = numbered_at (cs ++ c ∷ []) n (length cs) e ∙ get_or_push cs c [] (length cs) refl

-- a number whose clause has a literal is that of a clause
named_valid : (cs : Clauses) (n : ℕ) (l : Literal) → Contains (numbered cs n) l → NamesClause cs n
named_valid cs zero l h = absurd (let lt = h.1 in omega (arith, lt))
named_valid cs (suc n) l h = elim (cases_lt n (length cs)) [
  | inl lt ↦ record { from = omega arith; to = omega (arith, lt) }
  | inr ge ↦
      let none : numbered cs (suc n) ≡ [] = get_or_past cs n [] ge in
      absurd (let lt = h.1 in let size = ap (λ (c : List Literal). length c) none in omega (arith, lt, size))
]

-- the new number of each clause that is used is that of the same clause
abbrev pub IsRenumbering : List Bool → Clauses → Clauses → (ℕ → ℕ) → Type 0
IsRenumbering used old new number = (m : ℕ) → NamesClause old m → is_used used m ≡ true → NamesClause new (number m)
    × (numbered new (number m) ≡ numbered old m)

abbrev IsUsed : List Bool → ℕ → Type 0
IsUsed used n = is_used used n ≡ true

-- renumbered hints show what they showed
module _ (used : List Bool) (old new : Clauses) (number : ℕ → ℕ) (same : IsRenumbering used old new number) where
  leads_renumbered : (set : List Literal) (ns : List ℕ) (to : List Literal) → AllUsed used ns → Leads old set ns to → Leads new set (map number ns) to
  leads_renumbered set [] to all h = h
  leads_renumbered set (n ∷ ns) to all h =
      let one = h.1 in
      let r = same n one.number (All-head (IsUsed used) n ns all) in
      (h.0, record { number = r.0; one = ap (left_of (has set)) r.1 ∙ one.one }, leads_renumbered (set ++ h.0 ∷ []) ns to (All-tail (IsUsed used) n ns all) h.2)

  all_front : (front : List ℕ) (last : ℕ) → AllUsed used (front ++ last ∷ []) → AllUsed used front
  all_front front last all = λ k d lt. subst (IsUsed used) (get_or_append_left front (last ∷ []) d k lt)
      (all k d (omega (arith, lt, length-append front (last ∷ []))))

  pub good_renumbered : (lits : List Literal) (hints : List ℕ) → AllUsed used hints → IsGoodHint old lits hints → IsGoodHint new lits (map number hints)
  good_renumbered lits hints all s =
      let parts : AllUsed used (s.front ++ s.last ∷ []) = subst (λ (ns : List ℕ). AllUsed used ns) s.are all in
      let none = s.none in
      let r = same s.last none.number (All-contains (IsUsed used) (s.front ++ s.last ∷ []) s.last parts (Contains-push s.front s.last)) in
      record {
        front = map number s.front;
        last = number s.last;
        are = ap (map number) s.are ∙ map-append number s.front (s.last ∷ []);
        to = s.to;
        leads = leads_renumbered (map negate lits) s.front s.to (all_front s.front s.last parts) s.leads;
        none = record { number = r.0; none = ap (left_of (has s.to)) r.1 ∙ none.none };
      }

  -- so do the clauses that have a literal
  named_renumbered : (l : Literal) (ns : List ℕ) → AllUsed used ns → IsInNamed old l ns → IsInNamed new l (map number ns)
  named_renumbered l ns all h =
      let there : Contains ns h.1 = (h.0, h.2, h.3) in
      let r = same h.1 (named_valid old h.1 l h.4) (All-contains (IsUsed used) ns h.1 all there) in
      let at = Contains-map number ns h.1 there in
      (at.0, number h.1, at.1, at.2, subst (λ (c : List Literal). Contains c l) (sym r.1) h.4)

  pub lean_renumbered : (set : List Literal) (ns : List ℕ) → AllUsed used ns → AreLean old set ns → AreLean new set (map number ns)
  lean_renumbered set [] all h = tt
  lean_renumbered set (n ∷ []) all h = tt
  lean_renumbered set (n ∷ m ∷ ns) all h =
      let one = h.1 in
      let r = same n one.number (All-head (IsUsed used) n (m ∷ ns) all) in
      let rest = All-tail (IsUsed used) n (m ∷ ns) all in (
        h.0,
        record {
          number = r.0;
          one = ap (left_of (has set)) r.1 ∙ one.one;
        },
        h.2,
        named_renumbered (negate h.0) (m ∷ ns) rest h.3,
        lean_renumbered (set ++ h.0 ∷ []) (m ∷ ns) rest h.4,
      )

pub renumbering_kept : (used : List Bool) (old new : Clauses) (numbers : List ℕ) (c : List Literal) → length numbers ≡ length old + 1 →
    IsRenumbering used old new (new_number_in numbers) → IsRenumbering used (old ++ c ∷ []) (new ++ c ∷ []) (new_number_in (numbers ++ (length new + 1) ∷ []))
renumbering_kept used old new numbers c size same = λ m valid mark. elim (cases_lt m (length numbers)) [
  | inl low ↦
      let from = valid.from in
      let before : NamesClause old m = record { from = from; to = omega (arith, low, size) } in
      let r = same m before mark in
      let at : new_number_in (numbers ++ (length new + 1) ∷ []) m ≡ new_number_in numbers m = get_or_append_left numbers ((length new + 1) ∷ []) 0 m low in
      let there = r.0 in
      subst (λ n. NamesClause (new ++ c ∷ []) n × (numbered (new ++ c ∷ []) n ≡ numbered (old ++ c ∷ []) m)) (sym at) (
        record {
          from = there.from;
          to = let to = there.to in omega (arith, to, length-append new (c ∷ []));
        },
        numbered_front new c (new_number_in numbers m) there ∙ r.1 ∙ sym (numbered_front old c m before),
      )
  | inr high ↦
      let to = valid.to in
      let is : m ≡ length old + 1 = omega (arith, high, size, to, length-append old (c ∷ [])) in
      let at : new_number_in (numbers ++ (length new + 1) ∷ []) m ≡ length new + 1 = get_or_push numbers (length new + 1) 0 m (omega (arith, is, size)) in
      subst (λ n. NamesClause (new ++ c ∷ []) n × (numbered (new ++ c ∷ []) n ≡ numbered (old ++ c ∷ []) m)) (sym at) (
        record {
          from = omega arith;
          to = omega (arith, length-append new (c ∷ []));
        },
        numbered_last new c (length new + 1) refl ∙ sym (numbered_last old c m is),
      )
]

pub renumbering_left_out : (used : List Bool) (old new : Clauses) (numbers : List ℕ) (c : List Literal) → length numbers ≡ length old + 1 →
    is_used used (length old + 1) ≡ false → IsRenumbering used old new (new_number_in numbers) →
    IsRenumbering used (old ++ c ∷ []) new (new_number_in (numbers ++ 0 ∷ []))
renumbering_left_out used old new numbers c size out same = λ m valid mark. elim (cases_lt m (length numbers)) [
  | inl low ↦
      let from = valid.from in
      let before : NamesClause old m = record { from = from; to = omega (arith, low, size) } in
      let r = same m before mark in
      let at : new_number_in (numbers ++ 0 ∷ []) m ≡ new_number_in numbers m = get_or_append_left numbers (0 ∷ []) 0 m low in
      subst (λ n. NamesClause new n × (numbered new n ≡ numbered (old ++ c ∷ []) m)) (sym at) (r.0, r.1 ∙ sym (numbered_front old c m before))
  | inr high ↦
      let to = valid.to in
      let is : m ≡ length old + 1 = omega (arith, high, size, to, length-append old (c ∷ [])) in
      absurd (both_ways (is_used used (length old + 1)) out (subst (λ k. is_used used k ≡ true) is mark))
]

pub renumbering_none : (used : List Bool) (clauses : Clauses) (numbers : List ℕ) → ((m : ℕ) → m ≤ length clauses → new_number_in numbers m ≡ m) →
    IsRenumbering used clauses clauses (new_number_in numbers)
renumbering_none used clauses numbers same = λ m valid mark. let to = valid.to in subst (λ n. NamesClause clauses n × (numbered clauses n ≡ numbered clauses m))
    (sym (same m to)) (valid, refl)

-- marks that are set at numbers up to n alone change nothing of lines behind n clauses
module _ (used more : List Bool) (keeps : (x : ℕ) → is_used used x ≡ true → is_used more x ≡ true) where
  all_more : (hints : List ℕ) → AllUsed used hints → AllUsed more hints
  all_more hints h = All-weaker (IsUsed used) (IsUsed more) keeps hints h

  pub names_more : (m n : ℕ) (lines : HintLines) → NamesLater used m n lines → NamesLater more m n lines
  names_more m n [] h = h
  names_more m n (Learnt lits hints ∷ rest) (inl h) = inl (keeps (n + 1) h.0, h.1)
  names_more m n (Learnt lits hints ∷ rest) (inr h) = inr (names_more m (n + 1) rest h)
  names_more m n (Refuted lits hints ∷ rest) (inl h) = inl h
  names_more m n (Refuted lits hints ∷ rest) (inr h) = inr (names_more m n rest h)

  pub marked_more : (low n : ℕ) (lines : HintLines) → low ≤ n → ((x : ℕ) → low < x → is_used more x ≡ true → is_used used x ≡ true) → MarksUsed used n lines →
      MarksUsed more n lines
  marked_more low n [] le back h = tt
  marked_more low n (Learnt lits hints ∷ rest) le back h = (
    (λ mark. let was = h.0 (back (n + 1) (omega (arith, le)) mark) in (all_more hints was.0, names_more (n + 1) (n + 1) rest was.1)),
    marked_more low (n + 1) rest (omega (arith, le)) back h.1,
  )
  marked_more low n (Refuted lits hints ∷ rest) le back h = (all_more hints h.0, marked_more low n rest le back h.1)

-- the hints of a good line name clauses before it
leads_below : (clauses : Clauses) (set : List Literal) (ns : List ℕ) (to : List Literal) → Leads clauses set ns to → All (λ n. n ≤ length clauses) ns
leads_below clauses set [] to h = All-nil (λ n. n ≤ length clauses)
leads_below clauses set (n ∷ ns) to h =
    let one = h.1 in
    let number = one.number in
    All-cons (λ m. m ≤ length clauses) n ns number.to (leads_below clauses (set ++ h.0 ∷ []) ns to h.2)

pub good_below : (clauses : Clauses) (lits : List Literal) (hints : List ℕ) → IsGoodHint clauses lits hints → All (λ n. n ≤ length clauses) hints
good_below clauses lits hints s =
    let none = s.none in
    let number = none.number in
    subst (λ (ns : List ℕ). All (λ n. n ≤ length clauses) ns) (sym s.are) (All-push (λ n. n ≤ length clauses) s.front s.last
    (leads_below clauses (map negate lits) s.front s.to s.leads) number.to)
