-- Why each literal of a trail is true.
use Rattle.std.proofs.Common.{◌≡◌, ◌≢◌, ℕ, ◌/◌, ◌<◌, ◌≤◌, ◌⊎◌, List, [], ◌∷◌, ◌++◌, length, take, get_or, set, sym, ◌∙◌, ap, subst, inl, inr, arith}
use Rattle.std.proofs.Common.{length-append}
use Rattle.std.specs.Prelude.{Contains}
use Rattle.std.proofs.lemmas.Bool.{cases_lt}
use Rattle.std.proofs.lemmas.List.{take_at, take-take, get_or-take, take-append-le, get_or_append_left, get_or_push, get_or-set_other, get_or-set_same}
use Rattle.std.proofs.lemmas.List.{get_or_default}
use Rattle.std.proofs.lemmas.List.Elements.{Contains-push_cases, Contains-push, Contains-append_left}
use Rattle.cnf_core.specs.Lit.{Literal, literal_at, negate, has}
use Rattle.cnf_core.specs.Clause.{Clauses, IsThere}
use Rattle.cnf_core.specs.Propagation.{IsIn, IsUnit}
use Rattle.watch_arena.specs.Words.{arena_word, lit_of}
use Rattle.watch_arena.specs.Trail.{Marks, IsMarks, IsUnset, with_lit, opened}
use Rattle.watch_arena.specs.Walk.{HoldsClauses, KeepsClauses, KeepsReasons, IsReasonFor, IsReasoned, AddsReasons, IsAlone, lits_at}
use Rattle.watch_arena.proofs.TextLemmas.{is_clause, unit_kept}
use Rattle.watch_arena.proofs.TrailLemmas.{other_var}
use Rattle.watch_arena.proofs.WalkLemmas.{alone_unit}

-- the clauses that the words hold stay
pub text_kept : (clauses : Clauses) (old new places : List ℕ) → KeepsClauses places old new → HoldsClauses clauses old places → HoldsClauses clauses new places
text_kept clauses old new places k t = record {
  held = λ p c. let d = t.held p c in (d.0, d.1, k p d.0 c d.2);
  stored = λ c among. let d = t.stored c among in (d.0, d.1, k d.0 c d.1 d.2);
}

pub reason_kept : (old new places : List ℕ) (before : List Literal) (l : Literal) (p : ℕ) → KeepsClauses places old new → IsReasonFor old places before l p →
    IsReasonFor new places before l p
reason_kept old new places before l p k x = record { place = x.place; unit = unit_kept old new places p (has before) l k x.place x.unit }

-- no literal came
pub none_because : (m : Marks) (ws places : List ℕ) → AddsReasons m m ws places
none_because m ws places = λ i d from lt. absurd (omega arith)

-- the reason of a literal that stands on both trails
pub reason_grown : (mid new : Marks) (then now places : List ℕ) (i : ℕ) (d : Literal) → i < length mid.lits → take (length mid.lits) new.lits ≡ mid.lits →
    KeepsClauses places then now → KeepsReasons mid new →
    IsReasonFor then places (take i mid.lits) (get_or mid.lits i d) (get_or mid.reasons (get_or mid.lits i d).var 0) →
    IsReasonFor now places (take i new.lits) (get_or new.lits i d) (get_or new.reasons (get_or new.lits i d).var 0)
reason_grown mid new then now places i d lt front k same x =
    let at : get_or mid.lits i d ≡ get_or new.lits i d = ap (λ (ls : List Literal). get_or ls i d) (sym front)
    ∙ get_or-take (length mid.lits) new.lits i d lt in
    let fronts : take i mid.lits ≡ take i new.lits = ap (take i) (sym front) ∙ take-take i (length mid.lits) new.lits (omega arith) in
    let y : IsReasonFor now places (take i mid.lits) (get_or mid.lits i d) (get_or mid.reasons (get_or mid.lits i d).var 0) = reason_kept then now places
    (take i mid.lits) (get_or mid.lits i d) (get_or mid.reasons (get_or mid.lits i d).var 0) k x in
    let z : IsReasonFor now places (take i mid.lits) (get_or mid.lits i d) (get_or new.reasons (get_or mid.lits i d).var 0) = subst
    (λ n. IsReasonFor now places (take i mid.lits) (get_or mid.lits i d) n) (sym (same i d lt)) y in
    subst (λ (ls : List Literal). IsReasonFor now places ls (get_or new.lits i d) (get_or new.reasons (get_or new.lits i d).var 0)) fronts
    (subst (λ (l : Literal). IsReasonFor now places (take i mid.lits) l (get_or new.reasons l.var 0)) at z)

pub reasoned_text : (m : Marks) (old new places : List ℕ) → KeepsClauses places old new → IsReasoned m old places → IsReasoned m new places
reasoned_text m old new places k r = record {
  reason = λ i l lt is some. let x = r.reason i l lt is some in record {
    place = x.place;
    unit = unit_kept old new places (get_or m.reasons l.var 0) (has (take i m.lits)) l k x.place x.unit;
  };
  decided = r.decided;
  begins = r.begins;
}

-- clauses that come change no reason
pub reasoned_more : (m : Marks) (old new places more : List ℕ) → ((p : ℕ) → Contains places p → Contains more p) →
    ((p : ℕ) → Contains places p → lits_at new p ≡ lits_at old p) → IsReasoned m old places → IsReasoned m new more
reasoned_more m old new places more sub same r = record {
  reason = λ i l lt is some.
      let x = r.reason i l lt is some in
      let p = get_or m.reasons l.var 0 in
      record { place = sub p x.place; unit = subst (λ (c : List Literal). IsUnit (has (take i m.lits)) c l) (sym (same p x.place)) x.unit };
  decided = r.decided;
  begins = r.begins;
}

-- a table of reasons with one more
module _ (m : Marks) (l : Literal) (p : ℕ) (marks : IsMarks m) (there : IsThere m.vars l) (unset : IsUnset m.lits l) where
  old_lit : (i : ℕ) (k : Literal) → i < length m.lits → get_or m.lits i k ≡ get_or (m.lits ++ l ∷ []) i k
  old_lit i k small = sym (get_or_append_left m.lits (l ∷ []) k i small)

  old_reason : (i : ℕ) (k : Literal) → i < length m.lits → get_or (m.lits ++ l ∷ []) i k ≡ k → get_or (set m.reasons l.var p) k.var 0 ≡ get_or m.reasons k.var 0
  old_reason i k small is = get_or-set_other m.reasons l.var k.var p 0 (other_var m.lits l k unset (i, small, old_lit i k small ∙ is))

  last_lit : (i : ℕ) (k : Literal) → i < length (m.lits ++ l ∷ []) → length m.lits ≤ i → get_or (m.lits ++ l ∷ []) i k ≡ k → k ≡ l
  last_lit i k lt big is = sym is ∙ get_or_push m.lits l k i (omega (arith, length-append m.lits (l ∷ [])))

  new_reason : (k : Literal) → k ≡ l → get_or (set m.reasons l.var p) k.var 0 ≡ p
  new_reason k e = ap (λ (u : Literal). get_or (set m.reasons l.var p) u.var 0) e
      ∙ get_or-set_same m.reasons l.var p 0 (let size = marks.reasons in let below = there.1 in omega arith)

  -- the reason of the literal that came
  pub unit_because : (ws places : List ℕ) → IsReasonFor ws places m.lits l p → AddsReasons m (with_lit m l p) ws places
  unit_because ws places why = λ i d from lt.
      let last : length m.lits ≡ i = omega (arith, length-append m.lits (l ∷ [])) in
      let is : get_or (m.lits ++ l ∷ []) i d ≡ l = get_or_push m.lits l d i last in
      let fronts : take i (m.lits ++ l ∷ []) ≡ m.lits = take_at m.lits (l ∷ []) i last in
      let read : get_or (set m.reasons l.var p) (get_or (m.lits ++ l ∷ []) i d).var 0 ≡ p = new_reason (get_or (m.lits ++ l ∷ []) i d) is in
      subst (λ n. IsReasonFor ws places (take i (m.lits ++ l ∷ [])) (get_or (m.lits ++ l ∷ []) i d) n) (sym read)
      (subst (λ (u : Literal). IsReasonFor ws places (take i (m.lits ++ l ∷ [])) u p) (sym is)
      (subst (λ (ls : List Literal). IsReasonFor ws places ls l p) (sym fronts) why))

  module _ (ws places : List ℕ) (r : IsReasoned m ws places) where
    -- the reasons of the literals in front
    reason_before : (i : ℕ) (k : Literal) → i < length m.lits → get_or (m.lits ++ l ∷ []) i k ≡ k → get_or (set m.reasons l.var p) k.var 0 ≢ 0 →
        IsReasonFor ws places (take i (m.lits ++ l ∷ [])) k (get_or (set m.reasons l.var p) k.var 0)
    reason_before i k small is some =
        let same = old_reason i k small is in
        let fronts : take i (m.lits ++ l ∷ []) ≡ take i m.lits = take-append-le i m.lits (l ∷ []) (omega arith) in
        subst (λ n. IsReasonFor ws places (take i (m.lits ++ l ∷ [])) k n) (sym same)
        (subst (λ (ls : List Literal). IsReasonFor ws places ls k (get_or m.reasons k.var 0)) (sym fronts)
        (r.reason i k small (old_lit i k small ∙ is) (λ e. some (same ∙ e))))

    decided_before : (i : ℕ) (k : Literal) → i < length m.lits → get_or (m.lits ++ l ∷ []) i k ≡ k → get_or (set m.reasons l.var p) k.var 0 ≡ 0 →
        Contains m.cuts i ⊎ ((n : ℕ) → Contains m.cuts n → i < n)
    decided_before i k small is none = r.decided i k small (old_lit i k small ∙ is) (sym (old_reason i k small is) ∙ none)

    begins_before : (n : ℕ) (k : Literal) → Contains m.cuts n → get_or (m.lits ++ l ∷ []) n k ≡ k → get_or (set m.reasons l.var p) k.var 0 ≡ 0
    begins_before n k c is =
        let cuts = marks.cuts in
        let at_n : get_or m.cuts c.0 0 ≡ n = get_or_default m.cuts c.0 0 n c.1 ∙ c.2 in
        let below = cuts.below c.0 c.1 in
        let small : n < length m.lits = omega arith in
        old_reason n k small is ∙ r.begins n k c (old_lit n k small ∙ is)

    -- one more literal, whose reason is the clause at a place
    pub reasoned_unit : 1 ≤ p → IsReasonFor ws places m.lits l p → IsReasoned (with_lit m l p) ws places
    reasoned_unit from why = record {
      reason = λ i k lt is some. elim (cases_lt i (length m.lits)) [
        | inl small ↦ reason_before i k small is some
        | inr big ↦
            let e = last_lit i k lt big is in
            let fronts : take i (m.lits ++ l ∷ []) ≡ m.lits = take_at m.lits (l ∷ []) i (omega (arith, length-append m.lits (l ∷ []))) in
            subst (λ n. IsReasonFor ws places (take i (m.lits ++ l ∷ [])) k n) (sym (new_reason k e))
            (subst (λ (ls : List Literal). IsReasonFor ws places ls k p) (sym fronts)
            (subst (λ (u : Literal). IsReasonFor ws places m.lits u p) (sym e) why))
      ];
      decided = λ i k lt is none. elim (cases_lt i (length m.lits)) [
        | inl small ↦ decided_before i k small is none
        | inr big ↦ let here = new_reason k (last_lit i k lt big is) in absurd (omega arith)
      ];
      begins = begins_before;
    }

    -- one without a reason, at level 0
    pub reasoned_root : p ≡ 0 → length m.cuts ≡ 0 → IsReasoned (with_lit m l p) ws places
    reasoned_root none root = record {
      reason = λ i k lt is some. elim (cases_lt i (length m.lits)) [
        | inl small ↦ reason_before i k small is some
        | inr big ↦ absurd (some (new_reason k (last_lit i k lt big is) ∙ none))
      ];
      decided = λ i k lt is no_reason. elim (cases_lt i (length m.lits)) [
        | inl small ↦ decided_before i k small is no_reason
        | inr big ↦ inr (λ n c. let within = c.1 in absurd (omega arith))
      ];
      begins = begins_before;
    }

    -- one that begins a level
    pub reasoned_decided : p ≡ 0 → IsReasoned (with_lit (opened m) l p) ws places
    reasoned_decided none = record {
      reason = λ i k lt is some. elim (cases_lt i (length m.lits)) [
        | inl small ↦ reason_before i k small is some
        | inr big ↦ absurd (some (new_reason k (last_lit i k lt big is) ∙ none))
      ];
      decided = λ i k lt is no_reason. elim (cases_lt i (length m.lits)) [
        | inl small ↦ elim (decided_before i k small is no_reason) [
          | inl c ↦ inl (Contains-append_left m.cuts (length m.lits ∷ []) i c)
          | inr first ↦ inr (λ n c. elim (Contains-push_cases m.cuts (length m.lits) n c) [ inl old ↦ first n old | inr e ↦ omega arith ])
        ]
        | inr big ↦ inl (subst (λ n. Contains (m.cuts ++ length m.lits ∷ []) n) (omega (arith, length-append m.lits (l ∷ [])))
            (Contains-push m.cuts (length m.lits)))
      ];
      begins = λ n k c is. elim (Contains-push_cases m.cuts (length m.lits) n c) [
        | inl old ↦ begins_before n k old is
        | inr e ↦ new_reason k (sym is ∙ get_or_push m.lits l k n e) ∙ none
      ];
    }

-- the reason that a look finds
pub alone_reason : (ws places : List ℕ) (lits : List Literal) (w s : ℕ) (l : Literal) → Contains places (s / 2) → 2 ≤ arena_word ws (s / 2) →
    arena_word ws (lit_of s) ≡ w → IsIn (has lits) (negate (literal_at w)) → IsAlone ws lits s l → IsReasonFor ws places lits l (s / 2)
alone_reason ws places lits w s l place two lit false_now a = record {
  place = place;
  unit = alone_unit ws lits w s l (lits_at ws (s / 2)) (is_clause ws (s / 2)) two lit false_now a;
}
