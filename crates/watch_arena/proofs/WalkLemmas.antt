-- What a step of a walk adds to a trail, and what was true no later than another literal.
use Rattle.std.proofs.Common.{◌≡◌, ◌≢◌, ℕ, ◌+◌, ◌-◌, ◌*◌, ◌/◌, ◌%◌, ◌<◌, ◌≤◌, ◌⊎◌, true, false, List, [], ◌∷◌, ◌++◌, length, take, get_or, refl, sym, ◌∙◌, ap}
use Rattle.std.proofs.Common.{subst, inl, inr, arith, length-append}
use Rattle.std.specs.Prelude.{Contains, ◌^◌}
use Rattle.std.proofs.lemmas.Bool.{both_ways, cases_lt, cases_eq}
use Rattle.std.proofs.lemmas.List.{take_at, take-take, take_all, take-append-le, get_or_default, get_or-set_other}
use Rattle.std.proofs.lemmas.List.Elements.{All-contains_itself, All-weaker, Contains-get_or}
use Rattle.cnf_core.specs.Lit.{Literal, literal_at, negate, has}
use Rattle.cnf_core.proofs.PropagationLemmas.{has_from_contains}
use Rattle.cnf_core.specs.Propagation.{LiteralSet, IsIn, IsUnit}
use Rattle.cnf_core.proofs.TrailLemmas.{push_keeps, front_includes, same_or_negated}
use Rattle.cnf_core.proofs.GrowthLemmas.{grows_unit}
use Rattle.watch_arena.specs.Words.{arena_word, lit_of, other_of, IsStore}
use Rattle.watch_arena.specs.Trail.{IsUnset, Marks, IsMarks, IsLonger, with_lit}
use Rattle.watch_arena.specs.Walk.{lit_at, past_of, IsTrueNoLater, IsAlone, IsFalsified, AreFalse, IsClauseAt, GrowsBy, KeepsReasons}

-- the literal of a clause has a row
pub watch_below : (vars : ℕ) (ws places : List ℕ) (p k : ℕ) → IsStore vars ws places → Contains places p → k < arena_word ws p →
    arena_word ws (p + 3 + k) < 2 * vars + 2
watch_below vars ws places p k h c lt = let b = h.block p c in let l = b.lits k lt in l.below

-- the literal that a clause leaves alone follows
pub alone_unit : (ws : List ℕ) (lits : List Literal) (w s : ℕ) (l : Literal) (c : List Literal) → IsClauseAt ws (s / 2) c → 2 ≤ arena_word ws (s / 2) →
    arena_word ws (lit_of s) ≡ w → IsIn (has lits) (negate (literal_at w)) → IsAlone ws lits s l → IsUnit (has lits) c l
alone_unit ws lits w s l c is two lit false_now a =
    let at_other : lit_at ws (s / 2 + 3 + (1 - s % 2)) ≡ l = ap (λ n. lit_at ws n) (omega arith) ∙ sym a.is in
    record {
      among = (is l).1 (1 - s % 2, omega arith, at_other);
      others = All-weaker (Contains c) (λ k. (k ≡ l) ⊎ IsIn (has lits) (negate k)) (λ k among. by_place k ((is k).0 among) at_other) c (All-contains_itself c);
    }
  where
    by_place : (k : Literal) → (n : ℕ) × (n < arena_word ws (s / 2)) × (lit_at ws (s / 2 + 3 + n) ≡ k) → lit_at ws (s / 2 + 3 + (1 - s % 2)) ≡ l →
        (k ≡ l) ⊎ IsIn (has lits) (negate k)
    by_place k n at_other = elim (cases_lt n.0 2) [
      | inl small ↦ elim (cases_eq n.0 (s % 2)) [
        | inl e ↦ inr (subst (λ (u : Literal). IsIn (has lits) (negate u)) (sym (ap literal_at (ap (λ j. arena_word ws (s / 2 + 3 + j)) e ∙ lit))
            ∙ n.2) false_now)
        | inr ne ↦ inl (sym n.2 ∙ ap (λ j. lit_at ws (s / 2 + 3 + j)) (omega arith) ∙ at_other)
      ]
      | inr big ↦ inr (subst (λ (u : Literal). IsIn (has lits) (negate u)) n.2 (a.rest n.0 big n.1))
    ]

pub alone_grows : (ws places : List ℕ) (lits : List Literal) (w s : ℕ) (l : Literal) → Contains places (s / 2) → 2 ≤ arena_word ws (s / 2) →
    arena_word ws (lit_of s) ≡ w → IsIn (has lits) (negate (literal_at w)) → IsAlone ws lits s l → GrowsBy places ws lits (lits ++ l ∷ [])
alone_grows ws places lits w s l place two lit false_now a = λ clauses text.
    let held = text.held (s / 2) place in
    grows_unit clauses lits held.0 l held.1 (alone_unit ws lits w s l held.0 held.2 two lit false_now a)

-- the table of reasons with one more
pub unit_keeps : (m : Marks) (l : Literal) (p : ℕ) → IsUnset m.lits l → KeepsReasons m (with_lit m l p)
unit_keeps m l p unset = λ i d lt. get_or-set_other m.reasons l.var (get_or m.lits i d).var p 0 (λ e. elim (same_or_negated (get_or m.lits i d) l e) [
  | inl same ↦ both_ways (has m.lits l) unset.0 (subst (λ (k : Literal). has m.lits k ≡ true) same
      (has_from_contains m.lits (get_or m.lits i d) (Contains-get_or m.lits i d lt)))
  | inr same ↦ both_ways (has m.lits (negate l)) unset.1 (subst (λ (k : Literal). has m.lits k ≡ true) same
      (has_from_contains m.lits (get_or m.lits i d) (Contains-get_or m.lits i d lt)))
])

-- a literal that became false after the last level began: what holds now holds at no later level
pub held_now : (m : Marks) (w : ℕ) (o : Literal) → IsMarks m → (has (take m.front m.lits) (negate (literal_at w)) ≡ false) → IsIn (has m.lits) o →
    IsTrueNoLater m (negate (literal_at w)) o
held_now m w o marks fresh now = record {
  now = now;
  back = λ n c f.
      let cuts = marks.cuts in
      let lt = c.1 in
      let at_n : get_or m.cuts c.0 0 ≡ n = (get_or_default m.cuts c.0 0 n c.1 ∙ c.2) in
      let le = cuts.propagated c.0 c.1 in
      let inside : IsIn (has (take m.front m.lits)) (negate (literal_at w)) = front_includes (take m.front m.lits) n (negate (literal_at w))
      (subst (λ (ls : List Literal). IsIn (has ls) (negate (literal_at w))) (sym (take-take n m.front m.lits (omega arith))) f) in
      absurd (cc (inside, fresh));
}

pub held_more : (m : Marks) (l f o : Literal) (reason : ℕ) → IsMarks m → IsTrueNoLater m f o → IsTrueNoLater (with_lit m l reason) f o
held_more m l f o reason marks h = record {
  now = push_keeps m.lits l o h.now;
  back = λ n c g.
      let cuts = marks.cuts in
      let at_n : get_or m.cuts c.0 0 ≡ n = (get_or_default m.cuts c.0 0 n c.1 ∙ c.2) in
      let lt = cuts.below c.0 c.1 in
      let same : take n (m.lits ++ l ∷ []) ≡ take n m.lits = take-append-le n m.lits (l ∷ []) (omega arith) in
      subst (λ (ls : List Literal). IsIn (has ls) o) (sym same) (h.back n c (subst (λ (ls : List Literal). IsIn (has ls) f) same g));
}

-- what was true no later is so on a longer trail
pub held_longer : (m n : Marks) (f o : Literal) → IsMarks m → IsLonger m n → IsTrueNoLater m f o → IsTrueNoLater n f o
held_longer m n f o marks longer h = record {
  now = longer.keeps o h.now;
  back = λ k c g.
      let before : Contains m.cuts k = subst (λ (ns : List ℕ). Contains ns k) longer.cuts c in
      let cuts = marks.cuts in
      let at_k : get_or m.cuts before.0 0 ≡ k = get_or_default m.cuts before.0 0 k before.1 ∙ before.2 in
      let lt = cuts.below before.0 before.1 in
      let same : take k n.lits ≡ take k m.lits = sym (take-take k (length m.lits) n.lits (omega arith)) ∙ ap (take k) longer.front in
      subst (λ (ls : List Literal). IsIn (has ls) o) (sym same) (h.back k before (subst (λ (ls : List Literal). IsIn (has ls) f) same g));
}

pub fresh_with : (m : Marks) (l k : Literal) (reason : ℕ) → IsMarks m → past_of m k ≡ false → past_of (with_lit m l reason) k ≡ false
fresh_with m l k reason marks fresh = ap (λ (ls : List Literal). has ls k) (take-append-le m.front m.lits (l ∷ []) marks.front) ∙ fresh

pub longer_unit : (m : Marks) (l : Literal) (reason : ℕ) → IsLonger m (with_lit m l reason)
longer_unit m l reason = record {
  vars = refl;
  cuts = refl;
  front = take_at m.lits (l ∷ []) (length m.lits) refl;
  longer = omega (arith, length-append m.lits (l ∷ []));
  keeps = push_keeps
      m.lits l;
}

pub longer_none : (m : Marks) → IsLonger m m
longer_none m = record { vars = refl; cuts = refl; front = take_all (length m.lits) m.lits (omega arith); longer = omega arith; keeps = λ l h. h }

pub longer_more : (old mid new : Marks) → IsLonger old mid → IsLonger mid new → IsLonger old new
longer_more old mid new a b = record {
  vars = b.vars ∙ a.vars;
  cuts = b.cuts ∙ a.cuts;
  front = let longer = a.longer in sym (take-take (length old.lits) (length mid.lits) new.lits longer) ∙ ap (take (length old.lits)) b.front ∙ a.front;
  longer = let x = a.longer in let y = b.longer in omega arith;
  keeps = λ l h. b.keeps l (a.keeps l h);
}

-- a clause all of whose literals are false
pub all_false : (ws : List ℕ) (set : LiteralSet) (w s : ℕ) → arena_word ws (lit_of s) ≡ w → IsIn set (negate (literal_at w)) → IsFalsified ws set s →
    AreFalse ws set (s / 2)
all_false ws set w s lit false_now x = λ k lt. elim (cases_lt k 2) [
  | inl small ↦ elim (cases_eq k (s % 2)) [
    | inl e ↦ subst (λ n. IsIn set (negate (literal_at n))) (sym lit ∙ ap (λ j. arena_word ws (s / 2 + 3 + j)) (sym e)) false_now
    | inr ne ↦ subst (λ n. IsIn set (negate (lit_at ws n))) (omega arith) x.other
  ]
  | inr big ↦ x.rest k big lt
]
