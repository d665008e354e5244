-- What is assumed on a trail, and what is left of it.
use Rattle.std.proofs.Common.{◌≡◌, ℕ, ◌+◌, ◌-◌, ◌<◌, ◌≤◌, ◌⊎◌, Bool, true, false, None, Some, List, [], ◌∷◌, ◌++◌, suc, zero, length, take, drop, min, get_or}
use Rattle.std.proofs.Common.{set, map, refl, sym, ◌∙◌, ap, subst, inl, inr, arith, length-take-le, length-append, length-set}
use Rattle.std.specs.Prelude.{All, Contains, Option, is_some}
use Rattle.std.proofs.lemmas.Bool.Decides.{eqb_tells}
use Rattle.std.proofs.lemmas.Bool.{cases_lt, both_ways, false_from_ne_true}
use Rattle.std.proofs.lemmas.List.{get_or-take, get_or_past, get_or_push, get_or-set_same, get_or-set_other, take_all, take_at, take-take, take-append-drop}
use Rattle.std.proofs.lemmas.List.Elements.{All-contains, Contains-get_or, Contains-append_cases, Contains-append_left, Contains-append_right}
use Rattle.plan_core.proofs.Listing.{Contains-map}
use Rattle.cnf_core.specs.Lit.{Literal, negate, has, positive_of}
use Rattle.cnf_core.specs.Clause.{AreDistinct, AreThere}
use Rattle.cnf_core.specs.Propagation.{IsIn, Includes}
use Rattle.cnf_core.proofs.PropagationLemmas.{contains_from_has, has_from_contains, contains_later, negate-negate, unit_same}
use Rattle.cnf_core.proofs.TrailLemmas.{same_literal_or, has_front, has_last, there_get}
use Rattle.watch_arena.specs.Trail.{Marks, IsUnset, IsValue, IsLonger, undone, opened, with_lit}
use Rattle.watch_arena.specs.Walk.{IsReasonFor, KeepsReasons}
use Rattle.watch_arena.specs.Arena.{Attached, AreWatched, AreBecause, IsMoreText, IsSameText, MayBeWatched, attached_at}
use Rattle.watch_arena.proofs.LevelLemmas.{right_open}
use Rattle.watch_arena.proofs.WalkLemmas.{unit_keeps}
use Rattle.log_trim.specs.Found.{HasReasonAt, HaveReasons, HaveNoReason, IsEmptyTrail, IsOpenTrail, IsAtRest, HasTwoLevels, IsDenying, assumed}
use Rattle.log_trim.proofs.FoundLemmas.{assumed_low, assumed_later}
use Rattle.hint_log.proofs.LeftLemmas.{avoids_contained}
use Rattle.hint_log.proofs.NegationLemmas.{has_negated, negation_fresh}

-- a list behind another
pub has_behind : (xs ys : List Literal) (k : Literal) → IsIn (has (xs ++ ys)) k → IsIn (has xs) k ⊎ IsIn (has ys) k
has_behind xs ys k h = elim (Contains-append_cases xs ys k (contains_from_has (xs ++ ys) k h)) [
  | inl a ↦ inl (has_from_contains xs k a)
  | inr b ↦ inr (has_from_contains ys k b)
]

pub has_left : (xs ys : List Literal) → Includes (has (xs ++ ys)) (has xs)
has_left xs ys k h = has_from_contains (xs ++ ys) k (Contains-append_left xs ys k (contains_from_has xs k h))

pub has_right : (xs ys : List Literal) → Includes (has (xs ++ ys)) (has ys)
has_right xs ys k h = has_from_contains (xs ++ ys) k (Contains-append_right xs ys k (contains_from_has ys k h))

-- the clause of a reason stays with its literals
abbrev pub KeepsReasonsOf : Attached → Attached → Type 0
KeepsReasonsOf a b = (before : List Literal) (l : Literal) (p : ℕ) → IsReasonFor a.words a.places before l p → IsReasonFor b.words b.places before l p

pub keeps_nothing_new : (a : Attached) → KeepsReasonsOf a a
keeps_nothing_new a = λ before l p r. r

pub keeps_same_text : (a b : Attached) → IsSameText a b → KeepsReasonsOf a b
keeps_same_text a b same = λ before l p r. record {
  place = subst (λ (ps : List ℕ). Contains ps p) (sym same.places) r.place;
  unit = unit_same (has before) (attached_at a p) (attached_at b p) l (same.lits p r.place) r.unit;
}

pub keeps_more_text : (a b : Attached) (q : ℕ) → IsMoreText a b → b.places ≡ a.places ++ q ∷ [] → KeepsReasonsOf a b
keeps_more_text a b q more places = λ before l p r. record {
  place = subst (λ (ps : List ℕ). Contains ps p) (sym places) (Contains-append_left a.places (q ∷ []) p r.place);
  unit = rw (more.lits p r.place) r.unit;
}

-- the literals of a front of the trail have reasons as before
front_kept : (a b : Attached) (m n : Marks) (given : List Literal) (i : ℕ) (d : Literal) → KeepsReasonsOf a b → i < length m.lits →
    take (length m.lits) n.lits ≡ m.lits → KeepsReasons m n → HasReasonAt a m given i (get_or m.lits i d) → HasReasonAt b n given i (get_or n.lits i d)
front_kept a b m n given i d text lt front keeps h =
    let l = get_or m.lits i d in
    let at : l ≡ get_or n.lits i d = ap (λ (ls : List Literal). get_or ls i d) (sym front) ∙ get_or-take (length m.lits) n.lits i d lt in
    let before : take i m.lits ≡ take i n.lits = ap (take i) (sym front) ∙ take-take i (length m.lits) n.lits (omega arith) in
    let reason = keeps i d lt in
    let here : HasReasonAt b n given i l = elim h [
      | inl r ↦ inl (subst (λ (ls : List Literal). IsReasonFor b.words b.places ls l (get_or n.reasons l.var 0)) before
          (subst (λ p. IsReasonFor b.words b.places (take i m.lits) l p) (sym reason) (text (take i m.lits) l (get_or m.reasons l.var 0) r)))
      | inr g ↦ inr (reason ∙ g.0, g.1)
    ] in
    subst (HasReasonAt b n given i) at here

pub reasons_wider : (a : Attached) (m : Marks) (given more : List Literal) → Includes (has more) (has given) → HaveReasons a m given → HaveReasons a m more
reasons_wider a m given more wider h = λ i d lt. elim (h i d lt) [
  | inl r ↦ inl r
  | inr g ↦ inr (g.0, wider (get_or m.lits i d) g.1)
]

-- the table of reasons has none for a variable
none_at : (reasons : List ℕ) (v : ℕ) → get_or (set reasons v 0) v 0 ≡ 0
none_at reasons v = elim (cases_lt v (length reasons)) [
  | inl lt ↦ get_or-set_same reasons v 0 0 lt
  | inr ge ↦ get_or_past (set reasons v 0) v 0 (let size = length-set reasons v 0 in omega arith)
]

-- a variable that has none keeps none where another gets none
pub none_stays : (reasons : List ℕ) (v w : ℕ) → get_or reasons w 0 ≡ 0 → get_or (set reasons v 0) w 0 ≡ 0
none_stays reasons v w none = elim (eqb_tells w v) [
  | inl same ↦ ap (λ x. get_or (set reasons v 0) x 0) same.1 ∙ none_at reasons v
  | inr other ↦ get_or-set_other reasons v w 0 0 other.1 ∙ none
]

-- one more literal without a reason
pub bare_with : (m n : Marks) (l : Literal) (ls : List Literal) → n.reasons ≡ set m.reasons l.var 0 → HaveNoReason m ls → HaveNoReason n (ls ++ l ∷ [])
bare_with m n l ls reasons h k i = ap (λ (rs : List ℕ). get_or rs k.var 0) reasons ∙ elim (same_literal_or k l) [
  | inl e ↦ ap (λ (x : Literal). get_or (set m.reasons l.var 0) x.var 0) e ∙ none_at m.reasons l.var
  | inr ne ↦ none_stays m.reasons l.var k.var (h k (sym (has_front ls l k ne) ∙ i))
]

pub bare_none : (m : Marks) → HaveNoReason m []
bare_none m k i = absurd (both_ways (has [] k) refl i)

pub reasons_with : (a : Attached) (m n : Marks) (l : Literal) (given : List Literal) → IsUnset m.lits l → n.lits ≡ m.lits ++ l ∷ [] →
    n.reasons ≡ set m.reasons l.var 0 → IsIn (has given) l → HaveReasons a m given → HaveReasons a n given
reasons_with a m n l given unset lits reasons mine h = λ i d lt. elim (cases_lt i (length m.lits)) [
  | inl less ↦ front_kept a a m n given i d (keeps_nothing_new a) less (ap (take (length m.lits)) lits ∙ take_at m.lits (l ∷ []) (length m.lits) refl)
      (λ j e below. ap (λ (rs : List ℕ). get_or rs (get_or m.lits j e).var 0) reasons ∙ unit_keeps m l 0 unset j e below) (h i d less)
  | inr ge ↦
      let size : length n.lits ≡ length m.lits + 1 = ap (λ (ls : List Literal). length ls) lits ∙ length-append m.lits (l ∷ []) in
      let at : get_or n.lits i d ≡ l = ap (λ (ls : List Literal). get_or ls i d) lits ∙ get_or_push m.lits l d i (omega (arith, size, lt, ge)) in
      let here : HasReasonAt a n given i l = inr (ap (λ (rs : List ℕ). get_or rs l.var 0) reasons ∙ none_at m.reasons l.var, mine) in
      subst (HasReasonAt a n given i) (sym at) here
]

-- what propagation puts behind the trail has reasons
pub reasons_grown : (a b : Attached) (m n : Marks) (given : List Literal) → IsSameText a b → IsLonger m n → KeepsReasons m n → AreBecause b m n →
    HaveReasons a m given → HaveReasons b n given
reasons_grown a b m n given text longer keeps because h = λ i d lt. elim (cases_lt i (length m.lits)) [
  | inl less ↦ front_kept a b m n given i d (keeps_same_text a b text) less longer.front keeps (h i d less)
  | inr ge ↦ inl (because i d ge lt)
]

pub reasons_texted : (a b : Attached) (m : Marks) (given : List Literal) → KeepsReasonsOf a b → HaveReasons a m given → HaveReasons b m given
reasons_texted a b m given text h = λ i d lt. elim (h i d lt) [
  | inl r ↦ inl (text (take i m.lits) (get_or m.lits i d) (get_or m.reasons (get_or m.lits i d).var 0) r)
  | inr g ↦ inr g
]

pub reasons_none : (a : Attached) (m : Marks) (given : List Literal) → m.lits ≡ [] → HaveReasons a m given
reasons_none a m given e = λ i d lt. let size : length m.lits ≡ 0 = ap (λ (ls : List Literal). length ls) e in absurd (omega arith)

-- the trail while something is assumed
pub assuming_grown : (a b : Attached) (vars : ℕ) (lits : List Literal) (m n : Marks) → IsDenying a vars lits m → IsSameText a b → IsLonger m n →
    KeepsReasons m n → AreBecause b m n → m.front ≤ n.front → AreWatched b n → IsDenying b vars lits n
assuming_grown a b vars lits m n h text longer keeps because front watched = record {
  all_vars = longer.vars ∙ h.all_vars ∙ sym text.vars;
  watched = watched;
  whole = λ k i. longer.keeps k (h.whole k i);
  reasons = reasons_grown a b m n (assumed vars lits) text longer keeps because h.reasons;
  bare = λ k i.
      let at = contains_from_has m.lits k (h.whole k (assumed_later vars lits k i)) in
      let lt = at.1 in
      subst (λ (x : Literal). get_or n.reasons x.var 0 ≡ 0) at.2 (keeps at.0 k lt ∙ ap (λ (x : Literal). get_or m.reasons x.var 0) at.2 ∙ h.bare k i);
  levels = elim h.levels [
    | inl one ↦ inl (longer.cuts ∙ one)
    | inr two ↦
        let size = longer.longer in
        let within = two.within in
        let low = two.front in
        let same : take two.start n.lits ≡ take two.start m.lits = sym (take-take two.start (length m.lits) n.lits within) ∙ ap (take two.start) longer.front in
        inr (record {
          start = two.start;
          cuts = longer.cuts ∙ two.cuts;
          within = omega arith;
          front = omega arith;
          further = λ k i. subst (λ (ls : List Literal). IsIn (has ls) k) (sym same) (two.further k i);
          apart = λ k i j. two.apart k (subst (λ (ls : List Literal). IsIn (has ls) k) same i) j;
        })
  ];
}

-- nothing is left of one level
pub emptied : (m n : Marks) → n ≡ undone m 0 → m.cuts ≡ 0 ∷ [] → IsEmptyTrail n
emptied m n e cuts = record {
  lits = ap (λ (x : Marks). x.lits) e ∙ ap (λ (cs : List ℕ). take (get_or cs 0 (length m.lits)) m.lits) cuts;
  cuts = ap (λ (x : Marks). x.cuts) e;
  front = let low : n.front ≡ min m.front 0 = ap (λ (x : Marks). x.front) e ∙ ap (λ (cs : List ℕ). min m.front (get_or cs 0 (length m.lits))) cuts in omega
      (arith, low);
}

pub emptied_again : (m n : Marks) → n ≡ undone m 0 → IsEmptyTrail m → IsEmptyTrail n
emptied_again m n e h = record {
  lits = ap (λ (x : Marks). x.lits) e ∙ take_all (get_or m.cuts 0 (length m.lits)) m.lits
      (let size : length m.lits ≡ 0 = ap (λ (ls : List Literal). length ls) h.lits in omega arith) ∙ h.lits;
  cuts = ap (λ (x : Marks). x.cuts) e;
  front = let low : n.front ≡ min m.front (get_or m.cuts 0 (length m.lits)) = ap (λ (x : Marks). x.front) e in let none = h.front in omega (arith, low, none);
}

pub idle_emptied : (a : Attached) (vars : ℕ) (m n : Marks) → IsAtRest a vars m → n ≡ undone m 0 → AreWatched a n → IsEmptyTrail n × IsAtRest a vars n
idle_emptied a vars m n h e watched =
    let none : IsEmptyTrail n = elim h.state [ inl empty ↦ emptied_again m n e empty | inr level ↦ emptied m n e level.cuts ] in
    (none, record { all_vars = ap (λ (x : Marks). x.vars) e ∙ h.all_vars; watched = watched; state = inl none })

-- what is assumed without a clause, or of it
assumed_split : (vars : ℕ) (lits : List Literal) (k : Literal) → IsIn (has (assumed vars lits)) k → (IsIn (has (map negate lits)) k → ⊥) →
    IsIn (has (assumed vars [])) k
assumed_split vars lits k h lacks = elim (has_behind (assumed vars []) (map negate lits) k h) [
  | inl first ↦ first
  | inr later ↦ absurd (lacks later)
]

-- the first of two levels is left
first_left : (a : Attached) (vars : ℕ) (lits : List Literal) (m n : Marks) → IsDenying a vars lits m → (two : HasTwoLevels vars lits m) → n ≡ undone m 1 →
    IsOpenTrail a vars n
first_left a vars lits m n h two e =
    let within = two.within in
    let low = two.front in
    let lits_are : n.lits ≡ take two.start m.lits = ap (λ (x : Marks). x.lits) e ∙ ap (λ (cs : List ℕ). take (get_or cs 1 (length m.lits)) m.lits) two.cuts in
    let size : length n.lits ≡ two.start = ap (λ (ls : List Literal). length ls) lits_are ∙ length-take-le two.start m.lits within in
    let front : n.front ≡ min m.front two.start = ap (λ (x : Marks). x.front) e ∙ ap (λ (cs : List ℕ). min m.front (get_or cs 1 (length m.lits))) two.cuts in
    let reasons : n.reasons ≡ m.reasons = ap (λ (x : Marks). x.reasons) e in
    record {
      cuts = ap (λ (x : Marks). x.cuts) e ∙ ap (take 1) two.cuts;
      front = omega (arith, front, low, size);
      further = λ k i. subst (λ (ls : List Literal). IsIn (has ls) k) (sym lits_are) (two.further k i);
      reasons = λ i d lt.
          let l = get_or m.lits i d in
          let less : i < two.start = omega (arith, size, lt) in
          let at : l ≡ get_or n.lits i d = sym (get_or-take two.start m.lits i d less) ∙ ap (λ (ls : List Literal). get_or ls i d) (sym lits_are) in
          let before : take i m.lits ≡ take i n.lits = sym (take-take i two.start m.lits (omega (arith, less))) ∙ ap (take i) (sym lits_are) in
          let inside : IsIn (has (take two.start m.lits)) l = subst (λ (x : Literal). IsIn (has (take two.start m.lits)) x)
          (get_or-take two.start m.lits i d less)
          (has_from_contains (take two.start m.lits) (get_or (take two.start m.lits) i d)
          (Contains-get_or (take two.start m.lits) i d (let s = length-take-le two.start m.lits within in omega (arith, s, less)))) in
          let here : HasReasonAt a n (assumed vars []) i l = elim (h.reasons i d (omega (arith, less, within))) [
            | inl r ↦ inl (subst (λ (rs : List ℕ). IsReasonFor a.words a.places (take i n.lits) l (get_or rs l.var 0)) (sym reasons)
                (subst (λ (ls : List Literal). IsReasonFor a.words a.places ls l (get_or m.reasons l.var 0)) before r))
            | inr g ↦ inr (ap (λ (rs : List ℕ). get_or rs l.var 0) reasons ∙ g.0, assumed_split vars lits l g.1 (two.apart l inside))
          ] in
          subst (HasReasonAt a n (assumed vars []) i) at here;
    }

pub idle_left : (a : Attached) (vars : ℕ) (lits : List Literal) (m n : Marks) (level : ℕ) → IsDenying a vars lits m → n ≡ undone m level →
    level + 1 ≡ length m.cuts → AreWatched a n → IsAtRest a vars n
idle_left a vars lits m n level h e is watched = record {
  all_vars = ap (λ (x : Marks). x.vars) e ∙ h.all_vars;
  watched = watched;
  state = elim h.levels [
    | inl one ↦
        let size : length m.cuts ≡ 1 = ap (λ (cs : List ℕ). length cs) one in
        let low : level ≡ 0 = omega arith in
        inl (emptied m n (e ∙ ap (undone m) low) one)
    | inr two ↦
        let size : length m.cuts ≡ 2 = ap (λ (cs : List ℕ). length cs) two.cuts in
        let low : level ≡ 1 = omega arith in
        inr (first_left a vars lits m n h two (e ∙ ap (undone m) low))
  ];
}

-- what follows without a clause is a level of its own
pub idle_open : (a : Attached) (vars : ℕ) (m : Marks) → IsDenying a vars [] m → m.cuts ≡ 0 ∷ [] → m.front ≡ length m.lits → IsAtRest a vars m
idle_open a vars m h cuts front = record {
  all_vars = h.all_vars;
  watched = h.watched;
  state = inr (record { cuts = cuts; front = front; further = h.whole; reasons = h.reasons });
}

-- a clause that comes
pub idle_more : (a b : Attached) (vars q : ℕ) (m : Marks) → IsAtRest a vars m → IsMoreText a b → b.places ≡ a.places ++ q ∷ [] → AreWatched b m →
    IsAtRest b vars m
idle_more a b vars q m h more places watched = record {
  all_vars = h.all_vars ∙ sym more.vars;
  watched = watched;
  state = elim h.state [
    | inl empty ↦ inl empty
    | inr level ↦ inr (record {
      cuts = level.cuts;
      front = level.front;
      further = level.further;
      reasons = reasons_texted a b m (assumed vars []) (keeps_more_text a b q more places)
          level.reasons;
    })
  ];
}

-- the literals of a clause are assumed to be false
pub assuming_anew : (a : Attached) (vars : ℕ) (lits : List Literal) (m : Marks) → m.vars ≡ a.vars → AreWatched a m →
    m.lits ≡ assumed vars [] ++ map negate lits → m.cuts ≡ 0 ∷ [] → HaveReasons a m (assumed vars lits) → HaveNoReason m (map negate lits) →
    IsDenying a vars lits m
assuming_anew a vars lits m vars_are watched is cuts reasons bare = record {
  all_vars = vars_are;
  watched = watched;
  whole = λ k i. subst (λ (ls : List Literal). IsIn (has ls) k) (sym is) i;
  reasons = reasons;
  bare = bare;
  levels = inl cuts;
}

-- those that are unset aren't among the negations
apart_unset : (front lits : List Literal) (k : Literal) → All (λ l. IsUnset front l) lits → IsIn (has front) k → IsIn (has (map negate lits)) k → ⊥
apart_unset front lits k unset here there =
    let u : IsUnset front (negate k) = All-contains (λ l. IsUnset front l) lits (negate k) unset
    (contains_from_has lits (negate k) (sym (has_negated lits k) ∙ there)) in
    both_ways (has front k) (subst (λ (x : Literal). has front x ≡ false) (negate-negate k) u.1) here

pub assuming_above : (a : Attached) (vars : ℕ) (lits : List Literal) (m n : Marks) → IsAtRest a vars m → length m.cuts ≡ 1 → All (λ l. IsUnset m.lits l) lits →
    n.vars ≡ m.vars → n.lits ≡ m.lits ++ map negate lits → n.cuts ≡ m.cuts ++ length m.lits ∷ [] → n.front ≡ m.front →
    ((given : List Literal) → Includes (has given) (has (map negate lits)) → HaveReasons a m given → HaveReasons a n given) →
    HaveNoReason n (map negate lits) → AreWatched a n → IsDenying a vars lits n
assuming_above a vars lits m n h one unset vars_are is cuts front reasons bare watched = elim h.state [
  | inl empty ↦ let none : length m.cuts ≡ 0 = ap (λ (cs : List ℕ). length cs) empty.cuts in absurd (omega arith)
  | inr level ↦
      let fronted = level.front in
      let size : length n.lits ≡ length m.lits + length (map negate lits) = ap (λ (ls : List Literal). length ls) is ∙ length-append m.lits (map negate lits) in
      let taken : take (length m.lits) n.lits ≡ m.lits = ap (take (length m.lits)) is ∙ take_at m.lits (map negate lits) (length m.lits) refl in
      record {
        all_vars = vars_are ∙ h.all_vars;
        watched = watched;
        whole = λ k i. subst (λ (ls : List Literal). IsIn (has ls) k) (sym is) (elim (has_behind (assumed vars []) (map negate lits) k i) [
          | inl first ↦ has_left m.lits (map negate lits) k (level.further k first)
          | inr later ↦ has_right m.lits (map negate lits) k later
        ]);
        reasons = reasons (assumed vars lits) (has_right (assumed vars []) (map negate lits))
            (reasons_wider a m (assumed vars []) (assumed vars lits) (has_left (assumed vars []) (map negate lits)) level.reasons);
        bare = bare;
        levels = inr (record {
          start = length m.lits;
          cuts = cuts ∙ ap (λ (cs : List ℕ). cs ++ length m.lits ∷ []) level.cuts;
          within = omega arith;
          front = omega (arith, front, fronted);
          further = λ k i. subst (λ (ls : List Literal). IsIn (has ls) k) (sym taken) (level.further k i);
          apart = λ k i j. apart_unset m.lits lits k unset (subst (λ (ls : List Literal). IsIn (has ls) k) taken i) j;
        });
      }
]

-- the next literal of those that are unset
pub next_unset : (front lits : List Literal) (i : ℕ) (d k : Literal) → AreDistinct lits → All (λ l. IsUnset front l) lits → i < length lits →
    k ≡ negate (get_or lits i d) → IsUnset (front ++ map negate (take i lits)) k
next_unset front lits i d k distinct unset lt e =
    let u = unset i d lt in
    let var : k.var ≡ (get_or lits i d).var = ap (λ (x : Literal). x.var) e in (
      fresh k var (subst (λ (x : Literal). has front x ≡ false) (sym e) u.1),
      fresh (negate k) var (subst (λ (x : Literal). has front (negate x) ≡ false) (sym e)
          (subst (λ (x : Literal). has front x ≡ false) (sym (negate-negate (get_or lits i d))) u.0)),
    )
  where
    fresh : (x : Literal) → x.var ≡ (get_or lits i d).var → has front x ≡ false → has (front ++ map negate (take i lits)) x ≡ false
    fresh x var lacks = false_from_ne_true (has (front ++ map negate (take i lits)) x) (λ h. elim (has_behind front (map negate (take i lits)) x h) [
      | inl here ↦ both_ways (has front x) lacks here
      | inr there ↦ both_ways (has (map negate (take i lits)) x) (negation_fresh lits i d x distinct lt var) there
    ])

pub negation_in : (lits : List Literal) (i : ℕ) (d k : Literal) → i < length lits → k ≡ negate (get_or lits i d) → IsIn (has (map negate lits)) k
negation_in lits i d k lt e = has_from_contains (map negate lits) k (subst (λ (x : Literal). Contains (map negate lits) x) (sym e)
    (Contains-map negate lits (get_or lits i d) (Contains-get_or lits i d lt)))

-- a literal without a value is unset
pub unset_by : (lits : List Literal) (l : Literal) (v : Option Bool) → IsValue lits l v → is_some v ≡ false → IsUnset lits l
unset_by lits l None h e = h
unset_by lits l (Some b) h e = cc

pub none_by : {X : Type 0} (v : Option X) → is_some v ≡ false → v ≡ None
none_by None e = refl
none_by (Some x) e = cc

-- from nothing but the two further variables on
pub opened_reasons : (a : Attached) (m n o : Marks) (vars : ℕ) → m.lits ≡ [] → n ≡ with_lit (opened m) (positive_of (vars + 1)) 0 →
    o ≡ with_lit n (positive_of (vars + 2)) 0 → IsUnset n.lits (positive_of (vars + 2)) → HaveReasons a o (assumed vars [])
opened_reasons a m n o vars empty first second unset =
    let lits : n.lits ≡ m.lits ++ positive_of (vars + 1) ∷ [] = ap (λ (x : Marks). x.lits) first in
    let reasons : n.reasons ≡ set m.reasons (vars + 1) 0 = ap (λ (x : Marks). x.reasons) first in
    reasons_with a n o (positive_of (vars + 2)) (assumed vars []) unset (ap (λ (x : Marks). x.lits) second) (ap (λ (x : Marks). x.reasons) second)
    (has_from_contains (assumed vars []) (positive_of (vars + 2)) (1, omega arith, refl))
    (reasons_with a m n (positive_of (vars + 1)) (assumed vars []) (subst (λ (ls : List Literal). IsUnset ls (positive_of (vars + 1))) (sym empty) (refl, refl))
    lits reasons (has_from_contains (assumed vars []) (positive_of (vars + 1)) (0, omega arith, refl)) (reasons_none a m (assumed vars []) empty))

-- two literals that aren't false may be watched
pub open_watched : (m : Marks) (lits : List Literal) (a b : Literal) → 2 ≤ length lits → get_or lits 0 a ≡ a → get_or lits 1 b ≡ b →
    has m.lits (negate a) ≡ false → has m.lits (negate b) ≡ false → MayBeWatched m lits
open_watched m [] a b two is_a is_b na nb = absurd (omega arith)
open_watched m (k ∷ []) a b two is_a is_b na nb = absurd (omega arith)
open_watched m (k ∷ l ∷ lits) a b two is_a is_b na nb = right_open m k l (λ h. both_ways (has m.lits (negate a)) na
    (subst (λ (x : Literal). IsIn (has m.lits) (negate x)) is_a h)) (λ h. both_ways (has m.lits (negate b)) nb
    (subst (λ (x : Literal). IsIn (has m.lits) (negate x)) is_b h))

pub unset_turned : (front : List Literal) (l k : Literal) → IsUnset front l → k ≡ negate l → IsUnset front k
unset_turned front l k u e = (
  subst (λ (x : Literal). has front x ≡ false) (sym e) u.1,
  subst (λ (x : Literal). has front (negate x) ≡ false) (sym e)
      (subst (λ (x : Literal). has front x ≡ false) (sym (negate-negate l)) u.0),
)

-- the literals behind the first
pub rest_unset : (front lits : List Literal) (first k : Literal) → 1 ≤ length lits → first ≡ get_or lits 0 first → k ≡ negate first → AreDistinct lits →
    All (λ l. IsUnset front l) lits → All (λ l. IsUnset (front ++ k ∷ []) l) (take (length lits - 1) (drop 1 lits))
rest_unset front [] first k some at is distinct unset = absurd (omega arith)
rest_unset front (x ∷ ls) first k some at is distinct unset = subst (λ (rest : List Literal). All (λ l. IsUnset (front ++ k ∷ []) l) rest)
    (sym (take_all (length (x ∷ ls) - 1) ls (omega arith))) (λ i d lt.
    let l = get_or ls i d in
    let u : IsUnset front l = unset (suc i) d (omega (arith, lt)) in
    let var : k.var ≡ x.var = ap (λ (y : Literal). y.var) is ∙ ap (λ (y : Literal). y.var) at in
    let differs : (y : Literal) → y.var ≡ l.var → y ≡ k → ⊥ = λ y v e. avoids_contained x.var ls l distinct.0 (Contains-get_or ls i d lt)
    (sym var ∙ sym (ap (λ (z : Literal). z.var) e) ∙ v) in
    (has_front front k l (differs l refl) ∙ u.0, has_front front k (negate l) (differs (negate l) refl) ∙ u.1))

pub rest_wider : (given lits : List Literal) → 1 ≤ length lits → Includes (has given) (has (map negate lits)) →
    Includes (has given) (has (map negate (take (length lits - 1) (drop 1 lits))))
rest_wider given [] some wider k h = absurd (omega arith)
rest_wider given (x ∷ ls) some wider k h =
    let here : IsIn (has (map negate ls)) k = subst (λ (rest : List Literal). IsIn (has (map negate rest)) k) (take_all (length (x ∷ ls) - 1) ls (omega arith))
    h in
    wider k (has_from_contains (negate x ∷ map negate ls) k (contains_later (negate x) k (map negate ls) (contains_from_has (map negate ls) k here)))

-- the further variables are those of no clause
pub further_unset : (vars : ℕ) (lits : List Literal) → AreThere vars lits → All (λ l. IsUnset (assumed vars []) l) lits
further_unset vars lits there = λ i d lt.
    let l = get_or lits i d in
    let low = (there_get vars lits i d lt there).1 in
    let lacks : (x : Literal) → x.var ≤ vars → has (assumed vars []) x ≡ false = λ x le. false_from_ne_true (has (assumed vars []) x)
    (λ h. let none : false ≡ true = assumed_low vars [] x h le in cc) in
    (lacks l low, lacks (negate l) low)

-- the first literal of a clause is assumed to be false too
split_first : (vars : ℕ) (first : Literal) (others : List Literal) (k : Literal) → IsIn (has (map negate (first ∷ others))) k →
    (k ≡ negate first) ⊎ IsIn (has (map negate others)) k
split_first vars first others k h = elim (has_behind (negate first ∷ []) (map negate others) k h) [
  | inl one ↦
      let at = contains_from_has (negate first ∷ []) k one in
      inl (only_one (negate first) k at.0 at.1 at.2)
  | inr more ↦ inr more
]
  where
    only_one : (x y : Literal) (j : ℕ) → j < 1 → get_or (x ∷ []) j y ≡ y → y ≡ x
    only_one x y zero lt is = sym is
    only_one x y (suc j) lt is = absurd (omega (arith, lt))

one_wider : (vars : ℕ) (first : Literal) (others : List Literal) → Includes (has (assumed vars (first ∷ others))) (has (assumed vars others))
one_wider vars first others k h = elim (has_behind (assumed vars []) (map negate others) k h) [
  | inl further ↦ has_left (assumed vars []) (map negate (first ∷ others)) k further
  | inr later ↦ has_right (assumed vars []) (map negate (first ∷ others)) k (has_right (negate first ∷ []) (map negate others) k later)
]

in_whole : (lits : List Literal) (n : ℕ) (k : Literal) → IsIn (has (take n lits)) k → IsIn (has lits) k
in_whole lits n k h = subst (λ (ls : List Literal). IsIn (has ls) k) (take-append-drop n lits) (has_left (take n lits) (drop n lits) k h)

pub assuming_first : (a : Attached) (vars : ℕ) (first : Literal) (others : List Literal) (m n : Marks) → IsDenying a vars others m → IsUnset m.lits first →
    n ≡ with_lit m (negate first) 0 → AreWatched a n → IsDenying a vars (first ∷ others) n
assuming_first a vars first others m n h unset e watched =
    let l = negate first in
    let lits : n.lits ≡ m.lits ++ l ∷ [] = ap (λ (x : Marks). x.lits) e in
    let cuts : n.cuts ≡ m.cuts = ap (λ (x : Marks). x.cuts) e in
    let front : n.front ≡ m.front = ap (λ (x : Marks). x.front) e in
    let size : length n.lits ≡ length m.lits + 1 = ap (λ (ls : List Literal). length ls) lits ∙ length-append m.lits (l ∷ []) in
    let taken : take (length m.lits) n.lits ≡ m.lits = ap (take (length m.lits)) lits ∙ take_at m.lits (l ∷ []) (length m.lits) refl in
    let last : IsIn (has n.lits) l = subst (λ (ls : List Literal). IsIn (has ls) l) (sym lits) (has_last m.lits l) in
    let given = assumed vars (first ∷ others) in
    let mine : IsIn (has given) l = has_right (assumed vars []) (map negate (first ∷ others)) l
    (has_left (l ∷ []) (map negate others) l (has_from_contains (l ∷ []) l (0, omega arith, refl))) in
    record {
      all_vars = ap (λ (x : Marks). x.vars) e ∙ h.all_vars;
      watched = watched;
      whole = λ k i. elim (has_behind (assumed vars []) (map negate (first ∷ others)) k i) [
        | inl further ↦ subst (λ (ls : List Literal). IsIn (has ls) k) (sym lits)
            (has_left m.lits (l ∷ []) k (h.whole k (has_left (assumed vars []) (map negate others) k further)))
        | inr later ↦ elim (split_first vars first others k later) [
          | inl is ↦ subst (λ (x : Literal). IsIn (has n.lits) x) (sym is) last
          | inr more ↦ subst (λ (ls : List Literal). IsIn (has ls) k) (sym lits) (has_left m.lits (l ∷ []) k
              (h.whole k (has_right (assumed vars []) (map negate others) k more)))
        ]
      ];
      reasons = reasons_with a m n l given (unset_turned m.lits first l unset refl) lits (ap (λ (x : Marks). x.reasons) e) mine
          (reasons_wider a m (assumed vars others) given (one_wider vars first others) h.reasons);
      bare = λ k i. ap (λ (x : Marks). get_or x.reasons k.var 0) e ∙ elim (split_first vars first others k i) [
        | inl is ↦ ap (λ (x : Literal). get_or (set m.reasons l.var 0) x.var 0) is ∙ none_at m.reasons l.var
        | inr more ↦ none_stays m.reasons l.var k.var (h.bare k more)
      ];
      levels = elim h.levels [
        | inl one ↦ inl (cuts ∙ one)
        | inr two ↦
            let within = two.within in
            let low = two.front in
            let same : take two.start n.lits ≡ take two.start m.lits = sym (take-take two.start (length m.lits) n.lits within) ∙ ap (take two.start) taken in
            inr (record {
              start = two.start;
              cuts = cuts ∙ two.cuts;
              within = omega (arith, within, size);
              front = omega (arith, low, front);
              further = λ k i. subst (λ (ls : List Literal). IsIn (has ls) k) (sym same) (two.further k i);
              apart = λ k i j.
                  let here : IsIn (has (take two.start m.lits)) k = subst (λ (ls : List Literal). IsIn (has ls) k) same i in
                  elim (split_first vars first others k j) [
                    | inl is ↦ both_ways (has m.lits l) unset.1 (subst (λ (x : Literal). IsIn (has m.lits) x) is (in_whole m.lits two.start k here))
                    | inr more ↦ two.apart k here more
                  ];
            })
      ];
    }
