-- The clause that a conflict gives, and what keeping it leaves.
use Rattle.std.proofs.Common.{◌≡◌, ◌≢◌, ℕ, ◌+◌, ◌-◌, ◌<◌, ◌≤◌, ◌⊎◌, Bool, true, false, List, [], ◌∷◌, ◌++◌, length, take, get_or, refl, sym, ◌∙◌, subst, inl}
use Rattle.std.proofs.Common.{inr, arith, length-append, length-take-le}
use Rattle.std.specs.Prelude.{All, Contains}
use Rattle.std.proofs.lemmas.Bool.{cases_lt, cases_eq, cases_Bool}
use Rattle.std.proofs.lemmas.List.{get_or_push}
use Rattle.std.proofs.lemmas.List.Elements.{All-nil, All-cons, All-head, All-tail, All-weaker, All-push, All-contains, All-contains_itself, Contains-push}
use Rattle.std.proofs.lemmas.List.Elements.{Contains-append_left, Contains-append_right}
use Rattle.cnf_core.specs.Lit.{Literal, literal, negate, has}
use Rattle.cnf_core.specs.Clause.{Clauses, AreThere, IsThere, IsNamed}
use Rattle.cnf_core.specs.Propagation.{IsIn, IsUnit, HasReason, AreAmong, greatest_var}
use Rattle.cnf_core.proofs.PropagationLemmas.{contains_from_has, contains_first, contains_later, among_left, rup_more}
use Rattle.cnf_core.proofs.TrailLemmas.{has_last}
use Rattle.watch_arena.specs.Trail.{Marks, IsMarks, undone, with_lit}
use Rattle.watch_arena.specs.Arena.{Attached, AreAttached, AreWatched, AreReasoned, IsMoreText, MayBeWatched, IsClashOf, IsReasonOf, attached_at}
use Rattle.watch_arena.specs.Arena.{attached_clauses}
use Rattle.cdcl_learn.specs.Sight.{Sight, sight, nth, level_of, IsSound}
use Rattle.cdcl_learn.specs.Cut.{IsConflict, IsLearnt, IsBack, IsLearntOf}
use Rattle.cdcl_learn.specs.Levels.{upto, HasClosedLevels}
use Rattle.cdcl_learn.proofs.LevelLemmas.{upto_parts, upto_from, levels_learnt, is_new, quiet_open}
use Rattle.cdcl_learn.proofs.LiteralLemmas.{consistent, there_contains}
use Rattle.cnf_core.specs.declared.limits.TheConstants.{LAST_VAR, VARS}
use Rattle.watch_arena.proofs.LevelLemmas.{watched_with}
use Rattle.watch_arena.proofs.LawLemmas.{may_asserted}
use Rattle.cdcl_core.specs.Kept.{IsDeduced, IsOpenQuery}
use Rattle.cdcl_core.specs.Roots.{all_of, IsGrounded, IsSolving, IsTrueAtRoot, IsAssuming}
use Rattle.cdcl_core.specs.Search.{IsAsserted}
use Rattle.cdcl_core.proofs.SetLemmas.{among_append, among_itself, text_added, text_of_place}
use Rattle.cdcl_core.proofs.MoveLemmas.{IsFurther, further_undone, further_lit, further_in, back_upto, back_same, level_low}
use Rattle.cdcl_core.proofs.RootLemmas.{rup_down, roots_further, true_further}
use Rattle.cdcl_core.proofs.SolvingLemmas.{grounded_sound, grounded_attached, grounded_lit, levels_kept}
use Rattle.cdcl_core.proofs.AskLemmas.{asking_all}
use Rattle.cdcl_core.proofs.LogLemmas.{named_below}

-- the clause that an analysis leaves has a first literal
pub record HasFirst (s : Sight) (c : List Literal) (back : ℕ) : Type 0 where
  pub first : Literal
  pub rest : List Literal
  pub is : c ≡ first ∷ rest
  pub learnt : IsLearnt s first rest
  pub jump : IsBack s rest back

pub learnt_parts : (s : Sight) (c : List Literal) (back : ℕ) → IsLearntOf s c back → HasFirst s c back
learnt_parts s [] back h = absurd h
learnt_parts s (first ∷ rest) back h = record { first = first; rest = rest; is = refl; learnt = h.0; jump = h.1 }

-- a clause all of whose literals are false has one of the present level
find_level : (s : Sight) (c : List Literal) → ((l : Literal) × Contains c l × (level_of s l ≡ s.level)) ⊎ All (λ k. level_of s k ≢ s.level) c
find_level s [] = inr (All-nil (λ k. level_of s k ≢ s.level))
find_level s (k ∷ c) = elim (cases_eq (level_of s k) s.level) [
  | inl e ↦ inl (k, contains_first k c, e)
  | inr ne ↦ elim (find_level s c) [
    | inl f ↦ inl (f.0, contains_later k f.0 c f.1, f.2)
    | inr none ↦ inr (All-cons (λ k. level_of s k ≢ s.level) k c ne none)
  ]
]

pub conflict_of : (a : Attached) (m : Marks) (own : Clauses) (refuted : Bool) (p : ℕ) → IsGrounded a m own refuted → IsClashOf a m p → 0 < length m.cuts →
    IsConflict (sight a m) p
conflict_of a m own refuted p g clash above = elim (find_level (sight a m) (attached_at a p)) [
  | inl f ↦ record { place = clash.place; falsified = clash.all_false; lit = f.0; among = f.1; present = f.2; above = above }
  | inr none ↦ absurd (low none)
]
  where
    low : All (λ k. level_of (sight a m) k ≢ length m.cuts) (attached_at a p) → ⊥
    low none = (g.levels (length m.cuts - 1) (omega arith)).unfalsified (record {
      clause = attached_at a p;
      among = text_of_place a p clash.place;
      each = λ k d lt.
          let on = clash.all_false k d lt in
          let ne = none k d lt in
          let most = level_low a m (negate (get_or (attached_at a p) k d)) g.marks on in
          upto_from (sight a m) (length m.cuts - 1) (negate (get_or (attached_at a p) k d)) on
          (below (level_of (sight a m) (get_or (attached_at a p) k d)) (length m.cuts) most ne);
    })
      where
        below : (x n : ℕ) → x ≤ n → x ≢ n → x ≤ n - 1
        below x n le ne = omega arith

-- it is deduced from all kept clauses
pub deduced_all : (a : Attached) (m : Marks) (own : Clauses) (first : Literal) (rest : List Literal) → IsGrounded a m own false →
    IsLearnt (sight a m) first rest → IsDeduced (all_of a own) (first ∷ rest)
deduced_all a m own first rest g learnt = record {
  follows = rup_down (sight a m) (all_of a own) sound g.rooted (first ∷ rest) among learnt.rup;
  new = is_new (sight a m) (all_of a own) first rest g.marks.distinct (levels_kept a m own g) learnt
      (All-weaker (λ k. IsNamed (attached_clauses a) k.var) (λ l. l.var ≤ greatest_var (all_of a own))
      (λ k n. named_below (attached_clauses a) (all_of a own) k.var among n) (first ∷ rest) learnt.named);
}
  where
    sound : IsSound (sight a m)
    sound = grounded_sound a m own false g

    among : AreAmong (attached_clauses a) (all_of a own)
    among = among_left (attached_clauses a) own

-- above the levels of the assumptions the query is open
pub open_above : (a : Attached) (m : Marks) (own : Clauses) (query : List Literal) (q n : ℕ) → IsGrounded a m own false → q < length m.cuts →
    IsAssuming query (sight a m) q n → IsOpenQuery (all_of a own) query
open_above a m own query q n g above asking = λ f. quiet_open (all_of a own) (upto (sight a m) q) (has query) (levels_kept a m own g q above)
    (λ l on. asking_all query (sight a m) q n all asking l (contains_from_has query l on)) f
  where
    all : length query ≤ n
    all = elim (cases_lt n (length query)) [
      | inl lt ↦ let e = asking.left lt in absurd (omega arith)
      | inr ge ↦ ge
    ]

-- the jump goes back
pub back_below : (s : Sight) (first : Literal) (rest : List Literal) (back : ℕ) → IsLearnt s first rest → IsBack s rest back → back < s.level
back_below s first [] back learnt jump =
    let z = jump.none refl in
    let e = learnt.present in
    let above : 0 < level_of s first = All-head (λ k. 0 < level_of s k) first [] learnt.above in
    omega arith
back_below s first (l ∷ rest) back learnt jump =
    let e = jump.first l rest refl in
    let below : level_of s l < s.level = All-head (λ k. level_of s k < s.level) l rest learnt.lower in
    omega arith

pub there_by : (vars : ℕ) (c : List Literal) → All (IsThere vars) c → AreThere vars c
there_by vars [] h = tt
there_by vars (l ∷ c) h = (All-head (IsThere vars) l c h, there_by vars c (All-tail (IsThere vars) l c h))

pub learnt_there : (m : Marks) (first : Literal) (rest : List Literal) → IsMarks m → All (λ k. IsIn (has m.lits) (negate k)) (first ∷ rest) →
    AreThere m.vars (first ∷ rest)
learnt_there m first rest marks off = there_by m.vars (first ∷ rest) (All-weaker (λ k. IsIn (has m.lits) (negate k)) (IsThere m.vars)
    (λ k on. there_contains m.vars m.lits (negate k) marks.there (contains_from_has m.lits (negate k) on)) (first ∷ rest) off)

pub vars_low : (n : ℕ) → n ≤ VARS → n ≤ LAST_VAR
vars_low n le = omega arith

-- after the jump the clause makes its first literal true
pub asserted_back : (a : Attached) (m : Marks) (own : Clauses) (refuted : Bool) (first : Literal) (rest : List Literal) (back : ℕ) →
    IsGrounded a m own refuted → IsLearnt (sight a m) first rest → IsBack (sight a m) rest back → IsMarks (undone m back) →
    IsAsserted a (undone m back) first rest
asserted_back a m own refuted first rest back g learnt jump after = record {
  unset = (off_first (cases_Bool (has (undone m back).lits first)), off_negated (cases_Bool (has (undone m back).lits (negate first))));
  others = All-weaker (Contains rest) (λ k. IsIn (has (undone m back).lits) (negate k)) stays rest (All-contains_itself rest);
  there = there_by m.vars (first ∷ rest) (All-weaker (λ k. IsIn (has m.lits) (negate k)) (IsThere m.vars)
      (λ k on. there_contains m.vars m.lits (negate k) g.marks.there (contains_from_has m.lits (negate k) on)) (first ∷ rest) learnt.falsified);
  distinct = learnt.distinct;
  second = λ l ls e. jump.first l ls e ∙ sym size;
  alone = λ none. size ∙ jump.none none;
  levels = levels_learnt (sight a m) (sight a (undone m back)) (attached_clauses a) first rest back g.marks.distinct learnt jump size
      (back_same a a (undone m back) m (back + 1) f (length (take back m.cuts)) (let e = size in omega arith)) g.levels;
}
  where
    lower : back < length m.cuts
    lower = back_below (sight a m) first rest back learnt jump

    size : length (take back m.cuts) ≡ back
    size = length-take-le back m.cuts (let l = lower in omega arith)

    f : IsFurther (undone m back) m (back + 1)
    f = further_undone m back g.marks after (let l = lower in omega arith)

    false_first : IsIn (has m.lits) (negate first)
    false_first = All-head (λ k. IsIn (has m.lits) (negate k)) first rest learnt.falsified

    off_first : (has (undone m back).lits first ≡ true) ⊎ (has (undone m back).lits first ≡ false) → has (undone m back).lits first ≡ false
    off_first h = elim h [
      | inl t ↦ absurd (consistent (sight a m) first g.marks.distinct (further_in a a (undone m back) m (back + 1) f first t) false_first)
      | inr e ↦ e
    ]

    off_negated : (has (undone m back).lits (negate first) ≡ true) ⊎ (has (undone m back).lits (negate first) ≡ false) →
        has (undone m back).lits (negate first) ≡ false
    off_negated h = elim h [
      | inl t ↦
          let most = level_low a (undone m back) (negate first) after t in
          let present = learnt.present in
          let e = size in
          let l = lower in
          absurd (omega arith)
      | inr e ↦ e
    ]

    stays : (k : Literal) → Contains rest k → IsIn (has (undone m back).lits) (negate k)
    stays k c =
        let on : IsIn (has m.lits) (negate k) = All-contains (λ x. IsIn (has m.lits) (negate x)) rest k
        (All-tail (λ x. IsIn (has m.lits) (negate x)) first rest learnt.falsified) c in
        let low : level_of (sight a m) k ≤ back = All-contains (λ x. level_of (sight a m) x ≤ back) rest k jump.latest c in
        (upto_parts (sight a (undone m back)) back (negate k) (back_upto a a (undone m back) m (back + 1) f back (negate k) (omega arith)
        (upto_from (sight a m) back (negate k) on low))).0

-- the clause in the arena
pub unit_now : (m : Marks) (first : Literal) (rest : List Literal) → All (λ k. IsIn (has m.lits) (negate k)) rest → IsUnit (has m.lits) (first ∷ rest) first
unit_now m first rest others = record {
  among = contains_first first rest;
  others = All-cons (λ k. (k ≡ first) ⊎ IsIn (has m.lits) (negate k)) first rest (inl refl)
      (All-weaker (λ k. IsIn (has m.lits) (negate k)) (λ k. (k ≡ first) ⊎ IsIn (has m.lits) (negate k)) (λ k h. inr h) rest others);
}

-- what attaching a clause leaves
pub record IsPut (a b : Attached) (m : Marks) (p : ℕ) (c : List Literal) : Type 0 where
  pub places : b.places ≡ a.places ++ p ∷ []
  pub clause : attached_at b p ≡ c
  pub more : IsMoreText a b
  pub watched : (n : Marks) → AreWatched a n → MayBeWatched n c → AreWatched b n
  pub reasoned : AreReasoned b m
  pub attached : AreAttached b

pub put_from : (a b : Attached) (m : Marks) (p : ℕ) (c slice : List Literal) → slice ≡ c → b.places ≡ a.places ++ p ∷ [] → attached_at b p ≡ slice →
    IsMoreText a b → ((n : Marks) → AreWatched a n → MayBeWatched n slice → AreWatched b n) → AreReasoned b m → AreAttached b → IsPut a b m p c
put_from a b m p c slice same places clause more watched reasoned attached = record {
  places = places;
  clause = clause ∙ same;
  more = more;
  watched = subst (λ (ls : List Literal). (n : Marks) → AreWatched a n → MayBeWatched n ls → AreWatched
      b n) same watched;
  reasoned = reasoned;
  attached = attached;
}

pub put_text : (a b : Attached) (m : Marks) (p : ℕ) (c : List Literal) → IsPut a b m p c → attached_clauses b ≡ attached_clauses a ++ c ∷ []
put_text a b m p c put = text_added a b p c put.more put.places put.clause

pub may_be_set : (a b : Attached) (m : Marks) (p : ℕ) (first : Literal) (rest : List Literal) → IsPut a b m p (first ∷ rest) →
    All (λ k. IsIn (has m.lits) (negate k)) rest → IsReasonOf b m first p
may_be_set a b m p first rest put others =
    let there : Contains b.places p = subst (λ (ps : List ℕ). Contains ps p) (sym put.places) (Contains-push a.places p) in
    record {
      from = (put.attached p there).from;
      unit = record { place = there; unit = subst (λ (c : List Literal). IsUnit (has m.lits) c first) (sym put.clause) (unit_now m first rest others) };
    }

pub solving_long : (a b : Attached) (m t : Marks) (own : Clauses) (refuted : Bool) (p : ℕ) (first second : Literal) (rest : List Literal) →
    IsPut a b m p (first ∷ second ∷ rest) → IsAsserted a m first (second ∷ rest) → t ≡ with_lit m first p → IsMarks t → AreReasoned b t →
    IsSolving a m own refuted → IsSolving b t own refuted
solving_long a b m t own refuted p first second rest put asserted e marks reasoned s =
    subst (λ (x : Marks). IsSolving b x own refuted) (sym e)
    (record {
      watched = put.watched (with_lit m first p) (watched_with a m first p g.marks s.watched) (may_asserted m first second p g.marks (record {
        first = asserted.unset;
        second = All-head (λ k. IsIn (has m.lits) (negate k)) second rest asserted.others;
        level = asserted.second second rest refl;
      }));
      grounded = grounded_lit b m own refuted first p (subst IsMarks e marks) (subst (AreReasoned b) e reasoned)
          (record {
            reason = first ∷ second ∷ rest;
            among = Contains-append_left (attached_clauses b) own (first ∷ second ∷ rest)
                (subst (λ (cs : Clauses). Contains cs (first ∷ second ∷ rest)) (sym text) (Contains-push (attached_clauses a) (first ∷ second ∷ rest)));
            unit = unit_now m first (second ∷ rest) asserted.others;
          })
          (grounded_attached a b m own refuted p (first ∷ second ∷ rest) put.more put.places put.clause text put.reasoned asserted.there
          (subst (HasClosedLevels (sight b m)) (sym text) asserted.levels) g);
    })
  where
    g : IsGrounded a m own refuted
    g = s.grounded

    text : attached_clauses b ≡ attached_clauses a ++ (first ∷ second ∷ rest) ∷ []
    text = put_text a b m p (first ∷ second ∷ rest) put

-- the clause of one literal, in the solver's own list
pub solving_single : (a : Attached) (m t : Marks) (own now : Clauses) (refuted : Bool) (first : Literal) → now ≡ own ++ (first ∷ []) ∷ [] →
    IsAsserted a m first [] → t ≡ with_lit m first 0 → IsMarks t → AreWatched a t → AreReasoned a t → IsGrounded a m own refuted → IsSolving a t now refuted
solving_single a m t own now refuted first is asserted e marks watched reasoned g =
    subst (λ (x : Marks). IsSolving a x now refuted) (sym e) (record { watched = subst (AreWatched a) e watched; grounded = grounded })
  where
    level : length m.cuts ≡ 0
    level = asserted.alone refl

    f : IsFurther m (with_lit m first 0) (length m.cuts)
    f = further_lit m first 0 g.marks (subst IsMarks e marks)

    among : AreAmong (all_of a own) (all_of a now)
    among = among_append (attached_clauses a) own (attached_clauses a) now (among_itself (attached_clauses a))
        (subst (λ (cs : Clauses). AreAmong own cs) (sym is) (among_left own ((first ∷ []) ∷ [])))

    inside : Contains (all_of a now) (first ∷ [])
    inside = Contains-append_right (attached_clauses a) now (first ∷ []) (subst (λ (cs : Clauses). Contains cs (first ∷ [])) (sym is)
        (Contains-push own (first ∷ [])))

    new : (i : ℕ) → length m.lits ≤ i → i < length (m.lits ++ first ∷ []) → level_of (sight a (with_lit m first 0)) (nth (sight a (with_lit m first 0)) i) ≡ 0 →
        HasReason (all_of a now) (has (take i (m.lits ++ first ∷ []))) (nth (sight a (with_lit m first 0)) i)
    new i le lt z =
        let last : length m.lits ≡ i = omega (arith, length-append m.lits (first ∷ [])) in
        subst (λ (k : Literal). HasReason (all_of a now) (has (take i (m.lits ++ first ∷ []))) k) (sym (get_or_push m.lits first (literal 0 true) i last))
        (record {
          reason = first ∷ [];
          among = inside;
          unit = record {
            among = contains_first first [];
            others = All-cons (λ k. (k ≡ first) ⊎ IsIn (has (take i (m.lits ++ first ∷ []))) (negate k)) first []
                (inl refl) (All-nil (λ k. (k ≡ first) ⊎ IsIn (has (take i (m.lits ++ first ∷ []))) (negate k)));
          };
        })

    grounded : IsGrounded a (with_lit m first 0) now refuted
    grounded = record {
      vars = g.vars;
      texts = g.texts;
      marks = subst IsMarks e marks;
      reasoned = subst (AreReasoned a) e reasoned;
      levels = λ q lt. let z = level in absurd (omega arith);
      rooted = roots_further a a m (with_lit m first 0) (length m.cuts) f (all_of a own) (all_of a now) among g.rooted new;
      there = subst (All (AreThere m.vars)) (sym is) (All-push (AreThere m.vars) own (first ∷ []) g.there asserted.there);
      own_true = λ r. subst (All (IsTrueAtRoot (sight a (with_lit m first 0)))) (sym is)
          (All-push (IsTrueAtRoot (sight a (with_lit m first 0))) own (first ∷ [])
          (All-weaker (IsTrueAtRoot (sight a m)) (IsTrueAtRoot (sight a (with_lit m first 0)))
          (λ c h. true_further a a m (with_lit m first 0) (length m.cuts) f c h) own (g.own_true r))
          (record {
            lit = first;
            inside = contains_first first [];
            true_ = has_last m.lits first;
            root = let most = level_low a (with_lit m first 0) first
                (subst IsMarks e marks) (has_last m.lits first) in let z = level in omega arith;
          }));
      falsified = λ r. rup_more (all_of a own) (all_of a now) [] among (g.falsified r);
    }
