-- Keeping a clause that is given at level 0.
use Rattle.std.proofs.Common.{◌≡◌, ◌≢◌, ℕ, suc, ◌<◌, ◌≤◌, ◌⊎◌, Bool, true, false, List, [], ◌∷◌, ◌++◌, length, get_or, take, refl, sym, ◌∙◌, ap, subst, inl}
use Rattle.std.proofs.Common.{inr, arith}
use Rattle.std.specs.Prelude.{All, Contains, Some, slice_get}
use Rattle.std.proofs.lemmas.Bool.{cases_lt, cases_eq, cases_Bool}
use Rattle.std.proofs.lemmas.List.Elements.{All-weaker, Contains-push, Contains-append_right}
use Rattle.cnf_core.specs.Lit.{Literal, literal, negate, has}
use Rattle.cnf_core.specs.Clause.{Clauses, AreDistinct, AreThere, IsThere}
use Rattle.cnf_core.specs.Propagation.{IsIn, Rup, Closure, negations, AreAmong, SameLiterals}
use Rattle.cnf_core.proofs.PropagationLemmas.{closure_any, contains_first, contains_later, among_left, rup_more}
use Rattle.cnf_core.proofs.QuantifierLemmas.{pairs_from_distinct, distinct_from_pairs}
use Rattle.cnf_core.proofs.TrailLemmas.{there_get}
use Rattle.watch_arena.specs.Trail.{Marks, IsMarks, IsUnset}
use Rattle.watch_arena.specs.Arena.{Attached, AreWatched, MayBeWatched, attached_clauses}
use Rattle.cdcl_learn.specs.Sight.{sight, level_of}
use Rattle.watch_arena.proofs.LawLemmas.{may_open, may_held}
use Rattle.cdcl_core.specs.Roots.{all_of, HasRoots, IsGrounded, IsSolving}
use Rattle.cdcl_core.specs.Search.{IsExchanged, IsFalseClause, IsFalse, IsFronted, IsSilent, IsAssertedClause}
use Rattle.cdcl_learn.proofs.LiteralLemmas.{consistent}
use Rattle.cdcl_core.proofs.SetLemmas.{not_both, among_append, among_itself}
use Rattle.cdcl_core.proofs.MoveLemmas.{level_low}
use Rattle.cdcl_core.proofs.RootLemmas.{root_follows, reason_among}
use Rattle.cdcl_core.proofs.SolvingLemmas.{grounded_sound, grounded_owned, grounded_attached}
use Rattle.cdcl_core.proofs.LearnLemmas.{IsPut, put_text}
use Rattle.cdcl_core.proofs.KeepLemmas.{head_is}

-- at level 0 every literal of the trail is of level 0
pub root_level : (a : Attached) (m : Marks) (l : Literal) → IsMarks m → m.cuts ≡ [] → IsIn (has m.lits) l → level_of (sight a m) l ≡ 0
root_level a m l marks none on =
    let most = level_low a m l marks on in
    let z : length m.cuts ≡ 0 = ap length none in
    omega arith

-- a clause that is false at level 0 refutes all
pub refuted_by : (a : Attached) (m : Marks) (own now : Clauses) (refuted : Bool) (c : List Literal) → now ≡ own ++ c ∷ [] → m.cuts ≡ [] → IsFalseClause m c →
    IsGrounded a m own refuted → Rup (all_of a now) []
refuted_by a m own now refuted c is none off g = record {
  clause = c;
  among = Contains-append_right (attached_clauses a) now c (subst (λ (cs : Clauses). Contains cs c) (sym is) (Contains-push own c));
  each = All-weaker (IsFalse m) (λ k. Closure (all_of a now) (negations []) (negate k)) (λ k on. closure_any (all_of a now) (negations []) (negate k)
      (root_follows (sight a m) (all_of a now) (grounded_sound a m own refuted g) rooted (negate k) on (root_level a m (negate k) g.marks none on))) c off;
}
  where
    rooted : HasRoots (sight a m) (all_of a now)
    rooted = λ i lt z. reason_among (all_of a own) (all_of a now) (has (take i m.lits)) (get_or m.lits i (literal 0 true))
        (among_append (attached_clauses a) own (attached_clauses a) now (among_itself (attached_clauses a))
        (subst (λ (cs : Clauses). AreAmong own cs) (sym is) (among_left own (c ∷ [])))) (g.rooted i lt z)

pub solving_refuting : (a : Attached) (m : Marks) (own now : Clauses) (refuted : Bool) (c : List Literal) → now ≡ own ++ c ∷ [] → m.cuts ≡ [] →
    IsFalseClause m c → AreThere m.vars c → IsSolving a m own refuted → IsSolving a m now true
solving_refuting a m own now refuted c is none off there s = record {
  watched = s.watched;
  grounded = grounded_owned a m own now refuted true c is there (λ e. cc) (λ e. refuted_by a m own now refuted c is none off s.grounded) s.grounded;
}

-- a clause of one literal that is true already
pub solving_owned : (a : Attached) (m : Marks) (own now : Clauses) (refuted : Bool) (c : List Literal) → now ≡ own ++ c ∷ [] → m.cuts ≡ [] → length c ≡ 1 →
    IsSilent m c → AreThere m.vars c → IsSolving a m own refuted → IsSolving a m now refuted
solving_owned a m own now refuted [] is none one silent there s = absurd silent
solving_owned a m own now refuted (l ∷ []) is none one silent there s = record {
  watched = s.watched;
  grounded = grounded_owned a m own now refuted refuted (l ∷ []) is there
      (λ e. (e, record { lit = l; inside = contains_first l []; true_ = silent; root = root_level a m l s.grounded.marks none silent }))
      (λ e. rup_more (all_of a own) (all_of a now) [] (among_append (attached_clauses a) own (attached_clauses a) now (among_itself (attached_clauses a))
      (subst (λ (cs : Clauses). AreAmong own cs) (sym is) (among_left own ((l ∷ []) ∷ [])))) (s.grounded.falsified e))
      s.grounded;
}
solving_owned a m own now refuted (k ∷ (l ∷ ls)) is none one silent there s = absurd (omega arith)

-- a longer clause that makes no literal true
watched_silent : (a b : Attached) (m : Marks) (own : Clauses) (refuted : Bool) (k l : Literal) (ls : List Literal) → m.cuts ≡ [] →
    ((n : Marks) → AreWatched a n → MayBeWatched n (k ∷ l ∷ ls) → AreWatched b n) → AreWatched a m → IsSilent m (k ∷ l ∷ ls) → IsMarks m →
    (has m.lits (negate l) ≡ true) ⊎ (has m.lits (negate l) ≡ false) → AreWatched b m
watched_silent a b m own refuted k l ls none put before silent marks value = elim silent [
  | inr open_ ↦ put m before (may_open m k l open_)
  | inl on ↦ elim value [
    | inl off ↦ put m before (may_held m k l marks (inr (record {
      first = off;
      second = on;
      level = let x = root_level b m k marks none on in let y = root_level b m (negate l) marks none off in omega arith;
    })))
    | inr free ↦ put m before (may_open m k l (record {
      first = λ h. consistent (sight b m) k marks.distinct on h;
      second = λ h. not_both (has m.lits (negate l)) h free;
    }))
  ]
]

pub solving_silent : (a b : Attached) (m : Marks) (own : Clauses) (refuted : Bool) (p : ℕ) (c : List Literal) → m.cuts ≡ [] → length c ≢ 1 → IsPut a b m p c →
    IsSilent m c → AreThere m.vars c → IsSolving a m own refuted → IsSolving b m own refuted
solving_silent a b m own refuted p [] none more put silent there s = absurd silent
solving_silent a b m own refuted p (l ∷ []) none more put silent there s = absurd (more refl)
solving_silent a b m own refuted p (k ∷ (l ∷ ls)) none more put silent there s = record {
  watched = watched_silent a b m own refuted k l ls none put.watched s.watched silent s.grounded.marks (cases_Bool (has m.lits (negate l)));
  grounded = grounded_attached a b m own refuted p (k ∷ (l ∷ ls)) put.more put.places put.clause (put_text a b m p (k ∷ (l ∷ ls)) put) put.reasoned there
      (λ q lt. absurd (let z : length m.cuts ≡ 0 = ap length none in omega arith)) s.grounded;
}

-- literals that changed places
module _ (old new : List Literal) (a b : ℕ) (e : IsExchanged old new a b) (la : a < length old) (lb : b < length old) where
  -- where the literal at a place stood
  pub record StoodAt (i : ℕ) : Type 0 where
    pub place : ℕ
    pub within : place < length old
    pub is : (d : Literal) → get_or new i d ≡ get_or old place d
    pub turn : ((i ≡ a) × (place ≡ b)) ⊎ (((i ≡ b) × (place ≡ a)) ⊎ ((i ≢ a) × (i ≢ b) × (place ≡ i)))

  stood : (i : ℕ) → i < length new → StoodAt i
  stood i lt = elim (cases_eq i a) [
    | inl same ↦ record { place = b; within = lb; is = λ d. ap (λ j. get_or new j d) same ∙ e.first d; turn = inl (same, refl) }
    | inr na ↦ elim (cases_eq i b) [
      | inl same ↦ record { place = a; within = la; is = λ d. ap (λ j. get_or new j d) same ∙ e.second d; turn = inr (inl (same, refl)) }
      | inr nb ↦ record { place = i; within = let s = e.size in omega arith; is = λ d. e.others i d na nb; turn = inr (inr (na, nb, refl)) }
    ]
  ]

  apart : (i j : ℕ) (p : StoodAt i) (q : StoodAt j) → i ≢ j → p.place ≢ q.place
  apart i j p q ne same = elim p.turn [
    | inl x ↦ elim q.turn [
      | inl y ↦ ne (x.0 ∙ sym y.0)
      | inr z ↦ elim z [
        | inl y ↦ let x1 = x.1 in let y1 = y.1 in let x0 = x.0 in let y0 = y.0 in ne (omega arith)
        | inr y ↦ y.1 (sym y.2 ∙ sym same ∙ x.1)
      ]
    ]
    | inr w ↦ elim w [
      | inl x ↦ elim q.turn [
        | inl y ↦ let x1 = x.1 in let y1 = y.1 in let x0 = x.0 in let y0 = y.0 in ne (omega arith)
        | inr z ↦ elim z [
          | inl y ↦ ne (x.0 ∙ sym y.0)
          | inr y ↦ y.0 (sym y.2 ∙ sym same ∙ x.1)
        ]
      ]
      | inr x ↦ elim q.turn [
        | inl y ↦ x.1 (sym x.2 ∙ same ∙ y.1)
        | inr z ↦ elim z [
          | inl y ↦ x.0 (sym x.2 ∙ same ∙ y.1)
          | inr y ↦ ne (sym x.2 ∙ same ∙ y.2)
        ]
      ]
    ]
  ]

  pub exchanged_back : (l : Literal) → Contains new l → Contains old l
  exchanged_back l c =
      let p = stood c.0 c.1 in
      (p.place, p.within, sym (p.is l) ∙ c.2)

  pub exchanged_distinct : AreDistinct old → AreDistinct new
  exchanged_distinct h = distinct_from_pairs new (λ i j d lt within.
      let p = stood i (omega arith) in
      let q = stood j within in
      let ne = apart i j p q (differ i j lt) in
      λ same. differs p.place q.place d ne p.within q.within (ap (λ (l : Literal). l.var) (sym (p.is d)) ∙ same ∙ ap (λ (l : Literal). l.var) (q.is d)))
    where
      differ : (i j : ℕ) → i < j → i ≢ j
      differ i j lt = omega arith

      differs : (x y : ℕ) (d : Literal) → x ≢ y → x < length old → y < length old → (get_or old x d).var ≡ (get_or old y d).var → ⊥
      differs x y d ne lx ly same = elim (cases_lt x y) [
        | inl lt ↦ pairs_from_distinct old h x y d lt ly same
        | inr ge ↦ pairs_from_distinct old h y x d (let n = ne in omega arith) lx (sym same)
      ]

exchanged_sym : (old new : List Literal) (a b : ℕ) → IsExchanged old new a b → IsExchanged new old a b
exchanged_sym old new a b e = record {
  size = sym e.size;
  first = λ d. sym (e.second d);
  second = λ d. sym (e.first d);
  others = λ i d na nb. sym (e.others i d na nb);
}

pub exchanged_same : (old new : List Literal) (a b : ℕ) → IsExchanged old new a b → a < length old → b < length old → SameLiterals old new
exchanged_same old new a b e la lb = λ l. (
  exchanged_back new old a b (exchanged_sym old new a b e) (let s = e.size in omega arith)
      (let s = e.size in omega arith) l,
  exchanged_back old new a b e la lb l,
)

pub there_same : (vars : ℕ) (old new : List Literal) → SameLiterals old new → AreThere vars old → AreThere vars new
there_same vars old new same h = by_list new (λ l c. there_of ((same l).1 c))
  where
    there_of : {l : Literal} → Contains old l → IsThere vars l
    there_of {l} c = subst (IsThere vars) c.2 (there_get vars old c.0 l c.1 h)

    by_list : (ls : List Literal) → ((l : Literal) → Contains ls l → IsThere vars l) → AreThere vars ls
    by_list [] f = tt
    by_list (l ∷ ls) f = (f l (contains_first l ls), by_list ls (λ k c. f k (contains_later l k ls c)))

-- up to two literals that aren't false stand in front
pub fronted_none : (m : Marks) (c : List Literal) (first : ℕ) → first ≡ length c → ((i : ℕ) (d : Literal) → 0 ≤ i → i < first → IsFalse m (get_or c i d)) →
    IsFronted m c 0
fronted_none m c first e h = record {
  few = omega arith;
  some = omega arith;
  front = λ i d lt. absurd (omega arith);
  others = λ i d few le lt. h i d (omega arith) (omega arith);
}

not_false : (m : Marks) (k l : Literal) → k ≡ l → has m.lits (negate l) ≡ false → IsFalse m k → ⊥
not_false m k l e off on = not_both (has m.lits (negate l)) (subst (λ (x : Literal). IsFalse m x) e on) off

pub fronted_one : (m : Marks) (old new : List Literal) (first second : ℕ) → IsExchanged old new 0 first → first < length old →
    ((d : Literal) → first < length old → has m.lits (negate (get_or old first d)) ≡ false) → second ≡ length new →
    ((i : ℕ) (d : Literal) → 1 ≤ i → i < second → IsFalse m (get_or new i d)) → IsFronted m new 1
fronted_one m old new first second e lt off end rest = record {
  few = omega arith;
  some = let s = e.size in omega arith;
  front = λ i d below. let z : i ≡ 0 = omega arith in not_false m (get_or new i d) (get_or old first d) (ap (λ j. get_or new j d) z ∙ e.first d) (off d lt);
  others = λ i d few le within. rest i d le (omega arith);
}

pub fronted_two : (m : Marks) (old mid new : List Literal) (first second : ℕ) → IsExchanged old mid 0 first → IsExchanged mid new 1 second →
    first < length old → 1 ≤ second → second < length mid → ((d : Literal) → first < length old → has m.lits (negate (get_or old first d)) ≡ false) →
    ((d : Literal) → second < length mid → has m.lits (negate (get_or mid second d)) ≡ false) → IsFronted m new 2
fronted_two m old mid new first second e f lt one within off other = record {
  few = omega arith;
  some = let s = e.size in let t = f.size in omega arith;
  front = λ i d below. elim (cases_eq i 0) [
    | inl z ↦ not_false m (get_or new i d) (get_or old first d) (ap (λ j. get_or new j d) z ∙ f.others 0 d (below_one 1 (omega arith)) (below_one second one)
        ∙ e.first d) (off d lt)
    | inr nz ↦ let is : i ≡ 1 = omega arith in not_false m (get_or new i d) (get_or mid second d) (ap (λ j. get_or new j d) is ∙ f.first d) (other d within)
  ];
  others = λ i d few le lt2. absurd (omega arith);
}
  where
    below_one : (n : ℕ) → 1 ≤ n → 0 ≢ n
    below_one n le e = absurd (omega arith)

pub false_all : (m : Marks) (c : List Literal) → IsFronted m c 0 → IsFalseClause m c
false_all m c f = λ i d lt. f.others i d (omega arith) (omega arith) lt

value_true : (m : Marks) (k : Literal) → (IsUnset m.lits k → ⊥) → (IsFalse m k → ⊥) → IsIn (has m.lits) k
value_true m k set_ off = elim (cases_Bool (has m.lits k)) [
  | inl t ↦ t
  | inr f ↦ elim (cases_Bool (has m.lits (negate k))) [ inl t ↦ absurd (off t) | inr g ↦ absurd (set_ (f, g)) ]
]

pub silent_two : (m : Marks) (c : List Literal) (n : ℕ) → IsFronted m c n → 2 ≤ n → IsSilent m c
silent_two m [] n f two = absurd (let s = f.some in omega arith)
silent_two m (k ∷ []) n f two = absurd (let s = f.some in omega arith)
silent_two m (k ∷ (l ∷ ls)) n f two = inr (record { first = λ h. f.front 0 k (omega arith) h; second = λ h. f.front 1 k (omega arith) h })

pub silent_one : (m : Marks) (c : List Literal) (l : Literal) → IsFronted m c 1 → slice_get c 0 ≡ Some l → (IsUnset m.lits l → ⊥) → IsSilent m c
silent_one m [] l f e set_ = absurd (let s = f.some in omega arith)
silent_one m (k ∷ []) l f e set_ = value_true m k (λ u. set_ (subst (IsUnset m.lits) (head_is k l [] e) u)) (λ h. f.front 0 k (omega arith) h)
silent_one m (k ∷ (x ∷ ls)) l f e set_ = inl (value_true m k (λ u. set_ (subst (IsUnset m.lits) (head_is k l (x ∷ ls) e) u)) (λ h. f.front 0 k (omega arith) h))

pub first_there : (vars : ℕ) (c : List Literal) (l : Literal) → slice_get c 0 ≡ Some l → AreThere vars c → IsThere vars l
first_there vars [] l e h = cc
first_there vars (k ∷ ls) l e h = subst (IsThere vars) (head_is k l ls e) h.0

pub asserted_one : (a : Attached) (m : Marks) (c : List Literal) (l : Literal) → IsMarks m → m.cuts ≡ [] → IsFronted m c 1 → slice_get c 0 ≡ Some l →
    IsUnset m.lits l → AreThere m.vars c → AreDistinct c → IsAssertedClause a m c
asserted_one a m [] l marks none f e un there distinct = absurd (let s = f.some in omega arith)
asserted_one a m (k ∷ rest) l marks none f e un there distinct = record {
  unset = subst (IsUnset m.lits) (sym (head_is k l rest e)) un;
  others = off;
  there = there;
  distinct = distinct;
  second = λ x ls is. root_level a m (negate x) marks none (off_at x ls is) ∙ sym (ap length none);
  alone = λ _. ap length none;
  levels = λ q lt. absurd (let z : length m.cuts ≡ 0 = ap length none in omega arith);
}
  where
    off : All (IsFalse m) rest
    off = λ i d lt. f.others (suc i) d (omega arith) (omega arith) (omega arith)

    off_at : (x : Literal) (ls : List Literal) → rest ≡ x ∷ ls → IsFalse m x
    off_at x ls is = first_of (subst (All (IsFalse m)) is off)
      where
        first_of : All (IsFalse m) (x ∷ ls) → IsFalse m x
        first_of h = h 0 x (omega arith)

pub same_twice : (a b c : List Literal) → SameLiterals a b → SameLiterals b c → SameLiterals a c
same_twice a b c f g = λ l. (λ h. (g l).0 ((f l).0 h), λ h. (f l).1 ((g l).1 h))
