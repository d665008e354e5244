-- Hints that are found from the last one to the first.
use Rattle.std.proofs.Common.{◌≡◌, ℕ, ◌+◌, ◌-◌, ◌<◌, ◌≤◌, ◌⊎◌, Bool, true, false, zero, suc, List, [], ◌∷◌, ◌++◌, length, take, drop, get_or, map, reverse}
use Rattle.std.proofs.Common.{refl, sym, ◌∙◌, ap, subst, inl, inr, arith, length-take-le}
use Rattle.std.specs.Prelude.{All, Contains}
use Rattle.std.proofs.lemmas.Bool.{both_ways, cases_lt, false_from_ne_true}
use Rattle.std.proofs.lemmas.List.{take_all, take_more, get_or-take, get_or_default, get_or-set_other, reverse-append}
use Rattle.std.proofs.lemmas.List.Elements.{All-contains, All-more, All-weaker, Contains-get_or}
use Rattle.plan_core.proofs.Listing.{Contains-map}
use Rattle.cnf_core.specs.Lit.{Literal, negate, has, positive_of, negative_of}
use Rattle.cnf_core.specs.Clause.{Clauses, AreThere, AreDistinct}
use Rattle.cnf_core.specs.Propagation.{IsIn, Includes, IsUnit, IsClosed, IsClosure, Closure, Falsifies, Rup, negations}
use Rattle.cnf_core.proofs.PropagationLemmas.{contains_from_has, has_from_contains, contains_later, negate-negate}
use Rattle.cnf_core.proofs.QuantifierLemmas.{pairs_from_distinct}
use Rattle.cnf_core.proofs.TrailLemmas.{same_literal_or, has_last, has_front, push_keeps, same_place, distinct_consistent, there_get}
use Rattle.watch_arena.specs.Walk.{lits_at, IsReasonFor}
use Rattle.watch_arena.specs.Arena.{Attached, IsClashOf, attached_at, attached_clauses}
use Rattle.std.proofs.Common.{set, length-set}
use Rattle.std.proofs.lemmas.Bool.Decides.{eqb_tells}
use Rattle.std.proofs.lemmas.Grind.{get_or-set_at}
use Rattle.watch_arena.specs.Trail.{Marks}
use Rattle.hint_log.specs.Hint.{numbered, NamesClause, LeavesOne, Shows}
use Rattle.log_trim.specs.Trimmed.{IsInNamed, AreLean}
use Rattle.log_trim.specs.Found.{IsPadded, number_of_place, HasReasonAt, HaveReasons, AreClauses, IsDenying, IsUnfalsifiedEnd, is_needed, NoneNeeded}
use Rattle.log_trim.specs.Found.{HasNeeded, HasAssumed, HasVar, ShowsFromFront, IsBefore, AreNeededByHints, AreLeanFromFront, IsFoundFromFront, IsLeanHint}
use Rattle.log_trim.specs.Found.{NeedsWithin, assumed}
use Rattle.log_trim.proofs.LeanLemmas.{needed_within, lean_more, named_first, named_later, front_within}
use Rattle.hint_log.proofs.LeftLemmas.{IsFalse, IsOneOrFalse, left_one, left_none}
use Rattle.hint_log.proofs.NegationLemmas.{has_negated}

-- one more hint in front
pub shows_more : (clauses : Clauses) (set : List Literal) (n : ℕ) (l : Literal) (hints : List ℕ) → LeavesOne clauses (has set) n l →
    Shows clauses (set ++ l ∷ []) hints → Shows clauses set (n ∷ hints)
shows_more clauses set n l hints one s = record {
  front = n ∷ s.front;
  last = s.last;
  are = ap (λ (ns : List ℕ). n ∷ ns) s.are;
  to = s.to;
  leads = (l, one, s.leads);
  none = s.none;
}

-- a literal of the front of the trail that is needed
in_set : (trail : List Literal) (i : ℕ) (needed : List Bool) (set : List Literal) (k : Literal) → i ≤ length trail → HasNeeded trail i needed set →
    IsIn (has (take i trail)) k → is_needed needed k.var ≡ true → IsIn (has set) k
in_set trail i needed set k within needs h need =
    let at = contains_from_has (take i trail) k h in
    let size : length (take i trail) ≡ i = length-take-le i trail within in
    let below : at.0 < i = let lt = at.1 in omega (arith, size, lt) in
    let is : get_or trail at.0 k ≡ k = sym (get_or-take i trail at.0 k below) ∙ at.2 in
    subst (λ (m : Literal). IsIn (has set) m) is (needs at.0 k below (subst (λ (m : Literal). is_needed needed m.var ≡ true) (sym is) need))

-- a literal of a padded clause whose variable is no further one is one of the clause
pub not_further : (vars : ℕ) (c d : List Literal) (k : Literal) → k.var ≤ vars → IsPadded vars c d → Contains d k → Contains c k
not_further vars c d k low padded among = elim (padded.only k among) [
  | inl h ↦ h
  | inr e ↦ elim e [
    | inl first ↦ absurd (let is = ap (λ (m : Literal). m.var) first in omega (arith, is, low))
    | inr second ↦ absurd (let is = ap (λ (m : Literal). m.var) second in omega (arith, is, low))
  ]
]

-- the literals of a clause that is padded, false by a set that has what is needed
module _ (trail : List Literal) (i : ℕ) (needed : List Bool) (set : List Literal) (within : i ≤ length trail) (needs : HasNeeded trail i needed set) where
  falsified : (vars : ℕ) (c d : List Literal) → IsPadded vars c d → All (λ k. is_needed needed k.var ≡ true) c → All (IsFalse (has (take i trail))) d →
      All (IsFalse (has set)) c
  falsified vars c d padded each all = λ j e lt.
      let k = get_or c j e in
      in_set trail i needed set (negate k) within needs (All-contains (IsFalse (has (take i trail))) d k all (padded.whole k (Contains-get_or c j e lt)))
      (each j e lt)

  others : (vars : ℕ) (c d : List Literal) (l : Literal) → IsPadded vars c d → All (λ k. is_needed needed k.var ≡ true) c →
      All (IsOneOrFalse (has (take i trail)) l) d → All (IsOneOrFalse (has set) l) c
  others vars c d l padded each all = λ j e lt.
      let k = get_or c j e in
      elim (All-contains (IsOneOrFalse (has (take i trail)) l) d k all (padded.whole k (Contains-get_or c j e lt))) [
        | inl is ↦ inl is
        | inr f ↦ inr (in_set trail i needed set (negate k) within needs f (each j e lt))
      ]

next_is : (trail : List Literal) (i j : ℕ) (l d : Literal) → i < length trail → get_or trail i l ≡ l → j < i + 1 → i ≤ j → get_or trail j d ≡ l
next_is trail i j l d lt is below ge =
    let same : j ≡ i = omega arith in
    ap (λ x. get_or trail x d) same ∙ get_or_default trail i d l lt ∙ is

-- a clause's variables are needed, where those of the padded one are
pub needs_clause : (vars : ℕ) (c d : List Literal) (needed more : List Bool) → IsPadded vars c d → AreThere vars c → length more ≡ vars + 1 →
    NeedsWithin d needed more → All (λ k. is_needed more k.var ≡ true) c
needs_clause vars c d needed more padded there size need = λ j e lt.
    let k = get_or c j e in
    let low = (there_get vars c j e lt there).1 in
    All-contains (λ (x : Literal). x.var < length more → is_needed more x.var ≡ true) d k need.each (padded.whole k (Contains-get_or c j e lt))
    (omega (arith, low, size))

-- the clause whose literals are all false is the last hint
shows_first : (clauses : Clauses) (vars : ℕ) (m : Marks) (n : ℕ) (d : List Literal) (more : List Bool) → NamesClause clauses n →
    IsPadded vars (numbered clauses n) d → All (IsFalse (has m.lits)) d → All (λ k. is_needed more k.var ≡ true) (numbered clauses n) →
    ShowsFromFront clauses vars m (length m.lits) more (n ∷ [])
shows_first clauses vars m n d more number padded all need = λ set within given needs.
    let whole : All (IsFalse (has (take (length m.lits) m.lits))) d = subst (λ (ls : List Literal). All (IsFalse (has ls)) d)
    (sym (take_all (length m.lits) m.lits (omega arith))) all in
    record {
      front = [];
      last = n;
      are = refl;
      to = set;
      leads = refl;
      none = record {
        number = number;
        none = left_none (has set) (numbered clauses n) (falsified m.lits (length m.lits) more set (omega arith) needs vars
            (numbered clauses n) d padded need whole);
      };
    }

-- a literal of a named clause whose variable is that of a literal of the trail is its negation
named_negation : (trail : List Literal) (vars : ℕ) (c d : List Literal) (t k : Literal) → AreDistinct trail → Contains trail t → Contains d k → k.var ≡ t.var →
    t.var ≤ vars → IsPadded vars c d → Contains trail (negate k) → Contains c (negate t)
named_negation trail vars c d t k distinct on among var low padded turned =
    let same : negate k ≡ t = same_place trail (negate k) t distinct turned on var in
    let is : k ≡ negate t = sym (negate-negate k) ∙ ap negate same in
    subst (λ (x : Literal). Contains c x) is (not_further vars c d k (subst (λ x. x ≤ vars) (sym var) low) padded among)

pub go_first : (clauses : Clauses) (vars : ℕ) (m : Marks) (n : ℕ) (d : List Literal) (needed more : List Bool) → AreDistinct m.lits → NamesClause clauses n →
    IsPadded vars (numbered clauses n) d → All (IsFalse (has m.lits)) d → All (λ k. is_needed more k.var ≡ true) (numbered clauses n) → NoneNeeded needed →
    length more ≡ vars + 1 → NeedsWithin d needed more → IsFoundFromFront clauses vars m (length m.lits) more (n ∷ [])
go_first clauses vars m n d needed more distinct number padded all need none size within_d = record {
  shows = shows_first clauses vars m n d more number padded all need;
  named = λ j e below mark.
      let t = get_or m.lits j e in
      let low : t.var ≤ vars = let lt = needed_within more t.var mark in omega (arith, lt, size) in
      elim (within_d.only t.var mark) [
        | inl before ↦ absurd (both_ways (is_needed needed t.var) (none t.var) before)
        | inr var ↦
            let among : Contains d var.1 = (var.0, var.2, var.3) in
            named_first clauses (negate t) n [] (named_negation m.lits vars (numbered clauses n) d t var.1 distinct (Contains-get_or m.lits j e below) among
            var.4 low padded (contains_from_has m.lits (negate var.1) (All-contains (IsFalse (has m.lits)) d var.1 all among)))
      ];
  lean = λ set within given needs before. tt;
}

-- the reason of a literal that is needed is the next hint
module _ (clauses : Clauses) (vars : ℕ) (m : Marks) (i : ℕ) (l : Literal) (n : ℕ) (d : List Literal) (needed more : List Bool) (hints : List ℕ)
    (lt : i < length m.lits) (is : get_or m.lits i l ≡ l) (distinct : AreDistinct m.lits) (number : NamesClause clauses n)
    (distinct_c : AreDistinct (numbered clauses n)) (padded : IsPadded vars (numbered clauses n) d) (unit : IsUnit (has (take i m.lits)) d l)
    (low : l.var ≤ vars) (need : All (λ k. is_needed more k.var ≡ true) (numbered clauses n)) (within_d : NeedsWithin d needed more)
    (size : length more ≡ vars + 1) (mine : is_needed needed l.var ≡ true) (reason : 1 ≤ get_or m.reasons l.var 0) where
  on_trail : IsIn (has m.lits) l
  on_trail = has_from_contains m.lits l (i, lt, is)

  leaves_here : (set : List Literal) → Includes (has m.lits) (has set) → HasNeeded m.lits i more set → LeavesOne clauses (has set) n l
  leaves_here set within needs =
      let c = numbered clauses n in
      let open_ : has set (negate l) ≡ false = false_from_ne_true (has set (negate l))
      (λ h. distinct_consistent m.lits distinct l on_trail (within (negate l) h)) in
      record {
        number = number;
        one = left_one (has set) c l distinct_c (record {
          among = not_further vars c d l low padded unit.among;
          others = others m.lits i more set (omega arith) needs vars c d l padded need unit.others;
        }) open_;
      }

  wider_now : (set : List Literal) → Includes (has m.lits) (has set) → Includes (has m.lits) (has (set ++ l ∷ []))
  wider_now set within k h = elim (same_literal_or k l) [
    | inl e ↦ subst (λ (x : Literal). IsIn (has m.lits) x) (sym e) on_trail
    | inr ne ↦ within k (sym (has_front set l k ne) ∙ h)
  ]

  given_now : (set : List Literal) → HasAssumed vars m set → HasAssumed vars m (set ++ l ∷ [])
  given_now set given j e below none within_vars = push_keeps set l (get_or m.lits j e) (given j e below none within_vars)

  needed_now : (set : List Literal) → HasNeeded m.lits i more set → HasNeeded m.lits (i + 1) needed (set ++ l ∷ [])
  needed_now set needs j e below mark = elim (cases_lt j i) [
    | inl less ↦ push_keeps set l (get_or m.lits j e) (needs j e less (within_d.keeps (get_or m.lits j e).var mark))
    | inr ge ↦ subst (λ (x : Literal). IsIn (has (set ++ l ∷ [])) x) (sym (next_is m.lits i j l e lt is below ge)) (has_last set l)
  ]

  shows_on : ShowsFromFront clauses vars m (i + 1) needed hints → ShowsFromFront clauses vars m i more (hints ++ n ∷ [])
  shows_on rest = λ set within given needs.
      subst (λ (ns : List ℕ). Shows clauses set ns) (sym (reverse-append hints (n ∷ [])))
      (shows_more clauses set n l (reverse hints) (leaves_here set within needs) (rest (set ++ l ∷ []) (wider_now set within) (given_now set given)
      (needed_now set needs)))

  -- the literal isn't on the trail before its place
  not_before : IsIn (has (take i m.lits)) l → ⊥
  not_before h =
      let at = contains_from_has (take i m.lits) l h in
      let less = at.1 in
      let count : length (take i m.lits) ≡ i = length-take-le i m.lits (omega arith) in
      let below : at.0 < i = omega (arith, less, count) in
      let there : get_or m.lits at.0 l ≡ l = sym (get_or-take i m.lits at.0 l below) ∙ at.2 in
      pairs_from_distinct m.lits distinct at.0 i l below lt (ap (λ (x : Literal). x.var) (there ∙ sym is))

  named_on : AreNeededByHints clauses m.lits (i + 1) needed hints → AreNeededByHints clauses m.lits i more (hints ++ n ∷ [])
  named_on h = λ j e below mark.
      let t = get_or m.lits j e in
      let t_low : t.var ≤ vars = let within = needed_within more t.var mark in omega (arith, within, size) in
      subst (λ (ns : List ℕ). IsInNamed clauses (negate t) ns) (sym (reverse-append hints (n ∷ [])))
      (elim (within_d.only t.var mark) [
        | inl before ↦ named_later clauses (negate t) n (reverse hints) (h j e (omega (arith, below)) before)
        | inr var ↦
            let k = var.1 in
            let among : Contains d k = (var.0, var.2, var.3) in
            named_first clauses (negate t) n (reverse hints) (elim (All-contains (IsOneOrFalse (has (take i m.lits)) l) d k unit.others among) [
              | inl same ↦ absurd (pairs_from_distinct m.lits distinct j i e below lt
                  (sym var.4 ∙ ap (λ (x : Literal). x.var) (same ∙ sym is ∙ sym (get_or_default m.lits i e l lt))))
              | inr f ↦ named_negation m.lits vars (numbered clauses n) d t k distinct (Contains-get_or m.lits j e (omega (arith, below, lt))) among var.4 t_low
                  padded (front_within m.lits i (negate k) (omega (arith, lt)) f)
            ])
      ])

  -- the front of the trail with the literal
  up_to_here : take (i + 1) m.lits ≡ take i m.lits ++ l ∷ []
  up_to_here = take_more m.lits i l lt ∙ ap (λ (x : Literal). take i m.lits ++ x ∷ []) is

  before_now : (set : List Literal) → IsBefore m i set → IsBefore m (i + 1) (set ++ l ∷ [])
  before_now set before k h = elim (same_literal_or k l) [
    | inl e ↦ inl (subst (λ (ls : List Literal). IsIn (has ls) k) (sym up_to_here)
        (subst (λ (x : Literal). IsIn (has (take i m.lits ++ l ∷ [])) x) (sym e) (has_last (take i m.lits) l)))
    | inr ne ↦ elim (before k (sym (has_front set l k ne) ∙ h)) [
      | inl front ↦ inl (subst (λ (ls : List Literal). IsIn (has ls) k) (sym up_to_here) (push_keeps (take i m.lits) l k front))
      | inr none ↦ inr none
    ]
  ]

  is_new : (set : List Literal) → IsBefore m i set → has set l ≡ false
  is_new set before = false_from_ne_true (has set l) (λ h. elim (before l h) [
    | inl front ↦ not_before front
    | inr none ↦ omega (arith, none, reason)
  ])

  lean_on : IsFoundFromFront clauses vars m (i + 1) needed hints → AreLeanFromFront clauses vars m i more (hints ++ n ∷ [])
  lean_on rest = λ set within given needs before.
      let named : IsInNamed clauses (negate l) (reverse hints) =
      subst (λ (x : Literal). IsInNamed clauses (negate x) (reverse hints)) is (rest.named i l (omega arith)
      (subst (λ (x : Literal). is_needed needed x.var ≡ true) (sym is) mine)) in
      subst (λ (ns : List ℕ). AreLean clauses set ns) (sym (reverse-append hints (n ∷ [])))
      (lean_more clauses set n l (reverse hints) (leaves_here set within needs) (is_new set before) named
      (rest.lean (set ++ l ∷ []) (wider_now set within) (given_now set given) (needed_now set needs) (before_now set before)))

  pub go_on : IsFoundFromFront clauses vars m (i + 1) needed hints → IsFoundFromFront clauses vars m i more (hints ++ n ∷ [])
  go_on rest = record { shows = shows_on rest.shows; named = named_on rest.named; lean = lean_on rest }

-- a literal that isn't needed, or has no reason, is passed over
module _ (clauses : Clauses) (vars : ℕ) (m : Marks) (i : ℕ) (l : Literal) (needed : List Bool) (hints : List ℕ) (lt : i < length m.lits)
    (is : get_or m.lits i l ≡ l) where
  go_past : ((set : List Literal) → HasAssumed vars m set → HasNeeded m.lits i needed set → HasNeeded m.lits (i + 1) needed set) →
      IsFoundFromFront clauses vars m (i + 1) needed hints → IsFoundFromFront clauses vars m i needed hints
  go_past further rest = record {
    shows = λ set within given needs. rest.shows set within given (further set given needs);
    named = λ j e below mark. rest.named j e (omega (arith, below)) mark;
    lean = λ set within given needs before. rest.lean set within given (further set given needs) (λ k h. elim (before k h) [
      | inl front ↦ inl (subst (λ (ls : List Literal). IsIn (has ls) k) (sym (take_more m.lits i l lt))
          (push_keeps (take i m.lits) (get_or m.lits i l) k front))
      | inr none ↦ inr none
    ]);
  }

  pub past_unneeded : is_needed needed l.var ≡ false → IsFoundFromFront clauses vars m (i + 1) needed hints → IsFoundFromFront clauses vars m i needed hints
  past_unneeded unneeded = go_past (λ set given needs j e below mark. elim (cases_lt j i) [
    | inl less ↦ needs j e less mark
    | inr ge ↦ absurd (both_ways (is_needed needed l.var) unneeded (subst (λ (x : Literal). is_needed needed x.var ≡ true)
        (next_is m.lits i j l e lt is below ge) mark))
  ])

  pub past_bare : get_or m.reasons l.var 0 ≡ 0 → length needed ≡ vars + 1 → IsFoundFromFront clauses vars m (i + 1) needed hints →
      IsFoundFromFront clauses vars m i needed hints
  past_bare bare size = go_past (λ set given needs j e below mark. elim (cases_lt j i) [
    | inl less ↦ needs j e less mark
    | inr ge ↦
        let t = get_or m.lits j e in
        let same : t ≡ l = next_is m.lits i j l e lt is below ge in
        let low : t.var ≤ vars = let within = needed_within needed t.var mark in omega (arith, within, size) in
        given j e (omega (arith, below, lt)) (ap (λ (x : Literal). get_or m.reasons x.var 0) same ∙ bare) low
  ])

-- one of what is assumed is of a further variable or the negation of a literal of the clause
assumed_at : (vars : ℕ) (ls : List Literal) (k : Literal) (j : ℕ) → j < length ls + 2 → get_or (positive_of (vars + 1) ∷ positive_of (vars + 2) ∷ ls) j k ≡ k →
    k.var ≤ vars → Contains ls k
assumed_at vars ls k zero lt is low = absurd (let v = ap (λ (x : Literal). x.var) is in omega (arith, v, low))
assumed_at vars ls k (suc zero) lt is low = absurd (let v = ap (λ (x : Literal). x.var) is in omega (arith, v, low))
assumed_at vars ls k (suc (suc j)) lt is low = (j, omega arith, is)

pub assumed_low : (vars : ℕ) (lits : List Literal) (k : Literal) → IsIn (has (assumed vars lits)) k → k.var ≤ vars → IsIn (has (map negate lits)) k
assumed_low vars lits k h low =
    let among = contains_from_has (assumed vars lits) k h in
    has_from_contains (map negate lits) k (assumed_at vars (map negate lits) k among.0 (let lt = among.1 in omega (arith, lt)) among.2 low)

pub assumed_later : (vars : ℕ) (lits : List Literal) → Includes (has (assumed vars lits)) (has (map negate lits))
assumed_later vars lits k h = has_from_contains (assumed vars lits) k (contains_later (positive_of (vars + 1)) k (positive_of (vars + 2) ∷ map negate lits)
    (contains_later (positive_of (vars + 2)) k (map negate lits) (contains_from_has (map negate lits) k h)))

-- no clause stands at place 0
pub no_reason : (vars : ℕ) (all taken : Clauses) (a : Attached) (numbers : List ℕ) (before : List Literal) (l : Literal) (p : ℕ) →
    AreClauses vars all taken a numbers → IsReasonFor a.words a.places before l p → p ≡ 0 → ⊥
no_reason vars all taken a numbers before l p clauses r e =
    let known = clauses.known p r.place in
    let from = known.from in
    omega (arith, from, e)

-- from the negations of the clause's literals the hints show what they have to, and are lean
pub go_done : (vars : ℕ) (all taken : Clauses) (a : Attached) (numbers : List ℕ) (m : Marks) (lits : List Literal) (needed : List Bool) (hints : List ℕ) →
    AreClauses vars all taken a numbers → IsDenying a vars lits m → IsFoundFromFront all vars m 0 needed hints → IsLeanHint all lits (reverse hints)
go_done vars all taken a numbers m lits needed hints clauses assuming h = record {
  good = h.shows (map negate lits) whole given needs;
  lean = h.lean (map negate lits) whole given needs (λ k i. inr (assuming.bare k i));
}
  where
    whole : Includes (has m.lits) (has (map negate lits))
    whole k i = assuming.whole k (assumed_later vars lits k i)

    given : HasAssumed vars m (map negate lits)
    given j d lt none low = elim (assuming.reasons j d lt) [
      | inl r ↦ absurd (no_reason vars all taken a numbers (take j m.lits) (get_or m.lits j d) (get_or m.reasons (get_or m.lits j d).var 0) clauses r none)
      | inr g ↦ assumed_low vars lits (get_or m.lits j d) g.1 low
    ]

    needs : HasNeeded m.lits 0 needed (map negate lits)
    needs j d lt mark = absurd (omega arith)

-- what is propagated to its end falsifies none of the clauses that were taken
module _ (vars : ℕ) (all taken : Clauses) (a : Attached) (numbers : List ℕ) (lits from to : List Literal) (clauses : AreClauses vars all taken a numbers)
    (start : Includes (has from) (has (assumed vars lits))) (closure : IsClosure (attached_clauses a) (has from) (has to)) where
  is_assumed : (k : Literal) → Contains (assumed vars lits) k → IsIn (has to) k
  is_assumed k among = closure.includes k (start k (has_from_contains (assumed vars lits) k among))

  further_false : (k : Literal) → ((k ≡ negative_of (vars + 1)) ⊎ (k ≡ negative_of (vars + 2))) → IsIn (has to) (negate k)
  further_false k h = elim h [
    | inl e ↦ subst (λ (m : Literal). IsIn (has to) (negate m)) (sym e) (is_assumed (positive_of (vars + 1)) (0, omega arith, refl))
    | inr e ↦ subst (λ (m : Literal). IsIn (has to) (negate m)) (sym e) (is_assumed (positive_of (vars + 2)) (1, omega arith, refl))
  ]

  is_attached : (p : ℕ) → Contains a.places p → Contains (attached_clauses a) (attached_at a p)
  is_attached p among = Contains-map (lits_at a.words) a.places p among

  is_closed : IsClosed taken (has to)
  is_closed c among l unit =
      let held = clauses.held c among in
      let d = attached_at a held.place in
      let padded : IsPadded vars c d = held.padded in
      closure.closed d (is_attached held.place held.among) l (record {
        among = padded.whole l unit.among;
        others = λ j e lt.
            let k = get_or d j e in
            elim (padded.only k (Contains-get_or d j e lt)) [
              | inl mine ↦ All-contains (IsOneOrFalse (has to) l) c k unit.others mine
              | inr further ↦ inr (further_false k further)
            ];
      })

  pub ends_unfalsified : IsUnfalsifiedEnd taken lits (has to)
  ends_unfalsified = record {
    closed = is_closed;
    includes = λ k h. closure.includes k (start k (assumed_later vars lits k (has_negated lits k ∙ h)));
    unfalsified = λ f.
        let c = f.clause in
        let held = clauses.held c f.among in
        let d = attached_at a held.place in
        let padded : IsPadded vars c d = held.padded in
        closure.unfalsified (record {
          clause = d;
          among = is_attached held.place held.among;
          each = λ j e lt.
              let k = get_or d j e in
              elim (padded.only k (Contains-get_or d j e lt)) [
                | inl mine ↦ All-contains (IsFalse (has to)) c k f.each mine
                | inr further ↦ further_false k further
              ];
        });
  }

-- so a clause doesn't follow
pub never_follows : (clauses : Clauses) (lits : List Literal) (set : Literal → Bool) → IsUnfalsifiedEnd clauses lits set → Rup clauses lits → ⊥
never_follows clauses lits set still rup = still.unfalsified (record {
  clause = rup.clause;
  among = rup.among;
  each = λ j e lt. rup.each j e lt set still.closed still.includes;
})

-- where the negation of one more literal is in the set
pub ends_with_first : (clauses : Clauses) (first : Literal) (others : List Literal) (set : Literal → Bool) → IsIn set (negate first) →
    IsUnfalsifiedEnd clauses others set → IsUnfalsifiedEnd clauses (first ∷ others) set
ends_with_first clauses first others set here still = record {
  closed = still.closed;
  includes = λ k h. let among = contains_from_has (first ∷ others) (negate k) h in by k among.0 among.1 among.2;
  unfalsified = still.unfalsified;
}
  where
    by : (k : Literal) (j : ℕ) → j < length (first ∷ others) → get_or (first ∷ others) j (negate k) ≡ negate k → IsIn set k
    by k zero lt is = subst (IsIn set) (ap negate is ∙ negate-negate k) here
    by k (suc j) lt is = still.includes k (has_from_contains others (negate k) (j, omega (arith, lt), is))

-- each literal of the trail follows, but for those of further variables
module _ (vars : ℕ) (all taken : Clauses) (a : Attached) (numbers : List ℕ) (lits : List Literal) (m : Marks) (clauses : AreClauses vars all taken a numbers)
    (reasons : HaveReasons a m (assumed vars lits)) where
  follows_below : (n i : ℕ) (d : Literal) → i < n → i < length m.lits → (get_or m.lits i d).var ≤ vars → Closure taken (negations lits) (get_or m.lits i d)
  follows_below zero i d below lt low = absurd (omega (arith, below))
  follows_below (suc n) i d below lt low = elim (reasons i d lt) [
    | inl r ↦ λ set closed includes.
        let l = get_or m.lits i d in
        let p = get_or m.reasons l.var 0 in
        let known = clauses.known p r.place in
        let c = numbered all (number_of_place numbers p) in
        let held = clauses.held c known.among in
        let padded : IsPadded vars c (attached_at a p) = known.padded in
        closed c known.among l (record {
          among = not_further vars c (attached_at a p) l low padded r.unit.among;
          others = λ j e less.
              let k = get_or c j e in
              elim (All-contains (IsOneOrFalse (has (take i m.lits)) l) (attached_at a p) k r.unit.others (padded.whole k (Contains-get_or c j e less))) [
                | inl is ↦ inl is
                | inr f ↦
                    let at = contains_from_has (take i m.lits) (negate k) f in
                    let size : length (take i m.lits) ≡ i = length-take-le i m.lits (omega (arith, lt)) in
                    let before : at.0 < i = let w = at.1 in omega (arith, size, w) in
                    let same : get_or m.lits at.0 (negate k) ≡ negate k = sym (get_or-take i m.lits at.0 (negate k) before) ∙ at.2 in
                    let k_low = (there_get vars c j e less held.there).1 in
                    let at_low : (get_or m.lits at.0 (negate k)).var ≤ vars = subst (λ (x : Literal). x.var ≤ vars) (sym same) k_low in
                    inr (subst (IsIn set) same (follows_below n at.0 (negate k) (omega (arith, before, below)) (omega (arith, before, lt)) at_low set
                    closed includes))
              ];
        })
    | inr g ↦ λ set closed includes.
        let l = get_or m.lits i d in
        includes l (sym (has_negated lits l) ∙ assumed_low vars lits l g.1 low)
  ]

  pub trail_follows : (k : Literal) → IsIn (has m.lits) k → k.var ≤ vars → Closure taken (negations lits) k
  trail_follows k h low =
      let at = contains_from_has m.lits k h in
      let w = at.1 in
      subst (Closure taken (negations lits)) at.2 (follows_below (at.0 + 1) at.0 k (omega arith) w (subst (λ (x : Literal). x.var ≤ vars) (sym at.2) low))

  pub clash_falsifies : (p : ℕ) → IsClashOf a m p → Falsifies taken (negations lits)
  clash_falsifies p clash =
      let known = clauses.known p clash.place in
      let c = numbered all (number_of_place numbers p) in
      let held = clauses.held c known.among in
      let padded : IsPadded vars c (attached_at a p) = known.padded in
      record {
        clause = c;
        among = known.among;
        each = λ j e lt.
            let k = get_or c j e in
            trail_follows (negate k) (All-contains (IsFalse (has m.lits)) (attached_at a p) k clash.all_false (padded.whole k (Contains-get_or c j e lt)))
            (there_get vars c j e lt held.there).1;
      }

pub needs_more : (lits : List Literal) (i : ℕ) (l : Literal) (old mid new : List Bool) → i < length lits → get_or lits i l ≡ l → length new ≡ length mid →
    ((x : ℕ) → is_needed mid x ≡ true → is_needed new x ≡ true) → (l.var < length new → is_needed new l.var ≡ true) →
    ((x : ℕ) → is_needed new x ≡ true → (is_needed mid x ≡ true) ⊎ (l.var ≡ x)) → NeedsWithin (take i lits) old mid →
    NeedsWithin (take (i + 1) lits) old new
needs_more lits i l old mid new within at size keeps mine only h = record {
  size = size ∙ h.size;
  keeps = λ x m. keeps x (h.keeps x m);
  only = λ x m. elim (only x m) [
    | inl before ↦ elim (h.only x before) [
      | inl first ↦ inl first
      | inr var ↦ inr (var_later var)
    ]
    | inr here ↦ inr (
      i,
      l,
      (let count = length-take-le (i + 1) lits (omega (arith, within)) in omega (arith, count)),
      get_or-take (i + 1) lits i l
          (omega arith) ∙ at,
      here,
    )
  ];
  each = All-more (λ k. k.var < length new → is_needed new k.var ≡ true) lits i l within
      (All-weaker (λ k. k.var < length mid → is_needed mid k.var ≡ true) (λ k. k.var < length new → is_needed new k.var ≡ true)
      (λ k m lt. keeps k.var (m (omega (arith, lt, size)))) (take i lits) h.each)
      (subst (λ (k : Literal). k.var < length new → is_needed new k.var ≡ true) (sym at) mine);
}
  where
    var_later : {x : ℕ} → HasVar (take i lits) x → HasVar (take (i + 1) lits) x
    var_later v =
        let count : length (take i lits) ≡ i = length-take-le i lits (omega (arith, within)) in
        let more : length (take (i + 1) lits) ≡ i + 1 = length-take-le (i + 1) lits (omega (arith, within)) in
        let lt = v.2 in
        let below : v.0 < i = omega (arith, lt, count) in
        (v.0, v.1, omega (arith, below, more), get_or-take (i + 1) lits v.0 v.1 (omega (arith, below)) ∙ sym (get_or-take i lits v.0 v.1 below) ∙ v.3, v.4)

-- the reason of a literal of the trail
pub reason_at : (a : Attached) (m : Marks) (given : List Literal) (i : ℕ) (l : Literal) (v p : ℕ) → HaveReasons a m given → i < length m.lits →
    get_or m.lits i l ≡ l → v ≡ l.var → get_or m.reasons v 0 ≡ p → 1 ≤ get_or m.reasons v 0 → IsReasonFor a.words a.places (take i m.lits) l p
reason_at a m given i l v p h within is var place some =
    let q : get_or m.reasons l.var 0 ≡ p = ap (λ x. get_or m.reasons x 0) (sym var) ∙ place in
    let mine : HasReasonAt a m given i l = subst (HasReasonAt a m given i) is (h i l within) in
    elim mine [
      | inl r ↦ subst (λ x. IsReasonFor a.words a.places (take i m.lits) l x) q r
      | inr none ↦ absurd (let z = none.0 in omega (arith, z, q, place, some))
    ]
