-- What follows by unit propagation.
use Rattle.std.proofs.Common.{◌≡◌, ℕ, ◌<◌, ◌≤◌, ◌⊎◌, Bool, true, false, not, cond, zero, suc, List, [], ◌∷◌, ◌++◌, length, get_or, refl, sym, ◌∙◌, ap, subst}
use Rattle.std.proofs.Common.{inl, inr, arith}
use Rattle.std.specs.Prelude.{All, Contains}
use Rattle.std.proofs.lemmas.Bool.Decides.{eqb_tells}
use Rattle.std.proofs.lemmas.List.Elements.{All-contains, All-weaker, All-nil, All-cons, All-head, All-tail, All-contains_itself, Contains-get_or}
use Rattle.std.proofs.lemmas.List.Elements.{Contains-append_left, Contains-append_right, Contains-append_cases}
use Rattle.cnf_core.specs.Lit.{Literal, literal, negate, same_sign, same_literal, has}
use Rattle.cnf_core.specs.Clause.{Clauses}
use Rattle.cnf_core.specs.Assignment.{Assignment, truth, Satisfies, SatisfiesAll}
use Rattle.cnf_core.specs.Propagation.{LiteralSet, IsIn, nothing, Includes, IsUnit, HasReason, Falsified, IsClosed, Closure, IsClosure, units, Falsifies}
use Rattle.cnf_core.specs.Propagation.{negations, Rup, IsNew, greatest_var, SameLiterals, AreAmong, IsWitness}
use Rattle.cnf_core.proofs.GatherLemmas.{not_not, truth-negate, signs_same}
use Rattle.cnf_core.proofs.QuantifierLemmas.{some_from_satisfies}
use Rattle.cnf_core.proofs.GreatestLemmas.{greatest_among}

-- a literal that stands in a list
pub literal_same : (k l : Literal) → k.var ≡ l.var → k.positive ≡ l.positive → k ≡ l
literal_same k l e f = ap (λ x. literal x k.positive) e ∙ ap (λ p. literal l.var p) f

pub negate-negate : (l : Literal) → negate (negate l) ≡ l
negate-negate l = ap (λ p. literal l.var p) (not_not l.positive)

signs_equal : (p : Bool) → same_sign p p ≡ true
signs_equal true = refl
signs_equal false = refl

same_from_test : (k l : Literal) → same_literal k l ≡ true → k ≡ l
same_from_test k l h = elim (eqb_tells k.var l.var) [
  | inl e ↦ literal_same k l e.1 (signs_same k.positive l.positive (rw e.0 at h))
  | inr e ↦ cc (rw e.0 at h)
]

test_from_same : (k l : Literal) → k ≡ l → same_literal k l ≡ true
test_from_same k l e = subst (λ (m : Literal). same_literal k m ≡ true) e (elim (eqb_tells k.var k.var) [
  | inl a ↦ rw a.0 (signs_equal k.positive)
  | inr a ↦ absurd (a.1 refl)
])

pub contains_first : (l : Literal) (ls : List Literal) → Contains (l ∷ ls) l
contains_first l ls = (0, omega arith, refl)

pub contains_later : (k l : Literal) (ls : List Literal) → Contains ls l → Contains (k ∷ ls) l
contains_later k l ls h = let lt = h.1 in (suc h.0, omega arith, h.2)

pub contains_from_has : (ls : List Literal) (l : Literal) → has ls l ≡ true → Contains ls l
contains_from_has [] l h = cc
contains_from_has (k ∷ ls) l h = elim (same_literal k l) as (λ b. same_literal k l ≡ b → cond b true (has ls l) ≡ true → Contains (k ∷ ls) l) [
  | true ↦ λ e _. subst (λ (m : Literal). Contains (k ∷ ls) m) (same_from_test k l e) (contains_first k ls)
  | false ↦ λ _ m. contains_later k l ls (contains_from_has ls l m)
] refl h

has_at : (ls : List Literal) (l : Literal) (i : ℕ) → i < length ls → get_or ls i l ≡ l → has ls l ≡ true
has_at [] l i lt e = absurd (omega arith)
has_at (k ∷ ls) l zero lt e = rw (test_from_same k l e) refl
has_at (k ∷ ls) l (suc i) lt e = elim (same_literal k l) as (λ b. cond b true (has ls l) ≡ true) [ true ↦ refl | false ↦ has_at ls l i (omega arith) e ]

pub has_from_contains : (ls : List Literal) (l : Literal) → Contains ls l → has ls l ≡ true
has_from_contains ls l h = has_at ls l h.0 h.1 h.2

-- the closure is a closed set that includes start, and the least one
pub closure_start : (clauses : Clauses) (start : LiteralSet) (l : Literal) → IsIn start l → Closure clauses start l
closure_start clauses start l h = λ set closed includes. includes l h

pub closure_unit : (clauses : Clauses) (start : LiteralSet) (clause : List Literal) (l : Literal) → Contains clauses clause → Contains clause l →
    All (λ k. (k ≡ l) ⊎ Closure clauses start (negate k)) clause → Closure clauses start l
closure_unit clauses start clause l among in_clause others = λ set closed includes. closed clause among l (record {
  among = in_clause;
  others = All-weaker (λ k. (k ≡ l) ⊎ Closure clauses start (negate k)) (λ k. (k ≡ l) ⊎ IsIn set (negate k))
      (λ k h. elim h [ inl e ↦ inl e | inr c ↦ inr (c set closed includes) ]) clause others;
})

pub closure_least : (clauses : Clauses) (start set : LiteralSet) (l : Literal) → IsClosed clauses set → Includes set start → Closure clauses start l →
    IsIn set l
closure_least clauses start set l closed includes h = h set closed includes

-- what follows of what follows, follows
pub closure_again : (clauses : Clauses) (start more : LiteralSet) (l : Literal) → ((k : Literal) → IsIn more k → Closure clauses start k) →
    Closure clauses more l → Closure clauses start l
closure_again clauses start more l f h = λ set closed includes. h set closed (λ k m. f k m set closed includes)

pub falsifies_again : (clauses : Clauses) (start more : LiteralSet) → ((k : Literal) → IsIn more k → Closure clauses start k) → Falsifies clauses more →
    Falsifies clauses start
falsifies_again clauses start more f h = record {
  clause = h.clause;
  among = h.among;
  each = All-weaker (λ k. Closure clauses more (negate k)) (λ k. Closure clauses start (negate k)) (λ k c. closure_again clauses start more (negate k) f c)
      h.clause h.each;
}

-- what follows of nothing follows of anything
pub closure_any : (clauses : Clauses) (start : LiteralSet) (l : Literal) → Closure clauses nothing l → Closure clauses start l
closure_any clauses start l h = closure_again clauses start nothing l (λ k m. cc) h

-- more literals, more units
pub unit_more : (set more : LiteralSet) (c : List Literal) (l : Literal) → Includes more set → IsUnit set c l → IsUnit more c l
unit_more set more c l within unit = record {
  among = unit.among;
  others = All-weaker (λ k. (k ≡ l) ⊎ IsIn set (negate k)) (λ k. (k ≡ l) ⊎ IsIn more (negate k))
      (λ k h. elim h [ inl e ↦ inl e | inr f ↦ inr (within (negate k) f) ]) c unit.others;
}

pub reason_more : (clauses : Clauses) (set more : LiteralSet) (l : Literal) → Includes more set → HasReason clauses set l → HasReason clauses more l
reason_more clauses set more l within r = record { reason = r.reason; among = r.among; unit = unit_more set more r.reason l within r.unit }

-- a set within the closure of start: its reasons and what it falsifies
pub reason_follows : (clauses : Clauses) (start set : LiteralSet) (l : Literal) → ((k : Literal) → IsIn set k → Closure clauses start k) →
    HasReason clauses set l → Closure clauses start l
reason_follows clauses start set l within r =
    let unit = r.unit in
    closure_unit clauses start r.reason l r.among unit.among
    (All-weaker (λ k. (k ≡ l) ⊎ IsIn set (negate k)) (λ k. (k ≡ l) ⊎ Closure clauses start (negate k))
    (λ k h. elim h [ inl e ↦ inl e | inr f ↦ inr (within (negate k) f) ]) r.reason unit.others)

pub falsified_within : (clauses : Clauses) (start set : LiteralSet) → ((l : Literal) → IsIn set l → Closure clauses start l) → Falsified clauses set →
    Falsifies clauses start
falsified_within clauses start set within f = record {
  clause = f.clause;
  among = f.among;
  each = All-weaker (λ k. IsIn set (negate k)) (λ k. Closure clauses start (negate k)) (λ k h. within (negate k) h) f.clause f.each;
}

-- a closure that falsifies no clause
pub closure_in : (clauses : Clauses) (start set : LiteralSet) (l : Literal) → IsClosure clauses start set → Closure clauses start l → IsIn set l
closure_in clauses start set l c h = closure_least clauses start set l c.closed c.includes h

pub closure_unfalsified : (clauses : Clauses) (start set : LiteralSet) → IsClosure clauses start set → Falsifies clauses start → ⊥
closure_unfalsified clauses start set c f = c.unfalsified (record {
  clause = f.clause;
  among = f.among;
  each = All-weaker (λ k. Closure clauses start (negate k)) (λ k. IsIn set (negate k)) (λ k h. closure_in clauses start set (negate k) c h) f.clause f.each;
})

-- more clauses, more closure; the order of a clause's literals doesn't count
pub all_same : (P : Literal → Type 0) (c d : List Literal) → SameLiterals c d → All P c → All P d
all_same P c d same h = All-weaker (Contains d) P (λ k m. All-contains P c k h ((same k).1 m)) d (All-contains_itself d)

pub closed_among : (clauses more : Clauses) (set : LiteralSet) → AreAmong clauses more → IsClosed more set → IsClosed clauses set
closed_among clauses more set there closed = λ c among l unit.
    let d = there c among in
    closed d.0 d.1 l (record {
      among = (d.2 l).0 unit.among;
      others = all_same (λ k. (k ≡ l) ⊎ IsIn set (negate k)) c d.0 d.2 unit.others;
    })

pub closure_more : (clauses more : Clauses) (start : LiteralSet) (l : Literal) → AreAmong clauses more → Closure clauses start l → Closure more start l
closure_more clauses more start l there h = λ set closed includes. h set (closed_among clauses more set there closed) includes

pub falsifies_more : (clauses more : Clauses) (start : LiteralSet) → AreAmong clauses more → Falsifies clauses start → Falsifies more start
falsifies_more clauses more start there h =
    let d = there h.clause h.among in
    record {
      clause = d.0;
      among = d.1;
      each = all_same (λ k. Closure more start (negate k)) h.clause d.0 d.2
          (All-weaker (λ k. Closure clauses start (negate k)) (λ k. Closure more start (negate k)) (λ k c. closure_more clauses more start (negate k) there c)
          h.clause h.each);
    }

pub rup_more : (clauses more : Clauses) (clause : List Literal) → AreAmong clauses more → Rup clauses clause → Rup more clause
rup_more clauses more clause there h = falsifies_more clauses more (negations clause) there h

-- a clause of the same literals
pub unit_same : (set : LiteralSet) (c d : List Literal) (l : Literal) → SameLiterals c d → IsUnit set c l → IsUnit set d l
unit_same set c d l same unit = record { among = (same l).0 unit.among; others = all_same (λ k. (k ≡ l) ⊎ IsIn set (negate k)) c d same unit.others }

pub negations_same : (c d : List Literal) → SameLiterals c d → Includes (negations d) (negations c)
negations_same c d same = λ l h. has_from_contains d (negate l) ((same (negate l)).0 (contains_from_has c (negate l) h))

pub falsifies_start : (clauses : Clauses) (start more : LiteralSet) → Includes more start → Falsifies clauses start → Falsifies clauses more
falsifies_start clauses start more within h = falsifies_again clauses more start (λ k m. closure_start clauses more k (within k m)) h

pub closure_more_start : (clauses : Clauses) (start more : LiteralSet) (l : Literal) → Includes more start → Closure clauses start l → Closure clauses more l
closure_more_start clauses start more l within h = closure_again clauses more start l (λ k m. closure_start clauses more k (within k m)) h

pub rup_same : (clauses : Clauses) (c d : List Literal) → SameLiterals c d → Rup clauses c → Rup clauses d
rup_same clauses c d same h = falsifies_start clauses (negations c) (negations d) (negations_same c d same) h

pub same_back : (c d : List Literal) → SameLiterals c d → SameLiterals d c
same_back c d same = λ l. ((same l).1, (same l).0)

pub new_same : (clauses more : Clauses) (first : Literal) (others again : List Literal) → AreAmong clauses more → AreAmong more clauses →
    SameLiterals others again → IsNew clauses first others → IsNew more first again
new_same clauses more first others again there back same new =
    let Named : Literal → Type 0 = λ l. l.var ≤ greatest_var more in
    let rise = greatest_among clauses more there in
    let named : All Named (first ∷ others) = All-weaker (λ l. l.var ≤ greatest_var clauses) Named (λ l h. omega arith) (first ∷ others) new.named in
    record {
      named = All-cons Named first again (All-head Named first others named) (all_same Named others again same (All-tail Named first others named));
      unfalsified = λ f. new.unfalsified (falsifies_more more clauses (negations others) back
          (falsifies_start more (negations again) (negations others) (negations_same again others (same_back others again same)) f));
      unknown = λ h. new.unknown (closure_more more clauses (negations others) first back
          (closure_more_start more (negations again) (negations others) first (negations_same again others (same_back others again same)) h));
    }

pub among_left : (xs ys : Clauses) → AreAmong xs (xs ++ ys)
among_left xs ys = λ c h. (c, Contains-append_left xs ys c h, λ l. (λ m. m, λ m. m))

pub among_right : (xs ys : Clauses) → AreAmong ys (xs ++ ys)
among_right xs ys = λ c h. (c, Contains-append_right xs ys c h, λ l. (λ m. m, λ m. m))

-- a clause of the list is satisfied where all are
pub satisfies_one : (v : Assignment) (cs : Clauses) (c : List Literal) → SatisfiesAll v cs → Contains cs c → Satisfies v c
satisfies_one v cs c h m = at_place cs m.0 m.1 m.2 h
  where
    at_place : (cs : Clauses) (k : ℕ) → k < length cs → get_or cs k c ≡ c → SatisfiesAll v cs → Satisfies v c
    at_place [] k lt e h = absurd (omega arith)
    at_place (d ∷ cs) zero lt e h = subst (Satisfies v) e h.0
    at_place (d ∷ cs) (suc k) lt e h = at_place cs k (omega arith) e h.1

-- where all clauses are satisfied, the true literals are a closed set that falsifies none
true_and_false : (v : Assignment) (l : Literal) → truth v l ≡ true → truth v (negate l) ≡ true → ⊥
true_and_false v l t f = cc (truth-negate v l, t, f)

pub closed_by_model : (v : Assignment) (clauses : Clauses) → SatisfiesAll v clauses → IsClosed clauses (truth v)
closed_by_model v clauses h = λ c among l unit.
    let some = some_from_satisfies v c (satisfies_one v clauses c h among) in
    elim (All-contains (λ k. (k ≡ l) ⊎ (truth v (negate k) ≡ true)) c some.1 unit.others (some.0, some.2, some.3)) [
      | inl e ↦ subst (λ (k : Literal). truth v k ≡ true) e some.4
      | inr f ↦ absurd (true_and_false v some.1 some.4 f)
    ]

satisfies_or_false : (v : Assignment) (c : List Literal) → Satisfies v c ⊎ All (λ l. truth v l ≡ false) c
satisfies_or_false v [] = inr (All-nil (λ l. truth v l ≡ false))
satisfies_or_false v (l ∷ c) = elim (truth v l) as (λ b. truth v l ≡ b → Satisfies v (l ∷ c) ⊎ All (λ k. truth v k ≡ false) (l ∷ c)) [
  | true ↦ λ t. inl (inl t)
  | false ↦ λ f. elim (satisfies_or_false v c) [
    | inl s ↦ inl (inr s)
    | inr all ↦ inr (All-cons (λ k. truth v k ≡ false) l c f all)
  ]
] refl

-- a clause that follows by unit propagation is satisfied wherever the clauses are
pub rup_sound : (v : Assignment) (clauses : Clauses) (clause : List Literal) → Rup clauses clause → SatisfiesAll v clauses → Satisfies v clause
rup_sound v clauses clause rup h = elim (satisfies_or_false v clause) [
  | inl s ↦ s
  | inr all ↦
      let includes : Includes (truth v) (negations clause) = λ l m.
      let f = All-contains (λ k. truth v k ≡ false) clause (negate l) all (contains_from_has clause (negate l) m) in
      sym (not_not (truth v l)) ∙ ap not (sym (truth-negate v l) ∙ f) in
      let some = some_from_satisfies v rup.clause (satisfies_one v clauses rup.clause h rup.among) in
      let f = All-contains (λ k. Closure clauses (negations clause) (negate k)) rup.clause some.1 rup.each (some.0, some.2, some.3) (truth v)
      (closed_by_model v clauses h) includes in
      absurd (true_and_false v some.1 some.4 f)
]

-- a clause is new where a closed set shows it
pub new_by_witness : (clauses : Clauses) (first : Literal) (others : List Literal) (set : LiteralSet) → IsWitness clauses first others set →
    (Falsifies clauses (negations others) → ⊥) × (Closure clauses (negations others) first → ⊥)
new_by_witness clauses first others set w = (
  λ f. w.unfalsified (record {
    clause = f.clause;
    among = f.among;
    each = All-weaker (λ k. Closure clauses (negations others) (negate k)) (λ k. IsIn set (negate k)) (λ k h. h set w.closed w.includes) f.clause f.each;
  }),
  λ h. w.lacks (h set w.closed w.includes),
)

-- no clause has only literals of a new one
pub new_includes_none : (clauses : Clauses) (first : Literal) (others : List Literal) → IsNew clauses first others → (d : List Literal) → Contains clauses d →
    ((l : Literal) → Contains d l → (l ≡ first) ⊎ Contains others l) → ⊥
new_includes_none clauses first others new d among within =
    elim (has d first) as (λ b. has d first ≡ b → ⊥) [
      | true ↦ λ t. new.unknown (closure_unit clauses (negations others) d first among (contains_from_has d first t) (λ k e lt.
          elim (within (get_or d k e) (Contains-get_or d k e lt)) [ inl same ↦ inl same | inr m ↦ inr (negation_follows (get_or d k e) m) ]))
      | false ↦ λ f. new.unfalsified (record {
        clause = d;
        among = among;
        each = λ k e lt. elim (within (get_or d k e) (Contains-get_or d k e lt)) [
          | inl same ↦ absurd (cc (f, has_from_contains d first (subst (λ (m : Literal). Contains d m) same (Contains-get_or d k e lt))))
          | inr m ↦ negation_follows (get_or d k e) m
        ];
      })
    ] refl
  where
    negation_follows : (k : Literal) → Contains others k → Closure clauses (negations others) (negate k)
    negation_follows k m = closure_start clauses (negations others) (negate k) (ap (has others) (negate-negate k) ∙ has_from_contains others k m)

-- some clause makes the literal true by what follows from the clauses alone
pub record IsForced (clauses : Clauses) (l : Literal) : Type 0 where
  pub clause : List Literal
  pub among : Contains clauses clause
  pub inside : Contains clause l
  pub others : All (λ k. (k ≡ l) ⊎ Closure clauses nothing (negate k)) clause

-- clauses of one literal that follow from the others add nothing
pub forced_follows : (clauses : Clauses) (start : LiteralSet) (l : Literal) → IsForced clauses l → Closure clauses start l
forced_follows clauses start l f = closure_unit clauses start f.clause l f.among f.inside
    (All-weaker (λ k. (k ≡ l) ⊎ Closure clauses nothing (negate k)) (λ k. (k ≡ l) ⊎ Closure clauses start (negate k))
    (λ k h. elim h [ inl e ↦ inl e | inr c ↦ inr (closure_any clauses start (negate k) c) ]) f.clause f.others)

pub record IsUnitClause (ls c : List Literal) : Type 0 where
  pub lit : Literal
  pub among : Contains ls lit
  pub is : lit ∷ [] ≡ c

pub from_units : (ls c : List Literal) → Contains (units ls) c → IsUnitClause ls c
from_units ls c h = at_place ls h.0 h.1 h.2
  where
    at_place : (ls : List Literal) (i : ℕ) → i < length (units ls) → get_or (units ls) i c ≡ c → IsUnitClause ls c
    at_place [] i lt e = absurd (omega arith)
    at_place (l ∷ ls) zero lt e = record { lit = l; among = contains_first l ls; is = e }
    at_place (l ∷ ls) (suc i) lt e = let u = at_place ls i (omega arith) e in record { lit = u.lit; among = contains_later l u.lit ls u.among; is = u.is }

pub only_one : (k l : Literal) → Contains (k ∷ []) l → k ≡ l
only_one k l h = at_place h.0 h.1 h.2
  where
    at_place : (i : ℕ) → i < length (k ∷ []) → get_or (k ∷ []) i l ≡ l → k ≡ l
    at_place zero lt e = e
    at_place (suc i) lt e = absurd (omega arith)

pub closure_without : (clauses : Clauses) (ls : List Literal) (start : LiteralSet) (l : Literal) → All (IsForced clauses) ls →
    Closure (clauses ++ units ls) start l → Closure clauses start l
closure_without clauses ls start l forced h = λ set closed includes. h set (λ c among m unit. elim (Contains-append_cases clauses (units ls) c among) [
  | inl old ↦ closed c old m unit
  | inr r ↦
      let u = from_units ls c r in
      let is : u.lit ≡ m = only_one u.lit m (subst (λ (d : List Literal). Contains d m) (sym u.is) unit.among) in
      subst (IsIn set) is (forced_follows clauses start u.lit (All-contains (IsForced clauses) ls u.lit forced u.among) set closed includes)
]) includes

pub falsifies_without : (clauses : Clauses) (ls : List Literal) (start : LiteralSet) → All (IsForced clauses) ls → Falsifies (clauses ++ units ls) start →
    Falsifies clauses start
falsifies_without clauses ls start forced f = elim (Contains-append_cases clauses (units ls) f.clause f.among) [
  | inl old ↦ record {
    clause = f.clause;
    among = old;
    each = All-weaker (λ k. Closure (clauses ++ units ls) start (negate k)) (λ k. Closure clauses start (negate k))
        (λ k h. closure_without clauses ls start (negate k) forced h) f.clause f.each;
  }
  | inr r ↦
      let u = from_units ls f.clause r in
      let reason = All-contains (IsForced clauses) ls u.lit forced u.among in
      let off : Closure (clauses ++ units ls) start (negate u.lit) = All-contains (λ k. Closure (clauses ++ units ls) start (negate k)) f.clause u.lit f.each
      (subst (λ (d : List Literal). Contains d u.lit) u.is (contains_first u.lit [])) in
      record {
        clause = reason.clause;
        among = reason.among;
        each = All-weaker (λ k. (k ≡ u.lit) ⊎ Closure clauses nothing (negate k)) (λ k. Closure clauses start (negate k)) (λ k h. elim h [
          | inl e ↦ subst (λ (m : Literal). Closure clauses start (negate m)) (sym e) (closure_without clauses ls start (negate u.lit) forced off)
          | inr c ↦ closure_any clauses start (negate k) c
        ]) reason.clause reason.others;
      }
]

pub rup_without : (clauses : Clauses) (ls c : List Literal) → All (IsForced clauses) ls → Rup (clauses ++ units ls) c → Rup clauses c
rup_without clauses ls c forced h = falsifies_without clauses ls (negations c) forced h
