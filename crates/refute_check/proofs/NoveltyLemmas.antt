-- What one run of propagation tells of a Learnt line's clause.
use Rattle.std.proofs.Common.{◌≡◌, ℕ, zero, suc, ◌<◌, ◌≤◌, ◌⊎◌, true, false, List, [], ◌∷◌, ◌++◌, length, take, get_or, refl, sym, ◌∙◌, ap, subst, inl, inr}
use Rattle.std.proofs.Common.{arith, length-append}
use Rattle.std.specs.Prelude.{All, Contains}
use Rattle.std.proofs.lemmas.Bool.{both_ways}
use Rattle.std.proofs.lemmas.List.{take_all, take_at}
use Rattle.std.proofs.lemmas.List.Elements.{All-weaker}
use Rattle.cnf_core.specs.Lit.{Literal, negate, has}
use Rattle.cnf_core.specs.Clause.{Clauses, AreDistinct, AreThere}
use Rattle.cnf_core.specs.Propagation.{IsIn, Includes, Closure, Falsifies, Rup, negations, HasReason, Falsified, IsClosure, greatest_var}
use Rattle.cnf_core.proofs.PropagationLemmas.{negate-negate, contains_from_has, has_from_contains, contains_first, contains_later, closure_start}
use Rattle.cnf_core.proofs.PropagationLemmas.{closure_again, closure_more_start, falsifies_start, falsified_within, closure_in, closure_unfalsified}
use Rattle.cnf_core.proofs.PropagationLemmas.{reason_more}
use Rattle.cnf_core.proofs.TrailLemmas.{same_literal_or, same_place, negate_differs, has_last, has_front, push_keeps}
use Rattle.refute_check.specs.declared.novelty.Novelty.{Novelty}
use Rattle.refute_check.specs.declared.novelty.Novelty.TheVariants.{Unproved, Known, New}
use Rattle.cnf_core.specs.Trail.{Grows}
use Rattle.refute_check.specs.Tables.{AreQuiet, IsQuiet, Assumes, AreExplained}
use Rattle.refute_check.specs.Novelty.{IsNovelty, HasNovelty}
use Rattle.cnf_core.proofs.GrowthLemmas.{grows_reason}
use Rattle.refute_check.proofs.GrowthLemmas.{quiet_more}
use Rattle.refute_check.proofs.AdvanceLemmas.{same_front}
use Rattle.refute_check.proofs.SupposeLemmas.{closed_when_quiet, unfalsified_when_quiet}
use Rattle.refute_check.proofs.CheckerLemmas.{known_first, new_first}

-- the negations of the others are among those of all, and the first one's is the rest
others_negated : (first : Literal) (others : List Literal) → Includes (negations (first ∷ others)) (negations others)
others_negated first others = λ l h. has_from_contains (first ∷ others) (negate l)
    (contains_later first (negate l) others (contains_from_has others (negate l) h))

first_negated : (first : Literal) (others : List Literal) → IsIn (negations (first ∷ others)) (negate first)
first_negated first others = ap (has (first ∷ others)) (negate-negate first) ∙ has_from_contains (first ∷ others) first (contains_first first others)

tail_has : (first k : Literal) (others : List Literal) → (k ≡ first → ⊥) → Contains (first ∷ others) k → has others k ≡ true
tail_has first k others ne m = at_place m.0 m.1 m.2
  where
    at_place : (i : ℕ) → i < length (first ∷ others) → get_or (first ∷ others) i k ≡ k → has others k ≡ true
    at_place zero lt e = absurd (ne (sym e))
    at_place (suc i) lt e = has_from_contains others k (i, omega arith, e)

negated_or : (first l : Literal) (others : List Literal) → IsIn (negations (first ∷ others)) l → (l ≡ negate first) ⊎ IsIn (negations others) l
negated_or first l others h = elim (same_literal_or (negate l) first) [
  | inl e ↦ inl (sym (negate-negate l) ∙ ap negate e)
  | inr ne ↦ inr (tail_has first (negate l) others ne (contains_from_has (first ∷ others) (negate l) h))
]

-- the others falsify some clause
pub known_by_clash : (clauses : Clauses) (first : Literal) (others : List Literal) → Falsifies clauses (negations others) → IsNovelty clauses first others Known
known_by_clash clauses first others f = (falsifies_start clauses (negations others) (negations (first ∷ others)) (others_negated first others) f, inl f)

-- the first follows where the others are false
pub known_by_closure : (clauses : Clauses) (first : Literal) (others trail : List Literal) → AreDistinct (first ∷ others) →
    IsClosure clauses (negations others) (has trail) → AreExplained clauses others trail → IsIn (has trail) first → IsNovelty clauses first others Known
known_by_closure clauses first others trail distinct closure reasoned h = elim (reasoned first h) [
  | inl assumed ↦
      let all = first ∷ others in
      let there = contains_later first (negate first) others (contains_from_has others (negate first) assumed) in
      absurd (negate_differs first (same_place all first (negate first) distinct (contains_first first others) there refl))
  | inr r ↦ (
    record {
      clause = r.reason;
      among = r.among;
      each = All-weaker (λ k. (k ≡ first) ⊎ IsIn (has trail) (negate k)) (λ k. Closure clauses (negations (first ∷ others)) (negate k)) (λ k o. elim o [
        | inl e ↦ closure_start clauses (negations (first ∷ others)) (negate k) (ap (λ (m : Literal). negations (first ∷ others) (negate m)) e
            ∙ first_negated first others)
        | inr f ↦ closure_more_start clauses (negations others) (negations (first ∷ others)) (negate k) (others_negated first others)
            (closure.within (negate k) f)
      ]) r.reason (let u = r.unit in u.others);
    },
    inr (closure.within first h),
  )
]

-- the first is false there already
pub unproved_by_closure : (clauses : Clauses) (first : Literal) (others trail : List Literal) → IsClosure clauses (negations others) (has trail) →
    IsIn (has trail) (negate first) → IsNovelty clauses first others Unproved
unproved_by_closure clauses first others trail closure h = λ rup. closure_unfalsified clauses (negations (first ∷ others)) (has trail) (record {
  closed = closure.closed;
  includes = λ l m. elim (negated_or first l others m) [ inl e ↦ ap (has trail) e ∙ h | inr o ↦ closure.includes l o ];
  within = λ l m. closure_more_start clauses (negations others) (negations (first ∷ others)) l (others_negated first others) (closure.within l m);
  unfalsified = closure.unfalsified;
}) rup

-- the first is denied too
denied_within : (clauses : Clauses) (first : Literal) (others trail new : List Literal) → IsClosure clauses (negations others) (has trail) →
    Grows clauses (trail ++ negate first ∷ []) new → (l : Literal) → IsIn (has new) l → Closure clauses (negations (first ∷ others)) l
denied_within clauses first others trail new closure g l h = closure_again clauses (negations (first ∷ others)) (has (trail ++ negate first ∷ [])) l
    (λ k m. elim (same_literal_or k (negate first)) [
      | inl e ↦ closure_start clauses (negations (first ∷ others)) k (ap (negations (first ∷ others)) e ∙ first_negated first others)
      | inr ne ↦ closure_more_start clauses (negations others) (negations (first ∷ others)) k (others_negated first others)
          (closure.within k (sym (has_front trail (negate first) k ne) ∙ m))
    ])
    (g.within l h)

pub denied_new : (clauses : Clauses) (first : Literal) (others trail new : List Literal) → IsClosure clauses (negations others) (has trail) →
    has trail first ≡ false → Grows clauses (trail ++ negate first ∷ []) new → Falsified clauses (has new) → IsNovelty clauses first others New
denied_new clauses first others trail new closure off g f = (
  falsified_within clauses (negations (first ∷ others)) (has new) (denied_within clauses first others trail new closure g) f,
  λ h. closure_unfalsified clauses (negations others) (has trail) closure h,
  λ h. both_ways (has trail first) off (closure_in clauses (negations others) (has trail) first closure h),
)

pub denied_unproved : (clauses : Clauses) (first : Literal) (others trail new : List Literal) → IsClosure clauses (negations others) (has trail) →
    Grows clauses (trail ++ negate first ∷ []) new → AreQuiet clauses new (length new) → IsNovelty clauses first others Unproved
denied_unproved clauses first others trail new closure g q = λ rup. closure_unfalsified clauses (negations (first ∷ others)) (has new) (record {
  closed = closed_when_quiet clauses new q;
  includes = λ l m. g.keeps l (elim (negated_or first l others m) [
    | inl e ↦ ap (has (trail ++ negate first ∷ [])) e ∙ has_last trail (negate first)
    | inr o ↦ push_keeps trail (negate first) l (closure.includes l o)
  ]);
  within = denied_within clauses first others trail new closure g;
  unfalsified = unfalsified_when_quiet clauses new q;
}) rup

-- one more literal leaves the clauses quiet, as far as they were looked at
pub pushed_quiet : (clauses : Clauses) (trail : List Literal) (l : Literal) → AreQuiet clauses trail (length trail) →
    AreQuiet clauses (trail ++ l ∷ []) (length trail)
pushed_quiet clauses trail l q =
    subst (λ (ls : List Literal). All (IsQuiet (has ls) (has (trail ++ l ∷ []))) clauses)
    (take_all (length trail) trail (omega arith) ∙ sym (take_at trail (l ∷ []) (length trail) refl))
    (All-weaker (IsQuiet (has (take (length trail) trail)) (has trail)) (IsQuiet (has (take (length trail) trail)) (has (trail ++ l ∷ [])))
    (λ c h. quiet_more (has (take (length trail) trail)) (has trail) (has (trail ++ l ∷ [])) c (push_keeps trail l) h) clauses q)

-- the front stays
pub denied_front : (clauses : Clauses) (trail new : List Literal) (l : Literal) → Grows clauses (trail ++ l ∷ []) new → take (length trail) new ≡ trail
denied_front clauses trail new l g = same_front clauses (trail ++ l ∷ []) new (length trail) g (omega (arith, length-append trail (l ∷ [])))
    ∙ take_at trail (l ∷ []) (length trail) refl

-- each literal of the trail was assumed, or some clause makes it true
pub supposed_reasoned : (clauses : Clauses) (old mid new lits : List Literal) → ((l : Literal) → IsIn (has old) l → HasReason clauses (has old) l) →
    Assumes lits old mid → Grows clauses mid new → AreExplained clauses lits new
supposed_reasoned clauses old mid new lits reasoned a g = λ l h. elim (grows_reason clauses mid new g l h) [
  | inl m ↦ elim (a.only l m) [
    | inl o ↦ inr (reason_more clauses (has old) (has new) l (λ k p. g.keeps k (a.keeps k p)) (reasoned l o))
    | inr n ↦ inl n
  ]
  | inr r ↦ inr r
]

-- the same of the whole clause
pub whole_novelty : (clauses : Clauses) (lits : List Literal) (first : Literal) (others : List Literal) (greatest : ℕ) (n : Novelty) → lits ≡ first ∷ others →
    (n ≡ New → greatest ≤ greatest_var clauses) → AreThere greatest lits → IsNovelty clauses first others n → HasNovelty clauses lits n
whole_novelty clauses lits first others greatest Unproved e le there h = λ rup. h (subst (λ (ls : List Literal). Rup clauses ls) e rup)
whole_novelty clauses lits first others greatest Known e le there h = (
  subst (λ (ls : List Literal). Rup clauses ls) (sym e) h.0,
  known_first clauses lits first
      others e h.1,
)
whole_novelty clauses lits first others greatest New e le there h = (
  subst (λ (ls : List Literal). Rup clauses ls) (sym e) h.0,
  new_first clauses lits first
      others greatest e (le refl) there h.1 h.2,
)
