-- What a search that ended says of all assignments.
use Rattle.std.proofs.Common.{◌≡◌, ◌≢◌, ℕ, ◌+◌, ◌<◌, ◌⊎◌, Bool, true, false, not, List, [], ◌∷◌, ◌++◌, length, get_or, take, map, refl, sym, ◌∙◌, ap, subst}
use Rattle.std.proofs.Common.{inl, inr, arith, Some, None}
use Rattle.std.specs.Prelude.{All, Contains}
use Rattle.std.proofs.lemmas.Bool.{cases_eq, cases_Bool}
use Rattle.std.proofs.lemmas.List.Elements.{All-nil, All-cons, All-head, All-tail, All-weaker, All-contains, All-contains_itself, Contains-push_cases}
use Rattle.std.proofs.lemmas.List.Elements.{Contains-append_cases}
use Rattle.cnf_core.specs.Lit.{Literal, negate, has, same_sign}
use Rattle.cnf_core.specs.Clause.{Clauses, AreDistinct, AreThere, IsThere, IsNamed}
use Rattle.cnf_core.specs.Assignment.{truth, Satisfies, SatisfiesAll}
use Rattle.cnf_core.specs.Truths.{assignment}
use Rattle.cnf_core.specs.Propagation.{IsIn}
use Rattle.cnf_core.proofs.PropagationLemmas.{contains_from_has, has_from_contains, contains_first, contains_later, rup_sound, falsifies_more}
use Rattle.cnf_core.proofs.QuantifierLemmas.{satisfies_from_each}
use Rattle.cnf_core.proofs.TrailLemmas.{next_front, same_place, front_includes, there_get}
use Rattle.watch_arena.specs.Trail.{Marks, IsUnset}
use Rattle.watch_arena.specs.Arena.{Attached, attached_clauses}
use Rattle.cdcl_core.specs.declared.search.Search.{Search}
use Rattle.cdcl_core.specs.declared.answer.Answer.{Answer}
use Rattle.cdcl_core.specs.declared.answer.Answer.TheVariants.{Model, Refuted, Spent, Room}
use Rattle.cdcl_core.specs.Kept.{AreGiven, HasModel, HasNoModel, HasModelOnly, IsTrueAnswer, AreRefuted, HasRefuted}
use Rattle.cdcl_core.specs.Roots.{all_of, IsGrounded}
use Rattle.cdcl_core.specs.Search.{clauses, kept_of, IsSearch, IsSameStore, IsFalse, IsComplete, IsRefuting, IsSearchAnswer}
use Rattle.cdcl_core.proofs.SetLemmas.{place_of_text}
use Rattle.cdcl_core.proofs.LogLemmas.{deduced_same}
use Rattle.cdcl_core.proofs.RoundLemmas.{satisfied_lit, satisfied_by, satisfies_among}

-- one more literal of the trail is true
pub truths_more : (lits : List Literal) (ts now : List Bool) (i : ℕ) (l : Literal) → AreDistinct lits → i < length lits → get_or lits i l ≡ l →
    truth (assignment now) l ≡ true → ((x : ℕ) → x ≢ l.var → assignment now x ≡ assignment ts x) →
    ((k : Literal) → IsIn (has (take i lits)) k → truth (assignment ts) k ≡ true) → (k : Literal) → IsIn (has (take (i + 1) lits)) k →
    truth (assignment now) k ≡ true
truths_more lits ts now i l distinct lt at holds others so_far k on =
    elim (Contains-push_cases (take i lits) l k (contains_from_has (take i lits ++ l ∷ []) k
    (subst (λ (ls : List Literal). IsIn (has ls) k) (next_front lits i l lt at) on))) [
      | inr same ↦ subst (λ (x : Literal). truth (assignment now) x ≡ true) same holds
      | inl old ↦
          let before = has_from_contains (take i lits) k old in
          elim (cases_eq k.var l.var) [
            | inl e ↦
                let is : l ≡ k = sym (same_place lits k l distinct (contains_from_has lits k (front_includes lits i k before)) (i, lt, at) e) in
                subst (λ (x : Literal). truth (assignment now) x ≡ true) is holds
            | inr ne ↦ ap (same_sign k.positive) (others k.var ne) ∙ so_far k before
          ]
    ]

-- a clause has a true literal, or all its literals are false
find_true : (m : Marks) (c : List Literal) → ((l : Literal) → IsThere m.vars l → IsUnset m.lits l → ⊥) → AreThere m.vars c →
    ((l : Literal) × Contains c l × (has m.lits l ≡ true)) ⊎ All (IsFalse m) c
find_true m [] total there = inr (All-nil (IsFalse m))
find_true m (k ∷ c) total there = elim (cases_Bool (has m.lits k)) [
  | inl t ↦ inl (k, contains_first k c, t)
  | inr f ↦ elim (cases_Bool (has m.lits (negate k))) [
    | inr g ↦ absurd (total k there.0 (f, g))
    | inl off ↦ elim (find_true m c total there.1) [
      | inl x ↦ inl (x.0, contains_later k x.0 c x.1, x.2)
      | inr rest ↦ inr (All-cons (IsFalse m) k c off rest)
    ]
  ]
]

-- the variables of a kept clause are there
pub clause_there : (a : Attached) (m : Marks) (own : Clauses) (refuted : Bool) (c : List Literal) → IsGrounded a m own refuted → Contains (all_of a own) c →
    AreThere m.vars c
clause_there a m own refuted c g among = elim (Contains-append_cases (attached_clauses a) own c among) [
  | inl old ↦ let p = place_of_text a a.places c old in subst (AreThere m.vars) p.is (g.texts p.place p.among)
  | inr own_c ↦ All-contains (AreThere m.vars) own c g.there own_c
]

pub complete_satisfies : (query : List Literal) (s : Search) (values : List Bool) → IsGrounded s.arena s.trail s.own.items s.refuted → IsComplete query s →
    ((l : Literal) → IsIn (has s.trail.lits) l → truth (assignment values) l ≡ true) → SatisfiesAll (assignment values) (clauses s)
complete_satisfies query s values g complete true_all = satisfies_from_each (assignment values) (clauses s)
    (All-weaker (Contains (clauses s)) (Satisfies (assignment values)) by_clause (clauses s) (All-contains_itself (clauses s)))
  where
    by_clause : (c : List Literal) → Contains (clauses s) c → Satisfies (assignment values) c
    by_clause c among = elim (find_true s.trail c complete.total (clause_there s.arena s.trail s.own.items s.refuted c g among)) [
      | inl x ↦ satisfied_by (assignment values) c x.0 x.1 (true_all x.0 x.2)
      | inr off ↦ absurd (complete.quiet.unfalsified (record { clause = c; among = among; each = off }))
    ]

not_both_signs : (sign value : Bool) → same_sign sign value ≡ true → same_sign (not sign) value ≡ true → ⊥
not_both_signs true true h k = cc
not_both_signs true false h k = cc
not_both_signs false true h k = cc
not_both_signs false false h k = cc

pub refuting_no_model : (given cs : Clauses) (query c : List Literal) → AreGiven given cs → IsRefuting cs query c → HasNoModel given query
refuting_no_model given cs query c g r = λ v all assumed.
    let x = satisfied_lit v c (rup_sound v cs c r.follows (g.follow v all)) in
    let answers : Contains query (negate x.0) = All-contains (λ l. Contains query (negate l)) c x.0 r.answers x.1 in
    not_both_signs x.0.positive (v x.0.var) x.2 (All-contains (λ l. truth v l ≡ true) query (negate x.0) assumed answers)

negated_among : (query c : List Literal) → All (λ l. Contains query (negate l)) c → All (λ l. Contains query l) (map negate c)
negated_among query [] h = All-nil (λ l. Contains query l)
negated_among query (l ∷ c) h = All-cons (λ k. Contains query k) (negate l) (map negate c) (All-head (λ k. Contains query (negate k)) l c h)
    (negated_among query c (All-tail (λ k. Contains query (negate k)) l c h))

all_negated : (c : List Literal) → All (λ l. Contains (map negate c) (negate l)) c
all_negated [] = All-nil (λ l. Contains [] (negate l))
all_negated (l ∷ c) = All-cons (λ k. Contains (negate l ∷ map negate c) (negate k)) l c (contains_first (negate l) (map negate c))
    (All-weaker (λ k. Contains (map negate c) (negate k)) (λ k. Contains (negate l ∷ map negate c) (negate k))
    (λ k m. contains_later (negate l) (negate k) (map negate c) m) c (all_negated c))

-- the assumptions whose negations the clause has are refuted
pub refuted_negated : (answer : Answer) (given cs : Clauses) (query c refuted : List Literal) → answer ≡ Refuted → refuted ≡ map negate c → AreGiven given cs →
    IsRefuting cs query c → HasRefuted answer given query refuted
refuted_negated answer given cs query c refuted is e g r = subst (λ (a : Answer). HasRefuted a given query refuted) (sym is)
    (subst (AreRefuted given query) (sym e) (record {
      among = negated_among query c r.answers;
      none = refuting_no_model given cs (map negate c) c g (record { follows = r.follows; answers = all_negated c });
    }))

pub none_refuted : (answer : Answer) (given : Clauses) (query refuted : List Literal) → (answer ≡ Refuted → ⊥) → refuted ≡ [] →
    HasRefuted answer given query refuted
none_refuted Model given query refuted other e = e
none_refuted Refuted given query refuted other e = absurd (other refl)
none_refuted Spent given query refuted other e = e
none_refuted Room given query refuted other e = e

-- what the search says is true of the given clauses
pub model_answer : (given : Clauses) (query refuted : List Literal) (s t : Search) (values : List Bool) → AreGiven given (clauses s) →
    IsGrounded s.arena s.trail s.own.items s.refuted → IsComplete query s → length values ≡ t.trail.vars →
    ((l : Literal) → IsIn (has s.trail.lits) l → truth (assignment values) l ≡ true) → HasModel given query (kept_of t (Some values) refuted false)
model_answer given query refuted s t values g grounded complete size true_all = record {
  values = values;
  model = refl;
  vars = size;
  clauses = satisfies_among (assignment values) (clauses s) given g.kept (complete_satisfies query s values grounded complete true_all);
  assumptions = All-weaker (Contains query) (λ l. truth (assignment values) l ≡ true) (λ l among. true_all l (complete.assumed l among)) query
      (All-contains_itself query);
}

-- the answers without a model
pub other_answer : (answer : Answer) (given : Clauses) (query refuted : List Literal) (s t : Search) → (answer ≡ Model → ⊥) → IsSameStore s t →
    AreGiven given (clauses s) → IsSearchAnswer answer query s → IsTrueAnswer answer given query (kept_of t None refuted false)
other_answer Model given query refuted s t other f g says = absurd (other refl)
other_answer Refuted given query refuted s t other f g says = refuting_no_model given (clauses s) query s.analyser.clause g says
other_answer Spent given query refuted s t other f g says = λ h. says (falsifies_more (clauses t) (clauses s) (has query) f.clauses.back h)
other_answer Room given query refuted s t other f g says = record {
  clause = says.clause;
  formed = says.formed;
  deduced = deduced_same (clauses s) (clauses t) says.clause f.clauses.there f.clauses.back says.deduced;
  passes = let p = says.passes in let r = f.room in let w = f.words in omega arith;
}

pub other_model : (answer : Answer) (t : Search) (refuted : List Literal) → (answer ≡ Model → ⊥) → HasModelOnly answer (kept_of t None refuted false)
other_model Model t refuted other = absurd (other refl)
other_model Refuted t refuted other = refl
other_model Spent t refuted other = refl
other_model Room t refuted other = refl

-- an assumption's variable is there
pub named_there : (s : Search) (l : Literal) → IsSearch s → IsNamed (clauses s) l.var → IsThere s.trail.vars l
named_there s l h n =
    let there = clause_there s.arena s.trail s.own.items s.refuted n.clause h.solving.grounded n.among in
    let c = n.inside in
    let x : IsThere s.trail.vars n.lit = subst (IsThere s.trail.vars) c.2 (there_get s.trail.vars n.clause c.0 n.lit c.1 there) in
    let e = n.var in
    let low = x.0 in
    let high = x.1 in
    (omega arith, omega arith)

pub query_there : (s : Search) (query : List Literal) → IsSearch s → All (λ l. IsNamed (clauses s) l.var) query → AreThere s.trail.vars query
query_there s query h named = by_list query (λ l c. named_there s l h (All-contains (λ k. IsNamed (clauses s) k.var) query l named c))
  where
    by_list : (ls : List Literal) → ((l : Literal) → Contains ls l → IsThere s.trail.vars l) → AreThere s.trail.vars ls
    by_list [] f = tt
    by_list (l ∷ ls) f = (f l (contains_first l ls), by_list ls (λ k c. f k (contains_later l k ls c)))
