-- What is so at the end.
use Rattle.std.proofs.Common.{List, [], ap, arith, inl, inr, length, refl, subst, sym, take, true, ℕ, ◌+◌, ◌<◌, ◌∙◌, ◌∷◌, ◌≡◌, ◌≤◌, ◌⊎◌}
use Rattle.std.specs.Prelude.{Contains, Some, None, Option, MatchOption, slice_get, flat_map}
use Rattle.std.proofs.lemmas.List.Elements.{All-nil, All-cons, All-head, All-tail, All-contains, Contains-append_cases}
use Rattle.plan_core.specs.declared.criterion.Values.{Values}
use Rattle.plan_core.specs.declared.criterion.Criterion.{Criterion}
use Rattle.plan_core.specs.Values.{values_of, value_of}
use Rattle.plan_core.specs.Drawing.{Drawing}
use Rattle.plan_core.specs.Order.{IsOrder}
use Rattle.cnf_core.specs.declared.literal.Var.{Var}
use Rattle.cnf_core.specs.Lit.{Literal, positive_of, negative_of}
use Rattle.cnf_core.specs.Assignment.{truth}
use Rattle.refute_log.specs.declared.line.LogLine.TheVariants.{Bound}
use Rattle.refute_log.specs.Told.{Lines}
use Rattle.refute_log.specs.Log.{Derives}
use Rattle.refute_log.specs.Bounds.{SaysAtLeast, MeetsLog, CoversDrawings}
use Rattle.refute_log.specs.Certified.{Certifies, IsOutOfReach, RefutesLess, IsSettled, Settled}
use Rattle.refute_log.proofs.CertifiedLemmas.{refuted_holds, reached, certifies_fewer, least_at}
use Rattle.search_least.specs.declared.oracle.Below.{Below}
use Rattle.refute_log.specs.Log.{learnt, Open}
use Rattle.refute_log.specs.Expected.{caps}
use Rattle.refute_log.specs.Full.{IsFullLog, CapsPass}
use Rattle.cnf_core.proofs.QuantifierLemmas.{some_from_satisfies}
use Rattle.refute_log.specs.declared.stop.Stop.TheVariants.{BudgetSpent, RoomFull}
use Rattle.refute_log.specs.declared.stop.Stop.{Stop}
use Rattle.refute_log.specs.Cause.{IsCause}
use Rattle.search_least.specs.Caps.{IsCauseWith}
use Rattle.search_least.specs.Outcome.{IsStoppedEnd, values_found}
use Rattle.search_least.specs.Task.{Task, greatest_of}
use Rattle.search_least.specs.Asked.{AreApart, AreMet, AreNegated, IsNegated, IsMet, MeetsQuery}
use Rattle.search_least.specs.Reached.{IsAnswerAt, Reached}
use Rattle.search_least.proofs.BuildLemmas.{places_apart}

-- a literal that a drawing of values v makes true, among those that a better one excludes, says that the value is reached
at_value : (p : Task) (lines : Lines) (v : Values) (m : MeetsLog lines v) (held : List Criterion) (c : Criterion) (l : Literal) →
    IsOutOfReach (greatest_of p) lines held c v l → truth m.assignment l ≡ true → SaysAtLeast (greatest_of p) lines c (value_of v c) l
at_value p lines v m held c l (inl any) t = absurd (let k = reached (greatest_of p) lines v m any.1 (value_of v any.1 + 1) l any.4 t in omega arith)
at_value p lines v m held c l (inr s) t = s

same_variable : (x y : ℕ) → positive_of x ≡ positive_of y → x ≡ y
same_variable x y e = ap (λ (l : Literal). l.var) e

-- the answers before place i don't certify it
pub not_certified : (p : Task) (order : List Criterion) (s : ℕ) (c : Criterion) (d : Drawing) (lines : Lines) → IsOrder order →
    CoversDrawings p.graph p.above p.grid lines → Derives lines → AreApart lines →
    Reached p order s d lines → slice_get order s ≡ Some c → 1 ≤ value_of (values_of d) c → Certifies (greatest_of p) lines order (values_of d) (s + 1) → ⊥
not_certified p order s c d lines is covers derives apart r at positive cert =
    let v = values_of d in
    let m : MeetsLog lines v = covers d r.lawful in
    let k : RefutesLess (greatest_of p) lines (take s order) c v = least_at (greatest_of p) lines order v s c at cert positive in
    let a : IsAnswerAt (greatest_of p) lines order v s k.clause = r.answered k.clause k.among in
    let t = some_from_satisfies m.assignment k.clause (refuted_holds m.assignment lines derives m.formula k.clause k.among) in
    let here : SaysAtLeast (greatest_of p) lines c (value_of v c) t.1 = at_value p lines v m (take s order) c t.1
    (All-contains (IsOutOfReach (greatest_of p) lines (take s order) c v) k.clause t.1 k.each (t.0, t.2, t.3)) t.4 in
    let there : SaysAtLeast (greatest_of p) lines a.criterion (value_of v a.criterion) t.1 =
    at_value p lines v m (take a.place order) a.criterion t.1 (All-contains (IsOutOfReach (greatest_of p) lines (take a.place order) a.criterion v) k.clause t.1
    a.each (t.0, t.2, t.3)) t.4 in
    let same_literal : positive_of (there.variable).0 ≡ positive_of (here.variable).0 = sym there.is ∙ here.is in
    let one : (there.variable).0 ≡ (here.variable).0 = same_variable (there.variable).0 (here.variable).0 same_literal in
    let same = apart a.criterion c (value_of v a.criterion) (value_of v c) there.variable here.variable there.told here.told one in
    places_apart order a.place s a.criterion c is a.before a.there at same.0

pub settled_here : (p : Task) (order : List Criterion) (s : ℕ) (c : Criterion) (d : Drawing) (lines : Lines) → IsOrder order →
    CoversDrawings p.graph p.above p.grid lines → Derives lines → AreApart lines →
    Reached p order s d lines → slice_get order s ≡ Some c → s < length order → 1 ≤ value_of (values_of d) c →
    IsSettled (greatest_of p) lines order (values_of d) s
settled_here p order s c d lines is covers derives apart r at within positive = record {
  below = within;
  certified = r.certified;
  most = λ t lt cert. elim (le_or_more t s) [
    | inl le ↦ le
    | inr more ↦ absurd (not_certified p order s c d lines is covers derives apart r at positive
        (certifies_fewer (greatest_of p) lines order (values_of d) t (s + 1) (let m = more in omega arith) cert))
  ];
}
  where
    le_or_more : (t s : ℕ) → (t ≤ s) ⊎ (s < t)
    le_or_more t s = grind arith

pub not_whole : (p : Task) (order : List Criterion) (s : ℕ) (c : Criterion) (d : Drawing) (lines : Lines) → IsOrder order →
    CoversDrawings p.graph p.above p.grid lines → Derives lines → AreApart lines →
    Reached p order s d lines → slice_get order s ≡ Some c → s < length order → 1 ≤ value_of (values_of d) c →
    Certifies (greatest_of p) lines order (values_of d) (length order) → ⊥
not_whole p order s c d lines is covers derives apart r at within positive cert =
    not_certified p order s c d lines is covers derives apart r at positive (certifies_fewer (greatest_of p) lines order (values_of d) (length order) (s + 1)
    (omega arith) cert)

-- the query's negated bounds are those that the drawing meets
negated_in : (lines : Lines) (bounds : List Below) (query : List Literal) (v : Values) → AreNegated lines bounds query → AreMet v bounds → AreApart lines →
    (c : Criterion) (k : ℕ) (x : Var) → Contains lines (Bound c k x) → Contains query (negative_of x.0) → value_of v c < k
negated_in lines [] [] v n met apart c k x bound there = absurd (let lt = there.1 in omega arith)
negated_in lines [] (l ∷ ls) v n met apart c k x bound there = absurd n
negated_in lines (b ∷ bs) [] v n met apart c k x bound there = absurd n
negated_in lines (b ∷ bs) (l ∷ ls) v n met apart c k x bound there =
    elim (Contains-append_cases (l ∷ []) ls (negative_of x.0) there) [
      | inl first ↦
          let is : IsNegated lines b l = n.0 in
          let e : l ≡ negative_of x.0 = All-contains (λ (m : Literal). m ≡ negative_of x.0 → l ≡ negative_of x.0) (l ∷ []) (negative_of x.0)
          (All-cons (λ (m : Literal). m ≡ negative_of x.0 → l ≡ negative_of x.0) l [] (λ f. f)
          (All-nil (λ (m : Literal). m ≡ negative_of x.0 → l ≡ negative_of x.0))) first refl in
          let one : (is.0).0 ≡ x.0 = ap (λ (m : Literal). m.var) (sym is.2 ∙ e) in
          let same = apart b.criterion c b.limit k is.0 x is.1 bound one in
          let lt : value_of v b.criterion < b.limit = All-head (λ (b : Below). value_of v b.criterion < b.limit) b bs met in
          let f : value_of v b.criterion ≡ value_of v c = ap (value_of v) same.0 in
          let g : b.limit ≡ k = same.1 in
          omega arith
      | inr rest ↦ negated_in lines bs ls v n.1 (All-tail (λ (b : Below). value_of v b.criterion < b.limit) b bs met) apart c k x bound rest
    ]

pub meets_query : (lines : Lines) (v : Values) → AreApart lines → IsMet lines v → MeetsQuery lines v
meets_query lines v apart m =
    let Q : Option (List Literal) → Type 0 = λ o. MatchOption o ⊥ (λ q. (c : Criterion) (k : ℕ) (x : Var) → Contains lines (Bound c k x) → Contains q
    (negative_of x.0) → value_of v c < k) in
    subst Q (sym m.modelled) (negated_in lines m.bounds m.query v m.negated m.met apart)

-- ---- searches that stopped

pub settled_from : (p : Task) (order : List Criterion) (s : ℕ) (stop : Stop) (found : Option Drawing) (lines : Lines) →
    IsStoppedEnd p order s stop found lines → Settled (greatest_of p) lines order (values_found found) s
settled_from p order s stop None lines e = e.settled_is
settled_from p order s stop (Some d) lines e = e.is_settled

pub full_from : (p : Task) (order : List Criterion) (s : ℕ) (found : Option Drawing) (lines : Lines) → IsStoppedEnd p order s RoomFull found lines →
    IsFullLog p.encoding (greatest_of p) order lines (values_found found) p.room
full_from p order s None lines e = by e.cause
  where
    by : IsCause p.budget p.room RoomFull lines ⊎ ((RoomFull ≡ RoomFull) × CapsPass p.encoding order lines p.room (caps (greatest_of p) lines)) →
        IsFullLog p.encoding (greatest_of p) order lines None p.room
    by (inl c) = inr (inr c.1)
    by (inr c) = inl c.1
full_from p order s (Some d) lines e = by e.cause
  where
    by : IsCauseWith p order s RoomFull d lines → IsFullLog p.encoding (greatest_of p) order lines (Some (values_of d)) p.room
    by (inl c) = inr (inr c.0.1)
    by (inr c) = inr (inl (values_of d, refl, c.1))

spent_from : (p : Task) (order : List Criterion) (s : ℕ) (found : Option Drawing) (lines : Lines) → IsStoppedEnd p order s BudgetSpent found lines →
    IsCause p.budget p.room BudgetSpent lines
spent_from p order s None lines e = elim e.cause [ inl c ↦ c | inr c ↦ absurd (let f : BudgetSpent ≡ RoomFull = c.0 in cc) ]
spent_from p order s (Some d) lines e = elim e.cause [ inl c ↦ c.0 | inr c ↦ absurd (let f : BudgetSpent ≡ RoomFull = c.0 in cc) ]

pub count_from : (p : Task) (order : List Criterion) (s : ℕ) (found : Option Drawing) (lines : Lines) → IsStoppedEnd p order s BudgetSpent found lines →
    length (flat_map learnt lines) ≡ p.budget
count_from p order s found lines e = (spent_from p order s found lines e).1

pub open_from : (p : Task) (order : List Criterion) (s : ℕ) (found : Option Drawing) (lines : Lines) → IsStoppedEnd p order s BudgetSpent found lines →
    Open lines
open_from p order s found lines e = (spent_from p order s found lines e).2
