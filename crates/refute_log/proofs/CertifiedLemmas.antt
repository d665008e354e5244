-- What certified values say of values that meet the log, and how they are certified place by place.
use Rattle.std.proofs.Common.{◌≡◌, ℕ, zero, suc, ◌+◌, ◌<◌, ◌≤◌, ◌⊎◌, true, List, [], ◌∷◌, ◌++◌, take, refl, sym, ◌∙◌, ap, subst, inl, inr, arith, append-nil}
use Rattle.std.proofs.Common.{append_assoc}
use Rattle.std.specs.Prelude.{All, Contains, Option, Some, None, slice_get, flat_map}
use Rattle.std.proofs.lemmas.Bool.{cases_order}
use Rattle.std.proofs.lemmas.Option.{none-some, same_Some}
use Rattle.std.proofs.lemmas.List.Elements.{All-nil, All-push, All-cons, All-head, All-tail, All-contains, All-weaker, Contains-append_left}
use Rattle.plan_core.specs.declared.criterion.Values.{Values}
use Rattle.plan_core.specs.declared.criterion.Criterion.{Criterion}
use Rattle.plan_core.specs.Values.{value_of, Better}
use Rattle.plan_core.proofs.Listing.{Contains-flat_map}
use Rattle.plan_core.proofs.TruthFacts.{below_or_is}
use Rattle.cnf_core.specs.Lit.{Literal, positive_of}
use Rattle.cnf_core.specs.declared.literal.Var.{Var}
use Rattle.cnf_core.specs.Assignment.{Assignment, Satisfies, SatisfiesAll, truth}
use Rattle.cnf_core.proofs.QuantifierLemmas.{some_from_satisfies, each_from_satisfies}
use Rattle.refute_log.specs.declared.line.LogLine.TheVariants.{Bound, Refuted}
use Rattle.refute_log.specs.Told.{Lines}
use Rattle.refute_log.specs.Log.{given, refuted, Derives}
use Rattle.refute_log.proofs.LogLemmas.{derived_hold}
use Rattle.refute_log.specs.Bounds.{SaysAtLeast, MeetsLog}
use Rattle.refute_log.specs.Certified.{IsOutOfReach, IsCertifiedLeast, IsLeastAt, Certifies, CertifiesNone, Settled}

-- ---- values that meet a log that derives

pub refuted_holds : (a : Assignment) (lines : Lines) → Derives lines → SatisfiesAll a (flat_map given lines) → (c : List Literal) → Contains lines (Refuted c) →
    Satisfies a c
refuted_holds a lines derives formula c there =
    All-contains (Satisfies a) (flat_map refuted lines) c (each_from_satisfies a (flat_map refuted lines) (derived_hold a lines derives formula).1)
    (Contains-flat_map refuted lines (Refuted c) c there (0, omega arith, refl))

pub reached : (greatest : Criterion → ℕ) (lines : Lines) (w : Values) (m : MeetsLog lines w) (c : Criterion) (k : ℕ) (l : Literal) →
    SaysAtLeast greatest lines c k l → truth m.assignment l ≡ true → k ≤ value_of w c
reached greatest lines w m c k l s t =
    let e : truth m.assignment (positive_of s.variable.0) ≡ true = ap (truth m.assignment) (sym s.is) ∙ t in
    (m.bounds c k s.variable s.told).0 e

-- an assignment that satisfies each refuted clause of the log, and whose true bounds are reached by the values
pub record Agrees (lines : Lines) (w : Values) : Type 0 where
  pub assignment : Assignment
  pub refuted : (c : List Literal) → Contains lines (Refuted c) → Satisfies assignment c
  pub bounds : (c : Criterion) (k : ℕ) (x : Var) → Contains lines (Bound c k x) → assignment x.0 ≡ true → k ≤ value_of w c

agrees : (lines : Lines) (w : Values) → MeetsLog lines w → Derives lines → Agrees lines w
agrees lines w m derives = record {
  assignment = m.assignment;
  refuted = refuted_holds m.assignment lines derives m.formula;
  bounds = λ c k x told. (m.bounds c k x told).0;
}

reached_by : (greatest : Criterion → ℕ) (lines : Lines) (w : Values) (m : Agrees lines w) (c : Criterion) (k : ℕ) (l : Literal) →
    SaysAtLeast greatest lines c k l → truth m.assignment l ≡ true → k ≤ value_of w c
reached_by greatest lines w m c k l s t = m.bounds c k s.variable s.told (ap (truth m.assignment) (sym s.is) ∙ t)

same_value : (v w : Values) (held : List Criterion) (c : Criterion) → All (λ b. value_of v b ≡ value_of w b) held → Contains held c →
    value_of v c ≡ value_of w c
same_value v w held c all there = All-contains (λ b. value_of v b ≡ value_of w b) held c all there

-- with equal values before it and less at c, no bound out of reach is reached
out_of_reach : (greatest : Criterion → ℕ) (lines : Lines) (v w : Values) (m : Agrees lines w) (earlier : List Criterion) (c : Criterion) (l : Literal) →
    All (λ b. value_of w b ≡ value_of v b) earlier → value_of w c < value_of v c → IsOutOfReach greatest lines earlier c v l → truth m.assignment l ≡ true → ⊥
out_of_reach greatest lines v w m earlier c l same less (inl any) t =
    let k = reached_by greatest lines w m any.1 (value_of v any.1 + 1) l any.4 t in
    let e = same_value w v earlier any.1 same (any.0, any.2, any.3) in
    omega arith
out_of_reach greatest lines v w m earlier c l same less (inr s) t = let k = reached_by greatest lines w m c (value_of v c) l s t in omega arith

none_less : (greatest : Criterion → ℕ) (lines : Lines) (v w : Values) → Agrees lines w → (earlier : List Criterion) (c : Criterion) →
    All (λ b. value_of w b ≡ value_of v b) earlier → IsCertifiedLeast greatest lines earlier c v → value_of w c < value_of v c → ⊥
none_less greatest lines v w m earlier c same least less =
    let r = least (omega arith) in
    let some = some_from_satisfies m.assignment r.clause (m.refuted r.clause r.among) in
    out_of_reach greatest lines v w m earlier c some.1 same less (All-contains (IsOutOfReach greatest lines earlier c v) r.clause some.1 r.each
    (some.0, some.2, some.3)) some.4

none_better_behind : (greatest : Criterion → ℕ) (lines : Lines) (v w : Values) → Agrees lines w → (earlier rest : List Criterion) →
    ((i : ℕ) (c : Criterion) → slice_get rest i ≡ Some c → IsCertifiedLeast greatest lines (earlier ++ take i rest) c v) →
    All (λ b. value_of w b ≡ value_of v b) earlier → Better rest w v → ⊥
none_better_behind greatest lines v w m earlier [] least same b = b
none_better_behind greatest lines v w m earlier (c ∷ rest) least same (inl less) =
    none_less greatest lines v w m earlier c same (subst (λ (cs : List Criterion). IsCertifiedLeast greatest lines cs c v) (append-nil earlier)
    (least 0 c refl)) less
none_better_behind greatest lines v w m earlier (c ∷ rest) least same (inr b) =
    none_better_behind greatest lines v w m (earlier ++ c ∷ []) rest
    (λ i d at. subst (λ (cs : List Criterion). IsCertifiedLeast greatest lines cs d v) (sym (append_assoc earlier (c ∷ []) (take i rest))) (least (suc i) d at))
    (All-push (λ b. value_of w b ≡ value_of v b) earlier c same b.0) b.1

-- a place of the first s places
record IsOfFront (order : List Criterion) (s i : ℕ) (c : Criterion) : Type 0 where
  low : i < s
  at : slice_get order i ≡ Some c
  same : take i (take s order) ≡ take i order

of_front : (order : List Criterion) (s i : ℕ) (c : Criterion) → slice_get (take s order) i ≡ Some c → IsOfFront order s i c
of_front [] zero i c e = absurd (none-some c e)
of_front [] (suc s) i c e = absurd (none-some c e)
of_front (d ∷ order) zero i c e = absurd (none-some c e)
of_front (d ∷ order) (suc s) zero c e = record { low = omega arith; at = e; same = refl }
of_front (d ∷ order) (suc s) (suc i) c e =
    let f = of_front order s i c e in
    record { low = let low = f.low in omega arith; at = f.at; same = ap (λ (cs : List Criterion). d ∷ cs) f.same }

pub none_better_agrees : (greatest : Criterion → ℕ) (lines : Lines) (order : List Criterion) (v w : Values) (s : ℕ) → Agrees lines w →
    Certifies greatest lines order v s → Better (take s order) w v → ⊥
none_better_agrees greatest lines order v w s m certified b =
    none_better_behind greatest lines v w m [] (take s order)
    (λ i c e. let f = of_front order s i c e in subst (λ (cs : List Criterion). IsCertifiedLeast greatest lines cs c v) (sym f.same) (certified i c f.low f.at))
    (All-nil (λ b. value_of w b ≡ value_of v b)) b

pub none_better : (greatest : Criterion → ℕ) (lines : Lines) (order : List Criterion) (v w : Values) (s : ℕ) → MeetsLog lines w → Derives lines →
    Certifies greatest lines order v s → Better (take s order) w v → ⊥
none_better greatest lines order v w s m derives = none_better_agrees greatest lines order v w s (agrees lines w m derives)

pub none_meets : (lines : Lines) (w : Values) → MeetsLog lines w → Derives lines → CertifiesNone lines → ⊥
none_meets lines w m derives none = refuted_holds m.assignment lines derives m.formula [] none

-- ---- two values that are both certified

better_or_same : (order : List Criterion) (v w : Values) → Better order v w ⊎ Better order w v ⊎ All (λ c. value_of v c ≡ value_of w c) order
better_or_same [] v w = inr (inr (All-nil (λ c. value_of v c ≡ value_of w c)))
better_or_same (c ∷ order) v w = elim (cases_order (value_of v c) (value_of w c)) [
  | inl e ↦ elim (better_or_same order v w) [
    | inl h ↦ inl (inr (e, h))
    | inr (inl h) ↦ inr (inl (inr (sym e, h)))
    | inr (inr h) ↦ inr (inr (All-cons (λ c. value_of v c ≡ value_of w c) c order e h))
  ]
  | inr (inl less) ↦ inl (inl less)
  | inr (inr more) ↦ inr (inl (inl more))
]

pub same_twice : (greatest : Criterion → ℕ) (lines : Lines) (order : List Criterion) (v w : Values) (s : ℕ) → MeetsLog lines v → MeetsLog lines w →
    Derives lines →
    Certifies greatest lines order v s → Certifies greatest lines order w s → All (λ c. value_of v c ≡ value_of w c) (take s order)
same_twice greatest lines order v w s mv mw derives cv cw = elim (better_or_same (take s order) v w) [
  | inl h ↦ absurd (none_better greatest lines order w v s mv derives cw h)
  | inr (inl h) ↦ absurd (none_better greatest lines order v w s mw derives cv h)
  | inr (inr h) ↦ h
]

-- ---- more lines

pub says_more : (greatest : Criterion → ℕ) (lines more : Lines) (c : Criterion) (k : ℕ) (l : Literal) → SaysAtLeast greatest lines c k l →
    SaysAtLeast greatest (lines ++ more) c k l
says_more greatest lines more c k l s = record {
  within = s.within;
  variable = s.variable;
  told = Contains-append_left lines more (Bound c k s.variable) s.told;
  is = s.is;
}

pub out_of_reach_more : (greatest : Criterion → ℕ) (lines more : Lines) (earlier : List Criterion) (c : Criterion) (v : Values) (l : Literal) →
    IsOutOfReach greatest lines earlier c v l → IsOutOfReach greatest (lines ++ more) earlier c v l
out_of_reach_more greatest lines more earlier c v l (inl any) = inl (
  any.0,
  any.1,
  any.2,
  any.3,
  says_more greatest lines more any.1 (value_of v any.1 + 1) l
      any.4,
)
out_of_reach_more greatest lines more earlier c v l (inr s) = inr (says_more greatest lines more c (value_of v c) l s)

least_more : (greatest : Criterion → ℕ) (lines more : Lines) (earlier : List Criterion) (c : Criterion) (v : Values) →
    IsCertifiedLeast greatest lines earlier c v → IsCertifiedLeast greatest (lines ++ more) earlier c v
least_more greatest lines more earlier c v h = λ p. let r = h p in record {
  clause = r.clause;
  among = Contains-append_left lines more (Refuted r.clause) r.among;
  each = All-weaker (IsOutOfReach greatest lines earlier c v) (IsOutOfReach greatest (lines ++ more) earlier c v)
      (out_of_reach_more greatest lines more earlier c v) r.clause r.each;
}

pub certifies_more : (greatest : Criterion → ℕ) (lines more : Lines) (order : List Criterion) (v : Values) (s : ℕ) → Certifies greatest lines order v s →
    Certifies greatest (lines ++ more) order v s
certifies_more greatest lines more order v s h = λ i c low at. least_more greatest lines more (take i order) c v (h i c low at)

pub certifies_none_more : (lines more : Lines) → CertifiesNone lines → CertifiesNone (lines ++ more)
certifies_none_more lines more h = Contains-append_left lines more (Refuted []) h

-- ---- place by place

pub certifies_nothing : (greatest : Criterion → ℕ) (lines : Lines) (order : List Criterion) (v : Values) → Certifies greatest lines order v 0
certifies_nothing greatest lines order v = λ i c low at. absurd (omega (arith, low))

pub certifies_next : (greatest : Criterion → ℕ) (lines : Lines) (order : List Criterion) (v : Values) (i : ℕ) (c : Criterion) → slice_get order i ≡ Some c →
    Certifies greatest lines order v i → IsCertifiedLeast greatest lines (take i order) c v → Certifies greatest lines order v (i + 1)
certifies_next greatest lines order v i c here h least = λ j d low at. elim (below_or_is j i low) [
  | inl less ↦ h j d less at
  | inr e ↦
      let there : slice_get order i ≡ Some d = ap (slice_get order) (sym e) ∙ at in
      let same : c ≡ d = same_Some c d (sym here ∙ there) in
      subst (λ n. IsCertifiedLeast greatest lines (take n order) d v) (sym e) (subst (λ b. IsCertifiedLeast greatest lines (take i order) b v) same least)
]

pub certifies_place : (greatest : Criterion → ℕ) (lines : Lines) (order : List Criterion) (v : Values) (i : ℕ) →
    Certifies greatest lines order v i → IsLeastAt greatest lines order v i → Certifies greatest lines order v (i + 1)
certifies_place greatest lines order v i h least = λ j c low at. elim (below_or_is j i low) [
  | inl less ↦ h j c less at
  | inr e ↦ subst (λ n. IsCertifiedLeast greatest lines (take n order) c v) (sym e) (least c (ap (slice_get order) (sym e) ∙ at))
]

pub least_at : (greatest : Criterion → ℕ) (lines : Lines) (order : List Criterion) (v : Values) (i : ℕ) (c : Criterion) → slice_get order i ≡ Some c →
    Certifies greatest lines order v (i + 1) → IsCertifiedLeast greatest lines (take i order) c v
least_at greatest lines order v i c here h = h i c (omega arith) here

pub certifies_fewer : (greatest : Criterion → ℕ) (lines : Lines) (order : List Criterion) (v : Values) (s t : ℕ) → t ≤ s → Certifies greatest lines order v s →
    Certifies greatest lines order v t
certifies_fewer greatest lines order v s t le h = λ i c low at. h i c (omega (arith, le, low)) at

pub settled_once : (greatest : Criterion → ℕ) (lines : Lines) (order : List Criterion) (found : Option Values) (s t : ℕ) →
    Settled greatest lines order found s → Settled greatest lines order found t → s ≡ t
settled_once greatest lines order None s t h k = h ∙ sym k
settled_once greatest lines order (Some v) s t h k =
    let a = h.most t k.below k.certified in
    let b = k.most s h.below h.certified in
    omega arith

-- ---- other values that are the same on these criteria

each_taken : (P : Criterion → Type 0) (order : List Criterion) (s i : ℕ) → i ≤ s → All P (take s order) → All P (take i order)
each_taken P [] s zero le h = All-nil P
each_taken P [] s (suc i) le h = All-nil P
each_taken P (c ∷ order) s zero le h = All-nil P
each_taken P (c ∷ order) zero (suc i) le h = absurd (omega arith)
each_taken P (c ∷ order) (suc s) (suc i) le h = All-cons P c (take i order) (All-head P c (take s order) h)
    (each_taken P order s i (omega arith) (All-tail P c (take s order) h))

taken_at : (P : Criterion → Type 0) (order : List Criterion) (s i : ℕ) (c : Criterion) → i < s → slice_get order i ≡ Some c → All P (take s order) → P c
taken_at P [] s i c low at h = absurd (none-some c at)
taken_at P (d ∷ order) zero i c low at h = absurd (omega arith)
taken_at P (d ∷ order) (suc s) zero c low at h = subst P (same_Some d c at) (All-head P d (take s order) h)
taken_at P (d ∷ order) (suc s) (suc i) c low at h = taken_at P order s i c (omega arith) at (All-tail P d (take s order) h)

pub out_of_reach_same : (greatest : Criterion → ℕ) (lines : Lines) (earlier : List Criterion) (c : Criterion) (v w : Values) (l : Literal) →
    All (λ b. value_of v b ≡ value_of w b) earlier → value_of v c ≡ value_of w c →
    IsOutOfReach greatest lines earlier c v l → IsOutOfReach greatest lines earlier c w l
out_of_reach_same greatest lines earlier c v w l same e (inl any) =
    let eb : value_of v any.1 ≡ value_of w any.1 = same_value v w earlier any.1 same (any.0, any.2, any.3) in
    inl (any.0, any.1, any.2, any.3, subst (λ n. SaysAtLeast greatest lines any.1 (n + 1) l) eb any.4)
out_of_reach_same greatest lines earlier c v w l same e (inr s) = inr (subst (λ n. SaysAtLeast greatest lines c n l) e s)

least_same : (greatest : Criterion → ℕ) (lines : Lines) (earlier : List Criterion) (c : Criterion) (v w : Values) →
    All (λ b. value_of v b ≡ value_of w b) earlier → value_of v c ≡ value_of w c →
    IsCertifiedLeast greatest lines earlier c v → IsCertifiedLeast greatest lines earlier c w
least_same greatest lines earlier c v w same e h = λ p. let r = h (omega (arith, e, p)) in record {
  clause = r.clause;
  among = r.among;
  each = All-weaker (IsOutOfReach greatest lines earlier c v) (IsOutOfReach greatest lines earlier c w)
      (λ l. out_of_reach_same greatest lines earlier c v w l same e) r.clause r.each;
}

pub certifies_same : (greatest : Criterion → ℕ) (lines : Lines) (order : List Criterion) (v w : Values) (s : ℕ) →
    All (λ c. value_of v c ≡ value_of w c) (take s order) →
    Certifies greatest lines order v s → Certifies greatest lines order w s
certifies_same greatest lines order v w s same h = λ i c low at.
    let P : Criterion → Type 0 = λ b. value_of v b ≡ value_of w b in
    least_same greatest lines (take i order) c v w (each_taken P order s i (omega (arith, low)) same) (taken_at P order s i c low at same) (h i c low at)

-- ---- other greatest values that are the same

says_under : (greatest other : Criterion → ℕ) (lines : Lines) (c : Criterion) (k : ℕ) (l : Literal) → greatest c ≡ other c → SaysAtLeast greatest lines c k l →
    SaysAtLeast other lines c k l
says_under greatest other lines c k l e s = record { within = subst (λ n. k ≤ n) e s.within; variable = s.variable; told = s.told; is = s.is }

pub out_of_reach_under : (greatest other : Criterion → ℕ) (lines : Lines) (earlier : List Criterion) (c : Criterion) (v : Values) (l : Literal) →
    ((b : Criterion) → greatest b ≡ other b) →
    IsOutOfReach greatest lines earlier c v l → IsOutOfReach other lines earlier c v l
out_of_reach_under greatest other lines earlier c v l same (inl any) =
    inl (any.0, any.1, any.2, any.3, says_under greatest other lines any.1 (value_of v any.1 + 1) l (same any.1) any.4)
out_of_reach_under greatest other lines earlier c v l same (inr s) = inr (says_under greatest other lines c (value_of v c) l (same c) s)

pub least_under : (greatest other : Criterion → ℕ) (lines : Lines) (earlier : List Criterion) (c : Criterion) (v : Values) →
    ((b : Criterion) → greatest b ≡ other b) →
    IsCertifiedLeast greatest lines earlier c v → IsCertifiedLeast other lines earlier c v
least_under greatest other lines earlier c v same h = λ p. let r = h p in record {
  clause = r.clause;
  among = r.among;
  each = All-weaker (IsOutOfReach greatest lines earlier c v) (IsOutOfReach other lines earlier c v)
      (λ l. out_of_reach_under greatest other lines earlier c v l same) r.clause r.each;
}

pub certifies_under : (greatest other : Criterion → ℕ) (lines : Lines) (order : List Criterion) (v : Values) (s : ℕ) →
    ((b : Criterion) → greatest b ≡ other b) →
    Certifies greatest lines order v s → Certifies other lines order v s
certifies_under greatest other lines order v s same h = λ i c low at. least_under greatest other lines (take i order) c v same (h i c low at)
