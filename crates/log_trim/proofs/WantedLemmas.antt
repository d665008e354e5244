-- Lines by which a claim is certified, at their places.
use Rattle.std.proofs.Common.{◌≡◌, ◌≤◌, ◌<◌, ℕ, ◌+◌, ◌⊎◌, List, [], ◌∷◌, ◌++◌, length, take, get_or, Some, None, refl, sym, ◌∙◌, ap, subst, inl, inr, arith}
use Rattle.std.specs.Prelude.{Contains, Option, MatchOption, slice_get, flat_map}
use Rattle.std.proofs.lemmas.Bool.{cases_lt}
use Rattle.std.proofs.lemmas.Option.{slice_get-get_or, slice_get_within, get_or_from_slice_get, same_Some}
use Rattle.std.proofs.lemmas.List.Elements.{All-contains, Contains-get_or, Contains-append_left, Contains-push_cases, Contains-push}
use Rattle.plan_core.specs.declared.criterion.Values.{Values}
use Rattle.plan_core.specs.declared.criterion.Criterion.{Criterion}
use Rattle.plan_core.specs.Searching.{FindsFirst, IsFirst, NoneBefore}
use Rattle.plan_core.specs.Values.{value_of}
use Rattle.plan_core.proofs.Listing.{Contains-head, Contains-flat_map}
use Rattle.cnf_core.specs.Lit.{Literal, positive_of}
use Rattle.cnf_core.specs.Clause.{HasAllOf}
use Rattle.refute_log.specs.declared.line.LogLine.{LogLine}
use Rattle.refute_log.specs.declared.line.LogLine.TheVariants.{Formula, Learnt, Bound, Query, Refuted, Model}
use Rattle.refute_log.specs.Told.{Lines}
use Rattle.refute_log.specs.Log.{IsRefutedWithin}
use Rattle.refute_log.specs.Certified.{RefutesLess, Certifies, CertifiesNone, IsOutOfReach}
use Rattle.refute_log.specs.Bounds.{SaysAtLeast}
use Rattle.refute_check.specs.declared.told_bound.ToldBound.{ToldBound}
use Rattle.refute_check.specs.Lacking.{told_bound}
use Rattle.refute_check.proofs.JudgeLemmas.{nothing, bound_line, out_of_reach, AreUnreached}
use Rattle.log_check.specs.declared.claim.Claim.{Claim}
use Rattle.log_check.specs.declared.claim.Claim.TheVariants.{Least, NoDrawing, Nothing}
use Rattle.log_check.specs.Claimed.{CertifiesClaim}
use Rattle.log_trim.specs.Wanted.{ShowsLeast, ShowsNone, IsClaimedPlace, AreOfLeast, AreWanted}

-- ---- the first Refuted line within them

-- a literal that is out of reach is one of them
reached : (greatest : Criterion → ℕ) (lines : Lines) (bounds : List ToldBound) (earlier : List Criterion) (c : Criterion) (v : Values) (literals : List Literal)
    → bounds ≡ flat_map told_bound lines → AreUnreached greatest bounds earlier c v literals →
    (l : Literal) → IsOutOfReach greatest lines earlier c v l → Contains literals l
reached greatest lines bounds earlier c v literals are unreached l out = elim out [
  | inl any ↦ at any.1 (value_of v any.1 + 1) any.4 (inl ((any.0, any.2, any.3), refl))
  | inr s ↦ at c (value_of v c) s (inr (refl, refl))
]
  where
    at : (d : Criterion) (k : ℕ) → SaysAtLeast greatest lines d k l → ((Contains earlier d × (k ≡ value_of v d + 1)) ⊎ ((d ≡ c) × (k ≡ value_of v c))) →
        Contains literals l
    at d k s either =
        let b : ToldBound = record { criterion = d; k = k; literal = positive_of s.variable.0 } in
        let told : Contains (flat_map told_bound lines) b = Contains-flat_map told_bound lines (Bound d k s.variable) b s.told (0, omega arith, refl) in
        let there : Contains bounds b = subst (λ (bs : List ToldBound). Contains bs b) (sym are) told in
        (unreached l).1 (there.0, b, there.1, there.2, (record { within = s.within; either = either }, sym s.is))

first_shows : (greatest : Criterion → ℕ) (lines : Lines) (bounds : List ToldBound) (earlier : List Criterion) (c : Criterion) (v : Values)
    (literals : List Literal) (p : ℕ) → bounds ≡ flat_map told_bound lines →
    AreUnreached greatest bounds earlier c v literals → IsFirst (λ _ line. IsRefutedWithin literals line) lines p → ShowsLeast greatest lines earlier c v p
first_shows greatest lines bounds earlier c v literals p are unreached first = by first.before first.x first.is first.holds
  where
    by : NoneBefore (λ _ line. IsRefutedWithin literals line) lines p → (line : LogLine) → slice_get lines p ≡ Some line → IsRefutedWithin literals line →
        ShowsLeast greatest lines earlier c v p
    by before (Formula d) at h = absurd h
    by before (Learnt d) at h = absurd h
    by before (Bound d k x) at h = absurd h
    by before (Query d) at h = absurd h
    by before (Refuted d) at h = record {
      clause = d;
      there = at;
      each = λ k l low.
          let x = get_or d k l in
          let any = (unreached x).0 (h x (Contains-get_or d k l low)) in
          out_of_reach greatest lines earlier c v x any.1 (bound_line lines any.1
          (subst (λ (bs : List ToldBound). Contains bs any.1) are (any.0, any.2, any.3))) any.4;
      first = λ q e below found_at out. before.none q (Refuted e) below found_at (λ l within. reached greatest lines bounds earlier c v literals are unreached l
          (All-contains (IsOutOfReach greatest lines earlier c v) e l out within));
    }
    by before Model at h = absurd h

-- a Refuted line within the literals is found
not_missed : (lines : Lines) (literals d : List Literal) → Contains lines (Refuted d) → HasAllOf literals d →
    NoneBefore (λ _ line. IsRefutedWithin literals line) lines (length lines) → ⊥
not_missed lines literals d there within none =
    let at : slice_get lines there.0 ≡ Some (Refuted d) = slice_get-get_or lines there.0 (Refuted d) there.1 ∙ ap (λ (x : LogLine). Some x) there.2 in
    none.none there.0 (Refuted d) there.1 at within

none_shows : (greatest : Criterion → ℕ) (lines : Lines) (bounds : List ToldBound) (earlier : List Criterion) (c : Criterion) (v : Values)
    (literals : List Literal) → bounds ≡ flat_map told_bound lines →
    AreUnreached greatest bounds earlier c v literals → NoneBefore (λ _ line. IsRefutedWithin literals line) lines (length lines) →
    RefutesLess greatest lines earlier c v → ⊥
none_shows greatest lines bounds earlier c v literals are unreached none less =
    not_missed lines literals less.clause less.among (λ l within. reached greatest lines bounds earlier c v literals are unreached l
    (All-contains (IsOutOfReach greatest lines earlier c v) less.clause l less.each within)) none

pub found_least : (greatest : Criterion → ℕ) (lines : Lines) (bounds : List ToldBound) (earlier : List Criterion) (c : Criterion) (v : Values)
    (literals : List Literal) (found : Option ℕ) → bounds ≡ flat_map told_bound lines →
    AreUnreached greatest bounds earlier c v literals → FindsFirst (λ _ line. IsRefutedWithin literals line) lines found →
    MatchOption found (RefutesLess greatest lines earlier c v → ⊥) (ShowsLeast greatest lines earlier c v)
found_least greatest lines bounds earlier c v literals None are unreached none = none_shows greatest lines bounds earlier c v literals are unreached none
found_least greatest lines bounds earlier c v literals (Some p) are unreached first = first_shows greatest lines bounds earlier c v literals p are unreached
    first

-- ---- the same of a line without literals

pub found_none : (lines : Lines) (found : Option ℕ) → FindsFirst (λ _ line. IsRefutedWithin [] line) lines found →
    MatchOption found (CertifiesNone lines → ⊥) (ShowsNone lines)
found_none lines None none = λ certified. not_missed lines [] [] certified (λ l h. h) none
found_none lines (Some p) first = by first.before first.x first.is first.holds
  where
    empty : (d : List Literal) → HasAllOf [] d → d ≡ []
    empty [] h = refl
    empty (l ∷ ls) h = nothing l (l ∷ ls ≡ []) (h l (Contains-head l ls))

    by : NoneBefore (λ _ line. IsRefutedWithin [] line) lines p → (line : LogLine) → slice_get lines p ≡ Some line → IsRefutedWithin [] line → ShowsNone lines p
    by before (Formula d) at h = absurd h
    by before (Learnt d) at h = absurd h
    by before (Bound d k x) at h = absurd h
    by before (Query d) at h = absurd h
    by before (Refuted d) at h = record {
      there = subst (λ (e : List Literal). slice_get lines p ≡ Some (Refuted e)) (empty d h) at;
      first = λ q below found_at. before.none q (Refuted []) below found_at (λ l within. within);
    }
    by before Model at h = absurd h

-- ---- the places of the order, one by one

-- a place that no line shows isn't certified
pub not_shown : (greatest : Criterion → ℕ) (lines : Lines) (order earlier : List Criterion) (v : Values) (s i : ℕ) (c : Criterion) → i < s →
    slice_get order i ≡ Some c → earlier ≡ take i order → 1 ≤ value_of v c →
    (RefutesLess greatest lines earlier c v → ⊥) → Certifies greatest lines order v s → ⊥
not_shown greatest lines order earlier v s i c low at is positive none certified =
    none (subst (λ (cs : List Criterion). RefutesLess greatest lines cs c v) (sym is) (certified i c low at positive))

-- a claimed place is one of more
further : (order : List Criterion) (v : Values) (s i : ℕ) (c : Criterion) → IsClaimedPlace order v s i c → IsClaimedPlace order v (s + 1) i c
further order v s i c h = record { below = (let low = h.below in omega (arith, low)); at = h.at; positive = h.positive }

abbrev IsOfPlace : (Criterion → ℕ) → Lines → List Criterion → Values → ℕ → ℕ → Type 0
IsOfPlace greatest lines order v s p = (i : ℕ) × (c : Criterion) × IsClaimedPlace order v s i c × ShowsLeast greatest lines (take i order) c v p

abbrev IsShownIn : (Criterion → ℕ) → Lines → List Criterion → Values → List ℕ → ℕ → Criterion → Type 0
IsShownIn greatest lines order v wanted i c = (p : ℕ) × Contains wanted p × ShowsLeast greatest lines (take i order) c v p

only_further : (greatest : Criterion → ℕ) (lines : Lines) (order : List Criterion) (v : Values) (s p : ℕ) → IsOfPlace greatest lines order v s p →
    IsOfPlace greatest lines order v (s + 1) p
only_further greatest lines order v s p (i, c, claimed, shows) = (i, c, further order v s i c claimed, shows)

-- the last of the places, or one before
last_place : (order : List Criterion) (v : Values) (s i : ℕ) (c d : Criterion) → slice_get order s ≡ Some d → IsClaimedPlace order v (s + 1) i c →
    IsClaimedPlace order v s i c ⊎ ((i ≡ s) × (c ≡ d))
last_place order v s i c d at h = elim (cases_lt i s) [
  | inl less ↦ inl (record { below = less; at = h.at; positive = h.positive })
  | inr ge ↦
      let low = h.below in
      let same : i ≡ s = omega (arith, low, ge) in
      inr (same, same_Some c d (sym h.at ∙ ap (λ n. slice_get order n) same ∙ at))
]

pub of_shown : (greatest : Criterion → ℕ) (lines : Lines) (order earlier : List Criterion) (v : Values) (s p : ℕ) (c : Criterion) (wanted new : List ℕ) →
    slice_get order s ≡ Some c → earlier ≡ take s order → 1 ≤ value_of v c →
    ShowsLeast greatest lines earlier c v p → new ≡ wanted ++ p ∷ [] → AreOfLeast greatest lines order v s wanted →
    AreOfLeast greatest lines order v (s + 1) new
of_shown greatest lines order earlier v s p c wanted new at is positive shows pushed h =
    let here : ShowsLeast greatest lines (take s order) c v p = subst (λ (cs : List Criterion). ShowsLeast greatest lines cs c v p) is shows in
    let claimed : IsClaimedPlace order v (s + 1) s c = record { below = omega arith; at = at; positive = positive } in
    subst (AreOfLeast greatest lines order v (s + 1)) (sym pushed) (record {
      only = λ q among. elim (Contains-push_cases wanted p q among) [
        | inl old ↦ only_further greatest lines order v s q (h.only q old)
        | inr same ↦ subst (IsOfPlace greatest lines order v (s + 1)) same (s, c, claimed, here)
      ];
      each = λ i d place. elim (last_place order v s i d c at place) [
        | inl before ↦ (let old = h.each i d before in (old.0, Contains-append_left wanted (p ∷ []) old.0 old.1, old.2))
        | inr now ↦
            subst (λ n. IsShownIn greatest lines order v (wanted ++ p ∷ []) n d) (sym now.0)
            (subst (λ e. IsShownIn greatest lines order v (wanted ++ p ∷ []) s e) (sym now.1) (p, Contains-push wanted p, here))
      ];
    })

pub of_zero : (greatest : Criterion → ℕ) (lines : Lines) (order : List Criterion) (v : Values) (s : ℕ) (c : Criterion) (wanted : List ℕ) →
    slice_get order s ≡ Some c → value_of v c ≤ 0 →
    AreOfLeast greatest lines order v s wanted → AreOfLeast greatest lines order v (s + 1) wanted
of_zero greatest lines order v s c wanted at zero h = record {
  only = λ q among. only_further greatest lines order v s q (h.only q among);
  each = λ i d place. elim (last_place order v s i d c at place) [
    | inl before ↦ h.each i d before
    | inr now ↦ absurd (
        let positive = subst (λ e. 1 ≤ value_of v e) now.1 place.positive in
        omega (arith, positive, zero)
        )
  ];
}

-- ---- so the claim is certified

shown_among : (lines : Lines) (p : ℕ) (c : List Literal) → slice_get lines p ≡ Some (Refuted c) → Contains lines (Refuted c)
shown_among lines p c at = (p, slice_get_within lines p (Refuted c) at, get_or_from_slice_get lines p (Refuted c) (Refuted c) at)

pub wanted_certify : (greatest : Criterion → ℕ) (lines : Lines) (order : List Criterion) (claim : Claim) (wanted : List ℕ) →
    AreWanted greatest lines order claim wanted → CertifiesClaim greatest lines order claim
wanted_certify greatest lines order (Least v s) wanted h = λ i c low at positive.
    let r = h.each i c (record { below = low; at = at; positive = positive }) in
    record { clause = r.2.clause; among = shown_among lines r.0 r.2.clause r.2.there; each = r.2.each }
wanted_certify greatest lines order NoDrawing wanted h = shown_among lines h.0 [] h.1.there
wanted_certify greatest lines order Nothing wanted h = tt
