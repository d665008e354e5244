-- Faults by their numbers, and the order in which they are looked for.
use Rattle.std.proofs.Common.{◌≡◌, ◌⊎◌, ℕ, ◌<◌, ◌≤◌, ◌+◌, ◌==◌, List, [], length, Option, Some, None, refl, sym, ◌∙◌, ap, subst, inl, inr, arith, if◌then◌else◌}
use Rattle.std.specs.Prelude.{IsSome}
use Rattle.std.proofs.lemmas.Bool.{cases_eq, cases_lt}
use Rattle.std.proofs.lemmas.Option.{slice_get_within}
use Rattle.plan_core.proofs.ListFacts.{get_within}
use Rattle.railml_read.specs.declared.rows.SignalElem.{SignalElem}
use Rattle.plan_objects.specs.declared.places.TheConstants.{MAX_SIGNALS}
use Rattle.plan_objects.specs.declared.fault.SignalWhat.{SignalWhat}
use Rattle.plan_objects.specs.declared.fault.SignalWhat.TheVariants.{TooMany, Missing, Id, RepeatedId, Number, OutsideTrack, Crowded}
use Rattle.plan_objects.specs.Rows.{Station, id_of}
use Rattle.plan_objects.specs.Faults.{first_lacking, HasBadId, RepeatsId, HasNoNumber, LiesOutside, HasNoSignalFault, number_of}
use Rattle.plan_core.specs.Searching.{NoneBefore, IsFirst}
use Rattle.plan_objects.specs.Telling.{HasKind, HasNoneBelow, IsLowest}
use Rattle.plan_core.proofs.SearchLemmas.{none_restated, first_restated}

-- ---- numbers of faults

abbrev kind_of : ℕ → SignalWhat
kind_of n =
    if n == 1 then TooMany
    else if n == 2 then Missing
    else if n == 3 then Id
    else if n == 4 then RepeatedId
    else if n == 5 then Number
    else if n == 6 then OutsideTrack
    else Crowded

back : (what : SignalWhat) → kind_of (number_of what) ≡ what
back TooMany = refl
back Missing = refl
back Id = refl
back RepeatedId = refl
back Number = refl
back OutsideTrack = refl
back Crowded = refl

pub one_kind : (a b : SignalWhat) → number_of a ≡ number_of b → a ≡ b
one_kind a b same = sym (back a) ∙ (ap kind_of same ∙ back b)

numbers_from_one : (what : SignalWhat) → 1 ≤ number_of what
numbers_from_one TooMany = omega arith
numbers_from_one Missing = omega arith
numbers_from_one Id = omega arith
numbers_from_one RepeatedId = omega arith
numbers_from_one Number = omega arith
numbers_from_one OutsideTrack = omega arith
numbers_from_one Crowded = omega arith

numbers_to_seven : (what : SignalWhat) → number_of what < 8
numbers_to_seven TooMany = omega arith
numbers_to_seven Missing = omega arith
numbers_to_seven Id = omega arith
numbers_to_seven RepeatedId = omega arith
numbers_to_seven Number = omega arith
numbers_to_seven OutsideTrack = omega arith
numbers_to_seven Crowded = omega arith

module _ (s : Station) (signals : List SignalElem) where
  pub none_yet : HasNoneBelow s signals 1
  none_yet = record { none = λ what below. (let from = numbers_from_one what in absurd (omega arith)) }

  -- one more kind that no signal has
  pub none_of_more : (what : SignalWhat) → HasNoneBelow s signals (number_of what) → NoneBefore (HasKind s signals what) signals (length signals) →
      HasNoneBelow s signals (number_of what + 1)
  none_of_more what none here = record { none = λ other below. by other below (cases_eq (number_of other) (number_of what)) }
    where
      by : (other : SignalWhat) → number_of other < number_of what + 1 → (number_of other ≡ number_of what) ⊎ (number_of other ≡ number_of what → ⊥) →
          NoneBefore (HasKind s signals other) signals (length signals)
      by other below (inl same) = subst (λ (k : SignalWhat). NoneBefore (HasKind s signals k) signals (length signals)) (sym (one_kind other what same)) here
      by other below (inr differ) = none.none other (omega (arith, differ))

  pub none_at_all : HasNoneBelow s signals 8 → HasNoSignalFault s signals
  none_at_all none what at first fault = (none.none what (numbers_to_seven what)).none fault.number fault.signal
      (slice_get_within signals fault.number fault.signal fault.is) fault.is (first, fault.fault)

  -- ---- what is looked for is a kind of fault

  pub few_enough : length signals ≤ MAX_SIGNALS → NoneBefore (HasKind s signals TooMany) signals (length signals)
  few_enough few = record { none = λ i x below at had. (let is = had.1.0 in omega (arith, few, is, below)) }

  pub too_many : MAX_SIGNALS < length signals → IsFirst (HasKind s signals TooMany) signals MAX_SIGNALS
  too_many many =
      let there = get_within signals MAX_SIGNALS many in
      record {
        x = there.0;
        is = there.1;
        holds = ([], (refl, refl));
        before = record { none = λ i x below at had. (let is = had.1.0 in omega (arith, is, below)) };
      }

  some_told : (o : Option (List ℕ)) → IsSome o → (first : List ℕ) × (o ≡ Some first)
  some_told None h = absurd cc
  some_told (Some first) h = (first, refl)

  told_some : (o : Option (List ℕ)) (first : List ℕ) → o ≡ Some first → IsSome o
  told_some None first e = absurd cc
  told_some (Some text) first e = refl

  abbrev Lacks : ℕ → SignalElem → Type 0
  Lacks i signal = IsSome (first_lacking signal)

  pub missing_first : (i : ℕ) → IsFirst Lacks signals i → IsFirst (HasKind s signals Missing) signals i
  missing_first i f = first_restated {P = Lacks} {Q = HasKind s signals Missing} (λ i x at h. some_told (first_lacking x) h)
      (λ i x at h. told_some (first_lacking x) h.0 h.1) f

  pub missing_none : NoneBefore Lacks signals (length signals) → NoneBefore (HasKind s signals Missing) signals (length signals)
  missing_none n = none_restated {P = Lacks} {Q = HasKind s signals Missing} (λ i x at h. told_some (first_lacking x) h.0 h.1) n

  pub id_first : (i : ℕ) → IsFirst (λ _ x. HasBadId x) signals i → IsFirst (HasKind s signals Id) signals i
  id_first i f = first_restated {P = λ _ x. HasBadId x} {Q = HasKind s signals Id} (λ i x at h. ([], (h, refl))) (λ i x at h. h.1.0) f

  pub id_none : NoneBefore (λ _ x. HasBadId x) signals (length signals) → NoneBefore (HasKind s signals Id) signals (length signals)
  id_none n = none_restated {P = λ _ x. HasBadId x} {Q = HasKind s signals Id} (λ i x at h. h.1.0) n

  pub number_first : (i : ℕ) → IsFirst (λ _ x. HasNoNumber x) signals i → IsFirst (HasKind s signals Number) signals i
  number_first i f = first_restated {P = λ _ x. HasNoNumber x} {Q = HasKind s signals Number} (λ i x at h. (id_of x, (h, refl))) (λ i x at h. h.1.0) f

  pub number_none : NoneBefore (λ _ x. HasNoNumber x) signals (length signals) → NoneBefore (HasKind s signals Number) signals (length signals)
  number_none n = none_restated {P = λ _ x. HasNoNumber x} {Q = HasKind s signals Number} (λ i x at h. h.1.0) n

  pub outside_first : (i : ℕ) → IsFirst (λ _ x. LiesOutside s.rows s.topology x) signals i → IsFirst (HasKind s signals OutsideTrack) signals i
  outside_first i f = first_restated {P = λ _ x. LiesOutside s.rows s.topology x} {Q = HasKind s signals OutsideTrack} (λ i x at h. (id_of x, (h, refl)))
      (λ i x at h. h.1.0) f

  pub outside_none : NoneBefore (λ _ x. LiesOutside s.rows s.topology x) signals (length signals) →
      NoneBefore (HasKind s signals OutsideTrack) signals (length signals)
  outside_none n = none_restated {P = λ _ x. LiesOutside s.rows s.topology x} {Q = HasKind s signals OutsideTrack} (λ i x at h. h.1.0) n

  -- ---- none of the kinds up to here

  pub none_below_2 : length signals ≤ MAX_SIGNALS → HasNoneBelow s signals 2
  none_below_2 few = none_of_more TooMany none_yet (few_enough few)

  pub none_below_3 : length signals ≤ MAX_SIGNALS → NoneBefore Lacks signals (length signals) → HasNoneBelow s signals 3
  none_below_3 few a = none_of_more Missing (none_below_2 few) (missing_none a)

  pub none_below_4 : length signals ≤ MAX_SIGNALS → NoneBefore Lacks signals (length signals) → NoneBefore (λ _ x. HasBadId x) signals (length signals) →
      HasNoneBelow s signals 4
  none_below_4 few a b = none_of_more Id (none_below_3 few a) (id_none b)

  pub none_below_5 : length signals ≤ MAX_SIGNALS → NoneBefore Lacks signals (length signals) → NoneBefore (λ _ x. HasBadId x) signals (length signals) →
      NoneBefore (λ i _. (id : List ℕ) × RepeatsId signals i id) signals (length signals) → HasNoneBelow s signals 5
  none_below_5 few a b c = none_of_more RepeatedId (none_below_4 few a b) c

  pub none_below_6 : length signals ≤ MAX_SIGNALS → NoneBefore Lacks signals (length signals) → NoneBefore (λ _ x. HasBadId x) signals (length signals) →
      NoneBefore (λ i _. (id : List ℕ) × RepeatsId signals i id) signals (length signals) → NoneBefore (λ _ x. HasNoNumber x) signals (length signals) →
      HasNoneBelow s signals 6
  none_below_6 few a b c d = none_of_more Number (none_below_5 few a b c) (number_none d)

  pub none_below_7 : HasNoneBelow s signals 6 → NoneBefore (λ _ x. LiesOutside s.rows s.topology x) signals (length signals) → HasNoneBelow s signals 7
  none_below_7 none e = none_of_more OutsideTrack none (outside_none e)

  -- there are few where there aren't too many
  pub few_signals : (n : ℕ) → 1 < n → HasNoneBelow s signals n → length signals ≤ MAX_SIGNALS
  few_signals n more none = by (cases_lt MAX_SIGNALS (length signals))
    where
      by : (MAX_SIGNALS < length signals) ⊎ (length signals ≤ MAX_SIGNALS) → length signals ≤ MAX_SIGNALS
      by (inl many) = (let f = too_many many in absurd ((none.none TooMany more).none MAX_SIGNALS f.x many f.is f.holds))
      by (inr few) = few

  pub none_below_less : (m n : ℕ) → m ≤ n → HasNoneBelow s signals n → HasNoneBelow s signals m
  none_below_less m n less none = record { none = λ what below. none.none what (omega arith) }

  pub lowest_there : (what : SignalWhat) (i : ℕ) → IsLowest s signals what i → i < length signals
  lowest_there what i l = slice_get_within signals i l.first.x l.first.is

  pub none_below_8 : HasNoneBelow s signals 7 → NoneBefore (HasKind s signals Crowded) signals (length signals) → HasNoneBelow s signals 8
  none_below_8 none e = none_of_more Crowded none e
