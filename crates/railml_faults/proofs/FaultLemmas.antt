-- Faults by their numbers, and the order in which they are looked for.
use Rattle.std.proofs.Common.{◌≡◌, ◌⊎◌, ℕ, suc, zero, ◌<◌, ◌≤◌, ◌+◌, ◌==◌, Bool, true, false, List, [], ◌∷◌, length, Option, Some, None, slice_get, get_or}
use Rattle.std.proofs.Common.{refl, sym, ◌∙◌, ap, subst, inl, inr, arith, if◌then◌else◌}
use Rattle.std.proofs.lemmas.Bool.{cases_eq}
use Rattle.std.specs.List.{range_with_len}
use Rattle.std.proofs.lemmas.List.{get_or-map}
use Rattle.std.proofs.lemmas.List.FromFn.{get_or-range_with_len}
use Rattle.std.proofs.lemmas.Option.{same_Some, none-some, slice_get_within}
use Rattle.plan_core.proofs.ListFacts.{get_within}
use Rattle.plan_core.specs.declared.limits.TheConstants.{MAX_TRACKS}
use Rattle.railml_read.specs.declared.rows.Elem.{Elem}
use Rattle.railml_read.specs.declared.rows.ElemKind.TheVariants as kinds
use Rattle.railml_faults.specs.declared.attributes.Attribute.{Attribute}
use Rattle.railml_faults.specs.declared.fault.TopologyWhat.{TopologyWhat}
use Rattle.railml_faults.specs.declared.fault.TopologyWhat.TheVariants.{NoTracks, TooMany, Missing, Id, RepeatedId, Number, UnknownRef, NotMutual, SelfRef}
use Rattle.railml_faults.specs.declared.fault.TopologyWhat.TheVariants.{EndKind, Course, Orientation, OutsideTrack}
use Rattle.railml_faults.specs.declared.finding.TheConstants.{IN_ORDER}
use Rattle.railml_faults.specs.Rows.{same_kind, numbers_from, track_rows, attribute_name, id_of}
use Rattle.railml_faults.specs.Faults.{Lacks, HasBadId, Repeats, HasNoNumber, RefersToNone, IsNotReferredBack, RefersToItself, LacksItsParts, HasBadCourse}
use Rattle.railml_faults.specs.Faults.{HasBadOrientation, LiesOutside, number_of, AreIdsDistinct}
use Rattle.plan_core.specs.Searching.{NoneBefore, FindsFirst}
use Rattle.railml_faults.specs.Telling.{HasKind, HasNoneBelow}

-- ---- numbers of faults

kind_of : ℕ → TopologyWhat
kind_of n =
    if n == 1 then NoTracks
    else if n == 2 then TooMany
    else if n == 3 then Missing
    else if n == 4 then Id
    else if n == 5 then RepeatedId
    else if n == 6 then Number
    else if n == 7 then UnknownRef
    else if n == 8 then NotMutual
    else if n == 9 then SelfRef
    else if n == 10 then EndKind
    else if n == 11 then Course
    else if n == 12 then Orientation
    else OutsideTrack

back : (what : TopologyWhat) → kind_of (number_of what) ≡ what
unfolding kind_of
back NoTracks = refl
back TooMany = refl
back Missing = refl
back Id = refl
back RepeatedId = refl
back Number = refl
back UnknownRef = refl
back NotMutual = refl
back SelfRef = refl
back EndKind = refl
back Course = refl
back Orientation = refl
back OutsideTrack = refl

pub one_kind : (a b : TopologyWhat) → number_of a ≡ number_of b → a ≡ b
one_kind a b same = sym (back a) ∙ (ap kind_of same ∙ back b)

pub numbers_from_one : (what : TopologyWhat) → 1 ≤ number_of what
numbers_from_one NoTracks = omega arith
numbers_from_one TooMany = omega arith
numbers_from_one Missing = omega arith
numbers_from_one Id = omega arith
numbers_from_one RepeatedId = omega arith
numbers_from_one Number = omega arith
numbers_from_one UnknownRef = omega arith
numbers_from_one NotMutual = omega arith
numbers_from_one SelfRef = omega arith
numbers_from_one EndKind = omega arith
numbers_from_one Course = omega arith
numbers_from_one Orientation = omega arith
numbers_from_one OutsideTrack = omega arith

pub none_yet : (rows : List Elem) → HasNoneBelow rows 1
none_yet rows = record { none = λ what below. (let from = numbers_from_one what in absurd (omega arith)) }

-- one more kind that no row has
pub none_of_more : {rows : List Elem} (what : TopologyWhat) → HasNoneBelow rows (number_of what) → NoneBefore (HasKind rows what) rows (length rows) →
    HasNoneBelow rows (number_of what + 1)
none_of_more {rows} what none here = record { none = λ other below. by other below (cases_eq (number_of other) (number_of what)) }
  where
    by : (other : TopologyWhat) → number_of other < number_of what + 1 → (number_of other ≡ number_of what) ⊎ (number_of other ≡ number_of what → ⊥) →
        NoneBefore (HasKind rows other) rows (length rows)
    by other below (inl same) = subst (λ (k : TopologyWhat). NoneBefore (HasKind rows k) rows (length rows)) (sym (one_kind other what same)) here
    by other below (inr differ) = none.none other (omega (arith, differ))

-- the kinds in the order of the search have the numbers from one on
pub number_in_order : (i : ℕ) (d : TopologyWhat) → i < 13 → number_of (get_or IN_ORDER i d) ≡ i + 1
number_in_order i d within =
    let read : get_or (range_with_len 1 13) i 0 ≡ number_of (get_or IN_ORDER i d) = get_or-map number_of IN_ORDER i d 0 within in
    omega (arith, read, get_or-range_with_len 1 13 i 0 within)

-- nor does one have the kind that was looked for next
pub none_at_next : (rows : List Elem) (what : TopologyWhat) (found : Option ℕ) → FindsFirst (HasKind rows what) rows found → found ≡ None → (n : ℕ) →
    number_of what ≡ n → HasNoneBelow rows n → HasNoneBelow rows (n + 1)
none_at_next rows what found finds is n number none =
    let here : NoneBefore (HasKind rows what) rows (length rows) = subst (λ (r : Option ℕ). FindsFirst (HasKind rows what) rows r) is finds in
    subst (λ m. HasNoneBelow rows (m + 1)) number (none_of_more what (subst (HasNoneBelow rows) (sym number) none) here)

pub of_this_kind : (rows : List Elem) (what kind : TopologyWhat) (r : Option ℕ) → what ≡ kind → FindsFirst (HasKind rows kind) rows r →
    FindsFirst (HasKind rows what) rows r
of_this_kind rows what kind r same h = subst (λ (w : TopologyWhat). FindsFirst (HasKind rows w) rows r) (sym same) h

module _ {P Q : ℕ → Elem → Type 0} (to : (i : ℕ) (row : Elem) → P i row → Q i row) (from : (i : ℕ) (row : Elem) → Q i row → P i row) (rows : List Elem) where
  none_as : (n : ℕ) → NoneBefore P rows n → NoneBefore Q rows n
  none_as n none = record { none = λ i row below at had. none.none i row below at (from i row had) }

  finds_as : (r : Option ℕ) → FindsFirst P rows r → FindsFirst Q rows r
  finds_as None h = none_as (length rows) h
  finds_as (Some n) h = record { x = h.x; is = h.is; holds = to n h.x h.holds; before = none_as n h.before }

module _ (rows : List Elem) (r : Option ℕ) where
  pub finds_missing : FindsFirst (λ _ row. (a : Attribute) × Lacks rows row a) rows r → FindsFirst (HasKind rows Missing) rows r
  finds_missing = finds_as {P = λ _ row. (a : Attribute) × Lacks rows row a} {Q = HasKind rows Missing}
      (λ i row h. (attribute_name h.0, [], (h.0, h.1, refl, refl))) (λ i row h. (h.2.0, h.2.1)) rows r

  pub finds_bad_id : FindsFirst (λ _ row. HasBadId row) rows r → FindsFirst (HasKind rows Id) rows r
  finds_bad_id = finds_as {P = λ _ row. HasBadId row} {Q = HasKind rows Id} (λ i row h. ([], [], (h, refl, refl))) (λ i row h. h.2.0) rows r

  pub finds_repeated : FindsFirst (λ i _. Repeats rows i) rows r → FindsFirst (HasKind rows RepeatedId) rows r
  finds_repeated = finds_as {P = λ i _. Repeats rows i} {Q = HasKind rows RepeatedId} (λ i row h. (h.0, [], (h.1, refl))) (λ i row h. (h.0, h.2.0)) rows r

  pub finds_bad_number : FindsFirst (λ _ row. (a : Attribute) × HasNoNumber row a) rows r → FindsFirst (HasKind rows Number) rows r
  finds_bad_number = finds_as {P = λ _ row. (a : Attribute) × HasNoNumber row a} {Q = HasKind rows Number}
      (λ i row h. (id_of row, attribute_name h.0, (h.0, h.1, refl, refl))) (λ i row h. (h.2.0, h.2.1)) rows r

  pub finds_unknown_ref : FindsFirst (λ _ row. RefersToNone rows row) rows r → FindsFirst (HasKind rows UnknownRef) rows r
  finds_unknown_ref = finds_as {P = λ _ row. RefersToNone rows row} {Q = HasKind rows UnknownRef} (λ i row h. (id_of row, [], (h, refl, refl)))
      (λ i row h. h.2.0) rows r

  pub finds_not_mutual : FindsFirst (λ _ row. (name : List ℕ) × IsNotReferredBack rows row name) rows r → FindsFirst (HasKind rows NotMutual) rows r
  finds_not_mutual = finds_as {P = λ _ row. (name : List ℕ) × IsNotReferredBack rows row name} {Q = HasKind rows NotMutual}
      (λ i row h. (id_of row, h.0, (h.1, refl))) (λ i row h. (h.1, h.2.0)) rows r

  pub finds_self_ref : FindsFirst (λ _ row. RefersToItself row) rows r → FindsFirst (HasKind rows SelfRef) rows r
  finds_self_ref = finds_as {P = λ _ row. RefersToItself row} {Q = HasKind rows SelfRef} (λ i row h. (id_of row, [], (h, refl, refl))) (λ i row h. h.2.0) rows r

  pub finds_end_kind : FindsFirst (λ i row. LacksItsParts rows i row) rows r → FindsFirst (HasKind rows EndKind) rows r
  finds_end_kind = finds_as {P = λ i row. LacksItsParts rows i row} {Q = HasKind rows EndKind} (λ i row h. (id_of row, [], (h, refl, refl))) (λ i row h. h.2.0)
      rows r

  pub finds_course : FindsFirst (λ _ row. HasBadCourse rows row) rows r → FindsFirst (HasKind rows Course) rows r
  finds_course = finds_as {P = λ _ row. HasBadCourse rows row} {Q = HasKind rows Course} (λ i row h. (id_of row, [], (h, refl, refl))) (λ i row h. h.2.0) rows r

  pub finds_orientation : FindsFirst (λ _ row. HasBadOrientation rows row) rows r → FindsFirst (HasKind rows Orientation) rows r
  finds_orientation = finds_as {P = λ _ row. HasBadOrientation rows row} {Q = HasKind rows Orientation} (λ i row h. (id_of row, [], (h, refl, refl)))
      (λ i row h. h.2.0) rows r

  pub finds_outside : FindsFirst (λ _ row. LiesOutside rows row row.kind) rows r → FindsFirst (HasKind rows OutsideTrack) rows r
  finds_outside = finds_as {P = λ _ row. LiesOutside rows row row.kind} {Q = HasKind rows OutsideTrack} (λ i row h. (id_of row, [], (h, refl, refl)))
      (λ i row h. h.2.0) rows r

-- ---- too many tracks

numbers_within : (p : Elem → Bool) (n : ℕ) (rows : List Elem) (k m : ℕ) → slice_get (numbers_from p n rows) k ≡ Some m → m < n + length rows
numbers_within p n [] k m h = absurd (none-some m h)
numbers_within p n (row ∷ rows) k m h = by (p row) k h (λ j at. numbers_within p (suc n) rows j m at)
  where
    by : (b : Bool) (k : ℕ) → slice_get (if b then n ∷ numbers_from p (suc n) rows else numbers_from p (suc n) rows) k ≡ Some m →
        ((j : ℕ) → slice_get (numbers_from p (suc n) rows) j ≡ Some m → m < suc n + length rows) → m < n + length (row ∷ rows)
    by true zero h rest = let same : n ≡ m = same_Some n m h in omega arith
    by true (suc k) h rest = let less = rest k h in omega arith
    by false k h rest = let less = rest k h in omega arith

pub finds_too_many : (rows : List Elem) (r : Option ℕ) → r ≡ slice_get (track_rows rows) MAX_TRACKS → FindsFirst (HasKind rows TooMany) rows r
finds_too_many rows None e = record { none = λ i row below at had. none-some i (e ∙ had.2.0) }
finds_too_many rows (Some n) e =
    let within : n < length rows = omega (arith, numbers_within (λ row. same_kind row.kind kinds.Track) 0 rows MAX_TRACKS n (sym e)) in
    let row = get_within rows n within in
    record {
      x = row.0;
      is = row.1;
      holds = ([], [], (sym e, refl, refl));
      before = record { none = λ i other below at had. (let same : i ≡ n = same_Some i n (sym had.2.0 ∙ sym e) in absurd (omega arith)) };
    }

-- ---- ids that differ

pub ids_distinct : (rows : List Elem) → NoneBefore (HasKind rows RepeatedId) rows (length rows) → AreIdsDistinct rows
ids_distinct rows none i h =
    let here = h.1.here in
    none.none i here.row (slice_get_within rows i here.row here.is) here.is (h.0, [], (h.1, refl))
