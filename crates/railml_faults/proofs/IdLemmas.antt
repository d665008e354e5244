-- Ids by their numbers, a row at a time.
use Rattle.std.proofs.Common.{◌≡◌, ◌⊎◌, ℕ, ◌<◌, ◌≤◌, ◌+◌, Bool, true, false, true≢false, List, length, Option, Some, None, slice_get, get_or, refl, sym}
use Rattle.std.proofs.Common.{◌∙◌, ap, subst, inl, inr, arith, if◌then◌else◌}
use Rattle.std.proofs.lemmas.Bool.{cases_lt}
use Rattle.std.proofs.lemmas.Option.{slice_get_read, same_Some, none-some}
use Rattle.std.proofs.lemmas.Slice.Eq.{bytes_eq-Decides}
use Rattle.std.specs.Option.{option_map_or, option_or}
use Rattle.std.specs.Str.{bytes_eq}
use Rattle.railml_read.specs.declared.rows.Elem.{Elem}
use Rattle.railml_read.specs.declared.rows.ElemKind.TheVariants.{Connection}
use Rattle.railml_faults.specs.Rows.{same_kind, is_of_kind, bears_id, BearsId, IsConnectionNamed}
use Rattle.railml_faults.specs.Faults.{Repeats}
use Rattle.railml_faults.specs.Ids.{IdNumbers, number_in, own_id, KeepsNumber, next_number, AddsId, IsKnownId, IsNewId, KeepsIds}
use Rattle.plan_core.specs.Searching.{NoneBefore, IsFirst, FindsFirst}
use Rattle.plan_core.proofs.SearchLemmas.{none_more, found_first}

pub row_at : (rows : List Elem) (n : ℕ) (row : Elem) → n < length rows → row ≡ get_or rows n row → slice_get rows n ≡ Some row
row_at rows n row within is = slice_get_read rows (length rows) n row refl within is

pub one_row : (rows : List Elem) (n : ℕ) (a b : Elem) → slice_get rows n ≡ Some a → slice_get rows n ≡ Some b → a ≡ b
one_row rows n a b at there = same_Some a b (sym at ∙ there)

-- an option that is there under a test
pub under : {X : Type 0} (b : Bool) (o : Option X) (x : X) → (if b then o else None) ≡ Some x → (b ≡ true) × (o ≡ Some x)
under true o x h = (refl, h)
under false o x h = absurd (none-some x h)

-- ---- ids that are kept

owns : (row : Elem) (id : List ℕ) → bears_id row.kind ≡ true → row.attrs.id ≡ Some id → own_id row ≡ Some id
owns row id bears has = ap (λ b. if b then row.attrs.id else None) bears ∙ has

bears_own : (rows : List Elem) (n : ℕ) (row : Elem) (id : List ℕ) → slice_get rows n ≡ Some row → own_id row ≡ Some id → BearsId rows n id
bears_own rows n row id at h = let parts = under (bears_id row.kind) row.attrs.id id h in record { row = row; is = at; bears = parts.0; has = parts.1 }

pub connection_bears : (rows : List Elem) (j : ℕ) (id : List ℕ) (row : Elem) → IsConnectionNamed rows j id row → BearsId rows j id
connection_bears rows j id row h = record { row = row; is = h.is; bears = ap bears_id h.connection; has = h.has }

-- one more row, which bears no other id than its own
module _ (rows : List Elem) (n : ℕ) (row : Elem) (at : slice_get rows n ≡ Some row) where
  last_bears : (j : ℕ) (id : List ℕ) → n ≤ j → j < n + 1 → BearsId rows j id → own_id row ≡ Some id
  last_bears j id from before h =
      let same : j ≡ n = omega arith in
      ap own_id (one_row rows n row h.row at (subst (λ k. slice_get rows k ≡ Some h.row) same h.is)) ∙ owns h.row id h.bears h.has

  here_connects : same_kind row.kind Connection ≡ true → is_of_kind rows Connection n ≡ true
  here_connects kind = ap (λ (r : Option Elem). option_map_or (λ (e : Elem). same_kind e.kind Connection) r false) at ∙ kind

  last_connects : (j : ℕ) (id : List ℕ) (other : Elem) → n ≤ j → j < n + 1 → IsConnectionNamed rows j id other → row.kind ≡ Connection
  last_connects j id other from before h =
      let same : j ≡ n = omega arith in
      ap (λ (e : Elem). e.kind) (one_row rows n row other at (subst (λ k. slice_get rows k ≡ Some other) same h.is)) ∙ h.connection

  -- an id of this row is kept with one number, and each other as before
  module _ (old new : IdNumbers) (kept : KeepsIds rows n old) (own : List ℕ) (e : own_id row ≡ Some own) where
    keeps_one : (m : ℕ) → m < n + 1 → BearsId rows m own →
        ((k : ℕ) (other : Elem) → k < n + 1 → IsConnectionNamed rows k own other → is_of_kind rows Connection m ≡ true) → KeepsNumber old new own m →
        KeepsIds rows (n + 1) new
    keeps_one m within bears connects numbers = record {
      found = λ id j there. found_by (bytes_eq own id) id j refl (sym (numbers id) ∙ there);
      connection = λ id j k other there. connects_by (bytes_eq own id) id j k other refl (sym (numbers id) ∙ there);
      missed = λ id j gone before borne. missed_by (bytes_eq own id) id j refl (sym (numbers id) ∙ gone) before borne (cases_lt j n);
    }
      where
        found_by : (b : Bool) (id : List ℕ) (j : ℕ) → bytes_eq own id ≡ b → (if bytes_eq own id then Some m else number_in old id) ≡ Some j →
            (j < n + 1) × BearsId rows j id
        found_by true id j t there =
            let same : m ≡ j = same_Some m j (sym (ap (λ c. if c then Some m else number_in old id) t) ∙ there) in
            let own_is : own ≡ id = (bytes_eq-Decides own id).0 t in
            let inside : m < n + 1 = within in
            (omega arith, subst (λ q. BearsId rows j q) own_is (subst (λ k. BearsId rows k own) same bears))
        found_by false id j t there =
            let at_first = kept.found id j (sym (ap (λ c. if c then Some m else number_in old id) t) ∙ there) in
            let before = at_first.0 in
            (omega arith, at_first.1)

        -- no other id is the row's own
        is_other : (id : List ℕ) (j : ℕ) → bytes_eq own id ≡ false → n ≤ j → j < n + 1 → BearsId rows j id → ⊥
        is_other id j t from before borne =
            let own_is : own ≡ id = same_Some own id (sym e ∙ last_bears j id from before borne) in
            true≢false (sym ((bytes_eq-Decides own id).1 own_is) ∙ t)

        connects_by : (b : Bool) (id : List ℕ) (j k : ℕ) (other : Elem) → bytes_eq own id ≡ b →
            (if bytes_eq own id then Some m else number_in old id) ≡ Some j → k < n + 1 → IsConnectionNamed rows k id other →
            is_of_kind rows Connection j ≡ true
        connects_by true id j k other t there before named =
            let same : m ≡ j = same_Some m j (sym (ap (λ c. if c then Some m else number_in old id) t) ∙ there) in
            let own_is : own ≡ id = (bytes_eq-Decides own id).0 t in
            subst (λ i. is_of_kind rows Connection i ≡ true) same (connects k other before (subst (λ q. IsConnectionNamed rows k q other) (sym own_is) named))
        connects_by false id j k other t there before named = by_order (cases_lt k n)
          where
            by_order : (k < n) ⊎ (n ≤ k) → is_of_kind rows Connection j ≡ true
            by_order (inl less) = kept.connection id j k other (sym (ap (λ c. if c then Some m else number_in old id) t) ∙ there) less named
            by_order (inr from) = absurd (is_other id k t from before (connection_bears rows k id other named))

        missed_by : (b : Bool) (id : List ℕ) (j : ℕ) → bytes_eq own id ≡ b → (if bytes_eq own id then Some m else number_in old id) ≡ None → j < n + 1 →
            BearsId rows j id → (j < n) ⊎ (n ≤ j) → ⊥
        missed_by true id j t gone before borne order = none-some m (sym gone ∙ ap (λ c. if c then Some m else number_in old id) t)
        missed_by false id j t gone before borne (inl less) = kept.missed id j (sym (ap (λ c. if c then Some m else number_in old id) t) ∙ gone) less borne
        missed_by false id j t gone before borne (inr from) = is_other id j t from before borne

    own_here : BearsId rows n own
    own_here = bears_own rows n row own at e

    -- of an id that had no number, or had one and is now a connection's, the row's own number is kept
    keeps_new : (had : Option ℕ) → number_in old own ≡ had → KeepsNumber old new own (next_number row had n) → KeepsIds rows (n + 1) new
    keeps_new None gone numbers = keeps_one n (omega arith) own_here connects numbers
      where
        connects : (k : ℕ) (other : Elem) → k < n + 1 → IsConnectionNamed rows k own other → is_of_kind rows Connection n ≡ true
        connects k other before named = by (cases_lt k n)
          where
            by : (k < n) ⊎ (n ≤ k) → is_of_kind rows Connection n ≡ true
            by (inl less) = absurd (kept.missed own k gone less (connection_bears rows k own other named))
            by (inr from) = here_connects (ap (λ c. same_kind c Connection) (last_connects k own other from before named))
    keeps_new (Some j) there numbers = by (same_kind row.kind Connection) refl numbers
      where
        first : (j < n) × BearsId rows j own
        first = kept.found own j there

        by : (b : Bool) → same_kind row.kind Connection ≡ b → KeepsNumber old new own (if b then n else j) → KeepsIds rows (n + 1) new
        by true kind added = keeps_one n (omega arith) own_here (λ k other before named. here_connects kind) added
        by false kind added = keeps_one j (let before = first.0 in omega arith) first.1 connects added
          where
            connects : (k : ℕ) (other : Elem) → k < n + 1 → IsConnectionNamed rows k own other → is_of_kind rows Connection j ≡ true
            connects k other before named = at_order (cases_lt k n)
              where
                at_order : (k < n) ⊎ (n ≤ k) → is_of_kind rows Connection j ≡ true
                at_order (inl less) = kept.connection own j k other there less named
                at_order (inr from) = absurd (true≢false (sym (ap (λ c. same_kind c Connection) (last_connects k own other from before named)) ∙ kind))

pub keeps_more : (rows : List Elem) (n : ℕ) (row : Elem) (old new : IdNumbers) → KeepsIds rows n old → n < length rows → row ≡ get_or rows n row →
    AddsId old new row n (own_id row) → KeepsIds rows (n + 1) new
keeps_more rows n row old new kept within is adds = by (own_id row) refl adds
  where
    at : slice_get rows n ≡ Some row
    at = row_at rows n row within is

    later : (j : ℕ) (id : List ℕ) → (j < n) × BearsId rows j id → (j < n + 1) × BearsId rows j id
    later j id h = let before = h.0 in (omega arith, h.1)

    by : (o : Option (List ℕ)) → own_id row ≡ o → AddsId old new row n o → KeepsIds rows (n + 1) new
    by None e same = record {
      found = λ id j there. later j id (kept.found id j (sym (same id) ∙ there));
      connection = λ id j k other there before named. connects id j k other (sym (same id) ∙ there) before named (cases_lt k n);
      missed = λ id j gone before bears. misses id j (sym (same id) ∙ gone) before bears (cases_lt j n);
    }
      where
        connects : (id : List ℕ) (j k : ℕ) (other : Elem) → number_in old id ≡ Some j → k < n + 1 → IsConnectionNamed rows k id other → (k < n) ⊎ (n ≤ k) →
            is_of_kind rows Connection j ≡ true
        connects id j k other there before named (inl less) = kept.connection id j k other there less named
        connects id j k other there before named (inr from) = absurd (none-some id (sym e
            ∙ last_bears rows n row at k id from before (connection_bears rows k id other named)))

        misses : (id : List ℕ) (j : ℕ) → number_in old id ≡ None → j < n + 1 → BearsId rows j id → (j < n) ⊎ (n ≤ j) → ⊥
        misses id j gone before bears (inl less) = kept.missed id j gone less bears
        misses id j gone before bears (inr from) = none-some id (sym e ∙ last_bears rows n row at j id from before bears)
    by (Some own) e added = keeps_new rows n row at old new kept own e (number_in old own) refl added

-- ---- ids that are repeated

module _ (rows : List Elem) (n : ℕ) (row : Elem) (old : IdNumbers) (kept : KeepsIds rows n old) (within : n < length rows) (is : row ≡ get_or rows n row) where
  pub repeats_again : IsKnownId old (own_id row) → Repeats rows n
  repeats_again again = by (own_id row) refl again
    where
      by : (o : Option (List ℕ)) → own_id row ≡ o → IsKnownId old o → Repeats rows n
      by None e h = absurd h
      by (Some id) e h =
          let there = kept.found id h.0 h.1 in
          (id, record { here = bears_own rows n row id (row_at rows n row within is) e; earlier = h.0; before = there.0; there = there.1 })

  pub repeats_none : IsNewId old (own_id row) → Repeats rows n → ⊥
  repeats_none first h =
      let id = h.0 in
      let r = h.1 in
      let own : own_id row ≡ Some id = last_bears rows n row (row_at rows n row within is) n id (omega arith) (omega arith) r.here in
      kept.missed id r.earlier (subst (IsNewId old) own first) r.before r.there

-- among the first n rows, the first whose id an earlier row bears
abbrev pub FirstRepeated : List Elem → ℕ → Option ℕ → Type 0
FirstRepeated rows n (Some i) = IsFirst (λ j _. Repeats rows j) rows i
FirstRepeated rows n None = NoneBefore (λ j _. Repeats rows j) rows n

pub first_of_all : (rows : List Elem) (found : Option ℕ) → FirstRepeated rows (length rows) found → FindsFirst (λ i _. Repeats rows i) rows found
first_of_all rows None first = first
first_of_all rows (Some i) first = first

pub first_after : (rows : List Elem) (n : ℕ) (row : Elem) → n < length rows → row ≡ get_or rows n row → (found : Option ℕ) (again : Bool) →
    FirstRepeated rows n found → (again ≡ true → Repeats rows n) → (again ≡ false → Repeats rows n → ⊥) →
    FirstRepeated rows (n + 1) (option_or found (if again then Some n else None))
first_after rows n row within is (Some i) again first repeats new = first
first_after rows n row within is None true first repeats new = found_first first within is (repeats refl)
first_after rows n row within is None false first repeats new = none_more first within is (new refl)
