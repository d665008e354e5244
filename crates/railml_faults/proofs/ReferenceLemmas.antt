-- What connections refer to.
use Rattle.std.proofs.Common.{◌≡◌, ◌⊎◌, ℕ, ◌<◌, ◌≤◌, Bool, true, false, ◌&&◌, true≢false, List, length, Option, Some, None, is_some, slice_get, get_or, refl}
use Rattle.std.proofs.Common.{sym, ◌∙◌, ap, subst, inl, inr, arith, if◌then◌else◌}
use Rattle.std.proofs.lemmas.Bool.{cases_lt}
use Rattle.std.proofs.lemmas.Option.{same_Some, none-some, slice_get_within, slice_get-get_or}
use Rattle.std.specs.Option.{is_none, option_and_then}
use Rattle.railml_read.specs.declared.rows.Elem.{Elem}
use Rattle.railml_read.specs.declared.rows.ElemKind.{ElemKind}
use Rattle.railml_read.specs.declared.rows.ElemKind.TheVariants.{Connection}
use Rattle.railml_faults.specs.Rows.{same_kind, is_of_kind, id_of, IsConnectionNamed}
use Rattle.railml_faults.specs.Faults.{AreIdsDistinct, RefersTo, RefersToNone, IsNotReferredBack}
use Rattle.railml_faults.specs.Ids.{IdNumbers, number_in, connection_in, reference_of, KeepsIds}
use Rattle.railml_faults.specs.Tables.{IsReferredTo, IsTargetOf, HasTargets, IsNotAnswered}
use Rattle.railml_faults.proofs.IdLemmas.{one_row, row_at, under, connection_bears}
use Rattle.railml_faults.proofs.Family.{of_kind}

is_connection : (kind : ElemKind) → same_kind kind Connection ≡ true → kind ≡ Connection
is_connection Connection h = refl
is_connection kind h = absurd (true≢false (sym h))

refers : (row : Elem) (name : List ℕ) → reference_of row ≡ Some name → RefersTo row name
refers row name h = let parts = under (same_kind row.kind Connection) row.attrs.reference name h in record {
  connection = is_connection row.kind parts.0;
  refers = parts.1;
}

reference : (row : Elem) (name : List ℕ) → RefersTo row name → reference_of row ≡ Some name
reference row name h = ap (λ k. if same_kind k Connection then row.attrs.reference else None) h.connection ∙ h.refers

-- ---- the table of what is referred to

pub target_entry : (rows : List Elem) (numbers : IdNumbers) (row : Elem) (target : Option ℕ) → KeepsIds rows (length rows) numbers →
    target ≡ option_and_then (connection_in rows numbers) (reference_of row) → IsTargetOf rows row target
target_entry rows numbers row target kept is = subst (IsTargetOf rows row) (sym is) (by (reference_of row) refl)
  where
    under_name : (name : List ℕ) → reference_of row ≡ Some name → (j : ℕ) (h : IsReferredTo rows row j) → IsConnectionNamed rows j name h.other
    under_name name e j h =
        let same : h.name ≡ name = same_Some h.name name (sym (reference row h.name h.refers) ∙ e) in
        subst (λ q. IsConnectionNamed rows j q h.other) same h.named

    within : (j : ℕ) → IsReferredTo rows row j → j < length rows
    within j h = slice_get_within rows j h.other h.named.is

    -- a number that is kept, of a connection or of another row
    judged : (name : List ℕ) → reference_of row ≡ Some name → (j : ℕ) → number_in numbers name ≡ Some j → (b : Bool) → is_of_kind rows Connection j ≡ b →
        IsTargetOf rows row (if b then Some j else None)
    judged name e j at true t =
        let bears = (kept.found name j at).1 in
        let (other, is_other, kind) = of_kind rows Connection j t in
        let same : bears.row ≡ other = one_row rows j bears.row other bears.is is_other in
        record {
          name = name;
          other = bears.row;
          refers = refers row name e;
          named = record { is = bears.is; connection = ap (λ (r : Elem). r.kind) same ∙ kind; has = bears.has };
        }
    judged name e j at false t = λ k h. true≢false (sym (kept.connection name j k h.other at (within k h) (under_name name e k h)) ∙ t)

    found : (name : List ℕ) → reference_of row ≡ Some name → (o : Option ℕ) → number_in numbers name ≡ o →
        IsTargetOf rows row (option_and_then (λ j. if is_of_kind rows Connection j then Some j else None) o)
    found name e None gone = λ j h. kept.missed name j gone (within j h) (connection_bears rows j name h.other (under_name name e j h))
    found name e (Some j) at = judged name e j at (is_of_kind rows Connection j) refl

    by : (o : Option (List ℕ)) → reference_of row ≡ o → IsTargetOf rows row (option_and_then (connection_in rows numbers) o)
    by None e = λ j h. none-some h.name (sym e ∙ reference row h.name h.refers)
    by (Some name) e = found name e (number_in numbers name) refl

-- ---- references to nothing

pub unknown : (rows : List Elem) (row : Elem) (target : Option ℕ) → IsTargetOf rows row target → (is_some (reference_of row) && is_none target) ≡ true →
    RefersToNone rows row
unknown rows row None t h = by (reference_of row) refl h
  where
    by : (o : Option (List ℕ)) → reference_of row ≡ o → (is_some o && true) ≡ true → RefersToNone rows row
    by None e h = absurd (true≢false (sym h))
    by (Some name) e h = record {
      name = name;
      refers = refers row name e;
      none = λ j other there. t j (record { name = name; other = other; refers = refers row name e; named = there });
    }
unknown rows row (Some j) t h = by (is_some (reference_of row)) h
  where
    by : (b : Bool) → (b && false) ≡ true → RefersToNone rows row
    by true h = absurd (true≢false (sym h))
    by false h = absurd (true≢false (sym h))

pub known : (rows : List Elem) (row : Elem) (target : Option ℕ) → IsTargetOf rows row target → (is_some (reference_of row) && is_none target) ≡ false →
    RefersToNone rows row → ⊥
known rows row None t h none = true≢false (ap (λ o. is_some o && true) (sym (reference row none.name none.refers)) ∙ h)
known rows row (Some j) t h none =
    let same : t.name ≡ none.name = same_Some t.name none.name (sym (reference row t.name t.refers) ∙ reference row none.name none.refers) in
    none.none j t.other (subst (λ q. IsConnectionNamed rows j q t.other) same t.named)

-- ---- references that aren't answered

pub not_answered : (rows : List Elem) (row : Elem) (target : Option ℕ) → IsTargetOf rows row target → IsNotAnswered rows row target →
    (name : List ℕ) × IsNotReferredBack rows row name
not_answered rows row None t h = absurd h
not_answered rows row (Some j) t h =
    let same : h.0 ≡ t.other = one_row rows j h.0 t.other h.1 t.named.is in (
      t.name,
      record {
        refers = t.refers;
        number = j;
        other = t.other;
        named = t.named;
        elsewhere = subst (λ (e : Elem). e.attrs.reference ≡ Some (id_of row) → ⊥) same h.2;
      },
    )

-- two connections of one name are one
one_connection : (rows : List Elem) (i j : ℕ) (id : List ℕ) (a b : Elem) → AreIdsDistinct rows → IsConnectionNamed rows i id a → IsConnectionNamed rows j id b →
    i ≡ j
one_connection rows i j id a b distinct first second = by (cases_lt i j) (cases_lt j i)
  where
    by : (i < j) ⊎ (j ≤ i) → (j < i) ⊎ (i ≤ j) → i ≡ j
    by (inl before) o = absurd (distinct j (
      id,
      record {
        here = connection_bears rows j id b second;
        earlier = i;
        before = before;
        there = connection_bears rows i id a first;
      },
    ))
    by (inr from) (inl before) = absurd (distinct i (
      id,
      record {
        here = connection_bears rows i id a first;
        earlier = j;
        before = before;
        there = connection_bears rows j id b second;
      },
    ))
    by (inr from) (inr other) = omega arith

pub answered : (rows : List Elem) (row : Elem) (target : Option ℕ) → AreIdsDistinct rows → IsTargetOf rows row target →
    (name : List ℕ) × IsNotReferredBack rows row name → IsNotAnswered rows row target
answered rows row None distinct t h = absurd (t h.1.number (record { name = h.0; other = h.1.other; refers = h.1.refers; named = h.1.named }))
answered rows row (Some j) distinct t h =
    let r = h.1 in
    let same : t.name ≡ h.0 = same_Some t.name h.0 (sym (reference row t.name t.refers) ∙ reference row h.0 r.refers) in
    let here : IsConnectionNamed rows j h.0 t.other = subst (λ q. IsConnectionNamed rows j q t.other) same t.named in
    let one : r.number ≡ j = one_connection rows r.number j h.0 r.other t.other distinct r.named here in
    (r.other, subst (λ k. slice_get rows k ≡ Some r.other) one r.named.is, r.elsewhere)

-- what a row refers to, by its place in the table
pub target_at : (rows : List Elem) (table : List (Option ℕ)) (i : ℕ) (row : Elem) → HasTargets rows table → i < length rows → row ≡ get_or rows i row →
    IsTargetOf rows row (get_or table i None)
target_at rows table i row targets within is =
    let inside : i < length table = omega (arith, targets.whole) in
    targets.entry i (get_or table i None) (slice_get-get_or table i None inside) row (row_at rows i row within is)
