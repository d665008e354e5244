-- What is told of the first fault.
use Rattle.std.proofs.Common.{◌≡◌, ◌⊎◌, ℕ, ◌<◌, ◌≤◌, List, [], Option, Some, None, is_some, slice_get, get_or, Bool, false, not, true≢false, refl, sym}
use Rattle.std.proofs.Common.{◌∙◌, ap, subst, inl, inr, arith}
use Rattle.std.proofs.lemmas.Bool.{cases_lt, cases_eq}
use Rattle.std.proofs.lemmas.Option.{slice_get_within}
use Rattle.std.specs.Option.{option_map_or, unwrap_or}
use Rattle.railml_read.specs.declared.rows.Elem.{Elem}
use Rattle.railml_read.specs.Formed.{AreFormed}
use Rattle.railml_faults.specs.declared.fault.TopologyWhat.{TopologyWhat}
use Rattle.railml_faults.specs.declared.fault.TopologyWhat.TheVariants.{NoTracks, TooMany, Missing, Id, RepeatedId, Number, UnknownRef, NotMutual, SelfRef}
use Rattle.railml_faults.specs.declared.fault.TopologyWhat.TheVariants.{EndKind, Course, Orientation, OutsideTrack}
use Rattle.railml_faults.specs.declared.finding.Finding.{Finding}
use Rattle.railml_faults.specs.declared.telling.Told.{Told}
use Rattle.railml_faults.specs.Rows.{track_rows, attribute_name, id_of}
use Rattle.railml_faults.specs.Faults.{RepeatsId, IsNotReferredBack, HasTopologyFault, HasFaultAt, HasNoTracks, IsTopologyFault, IsFirstTopologyFault}
use Rattle.railml_faults.specs.Faults.{HasNoFault, number_of}
use Rattle.railml_faults.specs.Telling.{HasKind, HasNone, IsLowest, first_told, IsSecond, IsFindingOf, IsToldOf, IsFirstTold}
use Rattle.railml_faults.proofs.IdLemmas.{one_row, row_at}

module _ (rows : List Elem) (i : ℕ) (row : Elem) (at : slice_get rows i ≡ Some row) (first second : List ℕ) where
  repeated : (id : List ℕ) → RepeatsId rows i id → first ≡ id_of row → RepeatsId rows i first
  repeated id r f =
      let one : r.here.row ≡ row = one_row rows i r.here.row row r.here.is at in
      let own : id_of row ≡ id = ap id_of (sym one) ∙ ap (λ o. unwrap_or o []) r.here.has in
      subst (RepeatsId rows i) (sym (f ∙ own)) r

  pub told_texts : (what : TopologyWhat) → HasKind rows what i row → first ≡ first_told rows row what → IsSecond row what second →
      HasTopologyFault rows what i row first second
  told_texts NoTracks h f s = absurd h.2
  told_texts TooMany h f s = (h.2.0, f, s)
  told_texts Missing h f s = (h.2.0, h.2.1, f ∙ ap (λ o. option_map_or attribute_name o []) h.2.1, s)
  told_texts Id h f s = (h.2.0, f, s)
  told_texts RepeatedId h f s = (repeated h.0 h.2.0 f, s)
  told_texts Number h f s = (h.2.0, h.2.1, f, s h.2.0 h.2.1)
  told_texts UnknownRef h f s = (h.2.0, f, s)
  told_texts NotMutual h f s = (subst (IsNotReferredBack rows row) (sym (s h.1 h.2.0.refers.refers)) h.2.0, f)
  told_texts SelfRef h f s = (h.2.0, f, s)
  told_texts EndKind h f s = (h.2.0, f, s)
  told_texts Course h f s = (h.2.0, f, s)
  told_texts Orientation h f s = (h.2.0, f, s)
  told_texts OutsideTrack h f s = (h.2.0, f, s)

-- ---- a fault of rows is that there is no track, or that of a row

module _ (rows : List Elem) (at : ℕ) (first second : List ℕ) where
  pub fault_at : (what : TopologyWhat) → IsTopologyFault rows what at first second →
      ((what ≡ NoTracks) × HasNoTracks rows at first second) ⊎ HasFaultAt rows what at first second
  fault_at NoTracks h = inl (refl, h)
  fault_at TooMany h = inr h
  fault_at Missing h = inr h
  fault_at Id h = inr h
  fault_at RepeatedId h = inr h
  fault_at Number h = inr h
  fault_at UnknownRef h = inr h
  fault_at NotMutual h = inr h
  fault_at SelfRef h = inr h
  fault_at EndKind h = inr h
  fault_at Course h = inr h
  fault_at Orientation h = inr h
  fault_at OutsideTrack h = inr h

  is_fault : (what : TopologyWhat) → HasFaultAt rows what at first second → IsTopologyFault rows what at first second
  is_fault NoTracks h = absurd h.fault
  is_fault TooMany h = h
  is_fault Missing h = h
  is_fault Id h = h
  is_fault RepeatedId h = h
  is_fault Number h = h
  is_fault UnknownRef h = h
  is_fault NotMutual h = h
  is_fault SelfRef h = h
  is_fault EndKind h = h
  is_fault Course h = h
  is_fault Orientation h = h
  is_fault OutsideTrack h = h

-- ---- the first fault

some_track : (rows : List Elem) → (slice_get (track_rows rows) 0 ≡ None → ⊥) → track_rows rows ≡ [] → ⊥
some_track rows some none = some (ap (λ l. slice_get l 0) none)

-- rows with a track, of which this is the lowest kind of fault and this the first row that has it
pub told_first : (rows : List Elem) (found : Finding) (told : Told) → AreFormed rows → (slice_get (track_rows rows) 0 ≡ None → ⊥) →
    IsLowest rows found.what found.row → IsToldOf rows found told → IsFirstTold rows told
told_first rows found told formed some l t = subst (λ (what : TopologyWhat). IsFirstTopologyFault rows what told.at told.first told.second) (sym t.same)
    (record {
      holds = is_fault rows told.at told.first told.second found.what (record { number = found.row; row = t.row; is = t.is; place = t.place; fault = t.fault });
      lowest = λ other place a b less h. lower other place a b less (fault_at rows place a b other h);
      least = λ place a b before h. earlier place a b before (fault_at rows place a b found.what h);
    })
  where
    lower : (other : TopologyWhat) (place : ℕ) (a b : List ℕ) → number_of other < number_of found.what →
        ((other ≡ NoTracks) × HasNoTracks rows place a b) ⊎ HasFaultAt rows other place a b → ⊥
    lower other place a b less (inl h) = some_track rows some h.1.none
    lower other place a b less (inr h) = (l.lower.none other less).none h.number h.row (slice_get_within rows h.number h.row h.is) h.is (a, b, h.fault)

    earlier : (place : ℕ) (a b : List ℕ) → place < told.at → ((found.what ≡ NoTracks) × HasNoTracks rows place a b) ⊎ HasFaultAt rows found.what place a b → ⊥
    earlier place a b before (inl h) = some_track rows some h.1.none
    earlier place a b before (inr h) = by (cases_lt h.number found.row) (cases_eq h.number found.row)
      where
        by : (h.number < found.row) ⊎ (found.row ≤ h.number) → (h.number ≡ found.row) ⊎ (h.number ≡ found.row → ⊥) → ⊥
        by (inl less) e = l.first.before.none h.number h.row less h.is (a, b, h.fault)
        by (inr from) (inl same) =
            let one : h.row ≡ t.row = one_row rows found.row h.row t.row (subst (λ k. slice_get rows k ≡ Some h.row) same h.is) t.is in
            let there : place ≡ told.at = h.place ∙ (ap (λ (e : Elem). e.at) one ∙ sym t.place) in
            omega arith
        by (inr from) (inr differ) =
            let later : found.row < h.number = omega (arith, differ) in
            let rising = formed.rising found.row h.number t.row h.row later t.is h.is in
            omega (arith, rising, t.place, h.place)

pub no_fault : (rows : List Elem) → (slice_get (track_rows rows) 0 ≡ None → ⊥) → HasNone rows → HasNoFault rows
no_fault rows some none = λ what at first second h. by what at first second (fault_at rows at first second what h)
  where
    by : (what : TopologyWhat) (at : ℕ) (first second : List ℕ) →
        ((what ≡ NoTracks) × HasNoTracks rows at first second) ⊎ HasFaultAt rows what at first second → ⊥
    by what at first second (inl h) = some_track rows some h.1.none
    by what at first second (inr h) = (none what).none h.number h.row (slice_get_within rows h.number h.row h.is) h.is (first, second, h.fault)

-- ---- what the code knows

pub told_is : (rows : List Elem) (found : Finding) (row : Elem) (first second : List ℕ) → IsFindingOf rows found → row ≡ get_or rows found.row row →
    first ≡ first_told rows row found.what → IsSecond row found.what second
    → IsToldOf rows found (record { what = found.what; at = row.at; first = first; second = second })
told_is rows found row first second h is f s =
    let at : slice_get rows found.row ≡ Some row = row_at rows found.row row (slice_get_within rows found.row h.0 h.1) is in
    let kind : HasKind rows found.what found.row row = subst (HasKind rows found.what found.row) (one_row rows found.row h.0 row h.1 at) h.2 in
    record { row = row; is = at; same = refl; place = refl; fault = told_texts rows found.row row at first second found.what kind f s }

pub some_first : (rows : List Elem) (first : Option ℕ) (b : Bool) → first ≡ slice_get (track_rows rows) 0 → is_some first ≡ not b → b ≡ false →
    slice_get (track_rows rows) 0 ≡ None → ⊥
some_first rows first b is test fails none = true≢false (sym (test ∙ ap not fails) ∙ ap is_some (is ∙ none))
