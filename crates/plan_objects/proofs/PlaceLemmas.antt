-- Positions, mileages and places: that each signal has one at most.
use Rattle.std.proofs.Common.{◌≡◌, ◌⊎◌, ℕ, ◌<◌, ◌≤◌, List, [], ◌∷◌, length, Option, Some, None, slice_get, get_or, ℤ, refl, sym, ◌∙◌, ap, subst, inl, inr}
use Rattle.std.proofs.Common.{arith, true≢false}
use Rattle.std.specs.Prelude.{◌<ℤ◌, ◌+ℤ◌, ◌-ℤ◌, MatchOption}
use Rattle.std.proofs.lemmas.Bool.{cases_lt}
use Rattle.std.proofs.lemmas.Int.{ints}
use Rattle.std.proofs.lemmas.Option.{same_Some, slice_get_read}
use Rattle.std.proofs.Common.{FitsSigned, w64, to_z, of_z, true, false}
use Rattle.std.specs.Prelude.{is_some, int_lt, pos, neg_ℤ, ◌^◌}
use Rattle.std.proofs.lemmas.Int.{to_z-of_z}
use Rattle.plan_core.specs.Topology.{IsMileage}
use Rattle.plan_core.proofs.Deciding.{decides_smaller}
use Rattle.railml_topology.specs.Plans.{IsOfSize}
use Rattle.railml_topology.proofs.PositionLemmas.{word_is}
use Rattle.plan_core.specs.declared.topology.Topology.{Topology}
use Rattle.plan_core.specs.declared.topology.Track.{Track}
use Rattle.railml_read.specs.declared.rows.Elem.{Elem}
use Rattle.railml_read.specs.Formed.{AreFormed}
use Rattle.railml_faults.specs.Rows.{ReadsMetres, HasPosition}
use Rattle.railml_faults.proofs.PositionLemmas.{one_number, one_position}
use Rattle.port_graph.specs.Runs.{piece_number}
use Rattle.railml_read.specs.declared.rows.SignalElem.{SignalElem}
use Rattle.plan_objects.specs.declared.places.SignalPlace.{SignalPlace}
use Rattle.plan_objects.specs.Rows.{Station, IsRowAt, HasPositionAt, BearsId, Gives, IsMeasuredAlong, HasMileage, piece_at, IsPlaceOf, ArePlacesOf}
use Rattle.std.proofs.Common.{zero, suc, cond}
use Rattle.std.proofs.lemmas.Option.{slice_get_within}
use Rattle.std.proofs.lemmas.Bool.Decides.{Decides-eqb}
use Rattle.plan_core.proofs.ListFacts.{get_within}
use Rattle.railml_topology.proofs.BuildLemmas.{no_text}
use Rattle.railml_topology.proofs.Zips.{zip_length}
use Rattle.plan_objects.specs.declared.places.TheConstants.{SIGNALS_OF_AN_EDGE}
use Rattle.plan_objects.specs.declared.fault.SignalWhat.TheVariants.{Crowded}
use Rattle.plan_objects.specs.Places.{edge_at, is_on, number_on}
use Rattle.plan_objects.specs.Rows.{id_of}
use Rattle.plan_core.specs.Searching.{NoneBefore, IsFirst}
use Rattle.plan_objects.specs.Telling.{HasKind}
use Rattle.plan_objects.proofs.CountLemmas.{counted, counted_more}
use Rattle.plan_objects.specs.Faults.{LiesOutside, earlier_on_edge}
use Rattle.plan_objects.specs.Telling.{IsGiven}

-- ---- ids

pub id_read : (signals : List SignalElem) (k i : ℕ) (x : SignalElem) (id : List ℕ) → BearsId signals k id → k ≡ i → i < length signals →
    x ≡ get_or signals i x → x.id ≡ Some id
id_read signals k i x id b same within is =
    let at : slice_get signals i ≡ Some x = slice_get_read signals (length signals) i x refl within is in
    let here : slice_get signals i ≡ Some b.signal = subst (λ n. slice_get signals n ≡ Some b.signal) same b.is in
    let one : b.signal ≡ x = same_Some b.signal x (sym here ∙ at) in
    subst (λ (y : SignalElem). y.id ≡ Some id) one b.has

-- ---- positions

pub one_given : (o : Option (List ℕ)) (z w : ℤ) → Gives o z → Gives o w → z ≡ w
one_given None z w a b = absurd a
one_given (Some text) z w a b = one_number text z w a b

module _ (rows : List Elem) (formed : AreFormed rows) (at : ℕ) where
  pub one_number_at : (i j : ℕ) (a b : Elem) → IsRowAt rows at i a → IsRowAt rows at j b → i ≡ j
  one_number_at i j a b h k = by (cases_lt i j) (cases_lt j i)
    where
      by : (i < j) ⊎ (j ≤ i) → (j < i) ⊎ (i ≤ j) → i ≡ j
      by (inl less) o = let rise = formed.rising i j a b less h.is k.is in let p = h.place in let q = k.place in absurd (omega (arith, rise, p, q))
      by (inr from) (inl less) = let rise = formed.rising j i b a less k.is h.is in let p = h.place in let q = k.place in absurd (omega (arith, rise, p, q))
      by (inr from) (inr to) = omega arith

  pub one_row_at : (i j : ℕ) (a b : Elem) → IsRowAt rows at i a → IsRowAt rows at j b → a ≡ b
  one_row_at i j a b h k = same_Some a b (sym h.is ∙ (ap (slice_get rows) (one_number_at i j a b h k) ∙ k.is))

  pub one_position_at : (z w : ℤ) → HasPositionAt rows at z → HasPositionAt rows at w → z ≡ w
  one_position_at z w h k =
      let one : k.row ≡ h.row = one_row_at k.number h.number k.row h.row k.there h.there in
      one_position h.row z w h.position (subst (λ (r : Elem). HasPosition r w) one k.position)

  pub given_at : (z : ℤ) (i : ℕ) (row : Elem) → HasPositionAt rows at z → IsRowAt rows at i row → IsGiven row.attrs.pos
  given_at z i row h k =
      let one : h.row ≡ row = one_row_at h.number i h.row row h.there k in
      let p : HasPosition row z = subst (λ (r : Elem). HasPosition r z) one h.position in
      subst IsGiven (sym p.has) (λ none. none p.reads.parts p.reads.metres)

  pub position_read : (i : ℕ) (row : Elem) (z : ℤ) → IsRowAt rows at i row → Gives row.attrs.pos z → HasPositionAt rows at z
  position_read i row z k g = record { number = i; row = row; there = k; position = by (row.attrs.pos) refl g }
    where
      by : (o : Option (List ℕ)) → row.attrs.pos ≡ o → Gives o z → HasPosition row z
      by None e h = absurd h
      by (Some text) e h = record { text = text; has = e; reads = h }

-- ---- mileages

module _ (rows : List Elem) (formed : AreFormed rows) (track : Track) (signal : SignalElem) where
  measured_once : (z w : ℤ) → IsMeasuredAlong rows track signal z → IsMeasuredAlong rows track signal w → z ≡ w
  measured_once z w a b =
      let from : a.from ≡ b.from = one_position_at rows formed track.begin.at a.from b.from a.begin_at b.begin_at in
      let to : a.to ≡ b.to = one_given signal.pos a.to b.to a.signal_at b.signal_at in
      a.sum ∙ (ap (λ t. (track.begin.mile.0 +ℤ t) -ℤ a.from) to ∙ (ap (λ f. (track.begin.mile.0 +ℤ b.to) -ℤ f) from ∙ sym b.sum))

  pub one_mileage : (z w : ℤ) → HasMileage rows track signal z → HasMileage rows track signal w → z ≡ w
  one_mileage z w = by signal.abs_pos
    where
      by : (o : Option (List ℕ)) → MatchOption o (IsMeasuredAlong rows track signal z) (λ text. ReadsMetres text z) →
          MatchOption o (IsMeasuredAlong rows track signal w) (λ text. ReadsMetres text w) → z ≡ w
      by None a b = measured_once z w a b
      by (Some text) a b = one_number text z w a b

-- ---- places

module _ (s : Station) (formed : AreFormed s.rows) where
  pub one_place : (signal : SignalElem) (p q : SignalPlace) → IsPlaceOf s signal p → IsPlaceOf s signal q → p ≡ q
  one_place signal p q a b =
      let track : b.track ≡ a.track = same_Some b.track a.track (sym b.on ∙ a.on) in
      let mile : p.mile.0 ≡ q.mile.0 = one_mileage s.rows formed a.track signal p.mile.0 q.mile.0 a.mile
      (subst (λ (t : Track). HasMileage s.rows t signal q.mile.0) track b.mile) in
      let number : Track → ℤ → ℕ = λ t z. piece_number s.topology signal.track (piece_at s.topology s.graph signal.track t z) in
      let edge : p.edge.0 ≡ q.edge.0 = a.edge ∙ (ap (number a.track) mile ∙ (ap (λ t. number t q.mile.0) (sym track) ∙ sym b.edge)) in
      let made : ℕ → ℤ → SignalPlace = λ e z. record { edge = record { 0 = e }; mile = record { 0 = z } } in
      ap (λ e. made e p.mile.0) edge ∙ ap (made q.edge.0) mile

  pub one_list : (signals : List SignalElem) (ps qs : List SignalPlace) → ArePlacesOf s signals ps → ArePlacesOf s signals qs → ps ≡ qs
  one_list [] [] [] h k = refl
  one_list [] [] (q ∷ qs) h k = absurd k
  one_list [] (p ∷ ps) qs h k = absurd h
  one_list (x ∷ xs) [] qs h k = absurd h
  one_list (x ∷ xs) (p ∷ ps) [] h k = absurd k
  one_list (x ∷ xs) (p ∷ ps) (q ∷ qs) h k = ap (λ y. y ∷ ps) (one_place x p q h.0 k.0) ∙ ap (λ ys. q ∷ ys) (one_list xs ps qs h.1 k.1)

-- ---- outside of a track

module _ (rows : List Elem) (t : Topology) (signal : SignalElem) (track : Track) (here begin end : ℤ) (formed : AreFormed rows)
    (on : slice_get t.tracks signal.track ≡ Some track) (h : Gives signal.pos here) (b : HasPositionAt rows track.begin.at begin)
    (e : HasPositionAt rows track.end.at end) where
  pub before_begin : here <ℤ begin → LiesOutside rows t signal
  before_begin less = record { track = track; on = on; outside = inl (record { here = here; signal_at = h; begin = begin; begin_at = b; less = less }) }

  pub behind_end : end <ℤ here → LiesOutside rows t signal
  behind_end more = record { track = track; on = on; outside = inr (record { here = here; signal_at = h; end = end; end_at = e; more = more }) }

  pub is_either : LiesOutside rows t signal → (here <ℤ begin) ⊎ (end <ℤ here)
  is_either o =
      let same : o.track ≡ track = same_Some o.track track (sym o.on ∙ on) in
      elim o.outside [
        | inl f ↦
            (let x : f.here ≡ here = one_given signal.pos f.here here f.signal_at h in
            let y : f.begin ≡ begin = one_position_at rows formed track.begin.at f.begin begin
            (subst (λ (r : Track). HasPositionAt rows r.begin.at f.begin) same f.begin_at) b in
            inl (subst (λ z. here <ℤ z) y (subst (λ z. z <ℤ f.begin) x f.less)))
        | inr f ↦
            (let x : f.here ≡ here = one_given signal.pos f.here here f.signal_at h in
            let y : f.end ≡ end = one_position_at rows formed track.end.at f.end end (subst (λ (r : Track). HasPositionAt rows r.end.at f.end) same f.end_at)
            e in
            inr (subst (λ z. z <ℤ here) y (subst (λ z. f.end <ℤ z) x f.more)))
      ]

-- ---- whole numbers in words of 64 bits

abbrev word : ℤ → ℤ
word z = to_z w64 (of_z w64 z)

less_is : (a b : ℤ) → IsOfSize (10 ^ 15) a → IsOfSize (10 ^ 15) b → int_lt (word a) (word b) ≡ int_lt a b
less_is a b h k = ap (λ z. int_lt z (word b)) (word_is a h) ∙ ap (λ z. int_lt a z) (word_is b k)

pub less_from : (a b : ℤ) → IsOfSize (10 ^ 15) a → IsOfSize (10 ^ 15) b → int_lt (word a) (word b) ≡ true → a <ℤ b
less_from a b h k e = (decides_smaller a b).0 (sym (less_is a b h k) ∙ e)

pub less_to : (a b : ℤ) → IsOfSize (10 ^ 15) a → IsOfSize (10 ^ 15) b → a <ℤ b → int_lt (word a) (word b) ≡ true
less_to a b h k e = less_is a b h k ∙ (decides_smaller a b).1 e

pub not_both_less : (a b : ℤ) → IsOfSize (10 ^ 15) a → IsOfSize (10 ^ 15) b → int_lt (word a) (word b) ≡ false → a <ℤ b → ⊥
not_both_less a b h k fails less = true≢false (sym (less_to a b h k less) ∙ fails)

fits_mile : (a : ℤ) → IsMileage a → FitsSigned w64 a
fits_mile a h =
    let low : neg_ℤ (pos 3000000000000000) <ℤ a = h.0 in
    let high : a <ℤ pos 3000000000000000 = h.1 in
    omega (arith, ints)

fits_sum : (a b : ℤ) → IsMileage a → IsOfSize (10 ^ 15) b → FitsSigned w64 (a +ℤ b)
fits_sum a b h k =
    let low : neg_ℤ (pos 3000000000000000) <ℤ a = h.0 in
    let high : a <ℤ pos 3000000000000000 = h.1 in
    let k0 = k.0 in
    let k1 = k.1 in
    omega (arith, ints)

fits_all : (a b c : ℤ) → IsMileage a → IsOfSize (10 ^ 15) b → IsOfSize (10 ^ 15) c → FitsSigned w64 ((a +ℤ b) -ℤ c)
fits_all a b c h k m =
    let low : neg_ℤ (pos 3000000000000000) <ℤ a = h.0 in
    let high : a <ℤ pos 3000000000000000 = h.1 in
    let k0 = k.0 in
    let k1 = k.1 in
    let m0 = m.0 in
    let m1 = m.1 in
    omega (arith, ints)

sum_is : (a b c : ℤ) → IsMileage a → IsOfSize (10 ^ 15) b → IsOfSize (10 ^ 15) c → word (word (word a +ℤ word b) -ℤ word c) ≡ (a +ℤ b) -ℤ c
sum_is a b c h k m =
    let inner : word (word a +ℤ word b) ≡ a +ℤ b = ap (λ z. word (z +ℤ word b)) (to_z-of_z w64 a (fits_mile a h))
    ∙ (ap (λ z. word (a +ℤ z)) (word_is b k) ∙ to_z-of_z w64 (a +ℤ b) (fits_sum a b h k)) in
    ap (λ z. word (z -ℤ word c)) inner ∙ (ap (λ z. word ((a +ℤ b) -ℤ z)) (word_is c m) ∙ to_z-of_z w64 ((a +ℤ b) -ℤ c) (fits_all a b c h k m))

pub measured_mileage : (rows : List Elem) (track : Track) (signal : SignalElem) (here from : ℤ) → is_some signal.abs_pos ≡ false →
    IsMileage track.begin.mile.0 → Gives signal.pos here → HasPositionAt rows track.begin.at from → IsOfSize (10 ^ 15) here → IsOfSize (10 ^ 15) from
    → HasMileage rows track signal (word (word (word track.begin.mile.0 +ℤ word here) -ℤ word from))
measured_mileage rows track signal here from none start gives begin near close =
    let z : ℤ = word (word (word track.begin.mile.0 +ℤ word here) -ℤ word from) in
    let measured : IsMeasuredAlong rows track signal z = record {
      from = from;
      begin_at = begin;
      to = here;
      signal_at = gives;
      sum = sum_is track.begin.mile.0 here from start near close;
    } in
    subst (λ (o : Option (List ℕ)). MatchOption o (IsMeasuredAlong rows track signal z) (λ text. ReadsMetres text z)) (sym (no_text signal.abs_pos none))
    measured

-- ---- an edge with too many signals

module _ (s : Station) (signals : List SignalElem) (places : List SignalPlace) (formed : AreFormed s.rows) (are : ArePlacesOf s signals places) where
  pub as_many : length signals ≡ length places
  as_many = zip_length (IsPlaceOf s) signals places are

  not_crowded : (i : ℕ) (x : SignalElem) → (earlier_on_edge places i ≡ SIGNALS_OF_AN_EDGE → ⊥) → HasKind s signals Crowded i x → ⊥
  not_crowded i x not had =
      let h = had.1.0 in
      not (ap (λ (ps : List SignalPlace). earlier_on_edge ps i) (one_list s formed signals places h.places are h.are) ∙ h.full)

  pub crowded_first : (i : ℕ) → IsFirst (λ i _. earlier_on_edge places i ≡ SIGNALS_OF_AN_EDGE) places i → IsFirst (HasKind s signals Crowded) signals i
  crowded_first i f =
      let within : i < length places = slice_get_within places i f.x f.is in
      let there = get_within signals i (omega (arith, as_many, within)) in
      record {
        x = there.0;
        is = there.1;
        holds = (id_of there.0, (record { places = places; are = are; full = f.holds }, refl));
        before = record {
          none = λ j x below at had. (let p = get_within places j (omega (arith, below, within)) in not_crowded j x
              (λ full. f.before.none j p.0 below p.1 full) had);
        };
      }

  pub crowded_none : NoneBefore (λ i _. earlier_on_edge places i ≡ SIGNALS_OF_AN_EDGE) places (length places) →
      NoneBefore (HasKind s signals Crowded) signals (length signals)
  crowded_none n = record {
    none = λ j x below at had. (let within : j < length places = omega (arith, as_many, below) in let p = get_within places j within in not_crowded j x
        (λ full. n.none j p.0 within p.1 full) had);
  }

pub uncrowded_up_to : (places : List SignalPlace) → NoneBefore (λ i _. earlier_on_edge places i ≡ SIGNALS_OF_AN_EDGE) places (length places) → (e n : ℕ) →
    n ≤ length places → counted (is_on places e) n ≤ SIGNALS_OF_AN_EDGE
uncrowded_up_to places none e zero within = omega arith
uncrowded_up_to places none e (suc n) within =
    let so_far = uncrowded_up_to places none e n (omega (arith, within)) in
    elim (is_on places e n) as (λ b. is_on places e n ≡ b → counted (is_on places e) (suc n) ≤ SIGNALS_OF_AN_EDGE) [
      | true ↦ λ on.
          (let here : edge_at places n ≡ e = (Decides-eqb (edge_at places n) e).0 on in
          let p = get_within places n (omega (arith, within)) in
          let not : counted (is_on places e) n ≡ SIGNALS_OF_AN_EDGE →
          ⊥ = λ full. none.none n p.0 (omega (arith, within)) p.1 (ap (λ f. counted (is_on places f) n) here ∙ full) in
          let more = counted_more (is_on places e) n in
          let one : cond {A = ℕ} (is_on places e n) 1 0 ≡ 1 = ap (λ b. cond {A = ℕ} b 1 0) on in
          omega (arith, so_far, not, more, one))
      | false ↦ λ off.
          (let more = counted_more (is_on places e) n in
          let one : cond {A = ℕ} (is_on places e n) 1 0 ≡ 0 = ap (λ b. cond {A = ℕ} b 1 0) off in
          omega (arith, so_far, more, one))
    ] refl

pub uncrowded : (places : List SignalPlace) → NoneBefore (λ i _. earlier_on_edge places i ≡ SIGNALS_OF_AN_EDGE) places (length places) → (e : ℕ) →
    number_on places e ≤ SIGNALS_OF_AN_EDGE
uncrowded places none e = uncrowded_up_to places none e (length places) (omega arith)
