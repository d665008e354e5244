-- The pieces and the joins of a topology, by their numbers.
use Rattle.std.proofs.Common.{◌≡◌, ℕ, zero, suc, ◌+◌, ◌-◌, ◌<◌, Bool, true, false, cond, List, [], ◌∷◌, ◌++◌, length, map, take, Option, Some, refl, sym, ap}
use Rattle.std.proofs.Common.{◌∙◌, subst, inl, inr, arith}
use Rattle.std.specs.Prelude.{◌⊎◌, sum_by, slice_get, unwrap_or}
use Rattle.std.specs.List.{flat_map}
use Rattle.std.proofs.lemmas.Bool.{cases_lt}
use Rattle.std.proofs.lemmas.List.{length-map, length-append}
use Rattle.std.proofs.lemmas.List.Sums.{sum_by-cons}
use Rattle.std.proofs.lemmas.Option.{slice_get_within, same_Some, none-some}
use Rattle.plan_core.specs.declared.topology.Topology.{Topology}
use Rattle.plan_core.specs.declared.topology.Track.{Track}
use Rattle.plan_core.specs.declared.topology.Inner.{Inner}
use Rattle.plan_core.specs.declared.topology.Conn.{Conn}
use Rattle.plan_core.specs.Topology.{connections}
use Rattle.port_graph.specs.declared.runs.Spot.{Spot}
use Rattle.port_graph.specs.declared.runs.Run.{Run}
use Rattle.port_graph.specs.declared.runs.Join.{Join}
use Rattle.port_graph.specs.Spots.{inner_spot, spot_at, leads_to}
use Rattle.port_graph.specs.Runs.{spots_along, runs_between, track_pieces, pieces_of_tracks, piece_count, piece_number, begins_join, begun_join, inner_joins}
use Rattle.port_graph.specs.Runs.{track_joins, joins}
use Rattle.port_graph.proofs.Membership.{In, in_at, in_flat, flat_in}

-- ---- lists of parts, by numbers

append_left : {X : Type 0} (xs ys : List X) (i : ℕ) → i < length xs → slice_get (xs ++ ys) i ≡ slice_get xs i
append_left [] ys i within = absurd (omega arith)
append_left (x ∷ xs) ys zero within = refl
append_left (x ∷ xs) ys (suc i) within = append_left xs ys i (omega arith)

append_right : {X : Type 0} (xs ys : List X) (n i : ℕ) → n ≡ length xs + i → slice_get (xs ++ ys) n ≡ slice_get ys i
append_right [] ys n i is = ap (slice_get ys) (omega arith)
append_right (x ∷ xs) ys zero i is = absurd (omega arith)
append_right (x ∷ xs) ys (suc n) i is = append_right xs ys n i (omega arith)

module _ {X Y : Type 0} (f : X → List Y) (g : X → ℕ) (long : (x : X) → length (f x) ≡ g x) where
  -- the i-th element of the k-th part
  pub flat_at : (xs : List X) (k i n : ℕ) (x : X) → slice_get xs k ≡ Some x → i < length (f x) → n ≡ sum_by g (take k xs) + i →
      slice_get (flat_map f xs) n ≡ slice_get (f x) i
  flat_at [] k i n x here within is = absurd (none-some x here)
  flat_at (z ∷ zs) zero i n x here within is =
      let one : z ≡ x = same_Some z x here in
      let same : n ≡ i = omega arith in
      let within' : i < length (f z) = subst (λ (w : X). i < length (f w)) (sym one) within in
      ap (slice_get (f z ++ flat_map f zs)) same ∙ append_left (f z) (flat_map f zs) i within' ∙ ap (λ (w : X). slice_get (f w) i) one
  flat_at (z ∷ zs) (suc k) i n x here within is =
      let total = sum_by-cons g z (take k zs) in
      append_right (f z) (flat_map f zs) n (sum_by g (take k zs) + i) (omega (arith, long z, total))
      ∙ flat_at zs k i (sum_by g (take k zs) + i) x here within refl

  -- the part in which the n-th element stands, and where
  pub at_flat : (xs : List X) (n : ℕ) (y : Y) → slice_get (flat_map f xs) n ≡ Some y →
      (k : ℕ) × (i : ℕ) × (x : X) × (slice_get xs k ≡ Some x) × (slice_get (f x) i ≡ Some y) × (n ≡ sum_by g (take k xs) + i)
  at_flat [] n y is = absurd (none-some y is)
  at_flat (z ∷ zs) n y is =
      elim (cases_lt n (length (f z))) [
        | inl within ↦ (0, n, z, refl, sym (append_left (f z) (flat_map f zs) n within) ∙ is, omega arith)
        | inr past ↦
            let split : n ≡ length (f z) + (n - length (f z)) = omega arith in
            let r = at_flat zs (n - length (f z)) y (sym (append_right (f z) (flat_map f zs) n (n - length (f z)) split) ∙ is) in
            let total = sum_by-cons g z (take r.0 zs) in
            let there : n - length (f z) ≡ sum_by g (take r.0 zs) + r.1 = r.5 in
            (suc r.0, r.1, r.2, r.3, r.4, omega (arith, long z, total, there, split))
      ]

-- a number has one part and one place in it
pub one_place : {X : Type 0} (g : X → ℕ) (xs : List X) (k k' i i' : ℕ) (x x' : X) → slice_get xs k ≡ Some x → slice_get xs k' ≡ Some x' → i < g x → i' < g x' →
    sum_by g (take k xs) + i ≡ sum_by g (take k' xs) + i' → (k ≡ k') × (i ≡ i')
one_place g [] k k' i i' x x' here here' within within' is = absurd (none-some x here)
one_place g (z ∷ zs) zero zero i i' x x' here here' within within' is = (refl, omega arith)
one_place g (z ∷ zs) zero (suc k') i i' x x' here here' within within' is =
    let total = sum_by-cons g z (take k' zs) in
    let same : g z ≡ g x = ap g (same_Some z x here) in
    absurd (omega (arith, total, same))
one_place g (z ∷ zs) (suc k) zero i i' x x' here here' within within' is =
    let total = sum_by-cons g z (take k zs) in
    let same : g z ≡ g x' = ap g (same_Some z x' here') in
    absurd (omega (arith, total, same))
one_place g (z ∷ zs) (suc k) (suc k') i i' x x' here here' within within' is =
    let total = sum_by-cons g z (take k zs) in
    let total' = sum_by-cons g z (take k' zs) in
    let r = one_place g zs k k' i i' x x' here here' within within' (omega (arith, total, total')) in
    (ap suc r.0, r.1)

-- ---- runs between spots

-- the run i goes from the spot i to the next
pub runs_spots : (name : List ℕ) (spots : List Spot) (i : ℕ) (r : Run) → slice_get (runs_between name spots) i ≡ Some r →
    (slice_get spots i ≡ Some r.from) × (slice_get spots (suc i) ≡ Some r.to)
runs_spots name [] i r is = absurd (none-some r is)
runs_spots name (a ∷ []) i r is = absurd (none-some r is)
runs_spots name (a ∷ b ∷ rest) zero r is =
    let run : Run = record { track = name; from = a; to = b } in
    let same : run ≡ r = same_Some run r is in
    (ap (λ (r : Run). Some r.from) same, ap (λ (r : Run). Some r.to) same)
runs_spots name (a ∷ b ∷ rest) (suc i) r is = runs_spots name (b ∷ rest) i r is

pub spots_run : (name : List ℕ) (spots : List Spot) (i : ℕ) (a b : Spot) → slice_get spots i ≡ Some a → slice_get spots (suc i) ≡ Some b →
    slice_get (runs_between name spots) i ≡ Some (record { track = name; from = a; to = b })
spots_run name [] i a b is is' = absurd (none-some a is)
spots_run name (c ∷ []) zero a b is is' = absurd (none-some b is')
spots_run name (c ∷ []) (suc i) a b is is' = absurd (none-some a is)
spots_run name (c ∷ d ∷ rest) zero a b is is' =
    let F : Spot → Spot → Option Run = λ from to. Some (record { track = name; from = from; to = to }) in
    ap (λ (s : Spot). F s d) (same_Some c a is) ∙ ap (λ (s : Spot). F a s) (same_Some d b is')
spots_run name (c ∷ d ∷ rest) (suc i) a b is is' = spots_run name (d ∷ rest) i a b is is'

length-runs : (name : List ℕ) (a : Spot) (spots : List Spot) → length (runs_between name (a ∷ spots)) ≡ length spots
length-runs name a [] = refl
length-runs name a (b ∷ rest) = ap suc (length-runs name b rest)

pub length-track_pieces : (t : Topology) (track : Track) → length (track_pieces t track) ≡ piece_count track
length-track_pieces t track =
    let last = leads_to t track.end ∷ [] in
    length-runs track.id (leads_to t track.begin) (map inner_spot track.inner ++ last)
    ∙ length-append (map inner_spot track.inner) last ∙ ap (λ (n : ℕ). n + 1) (length-map track.inner inner_spot)

counts_from : (t : Topology) (tracks : List Track) → length (flat_map (track_pieces t) tracks) ≡ sum_by piece_count tracks
counts_from t [] = refl
counts_from t (track ∷ tracks) =
    let all = length-append (track_pieces t track) (flat_map (track_pieces t) tracks) in
    let sums = sum_by-cons piece_count track tracks in
    omega (arith, all, sums, length-track_pieces t track, counts_from t tracks)

pub length-pieces : (t : Topology) → length (pieces_of_tracks t) ≡ sum_by piece_count t.tracks
length-pieces t = counts_from t t.tracks

-- ---- the spots along a track

pub spot_of_inner : (t : Topology) (track : Track) (i : ℕ) (x : Inner) → slice_get track.inner i ≡ Some x →
    slice_get (spots_along t track) (suc i) ≡ Some (inner_spot x)
spot_of_inner t track i x is = mid track.inner i is
  where
    mid : (xs : List Inner) (i : ℕ) → slice_get xs i ≡ Some x → slice_get (map inner_spot xs ++ leads_to t track.end ∷ []) i ≡ Some (inner_spot x)
    mid [] i is = absurd (none-some x is)
    mid (y ∷ ys) zero is = ap (λ (z : Inner). Some (inner_spot z)) (same_Some y x is)
    mid (y ∷ ys) (suc i) is = mid ys i is

pub spot_of_end : (t : Topology) (track : Track) → slice_get (spots_along t track) (suc (length track.inner)) ≡ Some (leads_to t track.end)
spot_of_end t track = last track.inner
  where
    last : (xs : List Inner) → slice_get (map inner_spot xs ++ leads_to t track.end ∷ []) (length xs) ≡ Some (leads_to t track.end)
    last [] = refl
    last (y ∷ ys) = last ys

-- a spot after the first is that of a switch or crossing, or the last
pub spot_cases : (t : Topology) (track : Track) (i : ℕ) (s : Spot) → slice_get (spots_along t track) (suc i) ≡ Some s →
    ((x : Inner) × (slice_get track.inner i ≡ Some x) × (inner_spot x ≡ s)) ⊎ ((i ≡ length track.inner) × (leads_to t track.end ≡ s))
spot_cases t track i s is = mid track.inner i is
  where
    mid : (xs : List Inner) (i : ℕ) → slice_get (map inner_spot xs ++ leads_to t track.end ∷ []) i ≡ Some s →
        ((x : Inner) × (slice_get xs i ≡ Some x) × (inner_spot x ≡ s)) ⊎ ((i ≡ length xs) × (leads_to t track.end ≡ s))
    mid [] zero is = inr (refl, same_Some (leads_to t track.end) s is)
    mid [] (suc i) is = absurd (none-some s is)
    mid (y ∷ ys) zero is = inl (y, refl, same_Some (inner_spot y) s is)
    mid (y ∷ ys) (suc i) is = elim (mid ys i is) [ inl inner ↦ inl inner | inr end ↦ inr (ap suc end.0, end.1) ]

-- ---- pieces

pub piece_at : (t : Topology) (k i : ℕ) (track : Track) (a b : Spot) → slice_get t.tracks k ≡ Some track → slice_get (spots_along t track) i ≡ Some a →
    slice_get (spots_along t track) (suc i) ≡ Some b → slice_get (pieces_of_tracks t) (piece_number t k i) ≡ Some (record {
      track = track.id;
      from = a;
      to = b;
    })
piece_at t k i track a b here is is' =
    let run = spots_run track.id (spots_along t track) i a b is is' in
    flat_at (track_pieces t) piece_count (length-track_pieces t) t.tracks k i (piece_number t k i) track here
    (slice_get_within (track_pieces t track) i (record { track = track.id; from = a; to = b }) run) refl ∙ run

-- the run e is piece i of track k
pub record IsPiece (t : Topology) (e : ℕ) (r : Run) : Type 0 where
  pub k : ℕ
  pub i : ℕ
  pub track : Track
  pub here : slice_get t.tracks k ≡ Some track
  pub number : e ≡ piece_number t k i
  pub from : slice_get (spots_along t track) i ≡ Some r.from
  pub to : slice_get (spots_along t track) (suc i) ≡ Some r.to

pub piece_of : (t : Topology) (e : ℕ) (r : Run) → slice_get (pieces_of_tracks t) e ≡ Some r → IsPiece t e r
piece_of t e r is =
    let p = at_flat (track_pieces t) piece_count (length-track_pieces t) t.tracks e r is in
    let spots = runs_spots p.2.id (spots_along t p.2) p.1 r p.4 in
    record { k = p.0; i = p.1; track = p.2; here = p.3; number = p.5; from = spots.0; to = spots.1 }

pub length-spots : (t : Topology) (track : Track) → length (spots_along t track) ≡ length track.inner + 2
length-spots t track =
    let inner = length-append (map inner_spot track.inner) (leads_to t track.end ∷ []) in
    omega (arith, inner, length-map track.inner inner_spot)

-- ---- joins

-- the join that the connection m of switch or crossing i of track k begins
abbrev pub join_from : Topology → Inner → Conn → Join
join_from t x c = record {
  at = c.at;
  run = record { track = c.id; from = inner_spot x; to = unwrap_or (spot_at t c.to) (inner_spot x) };
}

pub record IsJoin (t : Topology) (j : Join) : Type 0 where
  pub k : ℕ
  pub i : ℕ
  pub m : ℕ
  pub track : Track
  pub x : Inner
  pub c : Conn
  pub here : slice_get t.tracks k ≡ Some track
  pub at_i : slice_get track.inner i ≡ Some x
  pub at_m : slice_get (connections x.what) m ≡ Some c
  pub begins : begins_join t c ≡ true
  pub is : join_from t x c ≡ j

begun : (b : Bool) (j j' : Join) → In j (cond b (j' ∷ []) []) → (b ≡ true) × (j' ≡ j)
begun true j j' (inl e) = (refl, e)
begun true j j' (inr h) = absurd h
begun false j j' h = absurd h

pub join_of_list : (t : Topology) (j : Join) → In j (joins t) → IsJoin t j
join_of_list t j h =
    let a = flat_in (track_joins t) t.tracks j h in
    let b = flat_in (inner_joins t) a.1.inner j a.3 in
    let d = flat_in (begun_join t b.1) (connections b.1.what) j b.3 in
    let e = begun (begins_join t d.1) j (join_from t b.1 d.1) d.3 in
    record { k = a.0; i = b.0; m = d.0; track = a.1; x = b.1; c = d.1; here = a.2; at_i = b.2; at_m = d.2; begins = e.0; is = e.1 }

pub join_there : (t : Topology) (k i m : ℕ) (track : Track) (x : Inner) (c : Conn) → slice_get t.tracks k ≡ Some track → slice_get track.inner i ≡ Some x →
    slice_get (connections x.what) m ≡ Some c → begins_join t c ≡ true → In (join_from t x c) (joins t)
join_there t k i m track x c here at_i at_m begins =
    in_flat (track_joins t) t.tracks track (join_from t x c) (in_at t.tracks k track here)
    (in_flat (inner_joins t) track.inner x (join_from t x c) (in_at track.inner i x at_i)
    (in_flat (begun_join t x) (connections x.what) c (join_from t x c) (in_at (connections x.what) m c at_m)
    (subst (λ (b : Bool). In (join_from t x c) (cond b (join_from t x c ∷ []) [])) (sym begins) (inl refl))))
