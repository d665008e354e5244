-- Bounds on the numbers of edges.
use Rattle.std.proofs.Common.{◌≡◌, ℕ, ◌+◌, ◌<◌, ◌≤◌, true, false, cond, List, [], ◌∷◌, ◌++◌, length, get_or, take, Some, ap, ◌∙◌, subst, arith, below_more}
use Rattle.std.proofs.Common.{length-append}
use Rattle.std.specs.Prelude.{min, slice_get, sum_by, unwrap_or}
use Rattle.std.specs.List.{flat_map}
use Rattle.std.proofs.lemmas.List.Sums.{sum_by-take-drop, sum_by-take-le, sum_by-cons, sum_by_more}
use Rattle.std.proofs.lemmas.List.{length-map, get_or_append_left, get_or_push, get_or_read, take_min}
use Rattle.std.proofs.lemmas.Option.{slice_get_within, get_or_from_slice_get}
use Rattle.plan_core.specs.declared.limits.TheConstants.{MAX_EDGES}
use Rattle.plan_core.specs.declared.topology.Topology.{Topology}
use Rattle.plan_core.specs.declared.topology.Track.{Track}
use Rattle.plan_core.specs.declared.topology.Inner.{Inner}
use Rattle.plan_core.specs.declared.topology.Conn.{Conn}
use Rattle.plan_core.specs.Topology.{connections, conn_element, end_elements, inner_elements, track_elements, elements}
use Rattle.port_graph.specs.declared.runs.Join.{Join}
use Rattle.port_graph.specs.declared.numbers.Numbering.{Numbering}
use Rattle.port_graph.specs.Numbering.{IsNumbering}
use Rattle.port_graph.specs.Spots.{inner_spot, spot_at}
use Rattle.port_graph.specs.Runs.{piece_count, piece_number, edge_count, begins_join, begun_join, inner_joins, track_joins, joins}

-- what comes before an element, and the element, are at most all
pub sum_with : {X : Type 0} (f : X → ℕ) (xs : List X) (k : ℕ) (x : X) → slice_get xs k ≡ Some x → sum_by f (take k xs) + f x ≤ sum_by f xs
sum_with {X} f xs k x there =
    let within : k < length xs = slice_get_within xs k x there in
    let more = sum_by_more f xs k x within in
    let at = ap f (get_or_from_slice_get xs k x x there) in
    omega (arith, more, at, sum_by-take-drop f xs (k + 1))

-- the number of the next track's first piece
pub first_more : (t : Topology) (tracks : List Track) (k : ℕ) (track : Track) → tracks ≡ t.tracks → k < length tracks → track ≡ get_or tracks k track →
    piece_number t (k + 1) 0 ≡ piece_number t k 0 + (length track.inner + 1)
first_more t tracks k track same within is =
    let more = sum_by_more piece_count t.tracks k track (subst (λ (l : List Track). k < length l) same within) in
    let here : piece_count track ≡ piece_count (get_or t.tracks k track) = ap piece_count is ∙ ap (λ (l : List Track). piece_count (get_or l k track)) same in
    omega (arith, more, here)

pub first_few : (t : Topology) (k : ℕ) → sum_by piece_count t.tracks ≤ MAX_EDGES → piece_number t k 0 ≤ MAX_EDGES
first_few t k few = omega (arith, sum_by-take-le piece_count t.tracks k)

-- one number more is listed
pub firsts_more : (t : Topology) (firsts new : List ℕ) (k next : ℕ) → new ≡ firsts ++ next ∷ [] → length firsts ≡ k → next ≡ piece_number t k 0 →
    ((j : ℕ) → j < k → get_or firsts j 0 ≡ piece_number t j 0) → (j : ℕ) → j < k + 1 → get_or new j 0 ≡ piece_number t j 0
firsts_more t firsts new k next pushed count here below =
    below_more (λ (j : ℕ). get_or new j 0 ≡ piece_number t j 0) k
    (λ j less. ap (λ (l : List ℕ). get_or l j 0) pushed ∙ get_or_append_left firsts (next ∷ []) 0 j (omega arith) ∙ below j less)
    (ap (λ (l : List ℕ). get_or l k 0) pushed ∙ get_or_push firsts next 0 k count ∙ here)

pub piece_below : (t : Topology) (k i : ℕ) (track : Track) → slice_get t.tracks k ≡ Some track → i ≤ length track.inner →
    piece_number t k i < sum_by piece_count t.tracks
piece_below t k i track there small = let h = sum_with piece_count t.tracks k track there in omega (arith, h)

-- within the limit on edges
pub piece_few : (t : Topology) (k i : ℕ) (track : Track) → slice_get t.tracks k ≡ Some track → i ≤ length track.inner → edge_count t ≤ MAX_EDGES →
    piece_number t k i ≤ MAX_EDGES
piece_few t k i track there small few = let h = piece_below t k i track there small in omega (arith, h)

-- a piece's number, counted from that of its track's first piece, or past the last track from that of all pieces
pub piece_from : (t : Topology) (numbering : Numbering) → IsNumbering t numbering → (track piece k n first : ℕ) → k ≡ min track n → n ≡ length t.tracks →
    first ≡ get_or numbering.firsts.items k first → first + piece ≡ piece_number t track piece
piece_from t numbering is track piece k n first k_is n_is read =
    let small : k ≤ length t.tracks = omega arith in
    let at : first ≡ get_or numbering.firsts.items k 0 = get_or_read numbering.firsts.items k first (omega (arith, is.count)) read 0 in
    let here : get_or numbering.firsts.items k 0 ≡ piece_number t k 0 = is.each k small in
    let same : take k t.tracks ≡ take track t.tracks = ap (λ (m : ℕ). take m t.tracks) (k_is ∙ ap (min track) n_is) ∙ take_min track t.tracks in
    let sum = ap (sum_by piece_count) same in
    omega (arith, at, here, sum)

abbrev begun : Topology → Inner → Conn → Join
begun t x c = record { at = c.at; run = record { track = c.id; from = inner_spot x; to = unwrap_or (spot_at t c.to) (inner_spot x) } }

begun_few : (t : Topology) (x : Inner) (c : Conn) → length (begun_join t x c) ≤ 1
begun_few t x c = elim (begins_join t c) as (λ b. length (cond b (begun t x c ∷ []) []) ≤ 1) [ true ↦ omega arith | false ↦ omega arith ]

inner_joins_few : (t : Topology) (x : Inner) (cs : List Conn) → length (flat_map (begun_join t x) cs) ≤ length cs
inner_joins_few t x [] = omega arith
inner_joins_few t x (c ∷ cs) = omega (arith, length-append (begun_join t x c) (flat_map (begun_join t x) cs), begun_few t x c, inner_joins_few t x cs)

-- Each piece and each join stands for an element of its own.

inners_few : (t : Topology) (xs : List Inner) → length xs + length (flat_map (inner_joins t) xs) ≤ length (flat_map inner_elements xs)
inners_few t [] = omega arith
inners_few t (x ∷ xs) =
    omega (
      arith,
      length-append (inner_joins t x) (flat_map (inner_joins t) xs),
      length-append (inner_elements x) (flat_map inner_elements xs),
      inner_joins_few t x (connections x.what),
      length-map (connections x.what) conn_element,
      inners_few t xs,
    )

track_few : (t : Topology) (track : Track) → piece_count track + length (track_joins t track) ≤ length (track_elements track)
track_few t track =
    omega (
      arith,
      inners_few t track.inner,
      length-append (end_elements track.begin) (flat_map inner_elements track.inner ++ end_elements track.end),
      length-append (flat_map inner_elements track.inner) (end_elements track.end),
    )

tracks_few : (t : Topology) (tracks : List Track) → sum_by piece_count tracks + length (flat_map (track_joins t) tracks) ≤ length
    (flat_map track_elements tracks)
tracks_few t [] = omega arith
tracks_few t (track ∷ tracks) =
    omega (
      arith,
      length-append (track_joins t track) (flat_map (track_joins t) tracks),
      length-append (track_elements track) (flat_map track_elements tracks),
      sum_by-cons piece_count track tracks,
      track_few t track,
      tracks_few t tracks,
    )

-- there are no more edges than elements
pub edges_few : (t : Topology) → sum_by piece_count t.tracks + length (joins t) ≤ length (elements t)
edges_few t = tracks_few t t.tracks
