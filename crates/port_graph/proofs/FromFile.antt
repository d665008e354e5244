-- Nodes and joins are elements of the file, each of its own; so their names, file places and mileages are
-- such as a file has.
use Rattle.std.proofs.Common.{◌≡◌, ℕ, ℤ, ◌+◌, ◌<◌, ◌≤◌, Bool, true, false, cond, inl, inr, List, [], ◌∷◌, ◌++◌, length, map, refl, sym, ap, ◌∙◌, subst}
use Rattle.std.proofs.Common.{length-append, get_or, drop, arith, ◌≢◌}
use Rattle.std.specs.Prelude.{sum_by, unwrap_or, option_to_list, AllPairs}
use Rattle.std.specs.List.{flat_map, enumerate_from}
use Rattle.std.proofs.lemmas.List.{map-append, length-map, append-nil}
use Rattle.std.proofs.lemmas.List.FromFn.{length-enumerate_from}
use Rattle.std.proofs.lemmas.List.Sums.{sum_by-cons, sum_by-drop_more}
use Rattle.plan_core.specs.declared.topology.Topology.{Topology}
use Rattle.plan_core.specs.declared.topology.Track.{Track}
use Rattle.plan_core.specs.declared.topology.End.{End as TrackEnd}
use Rattle.plan_core.specs.declared.topology.Inner.{Inner}
use Rattle.plan_core.specs.declared.topology.Conn.{Conn}
use Rattle.plan_core.specs.Topology.{Element, end_elements, inner_elements, conn_element, connections, track_elements, elements, track_miles, IsResolved}
use Rattle.port_graph.specs.declared.sites.Site.{Site}
use Rattle.port_graph.specs.declared.runs.Join.{Join}
use Rattle.port_graph.specs.Spots.{has_node, inner_spot, spot_at}
use Rattle.port_graph.specs.Runs.{begins_join, begun_join, inner_joins, track_joins, joins, piece_number, last_piece}
use Rattle.port_graph.specs.Sites.{end_meeting, end_sites, inner_site, inner_sites, track_sites, sites}
use Rattle.port_graph.specs.Counts.{end_count, node_count}
use Rattle.port_graph.proofs.Sublists.{IsSublist, sublist-nil, sublist-refl, sublist-append, sublist-after, sublist-flat_map, sublist-length, sublist-AllPairs}
use Rattle.port_graph.proofs.Sublists.{pairs_of_map}

-- the element that becomes a node, and the one that names a join
abbrev pub site_element : Site → Element
site_element s = record { id = s.id; at = s.spot.at }

abbrev pub join_element : Join → Element
join_element j = record { id = j.run.track; at = j.at }

abbrev pub site_mile : Site → ℤ
site_mile s = s.spot.mile.0

-- images of the parts make up the image of the whole
map_flat : {X A B : Type 0} (h : A → B) (f : X → List A) (xs : List X) → map h (flat_map f xs) ≡ flat_map (λ x. map h (f x)) xs
map_flat h f [] = refl
map_flat h f (x ∷ xs) = map-append h (f x) (flat_map f xs) ∙ ap (λ l. map h (f x) ++ l) (map_flat h f xs)

-- where each numbered part has some of the elements of a part, the whole has some of those of the whole
sublist_numbered : {X A B : Type 0} (h : A → B) (f : ℕ → X → List A) (g : X → List B) → ((k : ℕ) (x : X) → IsSublist (map h (f k x)) (g x)) →
    (n : ℕ) (xs : List X) → IsSublist (map h (flat_map (λ (kx : ℕ × X). f kx.0 kx.1) (enumerate_from n xs))) (flat_map g xs)
sublist_numbered h f g each n [] = refl
sublist_numbered {X} h f g each n (x ∷ xs) =
    subst (λ l. IsSublist l (g x ++ flat_map g xs)) (sym (map-append h (f n x) (flat_map (λ (kx : ℕ × X). f kx.0 kx.1) (enumerate_from (n + 1) xs))))
    (sublist-append (map h (f n x)) (g x) (map h (flat_map (λ (kx : ℕ × X). f kx.0 kx.1) (enumerate_from (n + 1) xs))) (flat_map g xs) (each n x)
    (sublist_numbered h f g each (n + 1) xs))

-- Nodes.

-- one node or none
one_or_none : {A B : Type 0} (h : A → B) (b : Bool) (x : A) (rest : List B) → IsSublist (map h (cond b (x ∷ []) [])) (h x ∷ rest)
one_or_none h true x rest = inr ([], refl, sublist-nil rest)
one_or_none h false x rest = inl (sublist-nil rest)

abbrev end_site : Topology → TrackEnd → ℕ → Site
end_site t e own = record { id = e.id; spot = record { at = e.at; mile = e.mile }; meets = end_meeting t own e.joined }

end_from_file : (t : Topology) (e : TrackEnd) (own : ℕ) → IsSublist (map site_element (end_sites t e own)) (end_elements e)
end_from_file t e own = one_or_none site_element (has_node t e) (end_site t e own) (map conn_element (option_to_list e.joined))

inners_from_file : (t : Topology) (k n : ℕ) (xs : List Inner) → IsSublist (map site_element
    (map (λ (ix : ℕ × Inner). inner_site t k ix.0 ix.1) (enumerate_from n xs))) (flat_map inner_elements xs)
inners_from_file t k n [] = refl
inners_from_file t k n (x ∷ xs) =
    inr (_, refl, sublist-after (map conn_element (connections x.what)) _ (flat_map inner_elements xs) (inners_from_file t k (n + 1) xs))

track_from_file : (t : Topology) (k : ℕ) (track : Track) → IsSublist (map site_element (track_sites t k track)) (track_elements track)
track_from_file t k track =
    let begins = end_sites t track.begin (piece_number t k 0) in
    let inners = inner_sites t k track in
    let ends = end_sites t track.end (last_piece t k) in
    inl (rw (map-append site_element begins (inners ++ ends), map-append site_element inners ends)
    (sublist-append (map site_element begins) (end_elements track.begin) _ _ (end_from_file t track.begin (piece_number t k 0))
    (sublist-append (map site_element inners) (flat_map inner_elements track.inner) (map site_element ends) (end_elements track.end)
    (inners_from_file t k 0 track.inner) (end_from_file t track.end (last_piece t k)))))

-- the nodes are elements of the file, in its order
pub sites_from_file : (t : Topology) → IsSublist (map site_element (sites t)) (elements t)
sites_from_file t = sublist_numbered site_element (track_sites t) track_elements (track_from_file t) 0 t.tracks

-- Mileages.

end_mile : (t : Topology) (e : TrackEnd) (own : ℕ) → IsSublist (map site_mile (end_sites t e own)) (e.mile.0 ∷ [])
end_mile t e own = one_or_none site_mile (has_node t e) (end_site t e own) []

inner_miles : (t : Topology) (k n : ℕ) (xs : List Inner) → map site_mile (map (λ (ix : ℕ × Inner). inner_site t k ix.0 ix.1) (enumerate_from n xs)) ≡ map
    (λ (x : Inner). x.mile.0) xs
inner_miles t k n [] = refl
inner_miles t k n (x ∷ xs) = ap (λ l. x.mile.0 ∷ l) (inner_miles t k (n + 1) xs)

miles_of_track : (t : Topology) (k : ℕ) (track : Track) → IsSublist (map site_mile (track_sites t k track)) (track_miles track)
miles_of_track t k track =
    let begins = end_sites t track.begin (piece_number t k 0) in
    let inners = inner_sites t k track in
    let ends = end_sites t track.end (last_piece t k) in
    rw (map-append site_mile begins (inners ++ ends), map-append site_mile inners ends, inner_miles t k 0 track.inner)
    (sublist-append (map site_mile begins) (track.begin.mile.0 ∷ []) _ _ (end_mile t track.begin (piece_number t k 0))
    (sublist-append (map (λ (x : Inner). x.mile.0) track.inner) (map (λ (x : Inner). x.mile.0) track.inner) (map site_mile ends) (track.end.mile.0 ∷ [])
    (sublist-refl (map (λ (x : Inner). x.mile.0) track.inner)) (end_mile t track.end (last_piece t k))))

pub miles_from_file : (t : Topology) → IsSublist (map site_mile (sites t)) (flat_map track_miles t.tracks)
miles_from_file t = sublist_numbered site_mile (track_sites t) track_miles (miles_of_track t) 0 t.tracks

-- Joins.

join_from_file : (t : Topology) (x : Inner) (c : Conn) → IsSublist (map join_element (begun_join t x c)) (conn_element c ∷ [])
join_from_file t x c = one_or_none join_element (begins_join t c) (record {
  at = c.at;
  run = record { track = c.id; from = inner_spot x; to = unwrap_or (spot_at t c.to) (inner_spot x) };
}) []

inner_joins_from_file : (t : Topology) (x : Inner) (cs : List Conn) → IsSublist (map join_element (flat_map (begun_join t x) cs)) (map conn_element cs)
inner_joins_from_file t x [] = refl
inner_joins_from_file t x (c ∷ cs) =
    rw (map-append join_element (begun_join t x c) (flat_map (begun_join t x) cs))
    (sublist-append (map join_element (begun_join t x c)) (conn_element c ∷ []) _ (map conn_element cs) (join_from_file t x c) (inner_joins_from_file t x cs))

track_joins_from_file : (t : Topology) (track : Track) → IsSublist (map join_element (track_joins t track)) (track_elements track)
track_joins_from_file t track =
    rw (map_flat join_element (inner_joins t) track.inner)
    (inl (sublist-after (end_elements track.begin) _ (flat_map inner_elements track.inner ++ end_elements track.end)
    (subst (λ l. IsSublist l (flat_map inner_elements track.inner ++ end_elements track.end))
    (append-nil (flat_map (λ (x : Inner). map join_element (inner_joins t x)) track.inner))
    (sublist-append (flat_map (λ (x : Inner). map join_element (inner_joins t x)) track.inner) (flat_map inner_elements track.inner) [] (end_elements track.end)
    (sublist-flat_map (λ (x : Inner). map join_element (inner_joins t x)) inner_elements track.inner
    (λ x. inl (inner_joins_from_file t x (connections x.what))))
    (sublist-nil (end_elements track.end))))))

-- the connections that begin joins are elements of the file, in its order
pub joins_from_file : (t : Topology) → IsSublist (map join_element (joins t)) (elements t)
joins_from_file t =
    rw (map_flat join_element (track_joins t) t.tracks)
    (sublist-flat_map (λ (track : Track). map join_element (track_joins t track)) track_elements t.tracks (track_joins_from_file t))

-- Counts.

count_of_end : (t : Topology) (e : TrackEnd) (own : ℕ) → length (end_sites t e own) ≡ end_count t e
count_of_end t e own = elim (has_node t e) as (λ b. length (cond b (end_site t e own ∷ []) []) ≡ cond b 1 0) [ true ↦ refl | false ↦ refl ]

count_of_track : (t : Topology) (k : ℕ) (track : Track) → length (track_sites t k track) ≡ node_count t track
count_of_track t k track =
    let begins = end_sites t track.begin (piece_number t k 0) in
    let inners = inner_sites t k track in
    let ends = end_sites t track.end (last_piece t k) in
    let numbered = enumerate_from 0 track.inner in
    let all = length-append begins (inners ++ ends) in
    let rest = length-append inners ends in
    let inner = length-map numbered (λ (ix : ℕ × Inner). inner_site t k ix.0 ix.1) ∙ length-enumerate_from 0 track.inner in
    omega (arith, all, rest, inner, count_of_end t track.begin (piece_number t k 0), count_of_end t track.end (last_piece t k))

count_from : (t : Topology) (n : ℕ) (tracks : List Track) → length (flat_map (λ (kt : ℕ × Track). track_sites t kt.0 kt.1) (enumerate_from n tracks)) ≡ sum_by
    (node_count t) tracks
count_from t n [] = refl
count_from t n (track ∷ tracks) =
    let all = length-append (track_sites t n track) (flat_map (λ (kt : ℕ × Track). track_sites t kt.0 kt.1) (enumerate_from (n + 1) tracks)) in
    let sums = sum_by-cons (node_count t) track tracks in
    omega (arith, all, sums, count_of_track t n track, count_from t (n + 1) tracks)

-- the nodes are as many as those of the tracks together
pub sites_count : (t : Topology) → sum_by (node_count t) t.tracks ≡ length (sites t)
sites_count t = sym (count_from t 0 t.tracks)

-- there are no more nodes than elements
pub sites_few : (t : Topology) → length (sites t) ≤ length (elements t)
sites_few t = let h = sublist-length (map site_element (sites t)) (elements t) (sites_from_file t) in let m = length-map (sites t) site_element in omega
    (arith, h, m)

-- the nodes of the tracks so far and of the next one are no more than the elements
pub counted_more : (t : Topology) (tracks : List Track) (i total : ℕ) (track : Track) → i < length tracks → track ≡ get_or tracks i track →
    total + sum_by (node_count t) (drop i tracks) ≡ length (sites t) → total + node_count t track ≤ length (elements t)
counted_more t tracks i total track within is so_far =
    let more = sum_by-drop_more (node_count t) tracks i track within in
    let same = ap (node_count t) is in
    omega (arith, more, same, sites_few t)

-- nodes stand at places of their own, and joins begin at places of their own

pub site_places_differ : (t : Topology) → IsResolved t → AllPairs (λ (s s' : Site). s.spot.at ≢ s'.spot.at) (sites t)
site_places_differ t resolved =
    pairs_of_map (λ (d e : Element). d.at ≢ e.at) site_element (sites t)
    (sublist-AllPairs (λ (d e : Element). d.at ≢ e.at) (map site_element (sites t)) (elements t) (sites_from_file t) resolved.places_differ)

pub join_places_differ : (t : Topology) → IsResolved t → AllPairs (λ (j j' : Join). j.at ≢ j'.at) (joins t)
join_places_differ t resolved =
    pairs_of_map (λ (d e : Element). d.at ≢ e.at) join_element (joins t)
    (sublist-AllPairs (λ (d e : Element). d.at ≢ e.at) (map join_element (joins t)) (elements t) (joins_from_file t) resolved.places_differ)
