-- What a topology is that was read from a file: each element has an id and a file place of its own,
-- joins lead both ways, and mileages stay in a range. A topology is built by resolving a file's rows, and
-- the track graph is built from one that is so.
-- A topology has tracks in file order, each with its begin, its end, and its switches and crossings (its
-- inner elements) from begin to end.
use Rattle.std.specs.Prelude.{◌≡◌, ◌≢◌, ℕ, ◌^◌, ◌*◌, ◌<◌, ◌≤◌, ◌⊎◌, Bool, nat_lt, ◌&&◌, ◌||◌, ℤ, pos, neg_ℤ, ◌<ℤ◌}
use Rattle.std.specs.Prelude.{Option, Some, None, List, [], ◌∷◌, ◌++◌, length, map, flat_map, slice_get}
use Rattle.std.specs.Prelude.{option_and_then, option_to_list, All, AllPairs, chars}
use Rattle.plan_core.specs.declared.limits.TheConstants.{MAX_ID_BYTES}
use Rattle.plan_core.specs.declared.topology.Topology.{Topology}
use Rattle.plan_core.specs.declared.topology.Track.{Track}
use Rattle.plan_core.specs.declared.topology.End.{End as TrackEnd}
use Rattle.plan_core.specs.declared.topology.Inner.{Inner}
use Rattle.plan_core.specs.declared.topology.InnerKind.{InnerKind}
use Rattle.plan_core.specs.declared.topology.InnerKind.TheVariants.{Switch, Crossing}
use Rattle.plan_core.specs.declared.topology.Conn.{Conn}
use Rattle.plan_core.specs.declared.topology.Place.{Place}
use Rattle.plan_core.specs.declared.topology.Part.{Part}
use Rattle.plan_core.specs.declared.topology.Part.TheVariants.{Begin, End, Branch, Incoming, Outgoing}

-- Elements: tracks, their begins and ends, switches, crossings and connections.

-- an element of the file: its id in UTF-8, and the byte at which its start tag stands
pub record Element : Type 0 where
  pub id : List ℕ
  pub at : ℕ

abbrev pub conn_element : Conn → Element
conn_element c = record { id = c.id; at = c.at }

abbrev pub end_element : TrackEnd → Element
end_element e = record { id = e.id; at = e.at }

abbrev pub inner_element : Inner → Element
inner_element x = record { id = x.id; at = x.at }

abbrev pub track_element : Track → Element
track_element track = record { id = track.id; at = track.at }

-- the connections of a switch or a crossing
abbrev pub connections : InnerKind → List Conn
connections (Switch outgoing hand track_diverges conn) = conn ∷ []
connections (Crossing hand incoming outgoing) = incoming ∷ outgoing ∷ []

-- a begin or an end with its connection, if any
abbrev pub end_elements : TrackEnd → List Element
end_elements e = end_element e ∷ map conn_element (option_to_list e.joined)

-- a switch or a crossing with its connections
abbrev pub inner_elements : Inner → List Element
inner_elements x = inner_element x ∷ map conn_element (connections x.what)

-- a track with all that stands on it, from begin to end
abbrev pub track_elements : Track → List Element
track_elements track =
    track_element track ∷ (end_elements track.begin ++ (flat_map inner_elements track.inner ++ end_elements track.end))

-- the elements of a topology: its tracks, their begins and ends, switches, crossings and connections
abbrev pub elements : Topology → List Element
elements t = flat_map track_elements t.tracks

-- no control character, no space and no no-break space: none of U+0000 to U+0020 and U+007F to U+00A0
abbrev pub IsIdCharacter : ℕ → Type 0
IsIdCharacter c = (32 < c) × ((c < 127) ⊎ (160 < c))

-- the same as a test
abbrev pub is_id_character : ℕ → Bool
is_id_character c = nat_lt 32 c && (nat_lt c 127 || nat_lt 160 c)

-- an id as a file may have it
pub record IsId (id : List ℕ) : Type 0 where
  pub some : 1 ≤ length id
  pub short : length id ≤ MAX_ID_BYTES
  pub characters : All IsIdCharacter (chars id)

-- Joins.

abbrev pub branch_of : InnerKind → Option Conn
branch_of (Switch outgoing hand track_diverges conn) = Some conn
branch_of (Crossing hand incoming outgoing) = None

abbrev pub incoming_of : InnerKind → Option Conn
incoming_of (Switch outgoing hand track_diverges conn) = None
incoming_of (Crossing hand incoming outgoing) = Some incoming

abbrev pub outgoing_of : InnerKind → Option Conn
outgoing_of (Switch outgoing hand track_diverges conn) = None
outgoing_of (Crossing hand incoming outgoing) = Some outgoing

-- the connection at a part of a track, if there is one
abbrev pub connection_of : Track → Part → Option Conn
connection_of track Begin = track.begin.joined
connection_of track End = track.end.joined
connection_of track (Branch i) = option_and_then (λ (x : Inner). branch_of x.what) (slice_get track.inner i)
connection_of track (Incoming i) = option_and_then (λ (x : Inner). incoming_of x.what) (slice_get track.inner i)
connection_of track (Outgoing i) = option_and_then (λ (x : Inner). outgoing_of x.what) (slice_get track.inner i)

-- the connection at a place, if there is one
abbrev pub connection : Topology → Place → Option Conn
connection t p = option_and_then (λ (track : Track). connection_of track p.part) (slice_get t.tracks p.track)

-- each connection leads to another place, and the connection there leads back
pub record LeadsBothWays (t : Topology) : Type 0 where
  pub back : (p : Place) (c : Conn) → connection t p ≡ Some c → (other : Conn) × (connection t c.to ≡ Some other)
      × (other.to ≡ p)
  pub elsewhere : (p : Place) (c : Conn) → connection t p ≡ Some c → c.to ≢ p

-- Mileages, in micrometres.

-- three million kilometres
abbrev pub farthest : ℤ
farthest = pos (3000000000 * 1000000)

-- nearer than that, either way
abbrev pub IsMileage : ℤ → Type 0
IsMileage m = (neg_ℤ farthest <ℤ m) × (m <ℤ farthest)

-- the mileages along a track, from begin to end
abbrev pub track_miles : Track → List ℤ
track_miles track = track.begin.mile.0 ∷ (map (λ (x : Inner). x.mile.0) track.inner ++ track.end.mile.0 ∷ [])

-- what every topology is that was resolved from a file
pub record IsResolved (t : Topology) : Type 0 where
  pub few : length (elements t) < 2 ^ 32
  pub ids : All (λ (e : Element). IsId e.id) (elements t)
  pub ids_differ : AllPairs (λ (d e : Element). d.id ≢ e.id) (elements t)
  pub places_differ : AllPairs (λ (d e : Element). d.at ≢ e.at) (elements t)
  pub joins : LeadsBothWays t
  pub miles : All IsMileage (flat_map track_miles t.tracks)
