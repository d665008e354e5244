-- The track graph as plain lists: a node or an edge is named by its place in its list, from 0.
--
-- An end of the railway is an end node, with one edge. Where two tracks are joined end to end there is
-- a joint. A switch splits its trunk into two legs, the straight one and the diverging one. At a
-- crossing two paths cross: the rising one goes from west lower to east upper, the falling one from
-- west upper to east lower.
-- Which edge is to be above which is not part of the graph: the laws are given it as a test of two edges,
-- `above`.
use Rattle.std.specs.Prelude.{◌≡◌, ◌≢◌, ℕ, ℤ, pos, ◌⊎◌, ◌<◌, ◌<ℤ◌, List, [], ◌∷◌, length, slice_index_or, All}
use Rattle.std.specs.Prelude.{AllPairs, Contains}
use Rattle.std.specs.Int.{int_max, int_min}
use Rattle.plan_core.specs.declared.sides.Compass.{Compass}
use Rattle.plan_core.specs.declared.sides.Compass.TheVariants.{East, West}
use Rattle.plan_core.specs.declared.sides.Side.{Side}

-- the edges that meet at a node, each by its port there; which ports there are is the node's kind. An
-- end's side is where its edge lies, a switch's legs where its legs lie. A switch's branch is the side of
-- its diverging leg, also where that leg is its own track
pub data Ports : Type 0 where
  End : (edge : ℕ) (side : Compass) → Ports
  Joint : (west east : ℕ) → Ports
  Switch : (legs : Compass) (branch : Side) (trunk straight diverging : ℕ) → Ports
  Crossing : (west_upper west_lower east_upper east_lower : ℕ) → Ports

-- a node: its name in UTF-8, and its mileage in micrometres
pub record Node : Type 0 where
  pub name : List ℕ
  pub mileage : ℤ
  pub ports : Ports

-- an edge: the name of its track in UTF-8, and its nodes of smaller and of greater mileage
pub record Edge : Type 0 where
  pub track : List ℕ
  pub west : ℕ
  pub east : ℕ

-- a list of nodes and a list of edges
pub record Graph : Type 0 where
  pub nodes : List Node
  pub edges : List Edge

-- the node past the end of a list; no definition asks for it in a track graph
abbrev pub no_node : Node
no_node = record { name = []; mileage = pos 0; ports = End 0 East }

-- the edge past the end of a list; no definition asks for it in a track graph
abbrev pub no_edge : Edge
no_edge = record { track = []; west = 0; east = 0 }

-- the node of this number
abbrev pub node : Graph → ℕ → Node
node g n = slice_index_or g.nodes n no_node

-- the edge of this number
abbrev pub edge : Graph → ℕ → Edge
edge g e = slice_index_or g.edges e no_edge

-- the mileage of the node of this number, in micrometres
abbrev pub mileage : Graph → ℕ → ℤ
mileage g n = (node g n).mileage

-- the edge has the node at one of its two ends
abbrev pub IsEndOf : Graph → ℕ → ℕ → Type 0
IsEndOf g e n = ((edge g e).west ≡ n) ⊎ ((edge g e).east ≡ n)

-- the greater of the two west mileages is below the smaller of the two east mileages; edges that only meet
-- in a mileage don't overlap
abbrev pub Overlap : Graph → ℕ → ℕ → Type 0
Overlap g e f =
    int_max (mileage g (edge g e).west) (mileage g (edge g f).west)
    <ℤ int_min (mileage g (edge g e).east) (mileage g (edge g f).east)

-- the edges of the ports
abbrev pub edges_of : Ports → List ℕ
edges_of (End e side) = e ∷ []
edges_of (Joint west east) = west ∷ east ∷ []
edges_of (Switch legs branch trunk straight diverging) = trunk ∷ straight ∷ diverging ∷ []
edges_of (Crossing west_upper west_lower east_upper east_lower) = west_upper ∷ west_lower ∷ east_upper ∷ east_lower ∷ []

-- the edge lies east of the node, or west of it
abbrev pub LiesOn : Compass → Graph → ℕ → ℕ → Type 0
LiesOn East g n e = (edge g e).west ≡ n
LiesOn West g n e = (edge g e).east ≡ n

-- east for west, and west for east
abbrev pub opposite : Compass → Compass
opposite East = West
opposite West = East

-- each edge lies on that side of the node on which its port is
abbrev pub AreAt : Graph → ℕ → Ports → Type 0
AreAt g n (End e side) = LiesOn side g n e
AreAt g n (Joint west east) = LiesOn West g n west × LiesOn East g n east
AreAt g n (Switch legs branch trunk straight diverging) =
    LiesOn (opposite legs) g n trunk × LiesOn legs g n straight × LiesOn legs g n diverging
AreAt g n (Crossing west_upper west_lower east_upper east_lower) =
    LiesOn West g n west_upper × LiesOn West g n west_lower × LiesOn East g n east_upper × LiesOn East g n east_lower

-- the edge is one of the node's ports
abbrev pub IsPortOf : Graph → ℕ → ℕ → Type 0
IsPortOf g n e = Contains (edges_of (node g n).ports) e

-- the node's ports: each has an edge of its own, which is there and lies as the port says
pub record ArePortsOf (g : Graph) (n : ℕ) (ports : Ports) : Type 0 where
  pub there : All (λ e. e < length g.edges) (edges_of ports)
  pub apart : AllPairs (λ e f. e ≢ f) (edges_of ports)
  pub placed : AreAt g n ports

-- what every track graph has: an edge joins two nodes that are there, the west one of smaller mileage,
-- and is a port of both; a node's ports are so
pub record IsTrackGraph (g : Graph) : Type 0 where
  pub nodes : (e : ℕ) → e < length g.edges → ((edge g e).west < length g.nodes) × ((edge g e).east < length g.nodes)
  pub forward : (e : ℕ) → e < length g.edges → mileage g (edge g e).west <ℤ mileage g (edge g e).east
  pub met : (e : ℕ) → e < length g.edges → IsPortOf g (edge g e).west e × IsPortOf g (edge g e).east e
  pub ports : (n : ℕ) → n < length g.nodes → ArePortsOf g n (node g n).ports
