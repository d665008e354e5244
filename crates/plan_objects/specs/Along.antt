-- Where along its edge a signal stands.
use Rattle.std.specs.Prelude.{◌⊎◌, ℤ, ◌≤ℤ◌}
use Rattle.plan_core.specs.declared.topology.Topology.{Topology}
use Rattle.plan_core.specs.declared.topology.Track.{Track}
use Rattle.plan_core.specs.Graph.{Graph, edge, mileage}
use Rattle.port_graph.specs.Spots.{leads_to}
use Rattle.plan_objects.specs.declared.places.SignalPlace.{SignalPlace}

-- the mileage lies between two others, whichever of them is less, or is one of them
abbrev pub LiesBetween : ℤ → ℤ → ℤ → Type 0
LiesBetween a b z = ((a ≤ℤ z) × (z ≤ℤ b)) ⊎ ((b ≤ℤ z) × (z ≤ℤ a))

-- the mileage lies between those of the nodes to which the track's two ends lead: an open end is a node, of two ends
-- that are joined to each other the one listed first is, and any other end leads to its switch or crossing
abbrev pub IsAlong : Topology → Track → ℤ → Type 0
IsAlong t track z = LiesBetween (leads_to t track.begin).mile.0 (leads_to t track.end).mile.0 z

-- the signal stands between the west node and the east node of its edge, or at one of them
pub record LiesOnItsEdge (g : Graph) (p : SignalPlace) : Type 0 where
  pub west : mileage g (edge g p.edge.0).west ≤ℤ p.mile.0
  pub east : p.mile.0 ≤ℤ mileage g (edge g p.edge.0).east
