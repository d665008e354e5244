-- The edges at a node, before it is known on which sides they lie.
use Rattle.std.specs.Prelude.{ℕ, List, [], ◌∷◌}
use Rattle.port_graph.specs.declared.sites.Meeting.{Meeting}
use Rattle.port_graph.specs.declared.sites.Meeting.TheVariants as meeting

-- the edges that meet
abbrev pub edges_met : Meeting → List ℕ
edges_met (meeting.End e) = e.0 ∷ []
edges_met (meeting.Joint first other) = first.0 ∷ other.0 ∷ []
edges_met (meeting.Switch outgoing hand track_diverges before after branch) = before.0 ∷ after.0 ∷ branch.0 ∷ []
edges_met (meeting.Crossing hand before after incoming outgoing) = before.0 ∷ after.0 ∷ incoming.0 ∷ outgoing.0 ∷ []
