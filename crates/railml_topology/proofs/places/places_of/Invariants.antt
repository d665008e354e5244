use Rattle.railml_topology.proofs.PlaceLemmas.{PlacedUpTo}
use Rattle.railml_topology.proofs.places.places_of.Given as goal

abbrev pub invariant-loop-track : goal.invariant-loop-track
invariant-loop-track l = PlacedUpTo l.rows l.layouts l.track l.table.items
