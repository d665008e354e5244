-- Topologies that were worked out by hand, as examples of the definitions. Their graphs, names aside, are
-- examples of plan_core.
use Rattle.std.specs.Prelude.{ℕ, zero, suc, ◌+◌, ◌*◌, pos, Bool, true, false, List, [], ◌∷◌, map, codes, Some, None}
use Rattle.std.specs.List.{zip}
use Rattle.plan_core.specs.declared.numbers.Micro.{Micro}
use Rattle.plan_core.specs.declared.sides.Hand.{Hand}
use Rattle.plan_core.specs.declared.sides.Hand.TheVariants.{Left, Right}
use Rattle.plan_core.specs.declared.topology.Topology.{Topology}
use Rattle.plan_core.specs.declared.topology.Track.{Track}
use Rattle.plan_core.specs.declared.topology.End.{End as TrackEnd}
use Rattle.plan_core.specs.declared.topology.Inner.{Inner}
use Rattle.plan_core.specs.declared.topology.InnerKind.TheVariants.{Switch, Crossing}
use Rattle.plan_core.specs.declared.topology.Conn.{Conn}
use Rattle.plan_core.specs.declared.topology.Part.{Part}
use Rattle.plan_core.specs.declared.topology.Part.TheVariants.{Begin, End, Branch, Incoming, Outgoing}
use Rattle.plan_core.specs.Graph.{Graph, Node, Edge}
use Rattle.plan_core.specs.Graph as plain
use Rattle.plan_core.specs.declared.sides.Compass.TheVariants.{East, West}
use Rattle.plan_core.specs.declared.sides.Side.TheVariants.{Upper, Lower}

-- so many micrometres along the railway
abbrev pub at_mile : ℕ → Micro
at_mile m = record { 0 = pos m }

-- a connection to a part of the track of this number
abbrev pub conn : List ℕ → ℕ → ℕ → Part → Conn
conn id at track part = record { id = id; at = at; to = record { track = track; part = part } }

abbrev pub open_end : List ℕ → ℕ → Micro → TrackEnd
open_end id at mile = record { id = id; at = at; mile = mile; joined = None }

abbrev pub joined_end : List ℕ → ℕ → Micro → Conn → TrackEnd
joined_end id at mile c = record { id = id; at = at; mile = mile; joined = Some c }

-- a switch whose branch diverges
abbrev pub switch : List ℕ → ℕ → Micro → Bool → Hand → Conn → Inner
switch id at mile outgoing hand c = record { id = id; at = at; mile = mile; what = Switch outgoing hand false c }

-- a switch whose track diverges
abbrev pub bent_switch : List ℕ → ℕ → Micro → Bool → Hand → Conn → Inner
bent_switch id at mile outgoing hand c = record { id = id; at = at; mile = mile; what = Switch outgoing hand true c }

abbrev pub crossing : List ℕ → ℕ → Micro → Hand → Conn → Conn → Inner
crossing id at mile hand incoming outgoing = record
    { id = id; at = at; mile = mile; what = Crossing hand incoming outgoing }

abbrev pub track : List ℕ → ℕ → TrackEnd → TrackEnd → List Inner → Track
track id at begin end inner = record { id = id; at = at; begin = begin; end = end; inner = inner }

abbrev pub topology : List Track → Topology
topology tracks = record { tracks = tracks }

-- the graph with these names of nodes and of tracks
abbrev pub with_names : List (List ℕ) → List (List ℕ) → Graph → Graph
with_names nodes tracks g = record {
  nodes = map (λ (x : List ℕ × Node). record x.1 { name = x.0 }) (zip nodes g.nodes);
  edges = map (λ (x : List ℕ × Edge). record x.1 { track = x.0 }) (zip tracks g.edges);
}

-- One track, from 0 to 600 metres.

abbrev pub one_topology : Topology
one_topology = topology (track (codes "m") 31 (open_end (codes "mb") 61 (at_mile 0))
    (open_end (codes "me") 132 (at_mile 600000000)) [] ∷ [])

-- A loop on the left of a main track, from a switch at 100 metres to a switch at 500.

abbrev pub loop_topology : Topology
loop_topology = topology
    (track (codes "m") 1 (open_end (codes "mb") 2 (at_mile 0)) (open_end (codes "me") 3 (at_mile 600000000))
    (switch (codes "s1") 4 (at_mile 100000000) true Left (conn (codes "c1") 5 1 Begin)
    ∷ switch (codes "s2") 6 (at_mile 500000000) false Right (conn (codes "c2") 7 1 End) ∷ [])
    ∷ track (codes "l") 8 (joined_end (codes "lb") 9 (at_mile 100000000) (conn (codes "d1") 10 0 (Branch 0)))
    (joined_end (codes "le") 11 (at_mile 500000000) (conn (codes "d2") 12 0 (Branch 1))) [] ∷ [])

-- The same loop, listed from the main track's east end to its west end.

abbrev pub back_topology : Topology
back_topology = topology
    (track (codes "m") 1 (open_end (codes "mb") 2 (at_mile 600000000)) (open_end (codes "me") 3 (at_mile 0))
    (switch (codes "s1") 4 (at_mile 500000000) true Right (conn (codes "c1") 5 1 Begin)
    ∷ switch (codes "s2") 6 (at_mile 100000000) false Left (conn (codes "c2") 7 1 End) ∷ [])
    ∷ track (codes "l") 8 (joined_end (codes "lb") 9 (at_mile 500000000) (conn (codes "d1") 10 0 (Branch 0)))
    (joined_end (codes "le") 11 (at_mile 100000000) (conn (codes "d2") 12 0 (Branch 1))) [] ∷ [])

-- Two tracks and a crossover, from a switch at 200 metres to one at 260.

abbrev pub cross_topology : Topology
cross_topology = topology
    (track (codes "p") 1 (open_end (codes "pb") 2 (at_mile 0)) (open_end (codes "pe") 3 (at_mile 1000000000))
    (switch (codes "a") 4 (at_mile 200000000) true Left (conn (codes "ca") 5 2 Begin) ∷ [])
    ∷ track (codes "q") 6 (open_end (codes "qb") 7 (at_mile 0)) (open_end (codes "qe") 8 (at_mile 1000000000))
    (switch (codes "b") 9 (at_mile 260000000) false Left (conn (codes "cb") 10 2 End) ∷ [])
    ∷ track (codes "x") 11 (joined_end (codes "xb") 12 (at_mile 200000000) (conn (codes "xa") 13 0 (Branch 0)))
    (joined_end (codes "xe") 14 (at_mile 260000000) (conn (codes "xd") 15 1 (Branch 0))) [] ∷ [])

-- Two tracks apart from each other.

abbrev pub two_topology : Topology
two_topology = topology
    (track (codes "a") 1 (open_end (codes "ab") 2 (at_mile 0)) (open_end (codes "ae") 3 (at_mile 600000000)) []
    ∷ track (codes "b") 4 (open_end (codes "bb") 5 (at_mile 0)) (open_end (codes "be") 6 (at_mile 600000000)) [] ∷ [])

-- Two tracks and two crossovers that cross each other half-way; one of them is two joins.

abbrev pub scissors_topology : Topology
scissors_topology = topology
    (track (codes "p") 1 (open_end (codes "pb") 2 (at_mile 0)) (open_end (codes "pe") 3 (at_mile 300000000))
    (switch (codes "a1") 4 (at_mile 100000000) true Left (conn (codes "ca1") 5 2 Begin)
    ∷ switch (codes "b1") 6 (at_mile 130000000) false Right (conn (codes "cb1") 7 2 (Outgoing 0)) ∷ [])
    ∷ track (codes "q") 8 (open_end (codes "qb") 9 (at_mile 0)) (open_end (codes "qe") 10 (at_mile 300000000))
    (switch (codes "a2") 11 (at_mile 100000000) true Right (conn (codes "ca2") 12 2 (Incoming 0))
    ∷ switch (codes "b2") 13 (at_mile 130000000) false Left (conn (codes "cb2") 14 2 End) ∷ [])
    ∷ track (codes "x") 15 (joined_end (codes "xb") 16 (at_mile 100000000) (conn (codes "xa") 17 0 (Branch 0)))
    (joined_end (codes "xe") 18 (at_mile 130000000) (conn (codes "xd") 19 1 (Branch 1)))
    (crossing (codes "k") 20 (at_mile 115000000) Right (conn (codes "ki") 21 1 (Branch 0))
    (conn (codes "ko") 22 0 (Branch 1)) ∷ []) ∷ [])

-- The same two crossovers, of which the other one has the crossing on its track: there the other path leaves to the
-- left. The two
-- switches of that path lead to these parts of the track, and the crossing's connections to them.

abbrev pub falling_track : Conn → Conn → Track
falling_track incoming outgoing = track (codes "x") 15
    (joined_end (codes "xb") 16 (at_mile 100000000) (conn (codes "xa") 17 1 (Branch 0)))
    (joined_end (codes "xe") 18 (at_mile 130000000) (conn (codes "xd") 19 0 (Branch 1)))
    (crossing (codes "k") 20 (at_mile 115000000) Left incoming outgoing ∷ [])

abbrev pub left_crossing : (west east : Part) (incoming outgoing : Conn) → Topology
left_crossing west east incoming outgoing = topology
    (track (codes "p") 1 (open_end (codes "pb") 2 (at_mile 0)) (open_end (codes "pe") 3 (at_mile 300000000))
    (switch (codes "a1") 4 (at_mile 100000000) true Left (conn (codes "ca1") 5 2 west)
    ∷ switch (codes "b1") 6 (at_mile 130000000) false Right (conn (codes "cb1") 7 2 End) ∷ [])
    ∷ track (codes "q") 8 (open_end (codes "qb") 9 (at_mile 0)) (open_end (codes "qe") 10 (at_mile 300000000))
    (switch (codes "a2") 11 (at_mile 100000000) true Right (conn (codes "ca2") 12 2 Begin)
    ∷ switch (codes "b2") 13 (at_mile 130000000) false Left (conn (codes "cb2") 14 2 east) ∷ [])
    ∷ falling_track incoming outgoing ∷ [])

abbrev pub left_topology : Topology
left_topology = left_crossing (Incoming 0) (Outgoing 0) (conn (codes "ki") 21 0 (Branch 0))
    (conn (codes "ko") 22 1 (Branch 1))

-- its outgoing connection leads back west
abbrev pub backing_topology : Topology
backing_topology = left_crossing (Outgoing 0) (Incoming 0) (conn (codes "ki") 21 1 (Branch 1))
    (conn (codes "ko") 22 0 (Branch 0))

abbrev pub left_graph : Graph
left_graph = record {
  nodes = record { name = codes "pb"; mileage = pos 0; ports = plain.End 0 East }
      ∷ record { name = codes "pe"; mileage = pos 300000000; ports = plain.End 2 West }
      ∷ record { name = codes "a1"; mileage = pos 100000000; ports = plain.Switch East Upper 0 1 8 }
      ∷ record { name = codes "b1"; mileage = pos 130000000; ports = plain.Switch West Upper 2 1 7 }
      ∷ record { name = codes "qb"; mileage = pos 0; ports = plain.End 3 East }
      ∷ record { name = codes "qe"; mileage = pos 300000000; ports = plain.End 5 West }
      ∷ record { name = codes "a2"; mileage = pos 100000000; ports = plain.Switch East Lower 3 4 6 }
      ∷ record { name = codes "b2"; mileage = pos 130000000; ports = plain.Switch West Lower 5 4 9 }
      ∷ record { name = codes "k"; mileage = pos 115000000; ports = plain.Crossing 6 8 9 7 } ∷ [];
  edges = record { track = codes "p"; west = 0; east = 2 } ∷ record { track = codes "p"; west = 2; east = 3 }
      ∷ record { track = codes "p"; west = 3; east = 1 } ∷ record { track = codes "q"; west = 4; east = 6 }
      ∷ record { track = codes "q"; west = 6; east = 7 } ∷ record { track = codes "q"; west = 7; east = 5 }
      ∷ record { track = codes "x"; west = 6; east = 8 } ∷ record { track = codes "x"; west = 8; east = 3 }
      ∷ record { track = codes "ca1"; west = 2; east = 8 } ∷ record { track = codes "cb2"; west = 8; east = 7 } ∷ [];
}

-- The loop once more, at whose switches the main track turns off to the right and the loop goes straight on.

abbrev pub bent_topology : Topology
bent_topology = topology
    (track (codes "m") 1 (open_end (codes "mb") 2 (at_mile 0)) (open_end (codes "me") 3 (at_mile 600000000))
    (bent_switch (codes "s1") 4 (at_mile 100000000) true Right (conn (codes "c1") 5 1 Begin)
    ∷ bent_switch (codes "s2") 6 (at_mile 500000000) false Left (conn (codes "c2") 7 1 End) ∷ [])
    ∷ track (codes "l") 8 (joined_end (codes "lb") 9 (at_mile 100000000) (conn (codes "d1") 10 0 (Branch 0)))
    (joined_end (codes "le") 11 (at_mile 500000000) (conn (codes "d2") 12 0 (Branch 1))) [] ∷ [])

abbrev pub bent_graph : Graph
bent_graph = record {
  nodes = record { name = codes "mb"; mileage = pos 0; ports = plain.End 0 East }
      ∷ record { name = codes "me"; mileage = pos 600000000; ports = plain.End 2 West }
      ∷ record { name = codes "s1"; mileage = pos 100000000; ports = plain.Switch East Lower 0 3 1 }
      ∷ record { name = codes "s2"; mileage = pos 500000000; ports = plain.Switch West Lower 2 3 1 } ∷ [];
  edges = record { track = codes "m"; west = 0; east = 2 } ∷ record { track = codes "m"; west = 2; east = 3 }
      ∷ record { track = codes "m"; west = 3; east = 1 } ∷ record { track = codes "l"; west = 2; east = 3 } ∷ [];
}

-- A track that is joined to itself: its only edge comes back to the node where it begins.

abbrev pub ring_topology : Topology
ring_topology = topology
    (track (codes "o") 1 (joined_end (codes "ob") 2 (at_mile 0) (conn (codes "c1") 3 0 End))
    (joined_end (codes "oe") 4 (at_mile 500000000) (conn (codes "c2") 5 0 Begin)) [] ∷ [])

-- A station: two tracks, a crossover, and a loop beside the upper track.

abbrev pub station_topology : Topology
station_topology = topology
    (track (codes "p") 1 (open_end (codes "pb") 2 (at_mile 0)) (open_end (codes "pe") 3 (at_mile 1000000000))
    (switch (codes "a") 4 (at_mile 200000000) true Left (conn (codes "ca") 5 2 Begin) ∷ [])
    ∷ track (codes "q") 6 (open_end (codes "qb") 7 (at_mile 0)) (open_end (codes "qe") 8 (at_mile 1000000000))
    (switch (codes "b") 9 (at_mile 260000000) false Left (conn (codes "cb") 10 2 End)
    ∷ switch (codes "c") 11 (at_mile 400000000) true Left (conn (codes "cc") 12 3 Begin)
    ∷ switch (codes "d") 13 (at_mile 800000000) false Right (conn (codes "cd") 14 3 End) ∷ [])
    ∷ track (codes "x") 15 (joined_end (codes "xb") 16 (at_mile 200000000) (conn (codes "xa") 17 0 (Branch 0)))
    (joined_end (codes "xe") 18 (at_mile 260000000) (conn (codes "xd") 19 1 (Branch 0))) []
    ∷ track (codes "l") 20 (joined_end (codes "lb") 21 (at_mile 400000000) (conn (codes "ld") 22 1 (Branch 1)))
    (joined_end (codes "le") 23 (at_mile 800000000) (conn (codes "lf") 24 1 (Branch 2))) [] ∷ [])

-- Two tracks that are joined end to end; the end that is listed first is given first.

abbrev pub joint_topology : Topology
joint_topology = topology
    (track (codes "a") 1 (open_end (codes "ab") 2 (at_mile 0))
    (joined_end (codes "ae") 3 (at_mile 600000000) (conn (codes "c1") 4 1 Begin)) []
    ∷ track (codes "b") 5 (joined_end (codes "bb") 6 (at_mile 610000000) (conn (codes "c2") 7 0 End))
    (open_end (codes "be") 8 (at_mile 900000000)) [] ∷ [])

-- the joint has the name and the mileage of the first end
abbrev pub joint_graph : Graph
joint_graph = record {
  nodes = record { name = codes "ab"; mileage = pos 0; ports = plain.End 0 East }
      ∷ record { name = codes "ae"; mileage = pos 600000000; ports = plain.Joint 0 1 }
      ∷ record { name = codes "be"; mileage = pos 900000000; ports = plain.End 1 West } ∷ [];
  edges = record { track = codes "a"; west = 0; east = 1 } ∷ record { track = codes "b"; west = 1; east = 2 } ∷ [];
}

-- So many tracks apart from each other, of a kilometre each, with file places from a number on; and a main track with
-- so many loops, each
-- from a switch to the next one a kilometre further on. The ids don't matter for how many nodes and edges there are.

abbrev pub open_tracks : ℕ → ℕ → List Track
open_tracks zero at = []
open_tracks (suc n) at = track [] at (open_end [] (at + 1) (at_mile 0)) (open_end [] (at + 2) (at_mile 1000000000)) []
    ∷ open_tracks n (at + 3)

abbrev pub loop_switches : ℕ → ℕ → List Inner
loop_switches zero k = []
loop_switches (suc n) k =
    switch [] (10000 + 4 * k) (at_mile ((2 * k + 1) * 1000000000)) true Left (conn [] (10001 + 4 * k) (k + 1) Begin)
    ∷ switch [] (10002 + 4 * k) (at_mile ((2 * k + 2) * 1000000000)) false Right (conn [] (10003 + 4 * k) (k + 1) End)
    ∷ loop_switches n (k + 1)

abbrev pub loop_tracks : ℕ → ℕ → List Track
loop_tracks zero k = []
loop_tracks (suc n) k =
    track [] (20000 + 5 * k) (joined_end [] (20001 + 5 * k) (at_mile ((2 * k + 1) * 1000000000))
    (conn [] (20002 + 5 * k) 0 (Branch (2 * k))))
    (joined_end [] (20003 + 5 * k) (at_mile ((2 * k + 2) * 1000000000))
    (conn [] (20004 + 5 * k) 0 (Branch (2 * k + 1)))) []
    ∷ loop_tracks n (k + 1)

abbrev pub tracks_with_loops : ℕ → List Track
tracks_with_loops n = track [] 0 (open_end [] 1 (at_mile 0)) (open_end [] 2 (at_mile 900000000000)) (loop_switches n 0)
    ∷ loop_tracks n 0
