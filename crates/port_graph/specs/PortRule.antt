-- Which edge has which port at a node, by the sides on which the edges lie.
use Rattle.std.specs.Prelude.{ℕ, if◌then◌else◌, Option, Some, None}
use Rattle.plan_core.specs.declared.sides.Compass.{Compass}
use Rattle.plan_core.specs.declared.sides.Compass.TheVariants.{East, West}
use Rattle.plan_core.specs.declared.sides.Side.{Side}
use Rattle.plan_core.specs.declared.sides.Side.TheVariants.{Upper, Lower}
use Rattle.plan_core.specs.declared.sides.Hand.{Hand}
use Rattle.plan_core.specs.declared.sides.Hand.TheVariants.{Left, Right}
use Rattle.plan_core.specs.Graph.{Ports, End, Joint, Switch, Crossing}
use Rattle.port_graph.specs.declared.sites.Meeting.{Meeting}
use Rattle.port_graph.specs.declared.sites.Meeting.TheVariants as meeting

-- two edges lie on different sides of a joint
abbrev pub joint_ports : (first other : ℕ) → Compass → Compass → Option Ports
joint_ports first other West East = Some (Joint first other)
joint_ports first other East West = Some (Joint other first)
joint_ports first other _ _ = None

-- the side to which a hand points: left is the upper side where a switch's legs lie east of it, and
-- the lower side where they lie west
abbrev pub side_of_hand : Compass → Hand → Side
side_of_hand East Left = Upper
side_of_hand East Right = Lower
side_of_hand West Left = Lower
side_of_hand West Right = Upper

-- a switch's trunk lies opposite to both its legs; the hand is that of the diverging leg
abbrev pub switch_ports : Hand → (trunk straight diverging : ℕ) → Compass → Compass → Compass → Option Ports
switch_ports hand trunk straight diverging West East East =
    Some (Switch East (side_of_hand East hand) trunk straight diverging)
switch_ports hand trunk straight diverging East West West =
    Some (Switch West (side_of_hand West hand) trunk straight diverging)
switch_ports hand trunk straight diverging _ _ _ = None

-- two paths that cross, each by its west and its east edge
abbrev pub ports_of_paths : (rising_west rising_east falling_west falling_east : ℕ) → Ports
ports_of_paths rising_west rising_east falling_west falling_east =
    Crossing falling_west rising_west rising_east falling_east

-- where the other path leaves a crossing's own track to the left it is the rising one, to the right its
-- own track is; of each path the west edge stands before the east one
abbrev pub paths_crossed : Hand → (own_west own_east other_west other_east : ℕ) → Ports
paths_crossed Left own_west own_east other_west other_east = ports_of_paths other_west other_east own_west own_east
paths_crossed Right own_west own_east other_west other_east = ports_of_paths own_west own_east other_west other_east

-- a crossing's own track is one path, and the other goes from the incoming to the outgoing connection. Each
-- has an edge on each side, and the outgoing edge lies on the side of the track's piece after the crossing
abbrev pub crossing_ports : Hand → (before after incoming outgoing : ℕ) → Compass → Compass → Compass → Compass →
    Option Ports
crossing_ports hand before after incoming outgoing West East West East =
    Some (paths_crossed hand before after incoming outgoing)
crossing_ports hand before after incoming outgoing East West East West =
    Some (paths_crossed hand after before outgoing incoming)
crossing_ports hand before after incoming outgoing _ _ _ _ = None

-- the ports of what meets at a node at which the edges lie so, or none where they don't lie as they must. A
-- switch's trunk is the track's piece before it where the branch is outgoing, and else the piece after it;
-- the track's course says whether the other piece or the branch diverges
abbrev pub ports_of : (ℕ → Compass) → Meeting → Option Ports
ports_of side (meeting.End e) = Some (End e.0 (side e.0))
ports_of side (meeting.Joint first other) = joint_ports first.0 other.0 (side first.0) (side other.0)
ports_of side (meeting.Switch outgoing hand track_diverges before after branch) =
    let trunk = (if outgoing then before.0 else after.0) in
    let leg = (if outgoing then after.0 else before.0) in
    let straight = (if track_diverges then branch.0 else leg) in
    let diverging = (if track_diverges then leg else branch.0) in
    switch_ports hand trunk straight diverging (side trunk) (side straight) (side diverging)
ports_of side (meeting.Crossing hand before after incoming outgoing) =
    crossing_ports hand before.0 after.0 incoming.0 outgoing.0 (side before.0) (side after.0) (side incoming.0)
    (side outgoing.0)
