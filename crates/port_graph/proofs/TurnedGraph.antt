-- The track graph of a station seen from its other end.
use Rattle.std.proofs.Common.{◌≡◌, ◌≢◌, ℕ, ◌<◌, ℤ, Bool, true, false, cond, eqb, eq-eqb, List, length, map, get_or, Option, Some, None, refl, sym, ap, ◌∙◌}
use Rattle.std.proofs.Common.{subst, inl, inr, arith}
use Rattle.std.specs.Prelude.{◌⊎◌, ◌<ℤ◌, int_lt, neg_ℤ, slice_get, All, Contains}
use Rattle.std.specs.Option.{option_map}
use Rattle.std.specs.Ordering.{int_cmp, MatchOrdering}
use Rattle.std.specs.declared.cmp.Ordering.TheVariants.{Less, Equal, Greater}
use Rattle.std.specs.Cmp.{int_ranks}
use Rattle.std.proofs.Math.IntN.{neg_ℤ-neg_ℤ}
use Rattle.std.proofs.lemmas.Bool.{ne_eqb}
use Rattle.std.proofs.lemmas.List.{length-map, get_or-map}
use Rattle.std.proofs.lemmas.Option.{slice_get-map, same_Some}
use Rattle.plan_core.specs.declared.numbers.Micro.{Micro}
use Rattle.plan_core.specs.declared.sides.Compass.{Compass}
use Rattle.plan_core.specs.declared.sides.Compass.TheVariants.{East, West}
use Rattle.plan_core.specs.declared.sides.Hand.{Hand}
use Rattle.plan_core.specs.declared.sides.Hand.TheVariants.{Left, Right}
use Rattle.plan_core.specs.declared.topology.Topology.{Topology}
use Rattle.plan_core.specs.Graph.{Edge, End, no_edge, opposite}
use Rattle.port_graph.specs.declared.runs.Spot.{Spot}
use Rattle.port_graph.specs.declared.runs.Run.{Run}
use Rattle.port_graph.specs.declared.runs.Join.{Join}
use Rattle.port_graph.specs.declared.sites.Site.{Site}
use Rattle.port_graph.specs.declared.sites.Meeting.{Meeting}
use Rattle.port_graph.specs.declared.sites.Meeting.TheVariants as meeting
use Rattle.port_graph.specs.Runs.{pieces_of_tracks, joins}
use Rattle.port_graph.specs.Sites.{node_number}
use Rattle.port_graph.specs.PortRule.{ports_of, joint_ports, switch_ports, crossing_ports}
use Rattle.port_graph.specs.Sides.{edges_met}
use Rattle.port_graph.specs.TopologyGraph.{west_of, east_of, edge_of, IsRun, AreEdgesOf, side_at, IsForward, AllForward}
use Rattle.port_graph.specs.Turned.{turned_mile, turned_topology, turned_ports, turned_edge}
use Rattle.port_graph.proofs.MileLemmas.{less_true, less_false, neg_less}
use Rattle.port_graph.proofs.TurnedTopology.{turned_spot, turned_run, turned_join, turned_site, pieces-turned, joins-turned, join_number-turned}
use Rattle.port_graph.proofs.TurnedTopology.{edge_count-turned, node_number-turned}

-- ---- turned twice, a thing is as it was

pub mile_twice : (m : Micro) → turned_mile (turned_mile m) ≡ m
mile_twice m = ap (λ (z : ℤ). micro z) (neg_ℤ-neg_ℤ m.0)
  where
    micro : ℤ → Micro
    micro z = record { 0 = z }

pub spot_twice : (s : Spot) → turned_spot (turned_spot s) ≡ s
spot_twice s = ap (λ (m : Micro). spot m) (mile_twice s.mile)
  where
    spot : Micro → Spot
    spot m = record { at = s.at; mile = m }

pub run_twice : (r : Run) → turned_run (turned_run r) ≡ r
run_twice r = ap (λ (s : Spot). run s (turned_spot (turned_spot r.to))) (spot_twice r.from) ∙ ap (λ (s : Spot). run r.from s) (spot_twice r.to)
  where
    run : Spot → Spot → Run
    run from to = record { track = r.track; from = from; to = to }

pub join_twice : (j : Join) → turned_join (turned_join j) ≡ j
join_twice j = ap (λ (r : Run). join r) (run_twice j.run)
  where
    join : Run → Join
    join r = record { at = j.at; run = r }

pub site_twice : (s : Site) → turned_site (turned_site s) ≡ s
site_twice s = ap (λ (p : Spot). site p) (spot_twice s.spot)
  where
    site : Spot → Site
    site p = record { id = s.id; spot = p; meets = s.meets }

-- what stands in a turned list stands, turned, in the list
pub contains_back : {X : Type 0} (f : X → X) (twice : (x : X) → f (f x) ≡ x) (xs : List X) (x : X) → Contains (map f xs) x → Contains xs (f x)
contains_back {X} f twice xs x there =
    let within : there.0 < length xs = subst (λ (n : ℕ). there.0 < n) (length-map xs f) there.1 in
    let read : f (get_or xs there.0 (f x)) ≡ x = sym (get_or-map f xs there.0 (f x) x within) ∙ there.2 in
    (there.0, within, sym (twice (get_or xs there.0 (f x))) ∙ ap f read)

pub some_back : {X : Type 0} (f : X → X) (twice : (x : X) → f (f x) ≡ x) (o : Option X) (y : X) → option_map f o ≡ Some y → o ≡ Some (f y)
some_back f twice None y is = cc
some_back {X} f twice (Some x) y is = ap (λ (z : X). Some z) (sym (twice x) ∙ ap f (same_Some (f x) y is))

-- ---- edges

pub west_of-turned : (r : Run) → IsForward r → west_of (turned_run r) ≡ turned_spot (east_of r)
west_of-turned r forward =
    let a : ℤ = r.from.mile.0 in
    let b : ℤ = r.to.mile.0 in
    elim (int_cmp a b) as (λ o. MatchOrdering o (a <ℤ b) (a ≡ b) (b <ℤ a) → cond (int_lt (neg_ℤ a) (neg_ℤ b)) (turned_spot r.from) (turned_spot r.to)
    ≡ turned_spot (cond (int_lt a b) r.to r.from)) [
      | Less ↦ λ less.
          ap (λ (t : Bool). cond t (turned_spot r.from) (turned_spot r.to)) (less_false (neg_ℤ b) (neg_ℤ a) (neg_less a b less))
          ∙ sym (ap (λ (t : Bool). turned_spot (cond t r.to r.from)) (less_true a b less))
      | Equal ↦ λ same. absurd (forward same)
      | Greater ↦ λ more.
          ap (λ (t : Bool). cond t (turned_spot r.from) (turned_spot r.to)) (less_true (neg_ℤ a) (neg_ℤ b) (neg_less b a more))
          ∙ sym (ap (λ (t : Bool). turned_spot (cond t r.to r.from)) (less_false b a more))
    ] (int_ranks a b)

pub east_of-turned : (r : Run) → IsForward r → east_of (turned_run r) ≡ turned_spot (west_of r)
east_of-turned r forward =
    let a : ℤ = r.from.mile.0 in
    let b : ℤ = r.to.mile.0 in
    elim (int_cmp a b) as (λ o. MatchOrdering o (a <ℤ b) (a ≡ b) (b <ℤ a) → cond (int_lt (neg_ℤ a) (neg_ℤ b)) (turned_spot r.to) (turned_spot r.from)
    ≡ turned_spot (cond (int_lt a b) r.from r.to)) [
      | Less ↦ λ less.
          ap (λ (t : Bool). cond t (turned_spot r.to) (turned_spot r.from)) (less_false (neg_ℤ b) (neg_ℤ a) (neg_less a b less))
          ∙ sym (ap (λ (t : Bool). turned_spot (cond t r.from r.to)) (less_true a b less))
      | Equal ↦ λ same. absurd (forward same)
      | Greater ↦ λ more.
          ap (λ (t : Bool). cond t (turned_spot r.to) (turned_spot r.from)) (less_true (neg_ℤ a) (neg_ℤ b) (neg_less b a more))
          ∙ sym (ap (λ (t : Bool). turned_spot (cond t r.from r.to)) (less_false b a more))
    ] (int_ranks a b)

pub edge_of-turned : (t : Topology) (r : Run) → IsForward r → edge_of (turned_topology t) (turned_run r) ≡ turned_edge (edge_of t r)
edge_of-turned t r forward =
    ap (λ (s : Spot). between (node_number (turned_topology t) s.at) (node_number (turned_topology t) (east_of (turned_run r)).at)) (west_of-turned r forward)
    ∙ ap (λ (s : Spot). between (node_number (turned_topology t) (east_of r).at) (node_number (turned_topology t) s.at)) (east_of-turned r forward)
    ∙ ap (λ (n : ℕ). between n (node_number (turned_topology t) (west_of r).at)) (node_number-turned t (east_of r).at)
    ∙ ap (λ (n : ℕ). between (node_number t (east_of r).at) n) (node_number-turned t (west_of r).at)
  where
    between : ℕ → ℕ → Edge
    between west east = record { track = r.track; west = west; east = east }

-- a run of the turned topology is, turned, a run of the topology, of the same number
pub IsRun-turned : (t : Topology) (e : ℕ) (r : Run) → IsRun (turned_topology t) e r → IsRun t e (turned_run r)
IsRun-turned t e r (inl piece) =
    inl (some_back turned_run run_twice (slice_get (pieces_of_tracks t) e) r
    (sym (slice_get-map turned_run (pieces_of_tracks t) e) ∙ ap (λ (l : List Run). slice_get l e) (sym (pieces-turned t)) ∙ piece))
IsRun-turned t e r (inr join) =
    let there = contains_back turned_join join_twice (joins t) join.0 (subst (λ (l : List Join). Contains l join.0) (joins-turned t) join.1) in
    inr (turned_join join.0, there, sym (join_number-turned t join.0.at) ∙ join.2, ap turned_run join.3)

pub AreEdgesOf-turned : (t : Topology) (edges : List Edge) → AllForward t → AreEdgesOf t edges → AreEdgesOf (turned_topology t) (map turned_edge edges)
AreEdgesOf-turned t edges forward are = record {
  count = length-map edges turned_edge ∙ are.count ∙ sym (edge_count-turned t);
  each = λ e r run.
      let run' = IsRun-turned t e r run in
      slice_get-map turned_edge edges e
      ∙ ap (λ (o : Option Edge). option_map turned_edge o) (are.each e (turned_run r) run')
      ∙ ap (λ (x : Edge). Some x) (sym (edge_of-turned t (turned_run r) (forward e (turned_run r) run')) ∙ ap (edge_of (turned_topology t)) (run_twice r));
}

-- ---- ports

joint-turned : (first other : ℕ) (a b : Compass) → joint_ports first other (opposite a) (opposite b) ≡ option_map turned_ports (joint_ports first other a b)
joint-turned first other West East = refl
joint-turned first other East West = refl
joint-turned first other West West = refl
joint-turned first other East East = refl

switch-turned : (hand : Hand) (t s d : ℕ) (a b c : Compass) → switch_ports hand t s d (opposite a) (opposite b) (opposite c) ≡ option_map turned_ports
    (switch_ports hand t s d a b c)
switch-turned Left t s d West East East = refl
switch-turned Right t s d West East East = refl
switch-turned Left t s d East West West = refl
switch-turned Right t s d East West West = refl
switch-turned hand t s d West West West = refl
switch-turned hand t s d West West East = refl
switch-turned hand t s d West East West = refl
switch-turned hand t s d East East East = refl
switch-turned hand t s d East East West = refl
switch-turned hand t s d East West East = refl

crossing-turned : (hand : Hand) (b a i o : ℕ) (p q r s : Compass) →
    crossing_ports hand b a i o (opposite p) (opposite q) (opposite r) (opposite s) ≡ option_map turned_ports (crossing_ports hand b a i o p q r s)
crossing-turned Left b a i o West East West East = refl
crossing-turned Right b a i o West East West East = refl
crossing-turned Left b a i o East West East West = refl
crossing-turned Right b a i o East West East West = refl
crossing-turned hand b a i o West West r s = refl
crossing-turned hand b a i o East East r s = refl
crossing-turned hand b a i o West East West West = refl
crossing-turned hand b a i o West East East s = refl
crossing-turned hand b a i o East West East East = refl
crossing-turned hand b a i o East West West s = refl

switch_flips : (hand : Hand) (t s d : ℕ) (side side' : ℕ → Compass) → side' t ≡ opposite (side t) → side' s ≡ opposite (side s) → side' d ≡ opposite (side d) →
    switch_ports hand t s d (side' t) (side' s) (side' d) ≡ option_map turned_ports (switch_ports hand t s d (side t) (side s) (side d))
switch_flips hand t s d side side' p q r =
    ap (λ (c : Compass). switch_ports hand t s d c (side' s) (side' d)) p
    ∙ ap (λ (c : Compass). switch_ports hand t s d (opposite (side t)) c (side' d)) q
    ∙ ap (λ (c : Compass). switch_ports hand t s d (opposite (side t)) (opposite (side s)) c) r
    ∙ switch-turned hand t s d (side t) (side s) (side d)

-- where each edge that meets lies on the opposite side, the ports are the turned ones, if there are any
pub ports_of-turned : (side side' : ℕ → Compass) (meets : Meeting) → All (λ (e : ℕ). side' e ≡ opposite (side e)) (edges_met meets) →
    ports_of side' meets ≡ option_map turned_ports (ports_of side meets)
ports_of-turned side side' (meeting.End e) flips = ap (λ (c : Compass). Some (End e.0 c)) (flips 0 0 (omega arith))
ports_of-turned side side' (meeting.Joint first other) flips =
    ap (λ (c : Compass). joint_ports first.0 other.0 c (side' other.0)) (flips 0 0 (omega arith))
    ∙ ap (λ (c : Compass). joint_ports first.0 other.0 (opposite (side first.0)) c) (flips 1 0 (omega arith))
    ∙ joint-turned first.0 other.0 (side first.0) (side other.0)
ports_of-turned side side' (meeting.Switch true hand true before after branch) flips =
    switch_flips hand before.0 branch.0 after.0 side side' (flips 0 0 (omega arith)) (flips 2 0 (omega arith)) (flips 1 0 (omega arith))
ports_of-turned side side' (meeting.Switch true hand false before after branch) flips =
    switch_flips hand before.0 after.0 branch.0 side side' (flips 0 0 (omega arith)) (flips 1 0 (omega arith)) (flips 2 0 (omega arith))
ports_of-turned side side' (meeting.Switch false hand true before after branch) flips =
    switch_flips hand after.0 branch.0 before.0 side side' (flips 1 0 (omega arith)) (flips 2 0 (omega arith)) (flips 0 0 (omega arith))
ports_of-turned side side' (meeting.Switch false hand false before after branch) flips =
    switch_flips hand after.0 before.0 branch.0 side side' (flips 1 0 (omega arith)) (flips 0 0 (omega arith)) (flips 2 0 (omega arith))
ports_of-turned side side' (meeting.Crossing hand before after incoming outgoing) flips =
    ap (λ (c : Compass). crossing_ports hand before.0 after.0 incoming.0 outgoing.0 c (side' after.0) (side' incoming.0) (side' outgoing.0))
    (flips 0 0 (omega arith))
    ∙ ap (λ (c : Compass). crossing_ports hand before.0 after.0 incoming.0 outgoing.0 (opposite (side before.0)) c (side' incoming.0) (side' outgoing.0))
    (flips 1 0 (omega arith))
    ∙ ap (λ (c : Compass). crossing_ports hand before.0 after.0 incoming.0 outgoing.0 (opposite (side before.0)) (opposite (side after.0)) c (side' outgoing.0))
    (flips 2 0 (omega arith))
    ∙ ap (λ (c : Compass). crossing_ports hand before.0 after.0 incoming.0 outgoing.0 (opposite (side before.0)) (opposite (side after.0))
    (opposite (side incoming.0)) c) (flips 3 0 (omega arith))
    ∙ crossing-turned hand before.0 after.0 incoming.0 outgoing.0 (side before.0) (side after.0) (side incoming.0) (side outgoing.0)

-- the side of an edge that has the node at one end, and another node at the other
pub side-turned : (edges : List Edge) (n e : ℕ) → e < length edges → ((get_or edges e no_edge).west ≡ n) ⊎ ((get_or edges e no_edge).east ≡ n) →
    (get_or edges e no_edge).west ≢ (get_or edges e no_edge).east → side_at (map turned_edge edges) n e ≡ opposite (side_at edges n e)
side-turned edges n e within ends differ =
    let x : Edge = get_or edges e no_edge in
    ap (λ (y : Edge). cond (eqb y.west n) East West) (get_or-map turned_edge edges e no_edge no_edge within)
    ∙ elim ends [
      | inl west ↦
          ap (λ (b : Bool). cond b East West) (ne_eqb x.east n (λ east. differ (west ∙ sym east)))
          ∙ sym (ap (λ (b : Bool). opposite (cond b East West)) (eq-eqb x.west n west))
      | inr east ↦
          ap (λ (b : Bool). cond b East West) (eq-eqb x.east n east)
          ∙ sym (ap (λ (b : Bool). opposite (cond b East West)) (ne_eqb x.west n (λ west. differ (west ∙ sym east))))
    ]
