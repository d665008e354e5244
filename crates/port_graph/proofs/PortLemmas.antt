-- A node's ports have just the edges that meet there, each on the side of its port.
use Rattle.std.proofs.Common.{◌≡◌, ◌≢◌, ℕ, ◌<◌, true, false, cond, eqb, eqb-true, eq-eqb, List, [], ◌∷◌, length, Some, None, refl, sym, ap, ◌∙◌, subst, arith}
use Rattle.std.specs.Prelude.{All, AllPairs, Contains}
use Rattle.std.specs.List.Sorted.{IsPermutation}
use Rattle.std.proofs.Common.{inl, inr}
use Rattle.std.proofs.lemmas.Bool.{false≢true, eqb-false, ne_eqb}
use Rattle.std.proofs.lemmas.List.Sorted.{IsPermutation-refl, All-permutation, Contains-permutation}
use Rattle.std.proofs.lemmas.Map.Keys.{IsDistinct-from_apart, IsDistinct-IsPermutation, apart_from_distinct}
use Rattle.std.specs.Cmp.{nat_eq_equiv}
use Rattle.plan_core.specs.declared.sides.Compass.{Compass}
use Rattle.plan_core.specs.declared.sides.Compass.TheVariants.{East, West}
use Rattle.plan_core.specs.declared.sides.Hand.{Hand}
use Rattle.plan_core.specs.declared.sides.Hand.TheVariants.{Left, Right}
use Rattle.plan_core.specs.Graph.{Graph, Ports, End, Joint, Switch, edge, edges_of, LiesOn, IsEndOf, AreAt, ArePortsOf}
use Rattle.port_graph.specs.declared.sites.Meeting.{Meeting}
use Rattle.port_graph.specs.declared.sites.Meeting.TheVariants as meeting
use Rattle.port_graph.specs.PortRule.{ports_of, joint_ports, side_of_hand, switch_ports, paths_crossed, crossing_ports}
use Rattle.port_graph.specs.Sides.{edges_met}
use Rattle.port_graph.specs.TopologyGraph.{side_at}

some_ports : (p q : Ports) → Some p ≡ Some q → p ≡ q
some_ports p q e = cc

no_ports : (p : Ports) → None ≡ Some p → ⊥
no_ports p e = cc

-- ---- each lies on the side of its port

-- an edge that meets a node lies on its side there
lies : (g : Graph) (n e : ℕ) → IsEndOf g e n → LiesOn (side_at g.edges n e) g n e
lies g n e ends =
    elim (eqb (edge g e).west n) as (λ b. eqb (edge g e).west n ≡ b → LiesOn (cond b East West) g n e) [
      | true ↦ λ is. eqb-true (edge g e).west n is
      | false ↦ λ is. elim ends [ inl west ↦ absurd (false≢true (sym is ∙ eq-eqb (edge g e).west n west)) | inr east ↦ east ]
    ] refl

joint_lies : (g : Graph) (n first other : ℕ) (a b : Compass) (ports : Ports) → LiesOn a g n first → LiesOn b g n other →
    joint_ports first other a b ≡ Some ports → AreAt g n ports
joint_lies g n first other West East ports l m is = subst (AreAt g n) (some_ports (Joint first other) ports is) (l, m)
joint_lies g n first other East West ports l m is = subst (AreAt g n) (some_ports (Joint other first) ports is) (m, l)
joint_lies g n first other West West ports l m is = absurd (no_ports ports is)
joint_lies g n first other East East ports l m is = absurd (no_ports ports is)

switch_lies : (g : Graph) (n : ℕ) (hand : Hand) (t s d : ℕ) (a b c : Compass) (ports : Ports) → LiesOn a g n t → LiesOn b g n s → LiesOn c g n d →
    switch_ports hand t s d a b c ≡ Some ports → AreAt g n ports
switch_lies g n hand t s d West East East ports k l m is = subst (AreAt g n) (some_ports (Switch East (side_of_hand East hand) t s d) ports is) (k, l, m)
switch_lies g n hand t s d East West West ports k l m is = subst (AreAt g n) (some_ports (Switch West (side_of_hand West hand) t s d) ports is) (k, l, m)
switch_lies g n hand t s d West West West ports k l m is = absurd (no_ports ports is)
switch_lies g n hand t s d West West East ports k l m is = absurd (no_ports ports is)
switch_lies g n hand t s d West East West ports k l m is = absurd (no_ports ports is)
switch_lies g n hand t s d East East East ports k l m is = absurd (no_ports ports is)
switch_lies g n hand t s d East East West ports k l m is = absurd (no_ports ports is)
switch_lies g n hand t s d East West East ports k l m is = absurd (no_ports ports is)

crossed_lies : (g : Graph) (n : ℕ) (hand : Hand) (own_west own_east other_west other_east : ℕ) → LiesOn West g n own_west → LiesOn East g n own_east →
    LiesOn West g n other_west → LiesOn East g n other_east → AreAt g n (paths_crossed hand own_west own_east other_west other_east)
crossed_lies g n Left own_west own_east other_west other_east j k l m = (j, l, m, k)
crossed_lies g n Right own_west own_east other_west other_east j k l m = (l, j, k, m)

crossing_lies : (g : Graph) (n : ℕ) (hand : Hand) (before after incoming outgoing : ℕ) (a b c d : Compass) (ports : Ports) → LiesOn a g n before →
    LiesOn b g n after → LiesOn c g n incoming → LiesOn d g n outgoing → crossing_ports hand before after incoming outgoing a b c d ≡ Some ports →
    AreAt g n ports
crossing_lies g n hand before after incoming outgoing West East West East ports j k l m is =
    subst (AreAt g n) (some_ports (paths_crossed hand before after incoming outgoing) ports is) (crossed_lies g n hand before after incoming outgoing j k l m)
crossing_lies g n hand before after incoming outgoing East West East West ports j k l m is =
    subst (AreAt g n) (some_ports (paths_crossed hand after before outgoing incoming) ports is) (crossed_lies g n hand after before outgoing incoming k j m l)
crossing_lies g n hand before after incoming outgoing West West c d ports j k l m is = absurd (no_ports ports is)
crossing_lies g n hand before after incoming outgoing East East c d ports j k l m is = absurd (no_ports ports is)
crossing_lies g n hand before after incoming outgoing West East West West ports j k l m is = absurd (no_ports ports is)
crossing_lies g n hand before after incoming outgoing West East East d ports j k l m is = absurd (no_ports ports is)
crossing_lies g n hand before after incoming outgoing East West East East ports j k l m is = absurd (no_ports ports is)
crossing_lies g n hand before after incoming outgoing East West West d ports j k l m is = absurd (no_ports ports is)

pub ports_lie : (g : Graph) (n : ℕ) (meets : Meeting) (ports : Ports) → All (λ (e : ℕ). IsEndOf g e n) (edges_met meets) →
    ports_of (side_at g.edges n) meets ≡ Some ports → AreAt g n ports
ports_lie g n (meeting.End e) ports ends is =
    subst (AreAt g n) (some_ports (End e.0 (side_at g.edges n e.0)) ports is) (lies g n e.0 (ends 0 0 (omega arith)))
ports_lie g n (meeting.Joint first other) ports ends is =
    joint_lies g n first.0 other.0 _ _ ports (lies g n first.0 (ends 0 0 (omega arith))) (lies g n other.0 (ends 1 0 (omega arith))) is
ports_lie g n (meeting.Switch true hand true before after branch) ports ends is =
    switch_lies g n hand before.0 branch.0 after.0 _ _ _ ports (lies g n before.0 (ends 0 0 (omega arith))) (lies g n branch.0 (ends 2 0 (omega arith)))
    (lies g n after.0 (ends 1 0 (omega arith))) is
ports_lie g n (meeting.Switch true hand false before after branch) ports ends is =
    switch_lies g n hand before.0 after.0 branch.0 _ _ _ ports (lies g n before.0 (ends 0 0 (omega arith))) (lies g n after.0 (ends 1 0 (omega arith)))
    (lies g n branch.0 (ends 2 0 (omega arith))) is
ports_lie g n (meeting.Switch false hand true before after branch) ports ends is =
    switch_lies g n hand after.0 branch.0 before.0 _ _ _ ports (lies g n after.0 (ends 1 0 (omega arith))) (lies g n branch.0 (ends 2 0 (omega arith)))
    (lies g n before.0 (ends 0 0 (omega arith))) is
ports_lie g n (meeting.Switch false hand false before after branch) ports ends is =
    switch_lies g n hand after.0 before.0 branch.0 _ _ _ ports (lies g n after.0 (ends 1 0 (omega arith))) (lies g n before.0 (ends 0 0 (omega arith)))
    (lies g n branch.0 (ends 2 0 (omega arith))) is
ports_lie g n (meeting.Crossing hand before after incoming outgoing) ports ends is =
    crossing_lies g n hand before.0 after.0 incoming.0 outgoing.0 _ _ _ _ ports
    (lies g n before.0 (ends 0 0 (omega arith))) (lies g n after.0 (ends 1 0 (omega arith))) (lies g n incoming.0 (ends 2 0 (omega arith)))
    (lies g n outgoing.0 (ends 3 0 (omega arith))) is

-- ---- just the edges that meet have ports

joint_edges : (first other : ℕ) (a b : Compass) (ports : Ports) → joint_ports first other a b ≡ Some ports → IsPermutation (first ∷ other ∷ []) (edges_of ports)
joint_edges first other West East ports is = subst (λ (p : Ports). IsPermutation (first ∷ other ∷ []) (edges_of p)) (some_ports (Joint first other) ports is)
    (IsPermutation-refl (first ∷ other ∷ []))
joint_edges first other East West ports is = subst (λ (p : Ports). IsPermutation (first ∷ other ∷ []) (edges_of p)) (some_ports (Joint other first) ports is)
    (record { moves = (0, 1) ∷ []; below = (omega arith, omega arith, tt); is = refl })
joint_edges first other West West ports is = absurd (no_ports ports is)
joint_edges first other East East ports is = absurd (no_ports ports is)

switch_edges : (hand : Hand) (t s d : ℕ) (a b c : Compass) (ports : Ports) → switch_ports hand t s d a b c ≡ Some ports → t ∷ s ∷ d ∷ [] ≡ edges_of ports
switch_edges hand t s d West East East ports is = ap edges_of (some_ports (Switch East (side_of_hand East hand) t s d) ports is)
switch_edges hand t s d East West West ports is = ap edges_of (some_ports (Switch West (side_of_hand West hand) t s d) ports is)
switch_edges hand t s d West West West ports is = absurd (no_ports ports is)
switch_edges hand t s d West West East ports is = absurd (no_ports ports is)
switch_edges hand t s d West East West ports is = absurd (no_ports ports is)
switch_edges hand t s d East East East ports is = absurd (no_ports ports is)
switch_edges hand t s d East East West ports is = absurd (no_ports ports is)
switch_edges hand t s d East West East ports is = absurd (no_ports ports is)

eastward_edges : (hand : Hand) (b a i o : ℕ) → IsPermutation (b ∷ a ∷ i ∷ o ∷ []) (edges_of (paths_crossed hand b a i o))
eastward_edges Left b a i o = record { moves = (2, 3) ∷ (1, 2) ∷ []; below = (omega arith, omega arith, (omega arith, omega arith, tt)); is = refl }
eastward_edges Right b a i o = record { moves = (1, 2) ∷ (0, 2) ∷ []; below = (omega arith, omega arith, (omega arith, omega arith, tt)); is = refl }

westward_edges : (hand : Hand) (b a i o : ℕ) → IsPermutation (b ∷ a ∷ i ∷ o ∷ []) (edges_of (paths_crossed hand a b o i))
westward_edges Left b a i o = record { moves = (1, 3) ∷ (0, 1) ∷ []; below = (omega arith, omega arith, (omega arith, omega arith, tt)); is = refl }
westward_edges Right b a i o = record { moves = (2, 3) ∷ (0, 3) ∷ []; below = (omega arith, omega arith, (omega arith, omega arith, tt)); is = refl }

crossing_edges : (hand : Hand) (b a i o : ℕ) (p q r s : Compass) (ports : Ports) → crossing_ports hand b a i o p q r s ≡ Some ports →
    IsPermutation (b ∷ a ∷ i ∷ o ∷ []) (edges_of ports)
crossing_edges hand b a i o West East West East ports is = subst (λ (x : Ports). IsPermutation (b ∷ a ∷ i ∷ o ∷ []) (edges_of x))
    (some_ports (paths_crossed hand b a i o) ports is) (eastward_edges hand b a i o)
crossing_edges hand b a i o East West East West ports is = subst (λ (x : Ports). IsPermutation (b ∷ a ∷ i ∷ o ∷ []) (edges_of x))
    (some_ports (paths_crossed hand a b o i) ports is) (westward_edges hand b a i o)
crossing_edges hand b a i o West West r s ports is = absurd (no_ports ports is)
crossing_edges hand b a i o East East r s ports is = absurd (no_ports ports is)
crossing_edges hand b a i o West East West West ports is = absurd (no_ports ports is)
crossing_edges hand b a i o West East East s ports is = absurd (no_ports ports is)
crossing_edges hand b a i o East West East East ports is = absurd (no_ports ports is)
crossing_edges hand b a i o East West West s ports is = absurd (no_ports ports is)

pub same_edges : (side : ℕ → Compass) (meets : Meeting) (ports : Ports) → ports_of side meets ≡ Some ports → IsPermutation (edges_met meets) (edges_of ports)
same_edges side (meeting.End e) ports is = subst (λ (p : Ports). IsPermutation (e.0 ∷ []) (edges_of p)) (some_ports (End e.0 (side e.0)) ports is)
    (IsPermutation-refl (e.0 ∷ []))
same_edges side (meeting.Joint first other) ports is = joint_edges first.0 other.0 (side first.0) (side other.0) ports is
same_edges side (meeting.Switch true hand true before after branch) ports is =
    subst (IsPermutation (before.0 ∷ after.0 ∷ branch.0 ∷ [])) (switch_edges hand before.0 branch.0 after.0 _ _ _ ports is)
    (record { moves = (1, 2) ∷ []; below = (omega arith, omega arith, tt); is = refl })
same_edges side (meeting.Switch true hand false before after branch) ports is =
    subst (IsPermutation (before.0 ∷ after.0 ∷ branch.0 ∷ [])) (switch_edges hand before.0 after.0 branch.0 _ _ _ ports is)
    (IsPermutation-refl (before.0 ∷ after.0 ∷ branch.0 ∷ []))
same_edges side (meeting.Switch false hand true before after branch) ports is =
    subst (IsPermutation (before.0 ∷ after.0 ∷ branch.0 ∷ [])) (switch_edges hand after.0 branch.0 before.0 _ _ _ ports is)
    (record { moves = (1, 2) ∷ (0, 1) ∷ []; below = (omega arith, omega arith, (omega arith, omega arith, tt)); is = refl })
same_edges side (meeting.Switch false hand false before after branch) ports is =
    subst (IsPermutation (before.0 ∷ after.0 ∷ branch.0 ∷ [])) (switch_edges hand after.0 before.0 branch.0 _ _ _ ports is)
    (record { moves = (0, 1) ∷ []; below = (omega arith, omega arith, tt); is = refl })
same_edges side (meeting.Crossing hand before after incoming outgoing) ports is =
    crossing_edges hand before.0 after.0 incoming.0 outgoing.0 _ _ _ _ ports is

-- numbers that differ do so in another order too
pub apart_moved : (xs ys : List ℕ) → IsPermutation xs ys → AllPairs (λ (e f : ℕ). e ≢ f) xs → AllPairs (λ (e f : ℕ). e ≢ f) ys
apart_moved xs ys moved differ i j d less within =
    eqb-false _ _
    (apart_from_distinct eqb ys i j d
    (IsDistinct-IsPermutation eqb nat_eq_equiv.symm xs ys moved (IsDistinct-from_apart eqb xs (λ i j d less within. ne_eqb _ _ (differ i j d less within))))
    less within)

-- the ports of edges that are there, differ and have the node at one of their ends
pub are_ports : (g : Graph) (n : ℕ) (meets : Meeting) (ports : Ports) → All (λ (e : ℕ). e < length g.edges) (edges_met meets) →
    AllPairs (λ (e f : ℕ). e ≢ f) (edges_met meets) → All (λ (e : ℕ). IsEndOf g e n) (edges_met meets) → ports_of (side_at g.edges n) meets ≡ Some ports →
    ArePortsOf g n ports
are_ports g n meets ports there differ ends is =
    let moved = same_edges (side_at g.edges n) meets ports is in
    record {
      there = All-permutation (λ (e : ℕ). e < length g.edges) (edges_met meets) (edges_of ports) moved there;
      apart = apart_moved (edges_met meets) (edges_of ports) moved differ;
      placed = ports_lie g n meets ports ends is;
    }

pub is_port : (side : ℕ → Compass) (meets : Meeting) (ports : Ports) (e : ℕ) → ports_of side meets ≡ Some ports → Contains (edges_met meets) e →
    Contains (edges_of ports) e
is_port side meets ports e is there = Contains-permutation (edges_met meets) (edges_of ports) e (same_edges side meets ports is) there
