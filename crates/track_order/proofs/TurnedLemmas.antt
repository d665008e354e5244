-- The order of a graph's edges seen from the other end of the station.
use Rattle.std.specs.Prelude.{◌≡◌, ℕ, ℤ, neg_ℤ, ◌<ℤ◌, ◌<◌, ◌≤◌, ◌⊎◌, List, [], ◌∷◌, length, Contains, map}
use Rattle.std.specs.Int.{int_max, int_min}
use Rattle.std.proofs.Common.{inl, inr, rules, refl, sym, ◌∙◌, ap, subst, arith}
use Rattle.std.proofs.lemmas.Int.{ints}
use Rattle.std.proofs.lemmas.List.{length-map}
use Rattle.std.proofs.Math.ListN.{get_or-map, get_or-eq_default}
use Rattle.std.proofs.lemmas.List.Elements.{Contains-append_cases}
use Rattle.plan_core.specs.declared.sides.Compass.{Compass}
use Rattle.plan_core.specs.declared.sides.Compass.TheVariants.{East, West}
use Rattle.plan_core.specs.declared.sides.Side.TheVariants.{Upper, Lower}
use Rattle.plan_core.specs.Graph.{Graph, Node, Edge, Ports, End, Joint, Switch, Crossing, node, edge, no_node, no_edge, mileage, opposite, Overlap}
use Rattle.port_graph.proofs.MileLemmas.{neg_less}
use Rattle.port_graph.proofs.TurnedNodes.{node-turned}
use Rattle.port_graph.proofs.TurnedTwice.{graph_twice}
use Rattle.port_graph.specs.Turned.{turned_ports, turned_node, turned_edge, turned_graph}
use Rattle.track_order.specs.Reach.{begin_of_edge, end_of_edge, IsWalk}
use Rattle.track_order.specs.Above.{Fork, fork, forks, IsReachedAlone, Above}

-- ---- mileages

neg_min : (c d : ℤ) → int_max (neg_ℤ c) (neg_ℤ d) ≡ neg_ℤ (int_min c d)
neg_min c d = grind (arith, ints)

neg_max : (a b : ℤ) → int_min (neg_ℤ a) (neg_ℤ b) ≡ neg_ℤ (int_max a b)
neg_max a b = grind (arith, ints)

-- ---- edges and nodes

edge_turned : (g : Graph) (e : ℕ) → edge (turned_graph g) e ≡ turned_edge (edge g e)
edge_turned g e = get_or-map turned_edge g.edges e no_edge

edges_turned : (g : Graph) → length (turned_graph g).edges ≡ length g.edges
edges_turned g = length-map g.edges turned_edge

-- ---- walks

begin_turned : (g : Graph) (way : Compass) (e : ℕ) → begin_of_edge (turned_graph g) (opposite way) e ≡ begin_of_edge g way e
begin_turned g East e = ap (λ (x : Edge). x.east) (edge_turned g e)
begin_turned g West e = ap (λ (x : Edge). x.west) (edge_turned g e)

end_turned : (g : Graph) (way : Compass) (e : ℕ) → end_of_edge (turned_graph g) (opposite way) e ≡ end_of_edge g way e
end_turned g East e = ap (λ (x : Edge). x.west) (edge_turned g e)
end_turned g West e = ap (λ (x : Edge). x.east) (edge_turned g e)

walk_turned : (g : Graph) (way : Compass) (e : ℕ) (edges : List ℕ) (f : ℕ) → IsWalk g way e edges f → IsWalk (turned_graph g) (opposite way) e edges f
walk_turned g way e [] f w = w
walk_turned g way e (next ∷ rest) f w = (
  subst (λ (n : ℕ). next < n) (sym (edges_turned g)) w.0,
  begin_turned g way next ∙ w.1 ∙ sym (end_turned g way e),
  walk_turned g way next rest f w.2,
)

walk_back : (g : Graph) (way : Compass) (e : ℕ) (edges : List ℕ) (f : ℕ) → IsWalk (turned_graph g) (opposite way) e edges f → IsWalk g way e edges f
walk_back g way e [] f w = w
walk_back g way e (next ∷ rest) f w = (
  subst (λ (n : ℕ). next < n) (edges_turned g) w.0,
  sym (begin_turned g way next) ∙ w.1 ∙ end_turned g way e,
  walk_back g way next rest f w.2,
)

alone_turned : (g : Graph) (way : Compass) (one other e : ℕ) → IsReachedAlone g way one other e → IsReachedAlone (turned_graph g) (opposite way) one other e
alone_turned g way one other e is = record {
  reached = record { edges = is.reached.edges; walk = walk_turned g way one is.reached.edges e is.reached.walk };
  alone = λ r. is.alone (record { edges = r.edges; walk = walk_back g way other r.edges e r.walk });
}

-- ---- overlap

mile_turned : (g : Graph) (n : ℕ) → mileage (turned_graph g) n ≡ neg_ℤ (mileage g n)
mile_turned g n = elim (within_or_past n (length g.nodes)) [
  | inl less ↦ ap (λ (x : Node). x.mileage) (node-turned g n less)
  | inr past ↦
      ap (λ (x : Node). x.mileage) (get_or-eq_default (map turned_node g.nodes) no_node (subst (λ (k : ℕ). k ≤ n) (sym (length-map g.nodes turned_node)) past))
      ∙ sym (ap (λ (x : Node). neg_ℤ x.mileage) (get_or-eq_default g.nodes no_node past))
]
  where
    within_or_past : (n count : ℕ) → (n < count) ⊎ (count ≤ n)
    within_or_past n count = search (rules, arith)

west_turned : (g : Graph) (e : ℕ) → mileage (turned_graph g) (edge (turned_graph g) e).west ≡ neg_ℤ (mileage g (edge g e).east)
west_turned g e = ap (λ (x : Edge). mileage (turned_graph g) x.west) (edge_turned g e) ∙ mile_turned g (edge g e).east

east_turned : (g : Graph) (e : ℕ) → mileage (turned_graph g) (edge (turned_graph g) e).east ≡ neg_ℤ (mileage g (edge g e).west)
east_turned g e = ap (λ (x : Edge). mileage (turned_graph g) x.east) (edge_turned g e) ∙ mile_turned g (edge g e).west

overlap_of : (a b c d p q r s : ℤ) → p ≡ neg_ℤ c → q ≡ neg_ℤ d → r ≡ neg_ℤ a → s ≡ neg_ℤ b → int_max a b <ℤ int_min c d → int_max p q <ℤ int_min r s
overlap_of a b c d p q r s p_is q_is r_is s_is less =
    subst (λ (x : ℤ). int_max x q <ℤ int_min r s) (sym p_is)
    (subst (λ (x : ℤ). int_max (neg_ℤ c) x <ℤ int_min r s) (sym q_is)
    (subst (λ (x : ℤ). int_max (neg_ℤ c) (neg_ℤ d) <ℤ int_min x s) (sym r_is)
    (subst (λ (x : ℤ). int_max (neg_ℤ c) (neg_ℤ d) <ℤ int_min (neg_ℤ a) x) (sym s_is)
    (subst (λ (x : ℤ). x <ℤ int_min (neg_ℤ a) (neg_ℤ b)) (sym (neg_min c d))
    (subst (λ (x : ℤ). neg_ℤ (int_min c d) <ℤ x) (sym (neg_max a b)) (neg_less (int_max a b) (int_min c d) less))))))

overlap_turned : (g : Graph) (e f : ℕ) → Overlap g e f → Overlap (turned_graph g) f e
overlap_turned g e f overlap =
    overlap_of (mileage g (edge g f).west) (mileage g (edge g e).west) (mileage g (edge g f).east) (mileage g (edge g e).east) _ _ _ _
    (west_turned g f) (west_turned g e) (east_turned g f) (east_turned g e)
    (swapped (mileage g (edge g e).west) (mileage g (edge g f).west) (mileage g (edge g e).east) (mileage g (edge g f).east) overlap)
  where
    swapped : (a b c d : ℤ) → int_max a b <ℤ int_min c d → int_max b a <ℤ int_min d c
    swapped a b c d less = grind (arith, ints)

-- ---- forks

abbrev turned_fork : Fork → Fork
turned_fork k = fork (opposite k.way) k.lower k.upper

only : (j k : Fork) → Contains (j ∷ []) k → j ≡ k
only j k among = search rules

fork_turned : (p : Ports) (k : Fork) → Contains (forks p) k → Contains (forks (turned_ports p)) (fork (opposite k.way) k.lower k.upper)
fork_turned (End e side) k among = absurd (search rules)
fork_turned (Joint west east) k among = absurd (search rules)
fork_turned (Switch legs Upper trunk straight diverging) k among =
    subst (λ (j : Fork). Contains (fork (opposite legs) straight diverging ∷ []) (turned_fork j)) (only (fork legs diverging straight) k among)
    (0, omega arith, refl)
fork_turned (Switch legs Lower trunk straight diverging) k among =
    subst (λ (j : Fork). Contains (fork (opposite legs) diverging straight ∷ []) (turned_fork j)) (only (fork legs straight diverging) k among)
    (0, omega arith, refl)
fork_turned (Crossing west_upper west_lower east_upper east_lower) k among =
    elim (Contains-append_cases (fork West west_upper west_lower ∷ []) (fork East east_upper east_lower ∷ []) k among) [
      | inl first ↦
          subst (λ (j : Fork). Contains (fork West east_lower east_upper ∷ fork East west_lower west_upper ∷ []) (turned_fork j))
          (only (fork West west_upper west_lower) k first) (1, omega arith, refl)
      | inr second ↦
          subst (λ (j : Fork). Contains (fork West east_lower east_upper ∷ fork East west_lower west_upper ∷ []) (turned_fork j))
          (only (fork East east_upper east_lower) k second) (0, omega arith, refl)
    ]

pub above_turned : (g : Graph) (e f : ℕ) → Above g e f → Above (turned_graph g) f e
above_turned g e f above = record {
  at = above.at;
  there = subst (λ (n : ℕ). above.at < n) (sym (length-map g.nodes turned_node)) above.there;
  fork = fork (opposite above.fork.way) above.fork.lower above.fork.upper;
  among = subst (λ (x : Node). Contains (forks x.ports) (fork (opposite above.fork.way) above.fork.lower above.fork.upper))
      (sym (node-turned g above.at above.there))
      (fork_turned (node g above.at).ports above.fork above.among);
  parts = record {
    first = alone_turned g above.fork.way above.fork.lower above.fork.upper f above.parts.second;
    second = alone_turned g above.fork.way above.fork.upper above.fork.lower e above.parts.first;
    overlap = overlap_turned g e f above.parts.overlap;
  };
}

pub turned_above : (g : Graph) (e f : ℕ) → Above (turned_graph g) f e → Above g e f
turned_above g e f above = subst (λ (x : Graph). Above x e f) (graph_twice g) (above_turned (turned_graph g) f e above)
