-- Splits that are added, and what they say of two edges.
use Rattle.std.specs.Prelude.{◌≡◌, ◌↔◌, ℕ, suc, ◌<◌, List, [], ◌∷◌, ◌++◌, length, flat_map, Contains, Any, All}
use Rattle.std.proofs.Common.{inl, inr, rules, sym, subst, arith, get_or}
use Rattle.std.proofs.lemmas.List.Elements.{Contains-append_cases, Contains-append_left, Contains-append_right}
use Rattle.std.proofs.lemmas.List.{get_or_default}
use Rattle.std.proofs.Math.Seq.{take-length}
use Rattle.plan_core.proofs.Listing.{Contains-flat_map}
use Rattle.plan_core.specs.Graph.{Graph, Node, node, no_node, Overlap}
use Rattle.track_order.specs.declared.splitting.Split.{Split}
use Rattle.track_order.specs.Above.{Fork, forks, ForkParts, Above}
use Rattle.track_order.specs.Splits.{IsSplit, AreSplits, forks_before, IsFitting, IsSplitBy}

pub splits_begin : (g : Graph) → AreSplits g [] []
splits_begin g = record { each = λ k among. absurd (search rules); no_other = λ s among. absurd (search rules) }

pub splits_on : (g : Graph) (of : List Fork) (splits : List Split) (k : Fork) (s : Split) → AreSplits g of splits → IsSplit g k s →
    AreSplits g (of ++ k ∷ []) (splits ++ s ∷ [])
splits_on g of splits k s so_far is = record {
  each = λ j among. elim (Contains-append_cases of (k ∷ []) j among) [
    | inl old ↦ (let found = so_far.each j old in (found.0, Contains-append_left splits (s ∷ []) found.0 found.1, found.2))
    | inr new ↦ (let same : k ≡ j = search rules in (s, Contains-append_right splits (s ∷ []) s (search rules), subst (λ (x : Fork). IsSplit g x s) same is))
  ];
  no_other = λ t among. elim (Contains-append_cases splits (s ∷ []) t among) [
    | inl old ↦ (let found = so_far.no_other t old in (found.0, Contains-append_left of (k ∷ []) found.0 found.1, found.2))
    | inr new ↦ (let same : s ≡ t = search rules in (k, Contains-append_right of (k ∷ []) k (search rules), subst (λ (x : Split). IsSplit g k x) same is))
  ];
}

split_fits : (g : Graph) (k : Fork) (s : Split) (e f : ℕ) → IsSplit g k s → e < length g.edges → f < length g.edges → IsFitting s e f
split_fits g k s e f is e_there f_there = record {
  e_upper = omega (arith, is.upper.size);
  e_lower = omega (arith, is.lower.size);
  f_upper = omega (arith, is.upper.size);
  f_lower = omega (arith, is.lower.size);
}

-- every split has entries for all edges
pub splits_fit : (g : Graph) (of : List Fork) (splits : List Split) (e f : ℕ) → AreSplits g of splits → e < length g.edges → f < length g.edges →
    All (λ s. IsFitting s e f) splits
splits_fit g of splits e f are e_there f_there k d less =
    let found = are.no_other (get_or splits k d) (k, less, get_or_default splits k (get_or splits k d) d less) in
    split_fits g found.0 (get_or splits k d) e f found.2 e_there f_there

pub split_parts : (g : Graph) (k : Fork) (s : Split) (e f : ℕ) → IsSplit g k s → e < length g.edges → f < length g.edges → Overlap g e f →
    IsSplitBy s e f ↔ ForkParts g k e f
split_parts g k s e f is e_there f_there overlap = (
  (λ by. record {
    first = record { reached = (is.upper.exact e e_there).0 by.e_upper; alone = λ r. by.e_lower ((is.lower.exact e e_there).1 r) };
    second = record { reached = (is.lower.exact f f_there).0 by.f_lower; alone = λ r. by.f_upper ((is.upper.exact f f_there).1 r) };
    overlap = overlap;
  }),
  (λ parts. record {
    e_upper = (is.upper.exact e e_there).1 parts.first.reached;
    e_lower = λ marked. parts.first.alone ((is.lower.exact e e_there).0 marked);
    f_lower = (is.lower.exact f f_there).1 parts.second.reached;
    f_upper = λ marked. parts.second.alone ((is.upper.exact f f_there).0 marked);
  }),
)

-- the forks of all nodes, each at its node
fork_among : (g : Graph) (n : ℕ) (k : Fork) → n < length g.nodes → Contains (forks (node g n).ports) k → Contains (forks_before g (length g.nodes)) k
fork_among g n k there among = subst (λ (xs : List Node). Contains (flat_map (λ (x : Node). forks x.ports) xs) k) (sym (take-length g.nodes))
    (Contains-flat_map (λ (x : Node). forks x.ports) g.nodes (node g n) k (n, there, get_or_default g.nodes n (node g n) no_node there) among)

fork_in : (xs : List Node) (k : Fork) → Contains (flat_map (λ (x : Node). forks x.ports) xs) k →
    (n : ℕ) × (n < length xs) × Contains (forks (get_or xs n no_node).ports) k
fork_in [] k among = absurd (search rules)
fork_in (x ∷ xs) k among = elim (Contains-append_cases (forks x.ports) (flat_map (λ (x : Node). forks x.ports) xs) k among) [
  | inl here ↦ (0, omega arith, here)
  | inr later ↦ (let found = fork_in xs k later in (suc found.0, omega (arith, found.1), found.2))
]

fork_at : (g : Graph) (k : Fork) → Contains (forks_before g (length g.nodes)) k → (n : ℕ) × (n < length g.nodes) × Contains (forks (node g n).ports) k
fork_at g k among = fork_in g.nodes k (subst (λ (xs : List Node). Contains (flat_map (λ (x : Node). forks x.ports) xs) k) (take-length g.nodes) among)

-- some split has the two edges on its sides exactly where one is above the other
pub above_by_splits : (g : Graph) (splits : List Split) (e f : ℕ) → AreSplits g (forks_before g (length g.nodes)) splits → e < length g.edges →
    f < length g.edges → Overlap g e f →
    Any (λ s. IsSplitBy s e f) splits ↔ Above g e f
above_by_splits g splits e f are e_there f_there overlap = (
  (λ some.
      let found = are.no_other some.1 (some.0, some.2, some.3) in
      let at = fork_at g found.0 found.1 in
      record { at = at.0; there = at.1; fork = found.0; among = at.2; parts = (split_parts g found.0 some.1 e f found.2 e_there f_there overlap).0 some.4 }),
  (λ above.
      let found = are.each above.fork (fork_among g above.at above.fork above.there above.among) in
      (found.1.0, found.0, found.1.1, found.1.2, (split_parts g above.fork found.0 e f found.2 e_there f_there overlap).1 above.parts)),
)
