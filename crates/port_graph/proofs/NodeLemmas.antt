-- The sites at which the edges lie as they must, and the first at which they don't.
use Rattle.std.proofs.Common.{◌≡◌, ℕ, ◌+◌, ◌<◌, List, length, get_or, Some, IsSome, sym, ap, ◌∙◌, subst, below_more}
use Rattle.std.specs.Prelude.{slice_get}
use Rattle.std.proofs.lemmas.Option.{get_or_from_slice_get, slice_get-get_or}
use Rattle.plan_core.specs.Graph.{Edge}
use Rattle.port_graph.specs.declared.sites.Site.{Site}
use Rattle.port_graph.specs.declared.fault.GraphFault.{GraphFault}
use Rattle.port_graph.specs.declared.fault.GraphFault.TheVariants.{TooManyNodes, TooManyEdges, NotForward, SideMismatch, Memory}
use Rattle.port_graph.specs.PortRule.{ports_of}
use Rattle.port_graph.specs.TopologyGraph.{side_at}
use Rattle.port_graph.specs.Ordered.{IsMismatchOf, IsMismatchFault}

-- the edges lie as they must at each site below a number
abbrev pub MatchBelow : List Edge → List Site → ℕ → Type 0
MatchBelow edges ss i = (m : ℕ) (r : Site) → m < i → slice_get ss m ≡ Some r → IsSome (ports_of (side_at edges m) r.meets)

pub match_more : (edges : List Edge) (ss : List Site) (i : ℕ) (s : Site) → i < length ss → s ≡ get_or ss i s → MatchBelow edges ss i →
    IsSome (ports_of (side_at edges i) s.meets) → MatchBelow edges ss (i + 1)
match_more edges ss i s within is below here m r less there =
    below_more (λ k. (q : Site) → slice_get ss k ≡ Some q → IsSome (ports_of (side_at edges k) q.meets)) i (λ k small q at. below k q small at)
    (λ q at. subst (λ (x : Site). IsSome (ports_of (side_at edges i) x.meets)) (is ∙ get_or_from_slice_get ss i q s at) here)
    m less r there

-- the fault of the first site at which the edges don't lie as they must is that of all
pub first_mismatch : (edges : List Edge) (ss : List Site) (i : ℕ) (s : Site) (fault : GraphFault) → i < length ss → s ≡ get_or ss i s → MatchBelow edges ss i →
    IsMismatchOf edges i s fault → IsMismatchFault edges ss fault
first_mismatch edges ss i s (SideMismatch node name) within is below (at, named, none) = (
  s,
  record {
    there = ap (λ n. slice_get ss n) at ∙ slice_get-get_or ss i s within ∙ ap Some (sym is);
    mismatched = ap (λ n. ports_of (side_at edges n) s.meets) at ∙ none;
    before = λ m r less there. below m r (subst (λ n. m < n) at less) there;
  },
  named,
)
first_mismatch edges ss i s Memory within is below h = h
first_mismatch edges ss i s (TooManyNodes n) within is below h = h
first_mismatch edges ss i s (TooManyEdges n) within is below h = h
first_mismatch edges ss i s (NotForward edge track mileage) within is below h = h
