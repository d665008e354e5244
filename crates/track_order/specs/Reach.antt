-- The edges that are reached from an edge in one direction.
use Rattle.std.specs.Prelude.{◌≡◌, ℕ, ◌<◌, List, [], ◌∷◌, length}
use Rattle.plan_core.specs.declared.sides.Compass.{Compass}
use Rattle.plan_core.specs.declared.sides.Compass.TheVariants.{East, West}
use Rattle.plan_core.specs.Graph.{Graph, edge}

-- the node at which an edge begins, and that at which it ends, for one who goes in this direction
abbrev pub begin_of_edge : Graph → Compass → ℕ → ℕ
begin_of_edge g East e = (edge g e).west
begin_of_edge g West e = (edge g e).east

abbrev pub end_of_edge : Graph → Compass → ℕ → ℕ
end_of_edge g East e = (edge g e).east
end_of_edge g West e = (edge g e).west

-- f begins where e ends
abbrev pub EdgeFollows : Graph → Compass → ℕ → ℕ → Type 0
EdgeFollows g way e f = begin_of_edge g way f ≡ end_of_edge g way e

-- a walk from e to f: each edge on the way follows the one before it
abbrev pub IsWalk : Graph → Compass → ℕ → List ℕ → ℕ → Type 0
IsWalk g way e [] f = e ≡ f
IsWalk g way e (next ∷ rest) f = (next < length g.edges) × EdgeFollows g way e next × IsWalk g way next rest f

-- some walk leads from e to f in this direction. What e reaches is the least set that holds e and every
-- edge that follows one of its edges, proved by reach_is_the_least_onward_set
pub record Reaches (g : Graph) (way : Compass) (e f : ℕ) : Type 0 where
  pub edges : List ℕ
  pub walk : IsWalk g way e edges f

-- a set of edges that holds, with each of its edges, every edge that follows it
abbrev pub IsOnward : Graph → Compass → (ℕ → Type 0) → Type 0
IsOnward g way Held = (e f : ℕ) → Held e → f < length g.edges → EdgeFollows g way e f → Held f
