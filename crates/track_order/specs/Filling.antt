-- What is known while the row of the edges that are reached from one edge is filled. Only private
-- contracts cite this.
use Rattle.std.specs.Prelude.{◌≡◌, ℕ, ◌<◌, Bool, List, length, take, slice_get, Some, Contains}
use Rattle.plan_core.specs.declared.sides.Compass.{Compass}
use Rattle.plan_core.specs.Graph.{Graph}
use Rattle.track_order.specs.Reach.{Reaches, EdgeFollows, end_of_edge}
use Rattle.track_order.specs.Tables.{IsMarked, IsRowOf}

-- an entry for each edge, which says whether the edge is reached
abbrev pub IsReachRow : Graph → Compass → ℕ → List Bool → Type 0
IsReachRow g way start row = IsRowOf (length g.edges) (Reaches g way start) row

-- every edge that e follows is among those done
abbrev pub IsBehind : Graph → Compass → List ℕ → ℕ → Type 0
IsBehind g way done e = (f : ℕ) → f < length g.edges → EdgeFollows g way f e → Contains done f

-- all edges, each behind those that it follows
pub record IsWalkOrder (g : Graph) (way : Compass) (order : List ℕ) : Type 0 where
  pub there : (e : ℕ) → Contains order e → e < length g.edges
  pub all : (e : ℕ) → e < length g.edges → Contains order e
  pub behind : (k e : ℕ) → slice_get order k ≡ Some e → IsBehind g way (take k order) e

-- of the edges done so far those are marked that are reached; a node is marked where a marked edge
-- ends at it
pub record IsFilling (g : Graph) (way : Compass) (start : ℕ) (done : List ℕ) (edges nodes : List Bool) : Type 0 where
  pub edge_size : length edges ≡ length g.edges
  pub node_size : length nodes ≡ length g.nodes
  pub begun : IsMarked edges start
  pub sound : (f : ℕ) → f < length g.edges → IsMarked edges f → Reaches g way start f
  pub full : (f : ℕ) → Contains done f → Reaches g way start f → IsMarked edges f
  pub ends : (f : ℕ) → f < length g.edges → IsMarked edges f → IsMarked nodes (end_of_edge g way f)
  pub cause : (n : ℕ) → IsMarked nodes n → (f : ℕ) × (f < length g.edges) × IsMarked edges f × (end_of_edge g way f ≡ n)
