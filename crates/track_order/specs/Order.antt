-- The order of a graph's edges, as two tables with an entry for each two edges.
use Rattle.std.specs.Prelude.{◌≡◌, ◌↔◌, ℕ, ◌<◌, ◌≤◌, ◌⊎◌, Bool, true, List, length}
use Rattle.plan_core.specs.declared.limits.TheConstants.{MAX_EDGES}
use Rattle.plan_core.specs.Graph.{Graph, Overlap}
use Rattle.track_order.specs.Above.{Above, Contradicts}
use Rattle.track_order.specs.Tables.{entry, IsTable}

-- how many edges there are, and two tables with an entry for each two edges: which are above which, and
-- which overlap
pub record EdgeOrder : Type 0 where
  pub edges : ℕ
  pub above_rows : List (List Bool)
  pub overlap_rows : List (List Bool)

-- the order of so many edges with these two tables
abbrev pub edge_order : ℕ → List (List Bool) → List (List Bool) → EdgeOrder
edge_order edges above_rows overlap_rows = record {
  edges = edges;
  above_rows = above_rows;
  overlap_rows =
      overlap_rows;
}

-- two tables with an entry for each two edges, of which there are at most 160
pub record AreTables (o : EdgeOrder) : Type 0 where
  pub few : o.edges ≤ MAX_EDGES
  pub above : IsTable o.edges o.above_rows
  pub overlap : IsTable o.edges o.overlap_rows

-- the first table says that e is above f
abbrev pub is_above : EdgeOrder → ℕ → ℕ → Bool
is_above o e f = entry o.above_rows e f

-- the second table says that e and f overlap
abbrev pub is_overlap : EdgeOrder → ℕ → ℕ → Bool
is_overlap o e f = entry o.overlap_rows e f

-- the tables say which edges of the graph are above which, and which overlap; no two edges are each
-- above the other. A graph has one such order at most
pub record IsOrderOf (g : Graph) (o : EdgeOrder) : Type 0 where
  pub edges : o.edges ≡ length g.edges
  pub tables : AreTables o
  pub above : (e f : ℕ) → e < length g.edges → f < length g.edges → (is_above o e f ≡ true) ↔ Above g e f
  pub overlap : (e f : ℕ) → e < length g.edges → f < length g.edges → (is_overlap o e f ≡ true) ↔ Overlap g e f
  pub one_way : (e f : ℕ) → e < length g.edges → f < length g.edges → Contradicts g e f → ⊥

-- the pair a, b comes before e, f: by the first numbers, then by the second
abbrev pub IsEarlier : ℕ → ℕ → ℕ → ℕ → Type 0
IsEarlier a b e f = (a < e) ⊎ ((a ≡ e) × (b < f))

-- the least pair of edges of which each is above the other, the smaller number first
pub record IsFirstContradiction (g : Graph) (e f : ℕ) : Type 0 where
  pub rising : e < f
  pub there : f < length g.edges
  pub both : Contradicts g e f
  pub first : (a b : ℕ) → a < b → b < length g.edges → IsEarlier a b e f → Contradicts g a b → ⊥
