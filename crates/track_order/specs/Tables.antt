-- Rows and tables of marks, with an entry for each edge.
use Rattle.std.specs.Prelude.{◌≡◌, ◌↔◌, ℕ, ◌<◌, Bool, true, false, List, [], length, slice_index_or, All}

abbrev pub is_marked : List Bool → ℕ → Bool
is_marked row f = slice_index_or row f false

abbrev pub IsMarked : List Bool → ℕ → Type 0
IsMarked row f = is_marked row f ≡ true

abbrev pub entry : List (List Bool) → ℕ → ℕ → Bool
entry rows e f = is_marked (slice_index_or rows e []) f

-- as many rows as there are edges, and as many entries in each
pub record IsTable (edges : ℕ) (rows : List (List Bool)) : Type 0 where
  pub high : length rows ≡ edges
  pub wide : All (λ (row : List Bool). length row ≡ edges) rows

-- an entry for each edge, which says whether R holds of it
pub record IsRowOf (edges : ℕ) (R : ℕ → Type 0) (row : List Bool) : Type 0 where
  pub size : length row ≡ edges
  pub exact : (f : ℕ) → f < edges → IsMarked row f ↔ R f

-- for each of the first edges its row, whose entry at another edge says whether R holds of the two
pub record IsTableOf (first edges : ℕ) (R : ℕ → ℕ → Type 0) (rows : List (List Bool)) : Type 0 where
  pub high : length rows ≡ first
  pub each : (e : ℕ) → e < first → IsRowOf edges (R e) (slice_index_or rows e [])
