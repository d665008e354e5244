-- How a graph is kept: its rows, the number of its columns, and the column of each node.
use Rattle.std.specs.Prelude.{◌≡◌, ℕ, ℤ, Some, List, length, map, slice_get}
use Rattle.plan_core.specs.declared.numbers.ColumnNo.{ColumnNo}
use Rattle.plan_core.specs.Graph.{Graph}
use Rattle.port_graph.specs.StationGraph.{IsStationGraph}
use Rattle.port_graph.specs.Columns.{mileages, columns_of}

-- each number is the place of its mileage in the list of columns
abbrev pub ArePlaces : List ℤ → List ℤ → List ColumnNo → Type 0
ArePlaces columns miles numbers = map (λ (c : ColumnNo). slice_get columns c.0) numbers ≡ map Some miles

-- what each `PortGraph` keeps: it is a station's graph, it has so many columns, and these are the columns
-- of its nodes
pub record IsKeptGraph (g : Graph) (columns : ℕ) (numbers : List ColumnNo) : Type 0 where
  pub station : IsStationGraph g
  pub count : columns ≡ length (columns_of g)
  pub places : ArePlaces (columns_of g) (mileages g) numbers
