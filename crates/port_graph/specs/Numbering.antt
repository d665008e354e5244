-- What the numbers of edges are read from.
use Rattle.std.specs.Prelude.{◌≡◌, ℕ, ◌+◌, ◌≤◌, length, slice_index}
use Rattle.plan_core.specs.declared.limits.TheConstants.{MAX_EDGES}
use Rattle.plan_core.specs.declared.topology.Topology.{Topology}
use Rattle.port_graph.specs.declared.numbers.Numbering.{Numbering}
use Rattle.port_graph.specs.Runs.{piece_number, joins, edge_count}

-- the number of each track's first piece, then that of all pieces; and the joins
pub record IsNumbering (t : Topology) (numbering : Numbering) : Type 0 where
  pub count : length numbering.firsts.items ≡ length t.tracks + 1
  pub each : (k : ℕ) → k ≤ length t.tracks → slice_index numbering.firsts.items k ≡ piece_number t k 0
  pub joins : numbering.joins.items ≡ joins t
  pub few : edge_count t ≤ MAX_EDGES
