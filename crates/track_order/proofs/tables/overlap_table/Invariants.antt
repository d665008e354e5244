use Rattle.std.specs.Prelude.{length}
use Rattle.plan_core.specs.Graph.{Overlap}
use Rattle.track_order.specs.Tables.{IsTableOf}
use Rattle.track_order.proofs.tables.overlap_table.Given as goal

abbrev pub invariant-loop-e : goal.invariant-loop-e
invariant-loop-e l = IsTableOf l.e (length l.g.edges) (Overlap l.g) l.rows
