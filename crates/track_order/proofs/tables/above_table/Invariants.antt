use Rattle.std.specs.Prelude.{length}
use Rattle.track_order.specs.Above.{Above}
use Rattle.track_order.specs.Tables.{IsTableOf}
use Rattle.track_order.proofs.tables.above_table.Given as goal

abbrev pub invariant-loop-e : goal.invariant-loop-e
invariant-loop-e l = IsTableOf l.e (length l.g.edges) (Above l.g) l.rows
