use Rattle.track_order.specs.Above.{Above}
use Rattle.track_order.specs.Tables.{IsRowOf}
use Rattle.track_order.proofs.tables.above_row.Given as goal

abbrev pub invariant-loop-f : goal.invariant-loop-f
invariant-loop-f l = IsRowOf l.f (Above l.g l.e) l.row
