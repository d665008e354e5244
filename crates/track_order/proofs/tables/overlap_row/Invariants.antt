use Rattle.plan_core.specs.Graph.{Overlap}
use Rattle.track_order.specs.Tables.{IsRowOf}
use Rattle.track_order.proofs.tables.overlap_row.Given as goal

abbrev pub invariant-loop-f : goal.invariant-loop-f
invariant-loop-f l = IsRowOf l.f (Overlap l.g l.e) l.row
