use Rattle.track_order.specs.Searching.{HasNoneBefore}
use Rattle.track_order.proofs.tables.first_with.Given as goal

abbrev pub invariant-loop-f : goal.invariant-loop-f
invariant-loop-f l = HasNoneBefore l.rows l.count l.e l.f
