use Rattle.track_order.specs.Searching.{HasNoneBefore}
use Rattle.track_order.proofs.tables.first_both_ways.Given as goal

abbrev pub invariant-loop-e : goal.invariant-loop-e
invariant-loop-e l = HasNoneBefore l.rows l.count l.e 0
