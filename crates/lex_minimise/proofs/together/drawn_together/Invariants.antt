use Rattle.plan_core.specs.Lawful.{Lawful}
use Rattle.plan_core.specs.Values.{values_of}
use Rattle.track_order.specs.Order.{is_above}
use Rattle.search_least.specs.Asked.{AreMet}
use Rattle.lex_minimise.proofs.together.drawn_together.Given as goal

-- the drawing so far is lawful and meets the bounds
abbrev pub invariant-loop-row : goal.invariant-loop-row
invariant-loop-row l = Lawful l.encoded.graph (is_above l.encoded.order) l.encoded.grid l.best × AreMet (values_of l.best) l.bounds

abbrev pub invariant-loop-column : goal.invariant-loop-column
invariant-loop-column l = Lawful l.encoded.graph (is_above l.encoded.order) l.encoded.grid l.best × AreMet (values_of l.best) l.bounds
