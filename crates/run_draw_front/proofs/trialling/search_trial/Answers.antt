use Rattle.std.proofs.Common.{List, subst}
use Rattle.std.specs.Prelude.{IfOk}
use Rattle.plan_core.specs.declared.criterion.Criterion.{Criterion}
use Rattle.plan_core.specs.Grid.{GridSize}
use Rattle.refute_log.specs.ToldTo.{told_to}
use Rattle.run_input.specs.SearchLog.{TellsIfNew}
use Rattle.run_draw_front.specs.Drawn.{search_job, HasSearched, IsLeftOfDraw}
use Rattle.run_draw_front.specs.Tried.{trial_order}
use Rattle.run_draw_front.proofs.trialling.search_trial.Goals as goal

pub returns-clause-searched : goal.returns-clause-searched
returns-clause-searched g c =
    let told = told_to {Self = g.row.L.Denot} g.L.LogSink.tells g.L.LogSink.learnt c.args.log.now c.search.new.log in
    let station = c.args.station.now in
    subst (λ (grid : GridSize). IfOk c.search.result (HasSearched station.graph station.order (search_job grid trial_order 50000) told))
    c.trial_grid-grid.ensures
    (subst (λ (order : List Criterion). IfOk c.search.result
    (HasSearched station.graph station.order (search_job c.trial_grid-grid.result order 50000) told)) c.trial_order-order.ensures c.search.ensures.searched)

pub returns-clause-left : goal.returns-clause-left
returns-clause-left g c =
    let before = g.L.LogSink.tells c.args.log.now in
    let after = g.L.LogSink.tells c.search.new.log in
    let station = c.args.station.now in
    subst (λ (grid : GridSize). TellsIfNew (IsLeftOfDraw (search_job grid trial_order 50000) station.graph station.order) before after)
    c.trial_grid-grid.ensures
    (subst (λ (order : List Criterion). TellsIfNew
    (IsLeftOfDraw (search_job c.trial_grid-grid.result order 50000) station.graph station.order) before after) c.trial_order-order.ensures
    c.search.ensures.left)
