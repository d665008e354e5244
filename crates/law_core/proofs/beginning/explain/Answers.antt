use Rattle.outside_io.proofs.Results.{on_err_anyway}
use Rattle.drawing_cnf.specs.Layout.{layout}
use Rattle.law_core.proofs.BeginLemmas.{left_none}
use Rattle.law_core.proofs.beginning.explain.Goals as goal

pub returns-in_err-solver-clause-left : goal.returns-in_err-solver-clause-left
returns-in_err-solver-clause-left g c =
    let k = g.L.LogSink in
    on_err_anyway _ _ (left_none (layout c.args.g.now c.args.t.now c.args.grid.now) c.args.budget (k.tells c.args.log.now)
    (g.met.L.LogSink.one_reading c.args.log.now))
