use Rattle.outside_io.proofs.Results.{on_err_anyway}
use Rattle.drawing_cnf.specs.Layout.{layout}
use Rattle.lex_minimise.proofs.LeftLemmas.{values_unbegun}
use Rattle.lex_minimise.proofs.minimising.minimise.Goals as goal

pub returns-in_err-solver-clause-left : goal.returns-in_err-solver-clause-left
returns-in_err-solver-clause-left g c =
    let k = g.L.LogSink in
    on_err_anyway _ _ (values_unbegun (layout c.args.g.now c.args.t.now c.args.grid.now) c.args.limits.now.budget c.args.limits.now.room c.args.wanted.now
    (k.tells c.args.log.now) (g.met.L.LogSink.one_reading c.args.log.now))
