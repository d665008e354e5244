use Rattle.drawing_cnf.specs.Layout.{layout}
use Rattle.lex_minimise.proofs.LeftLemmas.{front_unbegun}
use Rattle.lex_minimise.proofs.fronting.front.Goals as goal
use Rattle.outside_io.proofs.Results.{on_err_anyway}

pub returns-in_err-solver-clause-left : goal.returns-in_err-solver-clause-left
returns-in_err-solver-clause-left g c =
    let k = g.L.LogSink in
    on_err_anyway _ _ (front_unbegun (layout c.args.g.now c.args.t.now c.args.grid.now) c.args.budget c.args.room c.args.a c.args.b (k.tells c.args.log.now)
    (g.met.L.LogSink.one_reading c.args.log.now))

pub returns-in_err-list-clause-left : goal.returns-in_err-list-clause-left
returns-in_err-list-clause-left g c = on_err_anyway _ _ c.in_err-list.ensures.left
