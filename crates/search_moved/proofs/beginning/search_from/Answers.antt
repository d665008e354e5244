use Rattle.outside_io.proofs.Results.{on_err_anyway}
use Rattle.drawing_cnf.specs.Layout.{layout_of}
use Rattle.search_moved.proofs.LeftLemmas.{known_left}
use Rattle.search_moved.proofs.beginning.search_from.Goals as goal

pub returns-in_err-begin_near-clause-leaves : goal.returns-in_err-begin_near-clause-leaves
returns-in_err-begin_near-clause-leaves g c =
    let l = g.L.LogSink in
    let k = c.args.known.now in
    on_err_anyway _ _ (known_left (layout_of k.encoded) k.former.now k.budget k.room c.args.solver.now (l.tells c.args.log.now)
    (g.met.L.LogSink.one_reading c.args.log.now))
