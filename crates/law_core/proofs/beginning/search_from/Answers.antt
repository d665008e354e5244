use Rattle.std.proofs.Common.{sym, subst, IfOk}
use Rattle.refute_log.specs.Steps.{GoesOn}
use Rattle.cdcl_core.specs.Kept.{Kept}
use Rattle.search_why.specs.Task.{Task}
use Rattle.search_why.specs.Outcome.{TellsOutcome}
use Rattle.law_core.specs.Known.{KnowsWhy}
use Rattle.law_core.specs.Search.{task_with}
use Rattle.law_core.proofs.beginning.search_from.Goals as goal

pub returns-clause-lines : goal.returns-clause-lines
returns-clause-lines g c =
    let l = g.L.LogSink in
    let p = task_with c.args.known.now in
    let new = c.find_laws.new.oracle in
    let old = c.args.solver.now in
    let log = c.args.log.now in
    let solver_is = c.solver-1.given.1 (sym c.find_laws.ensures.later.0) in
    let log_is = c.log-1.given.1 (sym c.find_laws.ensures.later.1) in
    subst (λ (k : Kept). IfOk c.find_laws.result (λ o. GoesOn (KnowsWhy p old) (KnowsWhy p k) (l.tells log) (l.tells c.log-1.given.0) (l.learnt log)
    (l.learnt c.log-1.given.0) (λ ls m. TellsOutcome p o ls m))) (sym solver_is)
    (subst (λ (x : g.row.L.Denot). IfOk c.find_laws.result (λ o. GoesOn (KnowsWhy p old) (KnowsWhy p new.solver.now) (l.tells log) (l.tells x) (l.learnt log)
    (l.learnt x) (λ ls m. TellsOutcome p o ls m))) (sym log_is)
    (subst (λ (q : Task). IfOk c.find_laws.result (λ o. GoesOn (KnowsWhy p old) (KnowsWhy q new.solver.now) (l.tells log) (l.tells new.log.now) (l.learnt log)
    (l.learnt new.log.now) (λ ls m. TellsOutcome p o ls m)))
    c.find_laws.ensures.task c.find_laws.ensures.lines))
