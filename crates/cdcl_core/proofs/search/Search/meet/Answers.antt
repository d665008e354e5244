use Rattle.std.proofs.Common.{sym, arith}
use Rattle.std.proofs.lemmas.Option.{none-some}
use Rattle.outside_io.proofs.Results.{on_err_anyway}
use Rattle.cdcl_core.proofs.LeftLemmas.{counted_none}
use Rattle.cdcl_core.proofs.StepLemmas.{not_err}
use Rattle.cdcl_core.proofs.search.Search.meet.Goals as goal

pub refute-requires-clause-stop : goal.refute-requires-clause-stop
refute-requires-clause-stop g c = (c.requires.clash, (let e = c.level.ensures.value in let f = c.if-self-level.false in omega arith))

pub returns-in_err-refute-clause-few : goal.returns-in_err-refute-clause-few
returns-in_err-refute-clause-few g c = on_err_anyway _ _ (counted_none 1 (g.L.LogSink.learnt c.args.log.now) (g.L.LogSink.learnt c.refute.new.log)
    c.in_err-refute.ensures.counted)

pub returns-in_ok-refute-clause-on : goal.returns-in_ok-refute-clause-on
returns-in_ok-refute-clause-on g c = λ e. absurd (none-some _ (sym e))

pub returns-in_ok-refute-clause-cause : goal.returns-in_ok-refute-clause-cause
returns-in_ok-refute-clause-cause g c = λ e. absurd (not_err _ _ e)

pub returns-in_ok-refute-clause-unspent : goal.returns-in_ok-refute-clause-unspent
returns-in_ok-refute-clause-unspent g c = c.in_ok-refute.ensures.unspent

pub returns-then-self-level-clause-cause : goal.returns-then-self-level-clause-cause
returns-then-self-level-clause-cause g c = c.learn.ensures.cause
