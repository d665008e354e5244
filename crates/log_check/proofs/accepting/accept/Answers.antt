use Rattle.std.proofs.Common.{refl}
use Rattle.std.specs.Prelude.{Some}
use Rattle.log_check.specs.declared.accepting.Progress.{Progress}
use Rattle.log_check.proofs.AcceptingLemmas.{wrong_refused, feed_judged, compared_next, compared_same}
use Rattle.log_check.proofs.accepting.accept.Goals as goal

pub returns-in-Wrong-clause-judged : goal.returns-in-Wrong-clause-judged
returns-in-Wrong-clause-judged c = λ e before h. wrong_refused e before c.args.line.now c.in-Wrong.why
    (c.in-Wrong.ensures.compared e before h.accepted h.awaited)

pub returns-in-Next-clause-judged : goal.returns-in-Next-clause-judged
returns-in-Next-clause-judged c =
    let old = c.args.progress.now in
    let mid : Progress = record old { awaited = Some c.in-Next.more } in
    feed_judged c.feed.result c.args.line.now old mid c.feed.new.progress
    (λ e before h. compared_next e before c.args.line.now old mid c.in-Next.more h (c.in-Next.ensures.compared e before h.accepted h.awaited) refl refl refl)
    c.feed.ensures.judged

pub returns-in-Same-clause-judged : goal.returns-in-Same-clause-judged
returns-in-Same-clause-judged c =
    let old = c.args.progress.now in
    feed_judged c.feed-in-Same.result c.args.line.now old old c.feed-in-Same.new.progress
    (λ e before h. compared_same e before c.args.line.now old h (c.in-Same.ensures.compared e before h.accepted h.awaited)) c.feed-in-Same.ensures.judged
