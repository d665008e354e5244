use Rattle.cnf_core.proofs.MarkLemmas.{trail_more}
use Rattle.refute_check.proofs.trail.mark.Goals as goal

pub returns-clause-trail : goal.returns-clause-trail
returns-clause-trail c =
    let more = trail_more c.args.vars c.args.truth.now c.args.trail.now.items c.args.l c.requires.trail c.requires.there c.requires.not_true
    c.requires.not_false in
    rw (c.word-word.ensures.value, c.in_ok-push.ensures.items) more
