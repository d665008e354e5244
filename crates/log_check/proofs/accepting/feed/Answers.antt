use Rattle.std.proofs.Common.{refl}
use Rattle.log_check.proofs.AcceptingLemmas.{has_accepted, bounds_pushed, bounds_kept}
use Rattle.log_check.proofs.accepting.feed.Goals as goal

pub returns-in_ok-push-in-Ok-clause-judged : goal.returns-in_ok-push-in-Ok-clause-judged
returns-in_ok-push-in-Ok-clause-judged c = λ e before h.
    let old = c.args.progress.now in
    has_accepted e before c.args.line.now old (record { awaited = old.awaited; checker = c.feed.new.self; bounds = c.push.new.self }) h c.in-Ok.ensures.ok refl
    (bounds_pushed c.args.line.now old.bounds.items c.push.new.self.items c.in-Some.bound c.in-Some.ensures c.in_ok-push-in-Ok.ensures.items)

pub returns-in_default-clause-judged : goal.returns-in_default-clause-judged
returns-in_default-clause-judged c = λ e before h.
    let old = c.args.progress.now in
    has_accepted e before c.args.line.now old (record { awaited = old.awaited; checker = c.feed.new.self; bounds = old.bounds }) h c.in-Ok.ensures.ok refl
    (bounds_kept c.args.line.now old.bounds.items c.of.result c.of.ensures c.in_default.not-Some)
