use Rattle.std.proofs.Common.{◌≡◌, ◌∙◌, Bool, true, List, ◌∷◌, subst, sym}
use Rattle.std.specs.Prelude.{All}
use Rattle.cdcl_learn.specs.Sight.{sight}
use Rattle.cdcl_learn.specs.Cut.{is_seen, IsSeen}
use Rattle.cdcl_learn.proofs.BackLemmas.{learnt_shuffled, learnt_vars, shuffle_into, with_within}
use Rattle.cdcl_learn.proofs.ShorterLemmas.{shortened_learnt, all_false_below}
use Rattle.cdcl_learn.proofs.conflict.learn.Goals as goal

pub shorten-requires-clause-falsified : goal.shorten-requires-clause-falsified
shorten-requires-clause-falsified c = all_false_below (sight c.args.arena.now c.args.trail.now) c.resolve-first.result c.resolve-first.new.work.rest
    c.resolve-first.ensures.learnt

pub shorten-requires-clause-distinct : goal.shorten-requires-clause-distinct
shorten-requires-clause-distinct c = c.resolve-first.ensures.learnt.distinct.1

pub put_latest_first-back-requires : goal.put_latest_first-back-requires
put_latest_first-back-requires c = learnt_vars (sight c.args.arena.now c.args.trail.now) c.resolve-first.result c.shorten.new.self.rest c.requires.sound
    (shortened_learnt (sight c.args.arena.now c.args.trail.now) c.requires.sound c.resolve-first.new.work.seen c.resolve-first.result
    c.resolve-first.new.work.rest c.shorten.new.self.rest c.resolve-first.ensures.marks c.resolve-first.ensures.learnt c.shorten.ensures.shortened)

pub returns-clause-learnt : goal.returns-clause-learnt
returns-clause-learnt c = learnt_shuffled (sight c.args.arena.now c.args.trail.now) c.resolve-first.result c.shorten.new.self.rest _
    c.put_latest_first-back.ensures.shuffle
    (shortened_learnt (sight c.args.arena.now c.args.trail.now) c.requires.sound c.resolve-first.new.work.seen c.resolve-first.result
    c.resolve-first.new.work.rest c.shorten.new.self.rest c.resolve-first.ensures.marks c.resolve-first.ensures.learnt c.shorten.ensures.shortened)

pub returns-clause-back : goal.returns-clause-back
returns-clause-back c = c.put_latest_first-back.ensures.back c.args.arena.now

pub returns-clause-seen : goal.returns-clause-seen
returns-clause-seen c =
    let e : c.put_latest_first-back.new.self.seen ≡ c.resolve-first.new.work.seen = c.put_latest_first-back.ensures.seen ∙ c.shorten.ensures.seen in
    let short = c.shorten.ensures.shortened in
    subst (λ (bs : List Bool). All (λ k. is_seen bs k.var ≡ true) (c.resolve-first.result ∷ c.put_latest_first-back.new.self.rest)) (sym e)
    (with_within (λ k. IsSeen c.resolve-first.new.work k.var) c.resolve-first.result c.resolve-first.new.work.rest c.put_latest_first-back.new.self.rest
    (λ k among. short.short.within k (shuffle_into _ _ c.put_latest_first-back.ensures.shuffle k among)) c.resolve-first.ensures.seen)

pub returns-clause-named : goal.returns-clause-named
returns-clause-named c = λ v h.
    let e : c.put_latest_first-back.new.self.seen ≡ c.resolve-first.new.work.seen = c.put_latest_first-back.ensures.seen ∙ c.shorten.ensures.seen in
    c.resolve-first.ensures.named v (subst (λ (bs : List Bool). is_seen bs v ≡ true) e h)

pub returns-clause-above : goal.returns-clause-above
returns-clause-above c = λ v h.
    let e : c.put_latest_first-back.new.self.seen ≡ c.resolve-first.new.work.seen = c.put_latest_first-back.ensures.seen ∙ c.shorten.ensures.seen in
    c.resolve-first.ensures.above v (subst (λ (bs : List Bool). is_seen bs v ≡ true) e h)
