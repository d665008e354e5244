use Rattle.std.proofs.Common.{◌≡◌, ◌≤◌, ◌<◌, ◌∙◌, length, get_or, take, set, arith, sym, ap, subst, rules, List}
use Rattle.cnf_core.specs.Lit.{Literal}
use Rattle.cdcl_learn.specs.Cut.{Cut, IsShuffle}
use Rattle.cdcl_learn.specs.Sight.{sight}
use Rattle.cdcl_learn.proofs.WorkLemmas.{rest_short, rest_all, rest_len}
use Rattle.cdcl_learn.proofs.BackLemmas.{back_none, shuffle_none, swap_shuffle, swap_back, latest_at}
use Rattle.cdcl_learn.proofs.work.Work.put_latest_first.Goals as goal

pub returns-then-self-eq0-clause-shuffle : goal.returns-then-self-eq0-clause-shuffle
returns-then-self-eq0-clause-shuffle c = shuffle_none c.args.self.now.rest

pub latest-best-requires-clause-size : goal.latest-best-requires-clause-size
latest-best-requires-clause-size c =
    let short = rest_short _ _ _ _ _ _ _ c.self.invariant in
    let same = ap length c.deref.ensures.value in
    omega arith

pub latest-best-requires-clause-there : goal.latest-best-requires-clause-there
latest-best-requires-clause-there c = λ i d lt.
    subst (λ (ls : List Literal). (get_or ls i d).var ≤ c.args.trail.now.vars) (sym c.deref.ensures.value)
    (rest_all (λ k. k.var ≤ c.args.trail.now.vars) c.self.inside.rest.items c.args.self.now.rest c.self.inside.len (ap (λ (m : Cut). m.rest) c.self.view_is)
    (rest_short _ _ _ _ _ _ _ c.self.invariant) c.requires i d lt)

pub index-requires : goal.index-requires
index-requires c =
    let short = rest_short _ _ _ _ _ _ _ c.self.invariant in
    let below = c.latest-best.ensures.below in
    let lt : c.latest-best.result < length c.self.inside.rest.items = omega arith in
    search (rules, lt)

pub index_mut-requires-2 : goal.index_mut-requires-2
index_mut-requires-2 c =
    let short = rest_short _ _ _ _ _ _ _ c.self.invariant in
    let below = c.latest-best.ensures.below in
    let lt : c.latest-best.result < length c.self.inside.rest.items = omega arith in
    search (rules, lt)

pub level_of-requires : goal.level_of-requires
level_of-requires c =
    let below = c.latest-best.ensures.below in
    let most = rest_all (λ k. k.var ≤ c.args.trail.now.vars) c.self.inside.rest.items c.args.self.now.rest c.self.inside.len
    (ap (λ (m : Cut). m.rest) c.self.view_is) (rest_short _ _ _ _ _ _ _ c.self.invariant) c.requires c.latest-best.result c.index.result.now below in
    let same : c.var.result.0 ≡ (get_or c.self.inside.rest.items c.latest-best.result c.index.result.now).var = c.var.ensures.value
    ∙ ap (λ (m : Literal). m.var) c.index.ensures in
    omega arith

pub returns-clause-shuffle : goal.returns-clause-shuffle
returns-clause-shuffle c =
    subst (λ (ls : List Literal). IsShuffle ls (take c.self.inside.len (set (set c.self.inside.rest.items 0 c.index.result.now) c.latest-best.result
    c.index-first.result.now))) (ap (λ (m : Cut). m.rest) c.self.view_is)
    (swap_shuffle c.self.inside.rest.items c.latest-best.result c.self.inside.len c.index-first.result.now c.index.result.now c.latest-best.ensures.below
    (rest_short _ _ _ _ _ _ _ c.self.invariant) c.index-first.ensures c.index.ensures)

pub returns-clause-back : goal.returns-clause-back
returns-clause-back c = λ a. swap_back (sight a c.args.trail.now) c.self.inside.rest.items c.latest-best.result c.self.inside.len c.index-first.result.now
    c.index.result.now c.level_of.result c.latest-best.ensures.below (rest_short _ _ _ _ _ _ _ c.self.invariant) c.index-first.ensures c.index.ensures
    (ap (λ v. get_or c.args.trail.now.levels v 0) (sym c.var.ensures.value) ∙ sym c.level_of.ensures.value)
    (latest_at (sight a c.args.trail.now) c.self.inside.rest.items c.deref.result.now c.self.inside.len c.latest-best.result c.index.result.now
    c.level_of.result c.deref.ensures.value c.latest-best.ensures.latest c.latest-best.ensures.below (rest_short _ _ _ _ _ _ _ c.self.invariant) c.index.ensures
    (ap (λ v. get_or c.args.trail.now.levels v 0) (sym c.var.ensures.value) ∙ sym c.level_of.ensures.value))

pub returns-then-self-eq0-clause-back : goal.returns-then-self-eq0-clause-back
returns-then-self-eq0-clause-back c = λ a. back_none (sight a c.args.trail.now) c.args.self.now.rest
    (sym (rest_len _ _ _ _ _ _ _ c.args.self.now c.self.view_is c.self.invariant) ∙ c.if-self-eq0.true)
