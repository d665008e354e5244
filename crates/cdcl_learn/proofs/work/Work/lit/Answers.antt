use Rattle.std.proofs.Common.{rules, arith, ◌<◌, ◌∙◌, length, get_or, sym, ap}
use Rattle.std.proofs.lemmas.List.{get_or-take}
use Rattle.cdcl_learn.specs.Cut.{Cut}
use Rattle.cdcl_learn.proofs.WorkLemmas.{rest_len, rest_short}
use Rattle.cdcl_learn.proofs.work.Work.lit.Goals as goal

pub index-requires : goal.index-requires
index-requires c =
    let len = rest_len _ _ _ _ _ _ _ c.args.self.now c.self.view_is c.self.invariant in
    let few = rest_short _ _ _ _ _ _ _ c.self.invariant in
    let below = c.requires in
    let short : c.args.i < length c.self.inside.rest.items = omega arith in
    search (rules, short)

pub returns : goal.returns
returns c =
    let len = rest_len _ _ _ _ _ _ _ c.args.self.now c.self.view_is c.self.invariant in
    let below = c.requires in
    ap (λ (m : Cut). get_or m.rest c.args.i c.index.result.now) (sym c.self.view_is)
    ∙ get_or-take c.self.inside.len c.self.inside.rest.items c.args.i c.index.result.now (omega arith) ∙ sym c.index.ensures
