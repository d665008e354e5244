use Rattle.std.proofs.Common.{rules, arith, ◌<◌, ◌∙◌, length, get_or, sym, ap}
use Rattle.std.proofs.lemmas.List.{get_or_default, get_or-take}
use Rattle.cdcl_learn.specs.Cut.{Cut}
use Rattle.cdcl_learn.proofs.WorkLemmas.{met_facts, work_few}
use Rattle.cdcl_learn.proofs.work.Work.met.Goals as goal

pub index-requires : goal.index-requires
index-requires c =
    let f = met_facts _ _ _ _ _ _ _ c.args.self.now c.self.view_is c.self.invariant in
    let len = f.len in
    let few = work_few _ _ _ _ _ _ _ c.self.invariant in
    let size = c.self.invariant.touched_size in
    let below = c.requires in
    let short : c.args.i < length c.self.inside.touched.items = omega arith in
    search (rules, short)

pub returns : goal.returns
returns c =
    let f = met_facts _ _ _ _ _ _ _ c.args.self.now c.self.view_is c.self.invariant in
    let len = f.len in
    let few = work_few _ _ _ _ _ _ _ c.self.invariant in
    let size = c.self.invariant.touched_size in
    let below = c.requires in
    c.index.ensures ∙ sym (get_or_default c.self.inside.touched.items c.args.i 0 c.index.result.now (omega arith))
    ∙ sym (get_or-take c.self.inside.count c.self.inside.touched.items c.args.i 0 (omega arith)) ∙ ap (λ (m : Cut). get_or m.met c.args.i 0) c.self.view_is
