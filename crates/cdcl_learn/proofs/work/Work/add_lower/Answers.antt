use Rattle.std.proofs.Common.{◌≡◌, ◌≤◌, ◌<◌, ◌+◌, false, length, subst, sym, arith, rules, ◌∙◌, set, length-set}
use Rattle.cdcl_learn.specs.Cut.{Cut, is_seen}
use Rattle.cdcl_learn.proofs.WorkLemmas.{work_short, work_more, lower_view}
use Rattle.cdcl_learn.proofs.work.Work.add_lower.Goals as goal

pub index_mut-requires-2 : goal.index_mut-requires-2
index_mut-requires-2 c =
    let size = c.self.invariant.touched_size in
    let lt = work_short _ _ _ _ _ _ _ c.args.k.var c.self.invariant (subst (λ (m : Cut). c.args.k.var ≤ m.vars) (sym c.self.view_is) c.requires.within)
    (subst (λ (m : Cut). is_seen m.seen c.args.k.var ≡ false) (sym c.self.view_is) c.requires.unseen) in
    let short : c.self.inside.count < length c.self.inside.touched.items = omega arith in
    search (rules, short)

pub overflow_add-self : goal.overflow_add-self
overflow_add-self c =
    let limit = c.self.invariant.limit in
    let lt = work_short _ _ _ _ _ _ _ c.args.k.var c.self.invariant (subst (λ (m : Cut). c.args.k.var ≤ m.vars) (sym c.self.view_is) c.requires.within)
    (subst (λ (m : Cut). is_seen m.seen c.args.k.var ≡ false) (sym c.self.view_is) c.requires.unseen) in
    omega arith

pub index_mut-requires-3 : goal.index_mut-requires-3
index_mut-requires-3 c =
    let size = c.self.invariant.rest_size in
    let few = c.self.invariant.short in
    let lt = work_short _ _ _ _ _ _ _ c.args.k.var c.self.invariant (subst (λ (m : Cut). c.args.k.var ≤ m.vars) (sym c.self.view_is) c.requires.within)
    (subst (λ (m : Cut). is_seen m.seen c.args.k.var ≡ false) (sym c.self.view_is) c.requires.unseen) in
    let short : c.self.inside.len < length c.self.inside.rest.items = omega arith in
    search (rules, short)

pub overflow_add-self-2 : goal.overflow_add-self-2
overflow_add-self-2 c =
    let limit = c.self.invariant.limit in
    let few = c.self.invariant.short in
    let lt = work_short _ _ _ _ _ _ _ c.args.k.var c.self.invariant (subst (λ (m : Cut). c.args.k.var ≤ m.vars) (sym c.self.view_is) c.requires.within)
    (subst (λ (m : Cut). is_seen m.seen c.args.k.var ≡ false) (sym c.self.view_is) c.requires.unseen) in
    omega arith

pub invariant_of-self : goal.invariant_of-self
invariant_of-self c =
    let few = c.self.invariant.few in
    let short = c.self.invariant.short in
    rw c.var-v.ensures.value (work_more _ _ _ _ _ _ _ c.args.k.var (set c.self.inside.rest.items c.self.inside.len c.args.k) (c.self.inside.len + 1)
    c.self.inside.pending c.self.invariant (subst (λ (m : Cut). c.args.k.var ≤ m.vars) (sym c.self.view_is) c.requires.within)
    (subst (λ (m : Cut). is_seen m.seen c.args.k.var ≡ false) (sym c.self.view_is) c.requires.unseen)
    (length-set c.self.inside.rest.items c.self.inside.len c.args.k ∙ c.self.invariant.rest_size) (omega arith) (omega arith))

pub returns : goal.returns
returns c =
    let size = c.self.invariant.rest_size in
    let few = c.self.invariant.short in
    let lt = work_short _ _ _ _ _ _ _ c.args.k.var c.self.invariant (subst (λ (m : Cut). c.args.k.var ≤ m.vars) (sym c.self.view_is) c.requires.within)
    (subst (λ (m : Cut). is_seen m.seen c.args.k.var ≡ false) (sym c.self.view_is) c.requires.unseen) in
    let touched = c.self.invariant.touched_size in
    lower_view _ _ _ _ _ _ _ _ c.args.k c.args.self.now c.self.view_is c.var-v.ensures.value (omega arith) (omega arith)
