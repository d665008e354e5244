use Rattle.std.proofs.Common.{◌≡◌, ◌≤◌, ◌<◌, ◌+◌, false, length, subst, sym, arith, rules}
use Rattle.cdcl_learn.specs.Cut.{Cut, is_seen}
use Rattle.cdcl_learn.proofs.WorkLemmas.{work_short, work_more, open_view}
use Rattle.cdcl_learn.proofs.work.Work.add_open.Goals as goal

pub index_mut-requires-2 : goal.index_mut-requires-2
index_mut-requires-2 c =
    let size = c.self.invariant.touched_size in
    let lt = work_short _ _ _ _ _ _ _ c.args.k.var c.self.invariant (subst (λ (m : Cut). c.args.k.var ≤ m.vars) (sym c.self.view_is) c.requires.within)
    (subst (λ (m : Cut). is_seen m.seen c.args.k.var ≡ false) (sym c.self.view_is) c.requires.unseen) in
    let short : c.self.inside.count < length c.self.inside.touched.items = omega arith in
    search (rules, short)

pub overflow_add-self : goal.overflow_add-self
overflow_add-self c =
    let limit = c.self.invariant.limit in
    let lt = work_short _ _ _ _ _ _ _ c.args.k.var c.self.invariant (subst (λ (m : Cut). c.args.k.var ≤ m.vars) (sym c.self.view_is) c.requires.within)
    (subst (λ (m : Cut). is_seen m.seen c.args.k.var ≡ false) (sym c.self.view_is) c.requires.unseen) in
    omega arith

pub overflow_add-self-2 : goal.overflow_add-self-2
overflow_add-self-2 c =
    let limit = c.self.invariant.limit in
    let few = c.self.invariant.few in
    let lt = work_short _ _ _ _ _ _ _ c.args.k.var c.self.invariant (subst (λ (m : Cut). c.args.k.var ≤ m.vars) (sym c.self.view_is) c.requires.within)
    (subst (λ (m : Cut). is_seen m.seen c.args.k.var ≡ false) (sym c.self.view_is) c.requires.unseen) in
    omega arith

pub invariant_of-self : goal.invariant_of-self
invariant_of-self c =
    let few = c.self.invariant.few in
    let short = c.self.invariant.short in
    rw c.var-v.ensures.value (work_more _ _ _ _ _ _ _ c.args.k.var c.self.inside.rest.items c.self.inside.len (c.self.inside.pending + 1) c.self.invariant
    (subst (λ (m : Cut). c.args.k.var ≤ m.vars) (sym c.self.view_is) c.requires.within)
    (subst (λ (m : Cut). is_seen m.seen c.args.k.var ≡ false) (sym c.self.view_is) c.requires.unseen)
    c.self.invariant.rest_size (omega arith) (omega arith))

pub returns : goal.returns
returns c =
    let size = c.self.invariant.touched_size in
    let lt = work_short _ _ _ _ _ _ _ c.args.k.var c.self.invariant (subst (λ (m : Cut). c.args.k.var ≤ m.vars) (sym c.self.view_is) c.requires.within)
    (subst (λ (m : Cut). is_seen m.seen c.args.k.var ≡ false) (sym c.self.view_is) c.requires.unseen) in
    open_view _ _ _ _ _ _ _ _ c.args.k c.args.self.now c.self.view_is c.var-v.ensures.value (omega arith)
