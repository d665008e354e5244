use Rattle.std.proofs.Common.{[], sym, subst, rules}
use Rattle.cnf_core.specs.Formula.{Cnf, IsFormula}
use Rattle.plan_core.specs.Values.{value_of}
use Rattle.drawing_cnf.specs.Layout.{layout, layout_of}
use Rattle.log_check.proofs.ExpectingLemmas.{rebased, passes_as, passes_more, within_as, within_limits}
use Rattle.log_check.proofs.expected.expected_of.Goals as goal

pub returns-in_err-e-clause-full : goal.returns-in_err-e-clause-full
returns-in_err-e-clause-full c = λ is.
    passes_more (layout c.args.g.now c.args.t.now c.args.grid.now) [] c.args.order.now (value_of c.args.caps.now)
    (c.in_err-e.ensures.full (search rules) (value_of c.args.caps.now))

pub add_places-requires-clause-within : goal.add_places-requires-clause-within
add_places-requires-clause-within c =
    let cap = value_of c.args.caps.now in
    within_as (layout c.args.g.now c.args.t.now c.args.grid.now) (layout_of c.in_ok-e.e.encoded) cap (sym (c.in_ok-e.ensures.so_far cap).layout)
    c.requires.within

pub add_places-requires-clause-so_far : goal.add_places-requires-clause-so_far
add_places-requires-clause-so_far c =
    let cap = value_of c.args.caps.now in
    rebased (layout c.args.g.now c.args.t.now c.args.grid.now) (layout_of c.in_ok-e.e.encoded) [] cap c.in_ok-e.e.encoded c.in_ok-e.e.parts.items
    (sym (c.in_ok-e.ensures.so_far cap).layout) (c.in_ok-e.ensures.so_far cap)

pub returns-in_err-add_places-clause-full : goal.returns-in_err-add_places-clause-full
returns-in_err-add_places-clause-full c = λ is.
    let cap = value_of c.args.caps.now in
    passes_as (layout_of c.in_ok-e.e.encoded) (layout c.args.g.now c.args.t.now c.args.grid.now) c.args.order.now cap (c.in_ok-e.ensures.so_far cap).layout
    (c.in_err-add_places.ensures.full (search rules))

pub returns-clause-so_far : goal.returns-clause-so_far
returns-clause-so_far c =
    let cap = value_of c.args.caps.now in
    let f = c.add_places.new.e in
    rebased (layout_of c.in_ok-e.e.encoded) (layout c.args.g.now c.args.t.now c.args.grid.now) c.args.order.now cap f.encoded f.parts.items
    (c.in_ok-e.ensures.so_far cap).layout c.in_ok-add_places.ensures.so_far

pub returns-clause-fits : goal.returns-clause-fits
returns-clause-fits c =
    let cap = value_of c.args.caps.now in
    let f = c.add_places.new.e in
    let whole = rebased (layout_of c.in_ok-e.e.encoded) (layout c.args.g.now c.args.t.now c.args.grid.now) c.args.order.now cap f.encoded f.parts.items
    (c.in_ok-e.ensures.so_far cap).layout c.in_ok-add_places.ensures.so_far in
    within_limits (layout c.args.g.now c.args.t.now c.args.grid.now) c.args.order.now cap f.encoded f.parts.items whole
    (subst (λ (x : Cnf). IsFormula x) c.formula.ensures c.words.ensures.formula)
