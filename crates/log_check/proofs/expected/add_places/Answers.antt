use Rattle.std.proofs.Common.{◌≡◌, ◌+◌, take, sym, length, arith, rules}
use Rattle.plan_core.specs.Values.{value_of}
use Rattle.drawing_cnf.specs.Layout.{layout_of}
use Rattle.log_check.proofs.ExpectingLemmas.{rebased, passes_as, within_as, whole_order, front_passes}
use Rattle.log_check.proofs.expected.add_places.Goals as goal

pub add_place-requires-clause-within : goal.add_place-requires-clause-within
add_place-requires-clause-within c =
    within_as (layout_of c.args.e.now.encoded) (layout_of c.loop-i.e.encoded) (value_of c.args.caps.now) (sym c.loop-i.invariant.layout) c.requires.within

pub add_place-requires-clause-so_far : goal.add_place-requires-clause-so_far
add_place-requires-clause-so_far c =
    rebased (layout_of c.args.e.now.encoded) (layout_of c.loop-i.e.encoded) (take c.loop-i.i c.args.order.now) (value_of c.args.caps.now) c.loop-i.e.encoded
    c.loop-i.e.parts.items (sym c.loop-i.invariant.layout) c.loop-i.invariant

pub returns-in_err-add_place-clause-full : goal.returns-in_err-add_place-clause-full
returns-in_err-add_place-clause-full c = λ room.
    front_passes (layout_of c.args.e.now.encoded) c.args.order.now (c.loop-i.i + 1) (value_of c.args.caps.now)
    (passes_as (layout_of c.loop-i.e.encoded) (layout_of c.args.e.now.encoded) (take (c.loop-i.i + 1) c.args.order.now) (value_of c.args.caps.now)
    c.loop-i.invariant.layout (c.in_err-add_place.ensures.full (search rules)))

pub loop-i-preserved : goal.loop-i-preserved
loop-i-preserved c =
    rebased (layout_of c.loop-i.e.encoded) (layout_of c.args.e.now.encoded) (take (c.loop-i.i + 1) c.args.order.now) (value_of c.args.caps.now)
    c.add_place.new.e.encoded c.add_place.new.e.parts.items c.loop-i.invariant.layout
    c.in_ok-add_place.ensures.so_far

pub returns-clause-so_far : goal.returns-clause-so_far
returns-clause-so_far c =
    whole_order (layout_of c.args.e.now.encoded) c.args.order.now c.loop-i.i (value_of c.args.caps.now) c.loop-i.e.encoded c.loop-i.e.parts.items
    (let all : c.loop-i.i ≡ length c.args.order.now = omega arith in all) c.loop-i.invariant
