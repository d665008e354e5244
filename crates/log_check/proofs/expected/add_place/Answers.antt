use Rattle.std.proofs.Common.{◌≤◌, sym, ◌∙◌, arith}
use Rattle.plan_core.specs.Values.{value_of}
use Rattle.drawing_cnf.specs.Layout.{layout_of}
use Rattle.log_check.proofs.ExpectingLemmas.{place_skipped, place_added_on, place_passes}
use Rattle.log_check.proofs.expected.add_place.Goals as goal

pub returns-then-cap-eq0-clause-so_far : goal.returns-then-cap-eq0-clause-so_far
returns-then-cap-eq0-clause-so_far c =
    place_skipped (layout_of c.args.e.now.encoded) c.args.order.now c.args.i c.get-c.result (value_of c.args.caps.now) c.args.e.now.encoded
    c.args.e.now.parts.items c.get-c.ensures (sym c.of-cap.ensures ∙ c.if-cap-eq0.true) c.requires.so_far

pub returns-clause-so_far : goal.returns-clause-so_far
returns-clause-so_far c =
    let k = c.add_bounds.ensures in
    let some : 1 ≤ c.of-cap.result = omega arith in
    place_added_on c.add_bounds.result c.args.e.now.encoded c.add_bounds.new.e.encoded c.args.e.now.parts.items c.add_bounds.new.e.parts.items c.args.order.now
    c.args.i c.get-c.result c.of-cap.result (value_of c.args.caps.now)
    c.get-c.ensures c.of-cap.ensures some k.grown k.parts c.requires.so_far

pub returns-clause-full : goal.returns-clause-full
returns-clause-full c = λ is.
    let some : 1 ≤ c.of-cap.result = omega arith in
    place_passes c.args.e.now.encoded c.args.e.now.parts.items c.args.order.now c.args.i c.get-c.result c.of-cap.result (value_of c.args.caps.now)
    c.get-c.ensures c.of-cap.ensures some c.requires.so_far (c.add_bounds.ensures.full is)
