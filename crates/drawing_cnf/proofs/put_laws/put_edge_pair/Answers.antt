use Rattle.std.proofs.Common.{refl, sym, ◌∙◌, arith}
use Rattle.cnf_core.specs.Truths.{assignment}
use Rattle.track_order.specs.Order.{is_above, is_overlap}
use Rattle.drawing_cnf.proofs.PutLaws.{settled_is, settled_puts, unsettled_parted, one_variable, parted_size, parted_puts}
use Rattle.drawing_cnf.proofs.put_laws.put_edge_pair.Goals as goal

pub returns-then-is_settled : goal.returns-then-is_settled
returns-then-is_settled c =
    let s = c.args.s.now in
    let t = s.order.now in
    let e = c.args.e in
    let f = c.args.f in
    let is = settled_is c.is_settled.result c.above.result c.above-2.result c.overlap.result (is_above t e f) (is_above t f e) (is_overlap t e f)
    c.is_settled.ensures c.above.ensures c.above-2.ensures c.overlap.ensures in
    let none = settled_puts s.graph.now s.grid.now s.drawing.now (is_above t) (is_overlap t) e f c.args.first (assignment c.args.m.now) c.requires.pair
    c.requires.put c.requires.over (sym is ∙ c.if-is_settled.true) in
    let size = none.none in
    record { puts = none.puts; next = omega arith; vars = refl }

pub put_variable-requires-clause-to : goal.put_variable-requires-clause-to
put_variable-requires-clause-to c =
    let s = c.args.s.now in
    let t = s.order.now in
    let e = c.args.e in
    let f = c.args.f in
    let is = settled_is c.is_settled.result c.above.result c.above-2.result c.overlap.result (is_above t e f) (is_above t f e) (is_overlap t e f)
    c.is_settled.ensures c.above.ensures c.above-2.ensures c.overlap.ensures in
    let size = parted_size s.graph.now (is_above t) (is_overlap t) e f (sym is ∙ c.if-is_settled.false) in
    let to = c.requires.to in
    omega arith

pub put_variable-requires-clause-small : goal.put_variable-requires-clause-small
put_variable-requires-clause-small c =
    let s = c.args.s.now in
    let t = s.order.now in
    let e = c.args.e in
    let f = c.args.f in
    let is = settled_is c.is_settled.result c.above.result c.above-2.result c.overlap.result (is_above t e f) (is_above t f e) (is_overlap t e f)
    c.is_settled.ensures c.above.ensures c.above-2.ensures c.overlap.ensures in
    let size = parted_size s.graph.now (is_above t) (is_overlap t) e f (sym is ∙ c.if-is_settled.false) in
    let small = c.requires.small in
    omega arith

pub returns : goal.returns
returns c =
    let s = c.args.s.now in
    let g = s.graph.now in
    let t = s.order.now in
    let e = c.args.e in
    let f = c.args.f in
    let v = c.put_variable.ensures in
    let is = settled_is c.is_settled.result c.above.result c.above-2.result c.overlap.result (is_above t e f) (is_above t f e) (is_overlap t e f)
    c.is_settled.ensures c.above.ensures c.above-2.ensures c.overlap.ensures in
    let off = sym is ∙ c.if-is_settled.false in
    let parted = unsettled_parted g t s.drawing.now e f c.requires.pair c.requires.order c.requires.parted off in
    let p = parted_puts g s.grid.now s.drawing.now (is_above t) (is_overlap t) e f c.args.first (assignment c.args.m.now) (assignment c.put_variable.new.m)
    c.is_over.result c.requires.pair c.requires.put off parted c.is_over.ensures v.value
    (one_variable c.args.first (assignment c.args.m.now) (assignment c.put_variable.new.m) v.others) in
    let size = p.one in
    record { puts = p.puts; next = omega arith; vars = v.vars }
