use Rattle.std.proofs.Common.{◌≡◌, refl, ◌∙◌, ap, subst, arith}
use Rattle.plan_core.specs.declared.criterion.Values.{Values}
use Rattle.plan_core.specs.Values.{values_of, value_of}
use Rattle.cnf_core.specs.Truths.{assignment}
use Rattle.track_order.specs.Order.{is_above, is_overlap}
use Rattle.cnf_laws.specs.Expected.{formula_size}
use Rattle.drawing_cnf.specs.Bounds.{IsExact}
use Rattle.drawing_cnf.proofs.PutBounds.{bounds_start, next_bound, bounds_more, bounds_done, bounds_later}
use Rattle.drawing_cnf.proofs.put_bounds.put_bounds.Goals as goal

pub loop-k-init : goal.loop-k-init
loop-k-init c =
    let s = c.args.s.now in (
      bounds_start s.graph.now s.grid.now c.args.bounds.now (formula_size s.graph.now (is_above s.order.now) (is_overlap s.order.now) s.grid.now)
          (assignment c.args.m.now) c.requires.behind,
      refl,
    )

pub put_bound-requires-clause-in_row : goal.put_bound-requires-clause-in_row
put_bound-requires-clause-in_row c =
    let s = c.args.s.now in
    (next_bound s.graph.now s.grid.now s.drawing.now c.args.bounds.now (formula_size s.graph.now (is_above s.order.now) (is_overlap s.order.now) s.grid.now)
    c.loop-k.k-index c.k-item.result (assignment c.args.m.now) (assignment c.loop-k.m) c.loop-k-test.true c.k-item.is c.requires.kept c.requires.put
    c.loop-k.invariant.0).row

pub put_bound-requires-clause-there : goal.put_bound-requires-clause-there
put_bound-requires-clause-there c =
    let s = c.args.s.now in
    let n = next_bound s.graph.now s.grid.now s.drawing.now c.args.bounds.now (formula_size s.graph.now (is_above s.order.now) (is_overlap s.order.now)
    s.grid.now) c.loop-k.k-index c.k-item.result (assignment c.args.m.now) (assignment c.loop-k.m) c.loop-k-test.true c.k-item.is c.requires.kept c.requires.put
    c.loop-k.invariant.0 in
    let to = n.to in
    let room = c.requires.there in
    let still = c.loop-k.invariant.1 in
    omega arith

pub put_bound-requires-clause-small : goal.put_bound-requires-clause-small
put_bound-requires-clause-small c =
    let s = c.args.s.now in
    let n = next_bound s.graph.now s.grid.now s.drawing.now c.args.bounds.now (formula_size s.graph.now (is_above s.order.now) (is_overlap s.order.now)
    s.grid.now) c.loop-k.k-index c.k-item.result (assignment c.args.m.now) (assignment c.loop-k.m) c.loop-k-test.true c.k-item.is c.requires.kept c.requires.put
    c.loop-k.invariant.0 in
    let to = n.to in
    let room = c.requires.small in
    omega arith

pub loop-k-preserved : goal.loop-k-preserved
loop-k-preserved c =
    let s = c.args.s.now in
    let k = c.k-item.result in
    let p = c.put_bound.ensures in
    let value : c.of.result ≡ value_of (values_of s.drawing.now) k.criterion = c.of.ensures ∙ ap (λ (v : Values). value_of v k.criterion) c.requires.values in (
      bounds_more s.graph.now s.grid.now s.drawing.now c.args.bounds.now (formula_size s.graph.now (is_above s.order.now) (is_overlap s.order.now) s.grid.now)
          c.loop-k.k-index k (assignment c.args.m.now) (assignment c.loop-k.m) (assignment c.put_bound.new.m) c.loop-k-test.true c.k-item.is c.requires.kept
          c.requires.put c.loop-k.invariant.0
          p.same (subst (λ n. IsExact (assignment c.put_bound.new.m) k.last k.cap n) value p.exact) p.holds,
      p.vars ∙ c.loop-k.invariant.1,
    )

pub returns : goal.returns
returns c =
    let s = c.args.s.now in
    record {
      below = c.loop-k.invariant.0.same;
      holds = bounds_done s.graph.now s.grid.now c.args.bounds.now (formula_size s.graph.now (is_above s.order.now) (is_overlap s.order.now) s.grid.now)
          c.loop-k.k-index (assignment c.args.m.now) (assignment c.loop-k.m) c.loop-k-test.false c.loop-k.invariant.0;
      later = bounds_later s.graph.now s.grid.now c.args.bounds.now (formula_size s.graph.now (is_above s.order.now) (is_overlap s.order.now) s.grid.now)
          c.loop-k.k-index (assignment c.args.m.now) (assignment c.loop-k.m) c.loop-k-test.false c.loop-k.invariant.0;
      vars = c.loop-k.invariant.1;
    }
