use Rattle.std.proofs.Common.{◌≡◌, ◌+◌, ◌-◌, length, refl, ◌∙◌, ap, arith}
use Rattle.track_order.specs.Order.{is_above, is_overlap}
use Rattle.cnf_core.specs.Truths.{assignment}
use Rattle.cnf_core.specs.declared.limits.TheConstants.{VARS}
use Rattle.cnf_laws.specs.Expected.{edge_pair, instances_from, pairs_from, instance_pairs}
use Rattle.drawing_cnf.proofs.PutLaws.{put_to_more, putting_start, putting_room, putting_more, putting_next, putting_done}
use Rattle.drawing_cnf.proofs.put_laws.put_edge_pairs.Goals as goal

pub loop-e-init : goal.loop-e-init
loop-e-init c =
    let s = c.args.s.now in (
      putting_start s.graph.now s.grid.now (pairs_from (length s.graph.now.edges) (edge_pair (is_above s.order.now) (is_overlap s.order.now)))
          (instance_pairs (length s.graph.now.edges) (edge_pair (is_above s.order.now) (is_overlap s.order.now))) c.args.first (assignment c.args.m.now) 0
          c.edges-end.result (ap (λ k. instances_from (pairs_from (length s.graph.now.edges) (edge_pair (is_above s.order.now) (is_overlap s.order.now))) 0 k)
          (let z : length s.graph.now.edges ≡ c.edges-end.result - 0 = omega (arith, c.edges-end.ensures.value) in z)),
      refl,
    )

pub put_edge_row-next-requires-clause-put : goal.put_edge_row-next-requires-clause-put
put_edge_row-next-requires-clause-put c =
    let s = c.args.s.now in
    put_to_more s.graph.now s.grid.now s.drawing.now (assignment c.args.m.now) (assignment c.loop-e.m) c.args.first c.loop-e.next c.requires.put
    c.loop-e.invariant.0.from c.loop-e.invariant.0.same.below

pub put_edge_row-next-requires-clause-to : goal.put_edge_row-next-requires-clause-to
put_edge_row-next-requires-clause-to c =
    let s = c.args.s.now in
    let room = putting_room s.graph.now s.grid.now (pairs_from (length s.graph.now.edges) (edge_pair (is_above s.order.now) (is_overlap s.order.now)))
    (instance_pairs (length s.graph.now.edges) (edge_pair (is_above s.order.now) (is_overlap s.order.now))) c.args.first (assignment c.args.m.now)
    (assignment c.loop-e.m) c.loop-e.next c.loop-e.e c.edges-end.result (length c.args.m.now + 1) c.loop-e-test.true c.loop-e.invariant.0 c.requires.to in
    let same = c.loop-e.invariant.1 in
    omega arith

pub put_edge_row-next-requires-clause-small : goal.put_edge_row-next-requires-clause-small
put_edge_row-next-requires-clause-small c =
    let s = c.args.s.now in
    putting_room s.graph.now s.grid.now (pairs_from (length s.graph.now.edges) (edge_pair (is_above s.order.now) (is_overlap s.order.now)))
    (instance_pairs (length s.graph.now.edges) (edge_pair (is_above s.order.now) (is_overlap s.order.now))) c.args.first (assignment c.args.m.now)
    (assignment c.loop-e.m) c.loop-e.next c.loop-e.e c.edges-end.result (VARS + 1) c.loop-e-test.true c.loop-e.invariant.0 c.requires.small

pub loop-e-preserved : goal.loop-e-preserved
loop-e-preserved c =
    let s = c.args.s.now in (
      putting_more s.graph.now s.grid.now (pairs_from (length s.graph.now.edges) (edge_pair (is_above s.order.now) (is_overlap s.order.now)))
          (instance_pairs (length s.graph.now.edges) (edge_pair (is_above s.order.now) (is_overlap s.order.now))) c.args.first (assignment c.args.m.now)
          (assignment c.loop-e.m) (assignment c.put_edge_row-next.new.m) c.loop-e.next c.put_edge_row-next.result c.loop-e.e c.edges-end.result
          c.loop-e-test.true
          c.loop-e.invariant.0 c.put_edge_row-next.ensures.puts c.put_edge_row-next.ensures.next,
      c.put_edge_row-next.ensures.vars ∙ c.loop-e.invariant.1,
    )

pub returns : goal.returns
returns c =
    let s = c.args.s.now in
    record {
      puts = putting_done s.graph.now s.grid.now (pairs_from (length s.graph.now.edges) (edge_pair (is_above s.order.now) (is_overlap s.order.now)))
          (instance_pairs (length s.graph.now.edges) (edge_pair (is_above s.order.now) (is_overlap s.order.now))) c.args.first (assignment c.args.m.now)
          (assignment c.loop-e.m) c.loop-e.next c.loop-e.e c.edges-end.result c.loop-e-test.false c.loop-e.invariant.0;
      next = putting_next s.graph.now s.grid.now (pairs_from (length s.graph.now.edges) (edge_pair (is_above s.order.now) (is_overlap s.order.now)))
          (instance_pairs (length s.graph.now.edges) (edge_pair (is_above s.order.now) (is_overlap s.order.now))) c.args.first (assignment c.args.m.now)
          (assignment c.loop-e.m) c.loop-e.next c.loop-e.e c.edges-end.result c.loop-e-test.false c.loop-e.invariant.0;
      vars = c.loop-e.invariant.1;
    }
