use Rattle.std.proofs.Common.{◌+◌, ◌-◌, length, refl, sym, ◌∙◌, ap, arith}
use Rattle.track_order.specs.Order.{is_above, is_overlap}
use Rattle.cnf_core.specs.Truths.{assignment}
use Rattle.cnf_core.specs.declared.limits.TheConstants.{VARS}
use Rattle.cnf_laws.specs.Expected.{edge_pair, instances_from, pairs_from}
use Rattle.drawing_cnf.proofs.PutLaws.{put_to_more, putting_start, putting_room, putting_more, putting_next, putting_done}
use Rattle.drawing_cnf.proofs.put_laws.put_edge_row.Goals as goal

pub loop-f-init : goal.loop-f-init
loop-f-init c =
    let s = c.args.s.now in (
      putting_start s.graph.now s.grid.now (edge_pair (is_above s.order.now) (is_overlap s.order.now) c.args.e)
          (pairs_from (length s.graph.now.edges) (edge_pair (is_above s.order.now) (is_overlap s.order.now)) c.args.e) c.args.first (assignment c.args.m.now)
          (c.args.e + 1) c.edges-end.result (ap (λ k. instances_from (edge_pair (is_above s.order.now) (is_overlap s.order.now) c.args.e) (c.args.e + 1)
          (k - (c.args.e + 1))) (sym c.edges-end.ensures.value)),
      refl,
    )

pub put_edge_pair-next-requires-clause-pair : goal.put_edge_pair-next-requires-clause-pair
put_edge_pair-next-requires-clause-pair c =
    let from = c.loop-f.auto.f in
    let to = c.loop-f-test.true in
    let is = c.edges-end.ensures.value in
    record { rising = omega arith; within = omega arith }

pub put_edge_pair-next-requires-clause-put : goal.put_edge_pair-next-requires-clause-put
put_edge_pair-next-requires-clause-put c =
    let s = c.args.s.now in
    put_to_more s.graph.now s.grid.now s.drawing.now (assignment c.args.m.now) (assignment c.loop-f.m) c.args.first c.loop-f.next c.requires.put
    c.loop-f.invariant.0.from c.loop-f.invariant.0.same.below

pub put_edge_pair-next-requires-clause-to : goal.put_edge_pair-next-requires-clause-to
put_edge_pair-next-requires-clause-to c =
    let s = c.args.s.now in
    let room = putting_room s.graph.now s.grid.now (edge_pair (is_above s.order.now) (is_overlap s.order.now) c.args.e)
    (pairs_from (length s.graph.now.edges) (edge_pair (is_above s.order.now) (is_overlap s.order.now)) c.args.e) c.args.first (assignment c.args.m.now)
    (assignment c.loop-f.m) c.loop-f.next c.loop-f.f c.edges-end.result (length c.args.m.now + 1) c.loop-f-test.true c.loop-f.invariant.0 c.requires.to in
    let same = c.loop-f.invariant.1 in
    omega arith

pub put_edge_pair-next-requires-clause-small : goal.put_edge_pair-next-requires-clause-small
put_edge_pair-next-requires-clause-small c =
    let s = c.args.s.now in
    putting_room s.graph.now s.grid.now (edge_pair (is_above s.order.now) (is_overlap s.order.now) c.args.e)
    (pairs_from (length s.graph.now.edges) (edge_pair (is_above s.order.now) (is_overlap s.order.now)) c.args.e) c.args.first (assignment c.args.m.now)
    (assignment c.loop-f.m) c.loop-f.next c.loop-f.f c.edges-end.result (VARS + 1) c.loop-f-test.true c.loop-f.invariant.0 c.requires.small

pub loop-f-preserved : goal.loop-f-preserved
loop-f-preserved c =
    let s = c.args.s.now in (
      putting_more s.graph.now s.grid.now (edge_pair (is_above s.order.now) (is_overlap s.order.now) c.args.e)
          (pairs_from (length s.graph.now.edges) (edge_pair (is_above s.order.now) (is_overlap s.order.now)) c.args.e) c.args.first (assignment c.args.m.now)
          (assignment c.loop-f.m) (assignment c.put_edge_pair-next.new.m) c.loop-f.next c.put_edge_pair-next.result c.loop-f.f c.edges-end.result
          c.loop-f-test.true
          c.loop-f.invariant.0 c.put_edge_pair-next.ensures.puts c.put_edge_pair-next.ensures.next,
      c.put_edge_pair-next.ensures.vars ∙ c.loop-f.invariant.1,
    )

pub returns : goal.returns
returns c =
    let s = c.args.s.now in
    record {
      puts = putting_done s.graph.now s.grid.now (edge_pair (is_above s.order.now) (is_overlap s.order.now) c.args.e)
          (pairs_from (length s.graph.now.edges) (edge_pair (is_above s.order.now) (is_overlap s.order.now)) c.args.e) c.args.first (assignment c.args.m.now)
          (assignment c.loop-f.m) c.loop-f.next c.loop-f.f c.edges-end.result c.loop-f-test.false c.loop-f.invariant.0;
      next = putting_next s.graph.now s.grid.now (edge_pair (is_above s.order.now) (is_overlap s.order.now) c.args.e)
          (pairs_from (length s.graph.now.edges) (edge_pair (is_above s.order.now) (is_overlap s.order.now)) c.args.e) c.args.first (assignment c.args.m.now)
          (assignment c.loop-f.m) c.loop-f.next c.loop-f.f c.edges-end.result c.loop-f-test.false c.loop-f.invariant.0;
      vars = c.loop-f.invariant.1;
    }
