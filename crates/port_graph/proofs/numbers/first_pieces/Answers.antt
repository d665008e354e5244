use Rattle.std.proofs.Common.{◌+◌, length, ap, arith}
use Rattle.port_graph.proofs.NumberLemmas.{first_more, first_few, firsts_more}
use Rattle.port_graph.proofs.numbers.first_pieces.Goals as goal

pub overflow_cast-next : goal.overflow_cast-next
overflow_cast-next c =
    omega (
      arith,
      first_more c.args.t.now c.as_slice-track-items.result.now c.loop-track.track-index c.track-item.result c.as_slice-track-items.ensures
          c.loop-track-test.true c.track-item.is,
      first_few c.args.t.now (c.loop-track.track-index + 1) c.requires,
    )

pub loop-track-preserved : goal.loop-track-preserved
loop-track-preserved c = record {
  count = omega (arith, c.in_ok-push.ensures.len);
  next =
      omega (
        arith,
        first_more c.args.t.now c.as_slice-track-items.result.now c.loop-track.track-index c.track-item.result c.as_slice-track-items.ensures
            c.loop-track-test.true c.track-item.is,
      );
  each =
      firsts_more c.args.t.now c.loop-track.firsts.items _ c.loop-track.track-index c.loop-track.next c.in_ok-push.ensures.items (omega arith)
      c.loop-track.invariant.next
      c.loop-track.invariant.each;
}

pub returns : goal.returns
returns c = record {
  count = omega (arith, c.in_ok-push-2.ensures.len, ap length c.as_slice-track-items.ensures);
  each = λ k within.
      firsts_more c.args.t.now c.loop-track.firsts.items _ c.loop-track.track-index c.loop-track.next c.in_ok-push-2.ensures.items (omega arith)
      c.loop-track.invariant.next
      c.loop-track.invariant.each k (omega (arith, ap length c.as_slice-track-items.ensures));
}
