use Rattle.std.proofs.Common.{◌+◌, length, refl, ◌∙◌, arith}
use Rattle.cnf_core.specs.Truths.{assignment}
use Rattle.cnf_core.proofs.ClauseLemmas.{there_more}
use Rattle.drawing_cnf.proofs.PutBounds.{sums_start, item_within, item_past, item_is, next_sum, sums_more, sums_done}
use Rattle.drawing_cnf.proofs.put_bounds.put_bound.Goals as goal

pub loop-s-init : goal.loop-s-init
loop-s-init c = let k = c.args.k.now in (sums_start (k.last + k.cap) k.sums.items (assignment c.put_block.new.m) c.requires.in_row, refl)

pub put-requires-clause-inputs : goal.put-requires-clause-inputs
put-requires-clause-inputs c =
    let k = c.args.k.now in
    let n = next_sum (k.last + k.cap) k.sums.items c.loop-s.s-index c.s-item.result (assignment c.put_block.new.m) (assignment c.loop-s.m)
    (item_within k.sums.items c.deref-s-items.result.now c.loop-s.s-index c.deref-s-items.ensures.value c.loop-s-test.true)
    (item_is k.sums.items c.deref-s-items.result.now c.loop-s.s-index c.s-item.result c.deref-s-items.ensures.value c.s-item.is) c.loop-s.invariant.0 in
    let to = n.to in
    let room = c.requires.there in
    let same = c.put_block.ensures.vars in
    let still = c.loop-s.invariant.1 in
    there_more c.s-item.result.vars (length c.loop-s.m) c.s-item.result.inputs (omega arith) n.there

pub put-requires-clause-own : goal.put-requires-clause-own
put-requires-clause-own c = λ some.
    let k = c.args.k.now in
    let n = next_sum (k.last + k.cap) k.sums.items c.loop-s.s-index c.s-item.result (assignment c.put_block.new.m) (assignment c.loop-s.m)
    (item_within k.sums.items c.deref-s-items.result.now c.loop-s.s-index c.deref-s-items.ensures.value c.loop-s-test.true)
    (item_is k.sums.items c.deref-s-items.result.now c.loop-s.s-index c.s-item.result c.deref-s-items.ensures.value c.s-item.is) c.loop-s.invariant.0 in
    let to = n.to in
    let room = c.requires.there in
    let same = c.put_block.ensures.vars in
    let still = c.loop-s.invariant.1 in
    omega arith

pub loop-s-preserved : goal.loop-s-preserved
loop-s-preserved c =
    let k = c.args.k.now in (
      sums_more (k.last + k.cap) k.sums.items c.loop-s.s-index c.s-item.result (assignment c.put_block.new.m) (assignment c.loop-s.m) (assignment c.put.new.m)
          (item_within k.sums.items c.deref-s-items.result.now c.loop-s.s-index c.deref-s-items.ensures.value c.loop-s-test.true)
          (item_is k.sums.items c.deref-s-items.result.now c.loop-s.s-index c.s-item.result c.deref-s-items.ensures.value c.s-item.is) c.loop-s.invariant.0
          c.put.ensures.model c.put.ensures.same,
      c.put.ensures.vars ∙ c.loop-s.invariant.1,
    )

pub returns : goal.returns
returns c =
    let k = c.args.k.now in
    let p = sums_done (k.last + k.cap) k.sums.items c.loop-s.s-index (assignment c.put_block.new.m) (assignment c.loop-s.m)
    (item_past k.sums.items c.deref-s-items.result.now c.loop-s.s-index c.deref-s-items.ensures.value c.loop-s-test.false) c.loop-s.invariant.0 in
    let b = c.put_block.ensures in
    record {
      same = record {
        below = λ y low. p.same.below y (omega arith) ∙ b.same.below y low;
        above = λ y high. p.same.above y (omega arith) ∙ b.same.above y (omega arith);
      };
      exact = λ j from to. p.same.below (k.last + j) (omega arith) ∙ b.exact j from to;
      holds = p.holds;
      vars = c.loop-s.invariant.1 ∙ b.vars;
    }
