use Rattle.std.proofs.Common.{◌∙◌}
use Rattle.drawing_cnf.proofs.DiagonalCode.{outputs_next, outputs_done}
use Rattle.drawing_cnf.proofs.diagonal_bound.outputs_of.Goals as goal

pub loop-sum-preserved : goal.loop-sum-preserved
loop-sum-preserved c =
    outputs_next c.args.sums.now c.loop-sum.sum-index c.sum-item.result c.loop-sum.outputs.items c.deref.result.now c.extend_from_slice.new.self.items
    c.loop-sum-test.true c.sum-item.is (c.deref.ensures.value ∙ c.in_ok-own.ensures.value)
    c.in_ok-extend_from_slice.ensures.items c.loop-sum.invariant

pub returns : goal.returns
returns c = outputs_done c.args.sums.now c.loop-sum.sum-index c.loop-sum.outputs.items c.loop-sum-test.false c.loop-sum.invariant
