use Rattle.std.proofs.Common.{rules, refl, Ok}
use Rattle.cnf_core.proofs.BlockLemmas.{block_fault, block_same}
use Rattle.drawing_cnf.proofs.BoundCode.{block_lost}
use Rattle.drawing_cnf.proofs.diagonal_bound.add_next_sum.Goals as goal

pub returns-in_err-sum-clause-adds : goal.returns-in_err-sum-clause-adds
returns-in_err-sum-clause-adds c = block_fault c.add_sum_of.result c.from_residual.result _ _ _ _ 3 c.from_residual.ensures.0 (λ k. search (rules, k))
    c.add_sum_of.ensures.adds

pub returns-in_err-push-clause-adds : goal.returns-in_err-push-clause-adds
returns-in_err-push-clause-adds c = block_lost _ c.from_residual-in_err-push.result _ _ _ 3 _ c.from_residual-in_err-push.ensures.0 (λ k. search (rules, k))
    c.in_ok-sum.ensures.adds

pub returns-clause-adds : goal.returns-clause-adds
returns-clause-adds c = block_same (Ok c.in_ok-sum.sum) tt _ _ _ _ 3 c.in_ok-sum.sum refl c.in_ok-sum.ensures.adds
