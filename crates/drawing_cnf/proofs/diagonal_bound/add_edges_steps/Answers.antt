use Rattle.std.proofs.Common.{rules, ◌≤◌, ◌<◌, ◌+◌, length, drop, arith}
use Rattle.drawing_cnf.proofs.DiagonalCode.{left_none, left_one, summing_more, summing_done, summed, summing_refused}
use Rattle.drawing_cnf.proofs.diagonal_bound.add_edges_steps.Goals as goal

pub returns-in_err-add_next_sum-clause-adds : goal.returns-in_err-add_next_sum-clause-adds
returns-in_err-add_next_sum-clause-adds c =
    let es = c.args.edges.now in
    let k = c.loop-e.e-index in
    let lt : k < length es = omega arith in
    summing_refused c.add_next_sum.result c.from_residual.result _ _ _ _ c.loop-e.f c.add_next_sum.new.f _ _ es (drop k es) (drop (k + 1) es) _
    c.from_residual.ensures.0 (λ j. search (rules, j)) (left_one es k _ lt) c.loop-e.invariant c.add_next_sum.ensures.adds

pub returns-clause-adds : goal.returns-clause-adds
returns-clause-adds c =
    let es = c.args.edges.now in
    let k = c.loop-e.e-index in
    let past : length es ≤ k = omega arith in
    summing_done tt _ _ _ _ _ _ _ es (drop k es) (left_none es k past) c.loop-e.invariant

pub loop-e-preserved : goal.loop-e-preserved
loop-e-preserved c =
    let es = c.args.edges.now in
    let k = c.loop-e.e-index in
    let lt : k < length es = omega arith in
    summing_more tt _ _ _ _ _ _ _ _ _ es (drop k es) (drop (k + 1) es) _ (left_one es k _ lt) c.loop-e.invariant c.in_ok-add_next_sum.ensures.adds
    c.in_ok-add_next_sum.ensures.sums

pub returns-clause-sums : goal.returns-clause-sums
returns-clause-sums c =
    let es = c.args.edges.now in
    let k = c.loop-e.e-index in
    let past : length es ≤ k = omega arith in
    summed _ _ _ _ _ _ _ es (drop k es) (left_none es k past) c.loop-e.invariant
