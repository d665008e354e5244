use Rattle.std.proofs.Common.{rules, ◌+◌}
use Rattle.cnf_core.proofs.StepLemmas.{adding_first, adding_more, adding_done, adding_refused}
use Rattle.unary_sum.specs.Sum.{sum_at_least as sum_at_least}
use Rattle.drawing_cnf.proofs.BoundCode.{same_adds}
use Rattle.drawing_cnf.proofs.sum_bounds.add_outputs.Goals as goal

pub loop-k-init : goal.loop-k-init
loop-k-init c = adding_first _ _ 1 c.args.cap

pub returns-in_err-add_same_as : goal.returns-in_err-add_same_as
returns-in_err-add_same_as c =
    adding_refused c.add_same_as.result c.from_residual.result _ _ _ _ _ _ _ _ c.from_residual.ensures.0 (λ k. search (rules, k)) c.loop-k-test.true
    c.loop-k.invariant (same_adds c.add_same_as.result _ _ (c.args.last + c.loop-k.k) c.at_least.result (sum_at_least c.args.s.now c.loop-k.k)
    c.at_least.ensures.value c.add_same_as.ensures)

pub loop-k-preserved : goal.loop-k-preserved
loop-k-preserved c = adding_more _ _ _ _ _ _ _ _ _ c.loop-k-test.true c.loop-k.invariant
    (same_adds _ _ _ (c.args.last + c.loop-k.k) c.at_least.result (sum_at_least c.args.s.now c.loop-k.k) c.at_least.ensures.value c.in_ok-add_same_as.ensures)

pub returns : goal.returns
returns c = adding_done tt _ _ _ _ _ _ _ c.loop-k-test.false c.loop-k.invariant
