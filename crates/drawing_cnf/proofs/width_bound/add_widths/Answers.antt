use Rattle.std.proofs.Common.{rules}
use Rattle.cnf_core.proofs.StepLemmas.{adding_first, adding_more, adding_done, adding_refused}
use Rattle.drawing_cnf.proofs.width_bound.add_widths.Goals as goal

pub loop-k-init : goal.loop-k-init
loop-k-init c = adding_first _ _ 1 c.args.cap

pub returns-in_err-add_width_at : goal.returns-in_err-add_width_at
returns-in_err-add_width_at c =
    adding_refused c.add_width_at.result c.from_residual.result _ _ _ _ _ _ _ _ c.from_residual.ensures.0 (λ k. search (rules, k)) c.loop-k-test.true
    c.loop-k.invariant c.add_width_at.ensures

pub loop-k-preserved : goal.loop-k-preserved
loop-k-preserved c = adding_more _ _ _ _ _ _ _ _ _ c.loop-k-test.true c.loop-k.invariant c.in_ok-add_width_at.ensures

pub returns : goal.returns
returns c = adding_done tt _ _ _ _ _ _ _ c.loop-k-test.false c.loop-k.invariant
