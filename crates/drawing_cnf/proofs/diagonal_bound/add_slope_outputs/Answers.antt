use Rattle.std.proofs.Common.{rules, [], ◌∷◌}
use Rattle.cnf_core.proofs.StepLemmas.{adds_refused, adds_after}
use Rattle.cnf_core.specs.LitOrTruth.{flip}
use Rattle.drawing_cnf.specs.Bounds.{gives_output}
use Rattle.drawing_cnf.proofs.diagonal_bound.add_slope_outputs.Goals as goal

pub returns-in_err-add_one_output : goal.returns-in_err-add_one_output
returns-in_err-add_one_output c =
    let s = c.args.s.now in
    adds_refused c.add_one_output.result c.from_residual.result _ _ (gives_output s (flip c.args.rises.now ∷ []) 1)
    (gives_output s (flip c.args.falls.now ∷ []) 1) 3 c.from_residual.ensures.0 (λ k. search (rules, k)) (c.add_one_output.ensures)

pub returns : goal.returns
returns c =
    let s = c.args.s.now in
    adds_after _ c.add_one_output-2.result _ _ _ (gives_output s (flip c.args.rises.now ∷ []) 1) (gives_output s (flip c.args.falls.now ∷ []) 1) 3
    (c.in_ok-add_one_output.ensures) (c.add_one_output-2.ensures)
