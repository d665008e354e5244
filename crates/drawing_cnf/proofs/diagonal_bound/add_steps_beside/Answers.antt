use Rattle.std.proofs.Common.{rules, [], ◌∷◌}
use Rattle.cnf_core.proofs.StepLemmas.{adds_refused, adds_after}
use Rattle.cnf_core.specs.LitOrTruth.{yes, flip}
use Rattle.edge_shape.specs.EdgeVars.{lits_of}
use Rattle.drawing_cnf.specs.Bounds.{gives_output, end_outputs}
use Rattle.drawing_cnf.proofs.DiagonalCode.{two_adds}
use Rattle.drawing_cnf.proofs.diagonal_bound.add_steps_beside.Goals as goal

pub returns-in_err-add_end_outputs : goal.returns-in_err-add_end_outputs
returns-in_err-add_end_outputs c =
    let s = c.args.s.now in
    let e = lits_of c.args.e.now in
    adds_refused c.add_end_outputs.result c.from_residual.result _ _ (end_outputs e s)
    (gives_output s (flip (yes e.first_bend) ∷ flip (yes e.second_bend) ∷ []) 2) 3 c.from_residual.ensures.0 (λ k. search (rules, k))
    (c.add_end_outputs.ensures)

pub returns : goal.returns
returns c =
    let s = c.args.s.now in
    let e = lits_of c.args.e.now in
    adds_after _ c.add_two_outputs.result _ _ _ (end_outputs e s) (gives_output s (flip (yes e.first_bend) ∷ flip (yes e.second_bend) ∷ []) 2) 3
    (c.in_ok-add_end_outputs.ensures) (two_adds c.add_two_outputs.result _ _ s c.first_bend.result c.second_bend.result e.first_bend e.second_bend
    c.first_bend.ensures.value c.second_bend.ensures.value c.add_two_outputs.ensures)
