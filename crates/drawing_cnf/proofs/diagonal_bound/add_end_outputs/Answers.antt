use Rattle.std.proofs.Common.{rules}
use Rattle.cnf_core.proofs.StepLemmas.{adds_refused, adds_after}
use Rattle.edge_shape.specs.EdgeVars.{lits_of}
use Rattle.drawing_cnf.specs.Bounds.{slope_outputs}
use Rattle.drawing_cnf.proofs.DiagonalCode.{slope_adds}
use Rattle.drawing_cnf.proofs.diagonal_bound.add_end_outputs.Goals as goal

pub returns-in_err-add_slope_outputs : goal.returns-in_err-add_slope_outputs
returns-in_err-add_slope_outputs c =
    let s = c.args.s.now in
    let e = lits_of c.args.e.now in
    adds_refused c.add_slope_outputs.result c.from_residual.result _ _ (slope_outputs s e.west_up e.west_down) (slope_outputs s e.east_up e.east_down) 3
    c.from_residual.ensures.0 (λ k. search (rules, k)) (slope_adds c.add_slope_outputs.result _ _ s c.west_up.result c.west_down.result e.west_up e.west_down
    c.west_up.ensures.value c.west_down.ensures.value c.add_slope_outputs.ensures)

pub returns : goal.returns
returns c =
    let s = c.args.s.now in
    let e = lits_of c.args.e.now in
    adds_after _ c.add_slope_outputs-2.result _ _ _ (slope_outputs s e.west_up e.west_down) (slope_outputs s e.east_up e.east_down) 3
    (slope_adds _ _ _ s c.west_up.result c.west_down.result e.west_up e.west_down c.west_up.ensures.value c.west_down.ensures.value
    c.in_ok-add_slope_outputs.ensures) (slope_adds c.add_slope_outputs-2.result _ _ s c.east_up.result c.east_down.result e.east_up e.east_down
    c.east_up.ensures.value c.east_down.ensures.value c.add_slope_outputs-2.ensures)
