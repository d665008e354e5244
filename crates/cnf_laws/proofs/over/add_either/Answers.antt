use Rattle.std.proofs.Common.{rules, ◌∙◌, ap}
use Rattle.cnf_core.specs.LitOrTruth.{flip}
use Rattle.cnf_core.proofs.StepLemmas.{adds_refused, adds_after}
use Rattle.edge_shape.specs.EdgeVars.{lits_of}
use Rattle.cnf_laws.specs.LawClauses.{higher}
use Rattle.cnf_laws.proofs.CodeLemmas.{adds_over}
use Rattle.cnf_laws.proofs.over.add_either.Goals as goal

pub returns-in_err-add_over : goal.returns-in_err-add_over
returns-in_err-add_over c =
    let a = c.args in
    let e = higher (lits_of a.e.now.edge.now) a.e.now.west.now a.e.now.east.now a.e.now.shares_west a.e.now.shares_east in
    adds_refused c.add_over.result c.from_residual.result _ _ _ _ _ c.from_residual.ensures.0 (λ k. search (rules, k))
    (adds_over _ _ _ e (lits_of a.g.now.edge.now) a.width _ _ a.unless.now _ (c.negated.ensures ∙ ap flip c.yes_var.ensures) c.add_over.ensures)

pub returns : goal.returns
returns c =
    let a = c.args in
    let e = higher (lits_of a.e.now.edge.now) a.e.now.west.now a.e.now.east.now a.e.now.shares_west a.e.now.shares_east in
    let g = higher (lits_of a.g.now.edge.now) a.g.now.west.now a.g.now.east.now a.g.now.shares_west a.g.now.shares_east in
    adds_after _ c.add_over-2.result _ _ _ _ _ _
    (adds_over _ _ _ e (lits_of a.g.now.edge.now) a.width _ _ a.unless.now _ (c.negated.ensures ∙ ap flip c.yes_var.ensures) c.in_ok-add_over.ensures)
    (adds_over _ _ _ g (lits_of a.e.now.edge.now) a.width _ _ a.unless.now _ c.yes_var-2.ensures c.add_over-2.ensures)
