use Rattle.std.proofs.Common.{rules, ◌∙◌, ap}
use Rattle.cnf_core.specs.LitOrTruth.{flip, yes}
use Rattle.cnf_core.proofs.StepLemmas.{adds_refused, adds_after}
use Rattle.cnf_laws.specs.Guards.{two_guards, guarded_order}
use Rattle.cnf_laws.proofs.CodeLemmas.{adds_lower}
use Rattle.cnf_laws.proofs.order.add_rows.Goals as goal

pub returns-in_err-add_lower : goal.returns-in_err-add_lower
returns-in_err-add_lower c =
    let a = c.args in
    adds_refused c.add_lower.result c.from_residual.result _ _ (guarded_order a.a.now a.b.now 1 (two_guards a.guard.now (flip (yes a.below))) a.unless.now)
    (guarded_order a.b.now a.a.now 1 (two_guards a.guard.now (yes a.below)) a.unless.now) _ c.from_residual.ensures.0 (λ k. search (rules, k))
    (adds_lower _ _ _ a.a.now a.b.now _ _ _ _ a.unless.now _ c.same.ensures (c.negated.ensures ∙ ap flip c.yes_var.ensures) c.add_lower.ensures)

pub returns : goal.returns
returns c =
    let a = c.args in
    adds_after _ c.add_lower-2.result _ _ _ (guarded_order a.a.now a.b.now 1 (two_guards a.guard.now (flip (yes a.below))) a.unless.now)
    (guarded_order a.b.now a.a.now 1 (two_guards a.guard.now (yes a.below)) a.unless.now) _
    (adds_lower _ _ _ a.a.now a.b.now _ _ _ _ a.unless.now _ c.same.ensures (c.negated.ensures ∙ ap flip c.yes_var.ensures) c.in_ok-add_lower.ensures)
    (adds_lower _ _ _ a.b.now a.a.now _ _ _ _ a.unless.now _ c.same-2.ensures c.yes_var-2.ensures c.add_lower-2.ensures)
