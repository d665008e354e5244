use Rattle.std.proofs.Common.{rules, length, ◌+◌, ◌∙◌, ap, subst, refl}
use Rattle.cnf_core.specs.declared.literal.LitOrTruth.{LitOrTruth}
use Rattle.cnf_core.specs.declared.literal.LitOrTruth.TheVariants.{False}
use Rattle.cnf_core.specs.LitOrTruth.{flip, yes}
use Rattle.cnf_core.specs.Added.{AddsClauses}
use Rattle.cnf_core.proofs.StepLemmas.{adds_refused, adds_after}
use Rattle.cnf_laws.specs.Guards.{one_guard, guarded_order}
use Rattle.cnf_laws.specs.LawClauses.{apart_rows_clauses}
use Rattle.cnf_laws.proofs.CodeLemmas.{adds_lower}
use Rattle.cnf_laws.proofs.order.add_west.Goals as goal

pub returns-in_err-add_lower : goal.returns-in_err-add_lower
returns-in_err-add_lower c =
    let a = c.args in
    adds_refused c.add_lower.result c.from_residual.result _ _ (guarded_order a.a.now.x a.b.now.x 1 (one_guard (yes a.first)) a.unless.now)
    (apart_rows_clauses (a.first + 1) (flip (yes a.first)) a.a.now.y a.b.now.y a.unless.now) _ c.from_residual.ensures.0 (λ k. search (rules, k))
    (adds_lower _ _ _ a.a.now.x a.b.now.x _ False _ _ a.unless.now _ c.yes_var.ensures refl c.add_lower.ensures)

pub returns : goal.returns
returns c =
    let a = c.args in
    adds_after _ c.add_rows.result _ _ _ (guarded_order a.a.now.x a.b.now.x 1 (one_guard (yes a.first)) a.unless.now)
    (apart_rows_clauses (a.first + 1) (flip (yes a.first)) a.a.now.y a.b.now.y a.unless.now) _
    (adds_lower _ _ _ a.a.now.x a.b.now.x _ False _ _ a.unless.now _ c.yes_var.ensures refl c.in_ok-add_lower.ensures)
    (subst (λ (g : LitOrTruth). AddsClauses c.add_rows.result c.add_lower.new.f c.add_rows.new.f
    (apart_rows_clauses (a.first + 1) g a.a.now.y a.b.now.y a.unless.now) (length a.unless.now + 7)) (c.negated.ensures ∙ ap flip c.yes_var-2.ensures)
    c.add_rows.ensures)
