use Rattle.std.proofs.Common.{◌≡◌, ℕ, ◌+◌, ◌∙◌, List, ap, subst, rules}
use Rattle.std.specs.Prelude.{Result}
use Rattle.cnf_core.specs.declared.fault.CnfFault.{CnfFault}
use Rattle.cnf_core.specs.declared.literal.LitOrTruth.{LitOrTruth}
use Rattle.cnf_core.specs.Lit.{Literal}
use Rattle.cnf_core.specs.LitOrTruth.{flip, yes}
use Rattle.cnf_core.specs.Formula.{Cnf}
use Rattle.cnf_core.specs.Added.{AddsClauses}
use Rattle.cnf_core.proofs.StepLemmas.{adds_refused, adds_after}
use Rattle.order_int.specs.IntVars.{IntVars}
use Rattle.cnf_laws.specs.LawClauses.{apart_rows_clauses}
use Rattle.cnf_laws.proofs.order.add_either_way.Goals as goal

adds_guard : {T : Type 0} (r : Result T CnfFault) (old new : Cnf) (below : ℕ) (s t : LitOrTruth) (a b : IntVars) (unless : List Literal) (longest : ℕ) → s ≡ t →
    AddsClauses r old new (apart_rows_clauses below s a b unless) longest → AddsClauses r old new (apart_rows_clauses below t a b unless) longest
adds_guard r old new below s t a b unless longest e h = subst (λ (g : LitOrTruth). AddsClauses r old new (apart_rows_clauses below g a b unless) longest) e h

pub returns-in_err-add_rows : goal.returns-in_err-add_rows
returns-in_err-add_rows c =
    let a = c.args in
    adds_refused c.add_rows.result c.from_residual.result _ _ (apart_rows_clauses (a.equal + 1) (yes a.equal) a.a.now.x a.b.now.x a.unless.now)
    (apart_rows_clauses (a.equal + 1) (flip (yes a.equal)) a.a.now.y a.b.now.y a.unless.now) _ c.from_residual.ensures.0 (λ k. search (rules, k))
    (adds_guard c.add_rows.result _ _ (a.equal + 1) _ (yes a.equal) a.a.now.x a.b.now.x a.unless.now _ c.yes_var.ensures c.add_rows.ensures)

pub returns : goal.returns
returns c =
    let a = c.args in
    adds_after _ c.add_rows-2.result _ _ _ (apart_rows_clauses (a.equal + 1) (yes a.equal) a.a.now.x a.b.now.x a.unless.now)
    (apart_rows_clauses (a.equal + 1) (flip (yes a.equal)) a.a.now.y a.b.now.y a.unless.now) _
    (adds_guard _ _ _ (a.equal + 1) _ (yes a.equal) a.a.now.x a.b.now.x a.unless.now _ c.yes_var.ensures c.in_ok-add_rows.ensures)
    (adds_guard _ _ _ (a.equal + 1) _ (flip (yes a.equal)) a.a.now.y a.b.now.y a.unless.now _ (c.negated.ensures ∙ ap flip c.yes_var-2.ensures)
    c.add_rows-2.ensures)
