use Rattle.std.proofs.Common.{◌≡◌, ℕ, IfOk, arith, subst}
use Rattle.cnf_core.specs.Clause.{AreThere}
use Rattle.cases_solver.proofs.case.Case.fitting.Goals as goal

pub returns-clause-formula : goal.returns-clause-formula
returns-clause-formula c = subst (λ (n : ℕ). IfOk c.clause_within.result (λ v. AreThere n v.items)) c.vars-vars.ensures.value c.clause_within.ensures.there

pub returns-clause-solver : goal.returns-clause-solver
returns-clause-solver c =
    let same : c.vars-vars.result ≡ c.args.self.now.solver.vars = omega arith in
    subst (λ (n : ℕ). IfOk c.clause_within.result (λ v. AreThere n v.items)) same c.clause_within.ensures.there
