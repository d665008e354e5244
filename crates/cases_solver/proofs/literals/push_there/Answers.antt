use Rattle.std.proofs.Common.{◌≢◌, List, subst, arith}
use Rattle.std.specs.Prelude.{All}
use Rattle.cnf_core.specs.Lit.{Literal}
use Rattle.std.proofs.lemmas.List.Elements.{All-contains}
use Rattle.cnf_core.proofs.TrailLemmas.{distinct_push}
use Rattle.cnf_core.proofs.GatherLemmas.{there_push}
use Rattle.cases_solver.proofs.literals.push_there.Goals as goal

pub returns-in_ok-push-clause-distinct : goal.returns-in_ok-push-clause-distinct
returns-in_ok-push-clause-distinct c =
    let none = subst (λ (ls : List Literal). All (λ k. k.var ≢ c.args.l.var) ls) c.deref.ensures.value (c.has_var.ensures c.if-not-has_var.true) in
    rw c.in_ok-push.ensures.items (distinct_push c.args.lits.now.items c.args.l c.requires.distinct
    (λ k among. All-contains (λ m. m.var ≢ c.args.l.var) c.args.lits.now.items k none among))

pub returns-in_ok-push-clause-there : goal.returns-in_ok-push-clause-there
returns-in_ok-push-clause-there c =
    let v = c.var-var.ensures in
    rw c.in_ok-push.ensures.items (there_push c.args.vars c.args.lits.now.items c.args.l c.requires.there
    (omega (arith, v.value, v.from), omega (arith, v.value)))
