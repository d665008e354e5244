use Rattle.std.proofs.Common.{List, None, [], sym, subst}
use Rattle.cnf_core.specs.Lit.{Literal}
use Rattle.cnf_core.specs.Clause.{AreThere}
use Rattle.cdcl_core.specs.Search.{kept_of}
use Rattle.cdcl_core.specs.Kept.{Kept, IsGivenOne}
use Rattle.cdcl_core.proofs.ConflictLemmas.{formula_told}
use Rattle.cdcl_core.proofs.ViewLemmas.{idle_now, given_view, given_now, belongs_now, still_view}
use Rattle.cdcl_core.proofs.StepLemmas.{not_err}
use Rattle.cdcl_core.proofs.solver.Solver.add_clause.Goals as goal

pub add_clause-requires-clause-idle : goal.add_clause-requires-clause-idle
add_clause-requires-clause-idle g c = idle_now c.self.inside.search c.self.inside.model c.self.inside.refuted.items c.self.inside.failed c.args.self.now
    c.self.invariant c.self.view_is c.requires.working

pub add_clause-requires-clause-there : goal.add_clause-requires-clause-there
add_clause-requires-clause-there g c = subst (λ (k : Kept). AreThere k.vars c.args.lits.now) (sym c.self.view_is) c.requires.there

pub invariant_of-self : goal.invariant_of-self
invariant_of-self g c = λ _. c.in-Ok.ensures.idle

pub returns-in-Ok-clause-more : goal.returns-in-Ok-clause-more
returns-in-Ok-clause-more g c = subst (λ (ls : List Literal). IsGivenOne c.args.self.now (kept_of c.add_clause.new.self None ls c.self.inside.failed)
    c.args.lits.now) (sym c.clear.ensures.items) (given_view c.self.inside.search c.add_clause.new.self c.self.inside.model c.self.inside.refuted.items
    c.self.inside.failed c.args.self.now c.args.lits.now c.self.view_is c.requires.working c.in-Ok.ensures.kept c.in-Ok.ensures.learnt_same)

pub returns-in-Ok-clause-given : goal.returns-in-Ok-clause-given
returns-in-Ok-clause-given g c = given_now c.args.self.now (kept_of c.add_clause.new.self None [] c.self.inside.failed) c.args.lits.now
    (given_view c.self.inside.search c.add_clause.new.self c.self.inside.model c.self.inside.refuted.items c.self.inside.failed c.args.self.now c.args.lits.now
    c.self.view_is c.requires.working c.in-Ok.ensures.kept c.in-Ok.ensures.learnt_same)

pub returns-in-Ok-clause-belongs : goal.returns-in-Ok-clause-belongs
returns-in-Ok-clause-belongs g c = belongs_now c.args.self.now (kept_of c.add_clause.new.self None [] c.self.inside.failed) c.args.lits.now
    (let s = idle_now c.self.inside.search c.self.inside.model c.self.inside.refuted.items c.self.inside.failed c.args.self.now c.self.invariant c.self.view_is
    c.requires.working in
    formula_told c.self.inside.search c.args.lits.now s.search (subst (λ (k : Kept). AreThere k.vars c.args.lits.now) (sym c.self.view_is) c.requires.there)
    c.requires.distinct)
    (given_view c.self.inside.search c.add_clause.new.self c.self.inside.model c.self.inside.refuted.items c.self.inside.failed c.args.self.now c.args.lits.now
    c.self.view_is c.requires.working c.in-Ok.ensures.kept c.in-Ok.ensures.learnt_same)

pub returns-in-Err-clause-derives : goal.returns-in-Err-clause-derives
returns-in-Err-clause-derives g c = still_view (g.L.LogSink.tells c.args.log.now) (g.L.LogSink.tells c.add_clause.new.log) c.self.inside.search
    c.self.inside.model c.self.inside.refuted.items c.self.inside.failed c.args.self.now c.self.view_is c.in-Err.ensures.derives

pub returns-in-Ok-clause-cause : goal.returns-in-Ok-clause-cause
returns-in-Ok-clause-cause g c = λ e. absurd (not_err _ _ e)
