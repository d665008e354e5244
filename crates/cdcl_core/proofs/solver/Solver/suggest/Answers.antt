use Rattle.std.proofs.Common.{sym, ◌∙◌, ap}
use Rattle.cdcl_core.specs.Kept.{Kept}
use Rattle.cdcl_core.proofs.ViewLemmas.{idle_now, suggest_view}
use Rattle.cdcl_core.proofs.solver.Solver.suggest.Goals as goal

pub suggest-requires-clause-idle : goal.suggest-requires-clause-idle
suggest-requires-clause-idle c = idle_now c.self.inside.search c.self.inside.model c.self.inside.refuted.items c.self.inside.failed c.args.self.now
    c.self.invariant c.self.view_is c.requires.working

pub suggest-requires-clause-vars : goal.suggest-requires-clause-vars
suggest-requires-clause-vars c = c.requires.vars ∙ ap (λ (k : Kept). k.vars) (sym c.self.view_is)

pub invariant_of-self : goal.invariant_of-self
invariant_of-self c = λ _. c.suggest.ensures.idle

pub returns : goal.returns
returns c = suggest_view c.self.inside.search c.suggest.new.self c.self.inside.model c.self.inside.refuted.items c.self.inside.failed c.args.self.now
    c.self.view_is c.requires.working c.suggest.ensures.same
