use Rattle.std.proofs.Common.{◌∙◌, Some, false, refl, sym, ap, subst}
use Rattle.watch_arena.specs.Trail.{Marks}
use Rattle.cdcl_core.specs.declared.answer.Answer.{Answer}
use Rattle.cdcl_core.specs.Kept.{IsTrueAnswer, HasModelOnly}
use Rattle.cdcl_core.specs.Search.{IsSearchAnswer, kept_of}
use Rattle.cdcl_core.proofs.ModelLemmas.{model_answer, other_answer, other_model}
use Rattle.cdcl_core.proofs.search.Search.conclude.Goals as goal

pub returns-in_ok-model-in-Model-clause-idle : goal.returns-in_ok-model-in-Model-clause-idle
returns-in_ok-model-in-Model-clause-idle c = record { search = c.back_to.ensures.search; level = ap (λ (m : Marks). m.cuts) c.back_to.ensures.trail }

pub returns-in_ok-model-in-Model-clause-answer : goal.returns-in_ok-model-in-Model-clause-answer
returns-in_ok-model-in-Model-clause-answer c = λ given refuted g. subst (λ (a : Answer). IsTrueAnswer a given c.args.query.now
    (kept_of c.back_to.new.self (Some c.in_ok-model-in-Model.model) refuted false)) (sym c.in-Model.is)
    (model_answer given c.args.query.now refuted c.args.self.now c.back_to.new.self c.in_ok-model-in-Model.model g c.requires.search.solving.grounded
    (subst (λ (a : Answer). IsSearchAnswer a c.args.query.now c.args.self.now) c.in-Model.is c.requires.says)
    (c.in_ok-model-in-Model.ensures.vars ∙ sym c.back_to.ensures.store.vars) c.in_ok-model-in-Model.ensures.true_all)

pub returns-in_ok-model-in-Model-clause-model : goal.returns-in_ok-model-in-Model-clause-model
returns-in_ok-model-in-Model-clause-model c = λ refuted. subst (λ (a : Answer). HasModelOnly a
    (kept_of c.back_to.new.self (Some c.in_ok-model-in-Model.model) refuted false)) (sym c.in-Model.is) (c.in_ok-model-in-Model.model, refl)

pub returns-in_default-clause-idle : goal.returns-in_default-clause-idle
returns-in_default-clause-idle c = record {
  search = c.back_to-in_default.ensures.search;
  level = ap (λ (m : Marks). m.cuts) c.back_to-in_default.ensures.trail;
}

pub returns-in_default-clause-answer : goal.returns-in_default-clause-answer
returns-in_default-clause-answer c = λ given refuted g. other_answer c.args.answer given c.args.query.now refuted c.args.self.now c.back_to-in_default.new.self
    c.in_default.not-Model c.back_to-in_default.ensures.store g c.requires.says

pub returns-in_default-clause-model : goal.returns-in_default-clause-model
returns-in_default-clause-model c = λ refuted. other_model c.args.answer c.back_to-in_default.new.self refuted c.in_default.not-Model
