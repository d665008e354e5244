use Rattle.std.proofs.Common.{◌∙◌, map, ap, subst}
use Rattle.cnf_core.specs.Lit.{negate}
use Rattle.cdcl_core.specs.declared.answer.Answer.{Answer}
use Rattle.cdcl_core.specs.Search.{IsSearchAnswer, clauses}
use Rattle.cdcl_core.proofs.ModelLemmas.{refuted_negated, none_refuted}
use Rattle.cdcl_core.proofs.search.Search.refuted_of.Goals as goal

pub returns-in_ok-negated-in-Refuted : goal.returns-in_ok-negated-in-Refuted
returns-in_ok-negated-in-Refuted c = λ given g. refuted_negated c.args.answer given (clauses c.args.self.now) c.args.query.now c.args.self.now.analyser.clause
    c.in_ok-negated-in-Refuted.field-0.items c.in-Refuted.is
    (c.in_ok-negated-in-Refuted.ensures ∙ ap (map negate) (c.deref.ensures.value ∙ c.in_ok-clause-in-Refuted.ensures)) g
    (subst (λ (a : Answer). IsSearchAnswer a c.args.query.now c.args.self.now) c.in-Refuted.is c.requires)

pub returns-in_default : goal.returns-in_default
returns-in_default c = λ given g. none_refuted c.args.answer given c.args.query.now c.new.result.items c.in_default.not-Refuted c.new.ensures.items
