use Rattle.std.proofs.Common.{subst, arith}
use Rattle.cdcl_core.specs.declared.answer.Answer.{Answer}
use Rattle.cdcl_core.specs.Kept.{HasModel, IsTrueAnswer}
use Rattle.lex_minimise.proofs.QueryLemmas.{model_is, model_length, model_met}
use Rattle.lex_minimise.proofs.asking.reply.Goals as goal

pub decode-requires-clause-model : goal.decode-requires-clause-model
decode-requires-clause-model c =
    let given = c.args.known.now.encoded.formula.clauses in
    let h : HasModel given c.args.assume.now c.args.solver.now = subst (λ (a : Answer). IsTrueAnswer a given c.args.assume.now c.args.solver.now) c.in-Model.is
    c.requires.answer in
    model_is given c.args.assume.now c.args.solver.now c.in-Some.model.now h c.in-Some.ensures

pub decode-requires-clause-vars : goal.decode-requires-clause-vars
decode-requires-clause-vars c =
    let given = c.args.known.now.encoded.formula.clauses in
    let h : HasModel given c.args.assume.now c.args.solver.now = subst (λ (a : Answer). IsTrueAnswer a given c.args.assume.now c.args.solver.now) c.in-Model.is
    c.requires.answer in
    let size = model_length given c.args.assume.now c.args.solver.now c.in-Some.model.now h c.in-Some.ensures in
    let vars = c.requires.ready.vars in
    omega arith

pub drawn_together-requires-clause-met : goal.drawn_together-requires-clause-met
drawn_together-requires-clause-met c =
    let k = c.args.known.now in
    let given = k.encoded.formula.clauses in
    let h : HasModel given c.args.assume.now c.args.solver.now = subst (λ (a : Answer). IsTrueAnswer a given c.args.assume.now c.args.solver.now) c.in-Model.is
    c.requires.answer in
    model_met k.encoded k.told.items k.budget k.room c.args.solver.now c.args.bounds.now c.args.assume.now c.in-Some.model.now c.in_ok-found-in-Some.found
    c.requires.ready c.requires.assumed h c.in-Some.ensures c.in_ok-found-in-Some.ensures.tells
