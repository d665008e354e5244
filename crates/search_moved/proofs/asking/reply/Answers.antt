use Rattle.std.proofs.Common.{subst}
use Rattle.cnf_core.specs.Truths.{assignment}
use Rattle.cdcl_core.specs.declared.answer.Answer.{Answer as Verdict}
use Rattle.cdcl_core.specs.Kept.{HasModel, IsTrueAnswer}
use Rattle.drawing_cnf.specs.Layout.{layout_of}
use Rattle.search_moved.specs.Known.{formula_of}
use Rattle.lex_minimise.proofs.QueryLemmas.{model_is, model_length}
use Rattle.search_moved.proofs.MovedLemmas.{drawing_model, long_enough, model_below}
use Rattle.search_moved.proofs.asking.reply.Goals as goal

pub decode-requires-clause-model : goal.decode-requires-clause-model
decode-requires-clause-model c =
    let k = c.args.known.now in
    let given = formula_of (layout_of k.encoded) k.former.now in
    let h : HasModel given c.args.assume.now c.args.solver.now = subst (λ (a : Verdict). IsTrueAnswer a given c.args.assume.now c.args.solver.now) c.in-Model.is
    c.requires.answer in
    drawing_model k.encoded k.former.now k.budget k.room c.args.solver.now (assignment c.in-Some.model.now) c.requires.ready
    (model_is given c.args.assume.now c.args.solver.now c.in-Some.model.now h c.in-Some.ensures)

pub decode-requires-clause-vars : goal.decode-requires-clause-vars
decode-requires-clause-vars c =
    let k = c.args.known.now in
    let given = formula_of (layout_of k.encoded) k.former.now in
    let h : HasModel given c.args.assume.now c.args.solver.now = subst (λ (a : Verdict). IsTrueAnswer a given c.args.assume.now c.args.solver.now) c.in-Model.is
    c.requires.answer in
    long_enough k.encoded k.former.now k.budget k.room c.args.solver.now _ c.requires.ready
    (model_length given c.args.assume.now c.args.solver.now c.in-Some.model.now h c.in-Some.ensures)

pub returns-in_ok-decode-in-Some-clause-right : goal.returns-in_ok-decode-in-Some-clause-right
returns-in_ok-decode-in-Some-clause-right c =
    let k = c.args.known.now in
    let given = formula_of (layout_of k.encoded) k.former.now in
    let h : HasModel given c.args.assume.now c.args.solver.now = subst (λ (a : Verdict). IsTrueAnswer a given c.args.assume.now c.args.solver.now) c.in-Model.is
    c.requires.answer in
    let e = c.in_ok-decode-in-Some.ensures in (
      e.lawful,
      model_below k.encoded k.former.now k.budget k.room c.args.solver.now c.args.limit c.args.assume.now c.in-Some.model.now c.in_ok-decode-in-Some.field-0
          c.requires.ready c.requires.limit c.requires.assumed h c.in-Some.ensures e.alone,
    )
