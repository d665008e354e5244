use Rattle.std.proofs.Common.{◌<◌, List, ℕ, length, sym, ◌∙◌, subst}
use Rattle.std.specs.Prelude.{All}
use Rattle.cnf_core.specs.Truths.{assignment}
use Rattle.cdcl_core.specs.declared.answer.Answer.{Answer}
use Rattle.cdcl_core.specs.Kept.{HasModel, AreRefuted, IsTrueAnswer, HasRefuted}
use Rattle.lex_minimise.proofs.QueryLemmas.{model_is, model_length}
use Rattle.law_core.specs.Known.{formula_of}
use Rattle.law_core.specs.Search.{layout_with}
use Rattle.law_core.proofs.LooseLemmas.{joined_loose}
use Rattle.law_core.proofs.AskLemmas.{base_model, long_enough, model_meets, core_reply, wanted_there}
use Rattle.law_core.proofs.asking.reply.Goals as goal

pub decode_loose-requires-clause-model : goal.decode_loose-requires-clause-model
decode_loose-requires-clause-model c =
    let y = layout_with c.args.known.now in
    let given = formula_of y in
    let h : HasModel given c.args.assume.now c.args.solver.now = subst (λ (a : Answer). IsTrueAnswer a given c.args.assume.now c.args.solver.now) c.in-Model.is
    c.requires.answer in
    base_model y (assignment c.in-Some.model.now) (model_is given c.args.assume.now c.args.solver.now c.in-Some.model.now h c.in-Some.ensures)

pub decode_loose-requires-clause-vars : goal.decode_loose-requires-clause-vars
decode_loose-requires-clause-vars c =
    let k = c.args.known.now in
    let y = layout_with k in
    let given = formula_of y in
    let h : HasModel given c.args.assume.now c.args.solver.now = subst (λ (a : Answer). IsTrueAnswer a given c.args.assume.now c.args.solver.now) c.in-Model.is
    c.requires.answer in
    long_enough y k.selecting.items k.budget k.room c.args.solver.now _ c.requires.ready
    (model_length given c.args.assume.now c.args.solver.now c.in-Some.model.now h c.in-Some.ensures)

pub returns-in_ok-decode_loose-in-Some-clause-right : goal.returns-in_ok-decode_loose-in-Some-clause-right
returns-in_ok-decode_loose-in-Some-clause-right c =
    let k = c.args.known.now in
    let y = layout_with k in
    let given = formula_of y in
    let h : HasModel given c.args.assume.now c.args.solver.now = subst (λ (a : Answer). IsTrueAnswer a given c.args.assume.now c.args.solver.now) c.in-Model.is
    c.requires.answer in
    let e = c.in_ok-decode_loose-in-Some.ensures in
    let d = c.in_ok-decode_loose-in-Some.field-0 in (
      joined_loose y.graph y.grid d e.joined,
      model_meets y k.selecting.items c.args.wanted.now k.budget k.room c.args.solver.now c.args.assume.now c.in-Some.model.now d c.requires.ready
          c.requires.places c.requires.assumed h c.in-Some.ensures e.alone,
    )

pub places_in-requires : goal.places_in-requires
places_in-requires c =
    let k = c.args.known.now in
    record {
      there = subst (λ (xs : List ℕ). All (λ n. n < length xs) c.args.wanted.now) (sym c.deref.ensures.value)
          (wanted_there (layout_with k) k.selecting.items c.args.wanted.now k.budget k.room c.requires.ready.selecting_are c.requires.places);
    }

pub returns-in_ok-places_in-in-Refuted-clause-right : goal.returns-in_ok-places_in-in-Refuted-clause-right
returns-in_ok-places_in-in-Refuted-clause-right c =
    let k = c.args.known.now in
    let y = layout_with k in
    let given = formula_of y in
    let h : AreRefuted given c.args.assume.now c.args.solver.now.refuted = subst (λ (a : Answer). HasRefuted a given c.args.assume.now
    c.args.solver.now.refuted) c.in-Refuted.is c.requires.refuted in
    core_reply y k.selecting.items c.deref.result.now c.args.wanted.now c.from_vec.result k.budget k.room c.args.assume.now c.args.solver.now.refuted
    c.refuted.result.now
    c.requires.ready.facts c.requires.ready.selecting_are c.requires.places c.requires.assumed h c.deref.ensures.value c.refuted.ensures
    (c.from_vec.ensures ∙ c.in_ok-places_in-in-Refuted.ensures)
