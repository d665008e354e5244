use Rattle.std.proofs.Common.{List, ap, sym, subst, ◌∙◌}
use Rattle.plan_core.specs.Values.{value_of}
use Rattle.cnf_core.specs.Formula.{Cnf}
use Rattle.log_check.specs.declared.awaited.Part.{Part}
use Rattle.log_check.specs.Awaited.{AreParts}
use Rattle.log_check.specs.Expectation.{expectation}
use Rattle.log_check.specs.HintExpected.{bounds_of}
use Rattle.log_check.proofs.HintExpectingLemmas.{begun, body_within}
use Rattle.log_check.proofs.hint_judging.judge_expected.Goals as goal

pub bounds_in-requires : goal.bounds_in-requires
bounds_in-requires c =
    let cs = c.args.expected.now.encoded.formula.clauses in
    (cs, subst (λ (ps : List Part). AreParts cs ps) (sym c.deref.ensures.value) c.requires.expected.2.expecting.each)

pub judge_body-requires-clause-begun : goal.judge_body-requires-clause-begun
judge_body-requires-clause-begun c =
    let y = c.requires.expected.0 in
    let cap = c.requires.expected.1 in
    let w = c.requires.expected.2 in
    let e = c.args.expected.now.encoded in
    let clauses = c.in_ok-checker.ensures.clauses ∙ c.in_ok-formula.ensures ∙ ap (λ (f : Cnf). f.clauses) c.formula.ensures in
    let bounds = c.deref-2.ensures.value ∙ c.in_ok-bounds.ensures ∙ ap bounds_of c.deref.ensures.value in (
      expectation y c.args.order.now cap,
      begun y c.args.order.now cap e c.args.expected.now.parts.items c.in_ok-checker.checker c.deref-2.result.now w.expecting w.fits
          c.in_ok-checker.ensures.room clauses c.in_ok-checker.ensures.refuted bounds,
    )

pub returns : goal.returns
returns c =
    let clauses = c.in_ok-checker.ensures.clauses ∙ c.in_ok-formula.ensures ∙ ap (λ (f : Cnf). f.clauses) c.formula.ensures in
    let bounds = c.deref-2.ensures.value ∙ c.in_ok-bounds.ensures ∙ ap bounds_of c.deref.ensures.value in
    body_within c.judge_body.result (value_of c.args.greatest.now) c.args.order.now c.args.claim.now c.args.body.now c.args.expected.now.encoded
    c.args.expected.now.parts.items c.in_ok-checker.checker c.deref-2.result.now c.in_ok-checker.ensures.room clauses
    c.in_ok-checker.ensures.refuted bounds c.judge_body.ensures
