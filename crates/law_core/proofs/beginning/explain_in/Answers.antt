use Rattle.std.proofs.Common.{List, length, map, refl, sym, ◌∙◌, ap, subst}
use Rattle.outside_io.proofs.Results.{on_err_anyway}
use Rattle.plan_core.specs.Lawful.{Instance}
use Rattle.cdcl_core.specs.Kept.{blank}
use Rattle.drawing_cnf.specs.Layout.{layout}
use Rattle.search_why.specs.Outcome.{TellsOutcome}
use Rattle.law_core.specs.declared.parties.Law.{Law}
use Rattle.law_core.specs.Law.{instance_of}
use Rattle.law_core.specs.Known.{task_of}
use Rattle.law_core.specs.Why.{IsWhyOf, HasLawPlaces}
use Rattle.law_core.proofs.QueryLemmas.{known_left, later_left}
use Rattle.law_core.proofs.BeginLemmas.{size_there, vars_few, words_fit, selecting_are, begun_ready, all_searched, has_places, right_answer, whole_log}
use Rattle.law_core.proofs.BeginLemmas.{left_none, left_begun, left_later}
use Rattle.law_core.proofs.beginning.explain_in.Goals as goal

pub selectors_of-requires-clause-few : goal.selectors_of-requires-clause-few
selectors_of-requires-clause-few g c =
    let y = layout c.args.g.now c.args.t.now c.args.grid.now in
    let w = c.args.whole.now in
    let budget = c.args.limits.now.budget in
    let room = c.args.limits.now.room in
    vars_few y room w.laws.items w.formula c.vars.result c.requires.formula c.vars.ensures.value

pub selectors_of-requires-clause-room : goal.selectors_of-requires-clause-room
selectors_of-requires-clause-room g c =
    let y = layout c.args.g.now c.args.t.now c.args.grid.now in
    let w = c.args.whole.now in
    let budget = c.args.limits.now.budget in
    let room = c.args.limits.now.room in
    size_there y room w.laws.items c.deref.result.now w.formula c.vars.result c.requires.formula c.deref.ensures.value c.vars.ensures.value

pub begin-requires-clause-new : goal.begin-requires-clause-new
begin-requires-clause-new g c =
    let y = layout c.args.g.now c.args.t.now c.args.grid.now in
    let w = c.args.whole.now in
    let budget = c.args.limits.now.budget in
    let room = c.args.limits.now.room in
    c.requires.new ∙ ap blank (sym c.requires.formula.kept)

pub begin-requires-clause-few : goal.begin-requires-clause-few
begin-requires-clause-few g c =
    let y = layout c.args.g.now c.args.t.now c.args.grid.now in
    let w = c.args.whole.now in
    let budget = c.args.limits.now.budget in
    let room = c.args.limits.now.room in
    vars_few y room w.laws.items w.formula w.formula.vars c.requires.formula refl

pub begin-requires-clause-fits : goal.begin-requires-clause-fits
begin-requires-clause-fits g c =
    let y = layout c.args.g.now c.args.t.now c.args.grid.now in
    let w = c.args.whole.now in
    let budget = c.args.limits.now.budget in
    let room = c.args.limits.now.room in
    words_fit y room w.laws.items w.formula c.requires.formula

pub search_from-requires-clause-ready : goal.search_from-requires-clause-ready
search_from-requires-clause-ready g c =
    let y = layout c.args.g.now c.args.t.now c.args.grid.now in
    let w = c.args.whole.now in
    let budget = c.args.limits.now.budget in
    let room = c.args.limits.now.room in
    begun_ready y c.in_ok-selecting.selecting.items budget room w.laws.items w.formula c.args.solver.now c.begin.new.solver c.requires.formula
    (selecting_are y room w.laws.items c.deref.result.now w.formula c.vars.result c.in_ok-selecting.selecting.items c.requires.formula c.deref.ensures.value
    c.vars.ensures.value c.in_ok-selecting.ensures) c.requires.new c.in_ok-begin.ensures.taken

pub search_from-requires-clause-laws : goal.search_from-requires-clause-laws
search_from-requires-clause-laws g c =
    let y = layout c.args.g.now c.args.t.now c.args.grid.now in
    let w = c.args.whole.now in
    let budget = c.args.limits.now.budget in
    let room = c.args.limits.now.room in
    all_searched y budget room c.requires.formula.ordered

pub answer_of-requires : goal.answer_of-requires
answer_of-requires g c =
    let y = layout c.args.g.now c.args.t.now c.args.grid.now in
    let w = c.args.whole.now in
    let budget = c.args.limits.now.budget in
    let room = c.args.limits.now.room in
    subst (λ (ls : List Law). HasLawPlaces (length ls) c.in_ok-outcome.outcome) (sym c.deref-2.ensures.value)
    (has_places y budget room w.laws.items c.in_ok-outcome.outcome c.requires.formula.laws_are c.in_ok-outcome.ensures.right)

pub returns-clause-right : goal.returns-clause-right
returns-clause-right g c =
    let y = layout c.args.g.now c.args.t.now c.args.grid.now in
    let w = c.args.whole.now in
    let budget = c.args.limits.now.budget in
    let room = c.args.limits.now.room in
    right_answer y budget room c.in_ok-outcome.outcome c.in_ok-why.why c.in_ok-outcome.ensures.right
    (subst (λ (is : List Instance). IsWhyOf is c.in_ok-outcome.outcome c.in_ok-why.why)
    (ap (map instance_of) c.deref-2.ensures.value ∙ c.requires.formula.laws_are) c.in_ok-why.ensures)

pub returns-clause-lines : goal.returns-clause-lines
returns-clause-lines g c =
    let k = g.L.LogSink in
    let y = layout c.args.g.now c.args.t.now c.args.grid.now in
    let w = c.args.whole.now in
    let budget = c.args.limits.now.budget in
    let room = c.args.limits.now.room in
    whole_log y budget room w.laws.items w.formula c.in_ok-outcome.outcome c.in_ok-why.why c.args.solver.now c.begin.new.solver c.search_from.new.solver
    (k.tells c.args.log.now) (k.tells c.begin.new.log) (k.tells c.search_from.new.log) (k.learnt c.args.log.now) (k.learnt c.begin.new.log)
    (k.learnt c.search_from.new.log)
    c.requires.formula c.requires.new c.in_ok-begin.ensures.taken c.in_ok-begin.ensures.lines c.in_ok-outcome.ensures.lines
    (subst (λ (is : List Instance). IsWhyOf is c.in_ok-outcome.outcome c.in_ok-why.why)
    (ap (map instance_of) c.deref-2.ensures.value ∙ c.requires.formula.laws_are) c.in_ok-why.ensures)

pub returns-in_err-selecting-clause-left : goal.returns-in_err-selecting-clause-left
returns-in_err-selecting-clause-left g c =
    let k = g.L.LogSink in
    let y = layout c.args.g.now c.args.t.now c.args.grid.now in
    let w = c.args.whole.now in
    let budget = c.args.limits.now.budget in
    let room = c.args.limits.now.room in
    on_err_anyway _ _ (left_none y budget (k.tells c.args.log.now) (g.met.L.LogSink.one_reading c.args.log.now))

pub returns-in_err-begin-clause-left : goal.returns-in_err-begin-clause-left
returns-in_err-begin-clause-left g c =
    let k = g.L.LogSink in
    let y = layout c.args.g.now c.args.t.now c.args.grid.now in
    let w = c.args.whole.now in
    let budget = c.args.limits.now.budget in
    let room = c.args.limits.now.room in
    on_err_anyway _ _ (left_begun y budget room w.laws.items w.formula c.args.solver.now (k.tells c.args.log.now) (k.tells c.begin.new.log) c.requires.formula
    c.requires.new c.in_err-begin.ensures.leaves)

pub returns-in_err-outcome-clause-left : goal.returns-in_err-outcome-clause-left
returns-in_err-outcome-clause-left g c =
    let k = g.L.LogSink in
    let y = layout c.args.g.now c.args.t.now c.args.grid.now in
    let w = c.args.whole.now in
    let budget = c.args.limits.now.budget in
    let room = c.args.limits.now.room in
    on_err_anyway _ _ (left_later y budget room w.laws.items w.formula c.args.solver.now c.begin.new.solver (k.tells c.args.log.now) (k.tells c.begin.new.log)
    (k.tells c.search_from.new.log) (k.learnt c.args.log.now) (k.learnt c.begin.new.log)
    c.requires.formula c.requires.new c.in_ok-begin.ensures.taken c.in_ok-begin.ensures.lines
    c.in_err-outcome.ensures.leaves)

pub returns-in_err-why-clause-left : goal.returns-in_err-why-clause-left
returns-in_err-why-clause-left g c =
    let k = g.L.LogSink in
    let y = layout c.args.g.now c.args.t.now c.args.grid.now in
    let w = c.args.whole.now in
    let budget = c.args.limits.now.budget in
    let room = c.args.limits.now.room in
    on_err_anyway _ _ (left_later y budget room w.laws.items w.formula c.args.solver.now c.begin.new.solver (k.tells c.args.log.now) (k.tells c.begin.new.log)
    (k.tells c.search_from.new.log) (k.learnt c.args.log.now) (k.learnt c.begin.new.log)
    c.requires.formula c.requires.new c.in_ok-begin.ensures.taken c.in_ok-begin.ensures.lines
    (later_left y budget room c.begin.new.solver c.search_from.new.solver (k.tells c.begin.new.log) (k.tells c.search_from.new.log)
    (k.tells c.search_from.new.log) (k.learnt c.begin.new.log) (k.learnt c.search_from.new.log)
    (λ lines more. TellsOutcome (task_of y budget room) c.in_ok-outcome.outcome lines more) c.in_ok-outcome.ensures.lines
    (known_left y budget room c.search_from.new.solver (k.tells c.search_from.new.log) (g.met.L.LogSink.one_reading c.search_from.new.log))))
