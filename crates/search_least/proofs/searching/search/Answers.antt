use Rattle.std.proofs.Common.{◌≡◌, ◌++◌, [], refl, sym, ◌∙◌, ap, subst, ℕ}
use Rattle.std.proofs.lemmas.Result.{IfOk-weaker}
use Rattle.plan_core.specs.declared.criterion.Criterion.{Criterion}
use Rattle.search_least.specs.Task.{Task}
use Rattle.refute_log.specs.Steps.{Continues}
use Rattle.search_least.specs.State.{Counted, SearchState}
use Rattle.search_least.specs.Outcome.{IsOutcome, first_lines}
use Rattle.search_least.proofs.OutcomeLemmas.{zero_counted, fresh_still, first_found, first_refuted, first_stopped, laws_at}
use Rattle.outside_io.proofs.Results.{on_err_anyway}
use Rattle.refute_log.proofs.StepLemmas.{on_err_weaker}
use Rattle.refute_log.specs.Told.{Lines}
use Rattle.search_least.proofs.LeftLemmas.{first_left, first_goes, search_later}
use Rattle.search_least.proofs.searching.search.Goals as goal

pub improve-requires-clause-counted : goal.improve-requires-clause-counted
improve-requires-clause-counted g c = let o = g.O.Oracle in
    let a = c.args.oracle.now in
    let e = c.ask.new.self in
    let start : Counted (o.task a) c.args.wanted.now 0 (o.caps a) (o.vars a) = zero_counted (o.task a) c.args.wanted.now (o.caps a) (o.vars a)
    c.requires.fresh in
    subst (λ (x : Task). Counted x c.args.wanted.now 0 (o.caps e) (o.vars e)) (sym c.in_ok-first.ensures.task)
    (subst (λ n. Counted (o.task a) c.args.wanted.now 0 (o.caps e) n) (sym c.in_ok-first.ensures.vars)
    (subst (λ (f : Criterion → ℕ). Counted (o.task a) c.args.wanted.now 0 f (o.vars a)) (sym c.in_ok-first.ensures.caps) start))

pub returns-in-Refuted-clause-lines : goal.returns-in-Refuted-clause-lines
returns-in-Refuted-clause-lines g c = let o = g.O.Oracle in let t = g.O.LogTeller in
    let a = c.args.oracle.now in
    let e = c.ask.new.self in
    first_refuted t.knows t.log t.learnt a e (o.task a) c.args.wanted.now c.in_ok-first.field-0 [] (o.caps e)
    (λ m. ap (λ (f : Criterion → ℕ). f m) c.in_ok-first.ensures.caps ∙ c.requires.fresh.none m)
    (laws_at t.knows e (o.task e) (o.task a) c.args.wanted.now (o.caps e) (o.vars e) c.in_ok-first.ensures.task
    (zero_counted (o.task a) c.args.wanted.now (o.caps e) (o.vars e) (fresh_still (o.task a) (o.caps a) (o.caps e) (o.vars a) (o.vars e)
    c.in_ok-first.ensures.caps c.in_ok-first.ensures.vars c.requires.fresh)).vars_are
    (g.met.O.Oracle.covers e) (g.met.O.Oracle.formed e) (g.O.LogTeller.derives e) (g.O.LogTeller.due e) (g.met.O.Oracle.apart e) (g.met.O.Oracle.fits e)
    (g.met.O.Oracle.within e) (g.met.O.Oracle.few e) (g.met.O.Oracle.counted e))
    refl c.in-Refuted.is c.in_ok-first.ensures.lines

pub returns-in-Stopped-clause-lines : goal.returns-in-Stopped-clause-lines
returns-in-Stopped-clause-lines g c = let o = g.O.Oracle in let t = g.O.LogTeller in
    let a = c.args.oracle.now in
    let e = c.ask.new.self in
    first_stopped t.knows t.log t.learnt a e (o.task a) c.args.wanted.now c.in-Stopped.stop c.in_ok-first.field-0 [] c.stopped_with.result (o.caps e)
    (λ m. ap (λ (f : Criterion → ℕ). f m) c.in_ok-first.ensures.caps ∙ c.requires.fresh.none m)
    (laws_at t.knows e (o.task e) (o.task a) c.args.wanted.now (o.caps e) (o.vars e) c.in_ok-first.ensures.task
    (zero_counted (o.task a) c.args.wanted.now (o.caps e) (o.vars e) (fresh_still (o.task a) (o.caps a) (o.caps e) (o.vars a) (o.vars e)
    c.in_ok-first.ensures.caps c.in_ok-first.ensures.vars c.requires.fresh)).vars_are
    (g.met.O.Oracle.covers e) (g.met.O.Oracle.formed e) (g.O.LogTeller.derives e) (g.O.LogTeller.due e) (g.met.O.Oracle.apart e) (g.met.O.Oracle.fits e)
    (g.met.O.Oracle.within e) (g.met.O.Oracle.few e) (g.met.O.Oracle.counted e))
    refl c.in-Stopped.is c.stopped_with.ensures c.in_ok-first.ensures.lines

pub returns-in-Found-clause-lines : goal.returns-in-Found-clause-lines
returns-in-Found-clause-lines g c = let o = g.O.Oracle in let t = g.O.LogTeller in
    let a = c.args.oracle.now in
    let b = c.ask.new.self in
    let e = c.improve.new.oracle in
    IfOk-weaker c.improve.result
    (λ x. Continues t.knows t.log t.learnt b e (λ lines more. SearchState (o.task b) c.args.wanted.now 0 [] c.in-Found.first (o.caps b) lines → IsOutcome
    (o.task b) c.args.wanted.now x (lines ++ more)))
    (λ x. Continues t.knows t.log t.learnt a e (λ lines more. lines ≡ first_lines (o.task a) → IsOutcome (o.task a) c.args.wanted.now x (lines ++ more)))
    (λ x run. first_found t.knows t.log t.learnt a b e (o.task b) (o.task a) c.args.wanted.now c.in-Found.first c.in_ok-first.field-0 [] x (o.caps b)
    c.in_ok-first.ensures.task
    (λ m. ap (λ (f : Criterion → ℕ). f m) c.in_ok-first.ensures.caps ∙ c.requires.fresh.none m) refl c.in-Found.is c.in_ok-first.ensures.right
    c.in_ok-first.ensures.lines run)
    c.improve.ensures.lines

pub returns-in_err-first-clause-left : goal.returns-in_err-first-clause-left
returns-in_err-first-clause-left g c = let o = g.O.Oracle in let t = g.O.LogTeller in
    let a = c.args.oracle.now in
    on_err_anyway _ _ (first_left (o.task a) c.args.wanted.now (o.caps a) (t.knows a) (t.log a) (t.log c.ask.new.self) c.requires.fresh.none
    (g.met.O.Oracle.within a) c.in_err-first.ensures.leaves)

pub returns-in-Found-clause-left : goal.returns-in-Found-clause-left
returns-in-Found-clause-left g c = let o = g.O.Oracle in let t = g.O.LogTeller in
    let a = c.args.oracle.now in
    let b = c.ask.new.self in
    let p = o.task a in
    on_err_weaker c.improve.result _ _ (search_later t.knows t.log t.learnt a b c.improve.new.oracle (o.task b) p c.args.wanted.now
    (λ (lines : Lines). lines ≡ first_lines p)
    (λ (x : Task) (lines : Lines). SearchState x c.args.wanted.now 0 [] c.in-Found.first (o.caps b) lines) c.in_ok-first.ensures.task
    (first_goes t.knows t.log t.learnt a b p c.args.wanted.now c.in-Found.first c.in_ok-first.field-0 (o.caps b)
    (λ m. ap (λ (f : Criterion → ℕ). f m) c.in_ok-first.ensures.caps ∙ c.requires.fresh.none m) c.in-Found.is c.in_ok-first.ensures.right
    c.in_ok-first.ensures.lines))
    c.improve.ensures.left
