use Rattle.std.proofs.Common.{◌≡◌, ◌++◌, refl}
use Rattle.std.proofs.lemmas.Result.{IfOk-weaker}
use Rattle.refute_log.specs.Steps.{ToldBehind, Continues}
use Rattle.search_least.specs.Outcome.{IsOutcome, IsRightOutcome, first_lines}
use Rattle.search_least.proofs.OutcomeLemmas.{right_run, tells_run}
use Rattle.refute_log.proofs.StepLemmas.{on_err_weaker}
use Rattle.search_least.proofs.searching.least_values.Goals as goal

pub returns-clause-right : goal.returns-clause-right
returns-clause-right g c = let o = g.O.Oracle in let t = g.O.LogTeller in
    let a = c.args.oracle.now in
    let e = c.search.new.oracle in
    let p = o.task a in
    IfOk-weaker c.search.result (λ x. Continues t.knows t.log t.learnt a e (λ lines more. lines ≡ first_lines p → IsOutcome p c.args.wanted.now x
    (lines ++ more))) (IsRightOutcome p c.args.wanted.now)
    (λ x run. right_run t.knows t.log t.learnt a e p c.args.wanted.now x c.requires.start run) c.search.ensures.lines

pub returns-clause-lines : goal.returns-clause-lines
returns-clause-lines g c = let o = g.O.Oracle in let t = g.O.LogTeller in
    let a = c.args.oracle.now in
    let e = c.search.new.oracle in
    let p = o.task a in
    IfOk-weaker c.search.result (λ x. Continues t.knows t.log t.learnt a e (λ lines more. lines ≡ first_lines p → IsOutcome p c.args.wanted.now x
    (lines ++ more)))
    (λ x. ToldBehind (t.knows e) (t.log a) (t.log e) (t.learnt a) (t.learnt e) (first_lines p)
    (λ more. IsOutcome p c.args.wanted.now x (first_lines p ++ more)))
    (λ x run. tells_run t.knows t.log t.learnt a e p c.args.wanted.now x c.requires.start run) c.search.ensures.lines

pub returns-clause-left : goal.returns-clause-left
returns-clause-left g c = let o = g.O.Oracle in
    on_err_weaker c.search.result _ _ (λ h told lines is. (h (first_lines (o.task c.args.oracle.now)) c.requires.start told lines is).1 refl)
    c.search.ensures.left

pub returns-clause-still : goal.returns-clause-still
returns-clause-still g c = on_err_weaker c.search.result _ _ (λ h lines k was told is. (h lines k was told is).0) c.search.ensures.left
