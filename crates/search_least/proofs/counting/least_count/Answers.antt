use Rattle.std.proofs.Common.{[], ◌++◌, refl, sym, ◌∙◌, ap, subst, map}
use Rattle.std.specs.Prelude.{None, IfOk}
use Rattle.std.proofs.lemmas.Result.{IfOk-weaker}
use Rattle.refute_log.specs.declared.line.LogLine.TheVariants.{Formula}
use Rattle.refute_log.specs.Steps.{ToldBehind, Continues}
use Rattle.search_least.specs.CountTask.{CountTask, IsOne}
use Rattle.search_least.specs.CountAsked.{IsAnswer}
use Rattle.search_least.specs.Fewest.{IsRightFewest, IsFewestLog}
use Rattle.search_least.specs.Run.{IsRunToEnd}
use Rattle.outside_io.proofs.Results.{on_err_anyway}
use Rattle.refute_log.proofs.StepLemmas.{known_after, leaves_later, on_err_weaker}
use Rattle.search_least.proofs.AskLemmas.{laws_back, refuted_none, answer_clauses}
use Rattle.search_least.proofs.FewestLemmas.{found_fact, right_stopped, first_found, first_refuted, first_stopped, log_laws_at, tells}
use Rattle.search_least.proofs.counting.least_count.Goals as goal

pub lower-requires-clause-known : goal.lower-requires-clause-known
lower-requires-clause-known g c = let q = g.Q.CountOracle in let t = g.Q.LogTeller in
    let a = c.args.questions.now in
    known_after t.knows t.log t.learnt a c.ask.new.self (λ lines more. IsAnswer (q.task a) lines None c.in_ok-first.field-0 more)
    (map Formula (q.task a).clauses, c.requires.start) c.in_ok-first.ensures.lines

pub lower-requires-clause-one : goal.lower-requires-clause-one
lower-requires-clause-one g c = let q = g.Q.CountOracle in
    subst (λ (p : CountTask). IsOne p c.in-Found.first) (sym c.in_ok-first.ensures.task)
    (found_fact (q.task c.args.questions.now) None c.in-Found.first c.in_ok-first.field-0 c.in-Found.is c.in_ok-first.ensures.right).0

pub returns-in-Found-clause-right : goal.returns-in-Found-clause-right
returns-in-Found-clause-right g c = subst (λ (p : CountTask). IfOk c.lower.result (IsRightFewest p)) c.in_ok-first.ensures.task c.lower.ensures.right

pub returns-in-Found-clause-lines : goal.returns-in-Found-clause-lines
returns-in-Found-clause-lines g c = let q = g.Q.CountOracle in let t = g.Q.LogTeller in
    let a = c.args.questions.now in
    let b = c.ask.new.self in
    let e = c.lower.new.questions in
    let p = q.task a in
    IfOk-weaker c.lower.result (λ r. Continues t.knows t.log t.learnt b e (IsRunToEnd (q.task b) ((q.task b).count c.in-Found.first) r))
    (λ r. ToldBehind (t.knows e) (t.log a) (t.log e) (t.learnt a) (t.learnt e) (map Formula p.clauses)
    (λ more. IsFewestLog p r (map Formula p.clauses ++ more)))
    (λ r h. tells t.knows t.log t.learnt a e p r
    (log_laws_at t.knows e (q.task e) p (c.lower.ensures.task ∙ c.in_ok-first.ensures.task)
    (record {
      formed = g.met.Q.CountOracle.formed e;
      derives = g.Q.LogTeller.derives e;
      due = g.Q.LogTeller.due e;
      fits = g.met.Q.CountOracle.fits e;
      within = g.met.Q.CountOracle.within e;
    }))
    c.requires.start
    (first_found t.knows t.log t.learnt a b e (q.task b) p c.in_ok-first.field-0 c.in-Found.first r c.in_ok-first.ensures.task c.in-Found.is
    c.in_ok-first.ensures.right c.in_ok-first.ensures.lines h))
    c.lower.ensures.lines

pub returns-in-Refuted-clause-right : goal.returns-in-Refuted-clause-right
returns-in-Refuted-clause-right g c = let q = g.Q.CountOracle in let t = g.Q.LogTeller in
    let a = c.args.questions.now in
    let e = c.ask.new.self in
    λ d one. refuted_none t.knows t.log t.learnt a e (q.task a) (q.task a) None c.in_ok-first.field-0 refl c.in-Refuted.is
    (map Formula (q.task a).clauses, c.requires.start)
    (laws_back t.knows e (q.task e) (q.task a) c.in_ok-first.ensures.task (record {
      covers = g.met.Q.CountOracle.covers e;
      derives = g.Q.LogTeller.derives e;
    })) tt c.in_ok-first.ensures.lines d one tt

pub returns-in-Refuted-clause-lines : goal.returns-in-Refuted-clause-lines
returns-in-Refuted-clause-lines g c = let q = g.Q.CountOracle in let t = g.Q.LogTeller in
    let a = c.args.questions.now in
    let e = c.ask.new.self in
    let p = q.task a in
    tells t.knows t.log t.learnt a e p _
    (log_laws_at t.knows e (q.task e) p c.in_ok-first.ensures.task
    (record {
      formed = g.met.Q.CountOracle.formed e;
      derives = g.Q.LogTeller.derives e;
      due = g.Q.LogTeller.due e;
      fits = g.met.Q.CountOracle.fits e;
      within = g.met.Q.CountOracle.within e;
    }))
    c.requires.start (first_refuted t.knows t.log t.learnt a e p c.in_ok-first.field-0 c.in-Refuted.is c.in_ok-first.ensures.right c.in_ok-first.ensures.lines)

pub returns-in-Stopped-clause-right : goal.returns-in-Stopped-clause-right
returns-in-Stopped-clause-right g c = let q = g.Q.CountOracle in
    right_stopped (q.task c.args.questions.now) c.in-Stopped.stop None c.stopped_with.result c.stopped_with.ensures tt

pub returns-in-Stopped-clause-lines : goal.returns-in-Stopped-clause-lines
returns-in-Stopped-clause-lines g c = let q = g.Q.CountOracle in let t = g.Q.LogTeller in
    let a = c.args.questions.now in
    let e = c.ask.new.self in
    let p = q.task a in
    tells t.knows t.log t.learnt a e p c.stopped_with.result
    (log_laws_at t.knows e (q.task e) p c.in_ok-first.ensures.task
    (record {
      formed = g.met.Q.CountOracle.formed e;
      derives = g.Q.LogTeller.derives e;
      due = g.Q.LogTeller.due e;
      fits = g.met.Q.CountOracle.fits e;
      within = g.met.Q.CountOracle.within e;
    }))
    c.requires.start (first_stopped t.knows t.log t.learnt a e p c.in_ok-first.field-0 c.in-Stopped.stop c.stopped_with.result c.in-Stopped.is
    c.stopped_with.ensures c.in_ok-first.ensures.right c.in_ok-first.ensures.lines)

pub returns-in_err-first-clause-leaves : goal.returns-in_err-first-clause-leaves
returns-in_err-first-clause-leaves g c = on_err_anyway _ _ c.in_err-first.ensures.leaves

pub returns-in-Found-clause-leaves : goal.returns-in-Found-clause-leaves
returns-in-Found-clause-leaves g c = let q = g.Q.CountOracle in let t = g.Q.LogTeller in
    let a = c.args.questions.now in
    let p = q.task a in
    let r = c.in_ok-first.field-0 in
    on_err_weaker c.lower.result _ _
    (leaves_later t.knows t.log t.learnt a c.ask.new.self c.lower.new.questions (λ lines more. IsAnswer p lines None r more) [] [] c.in_ok-first.ensures.lines
    (λ lines more h. answer_clauses p None lines r more h) (g.met.Q.CountOracle.within c.ask.new.self)
    (ap (λ (x : CountTask). x.budget) c.in_ok-first.ensures.task)) c.lower.ensures.leaves
