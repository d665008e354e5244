use Rattle.std.proofs.Common.{◌≡◌, ◌≤◌, [], refl, sym, ◌∙◌, ap, subst, arith}
use Rattle.std.specs.Prelude.{Some}
use Rattle.search_least.specs.CountTask.{CountTask, IsOne}
use Rattle.search_least.specs.CountAsked.{IsAnswer}
use Rattle.search_least.specs.Run.{IsRunOfDrawings}
use Rattle.outside_io.proofs.Results.{on_err_anyway}
use Rattle.refute_log.proofs.StepLemmas.{known_after, leaves_later}
use Rattle.search_least.proofs.AskLemmas.{laws_back, refuted_none, run_none, run_found, ends_refuted, ends_zero, ends_stopped}
use Rattle.search_least.proofs.FewestLemmas.{found_fact, fewest_from, fewest_zero, right_stopped}
use Rattle.search_least.proofs.counting.lower.Goals as goal

pub loop-count-init : goal.loop-count-init
loop-count-init g c = let q = g.Q.CountOracle in let t = g.Q.LogTeller in
    let a = c.args.questions.now in
    record {
      count = c.count-count.ensures;
      within = (let is = c.count-count.ensures in let le = g.met.Q.CountOracle.limited a c.args.first c.requires.one in omega (arith, is, le));
      task = refl;
      ready = c.requires.ready;
      known = c.requires.known;
      one = c.requires.one;
      later = g.met.Q.CountOracle.later_same a;
      faults = omega arith;
      lines = run_none t.knows t.log t.learnt a (q.task a) ((q.task a).count c.args.first) c.count-count.result c.count-count.ensures;
    }

pub ask-requires-clause-limit : goal.ask-requires-clause-limit
ask-requires-clause-limit g c = let q = g.Q.CountOracle in
    (omega arith, subst (λ (p : CountTask). c.loop-count.count ≤ p.most) (sym c.loop-count.invariant.task) c.loop-count.invariant.within)

pub count-count-requires-in-Found-clause-one : goal.count-count-requires-in-Found-clause-one
count-count-requires-in-Found-clause-one g c = let q = g.Q.CountOracle in
    let p = q.task c.loop-count.questions in
    let one = (found_fact p (Some c.loop-count.count) c.in-Found.d c.in_ok-d.field-0 c.in-Found.is c.in_ok-d.ensures.right).0 in
    subst (λ (x : CountTask). IsOne x c.in-Found.d) (sym c.in_ok-d.ensures.task) one

pub loop-count-smaller : goal.loop-count-smaller
loop-count-smaller g c = let q = g.Q.CountOracle in
    let p = q.task c.loop-count.questions in
    let lt = (found_fact p (Some c.loop-count.count) c.in-Found.d c.in_ok-d.field-0 c.in-Found.is c.in_ok-d.ensures.right).1 in
    let is : c.count-count-in-Found.result ≡ p.count c.in-Found.d = c.count-count-in-Found.ensures
    ∙ ap (λ (x : CountTask). x.count c.in-Found.d) c.in_ok-d.ensures.task in
    omega (arith, is, lt)

pub loop-count-preserved : goal.loop-count-preserved
loop-count-preserved g c = let q = g.Q.CountOracle in let t = g.Q.LogTeller in
    let a = c.args.questions.now in
    let b = c.loop-count.questions in
    let e = c.ask.new.self in
    let same : q.task e ≡ q.task a = c.in_ok-d.ensures.task ∙ c.loop-count.invariant.task in
    let fact = found_fact (q.task b) (Some c.loop-count.count) c.in-Found.d c.in_ok-d.field-0 c.in-Found.is c.in_ok-d.ensures.right in
    let one : IsOne (q.task a) c.in-Found.d = subst (λ (x : CountTask). IsOne x c.in-Found.d) c.loop-count.invariant.task fact.0 in
    let is : c.count-count-in-Found.result ≡ (q.task a).count c.in-Found.d = c.count-count-in-Found.ensures
    ∙ ap (λ (x : CountTask). x.count c.in-Found.d) same in
    record {
      count = is;
      within = (let le = g.met.Q.CountOracle.limited a c.in-Found.d one in omega (arith, is, le));
      task = same;
      ready = c.in_ok-d.ensures.ready;
      known = known_after t.knows t.log t.learnt b e (λ lines more. IsAnswer (q.task b) lines (Some c.loop-count.count) c.in_ok-d.field-0 more)
          c.loop-count.invariant.known c.in_ok-d.ensures.lines;
      one = one;
      later = g.met.Q.CountOracle.later_more a b e c.loop-count.invariant.later c.in_ok-d.ensures.later;
      faults = (let m = c.loop-count.invariant.faults in let n = c.in_ok-d.ensures.faults in omega arith);
      lines = run_found t.knows t.log t.learnt a b e (q.task b) (q.task a) ((q.task a).count c.args.first) c.loop-count.count c.count-count-in-Found.result
          c.in_ok-d.field-0 c.in-Found.d
          (record {
            same = c.loop-count.invariant.task;
            within = (omega arith, c.loop-count.invariant.within);
            right = c.in_ok-d.ensures.right;
          }) c.in-Found.is is c.loop-count.invariant.lines c.in_ok-d.ensures.lines;
    }

pub returns-in-Refuted-clause-right : goal.returns-in-Refuted-clause-right
returns-in-Refuted-clause-right g c = let q = g.Q.CountOracle in let t = g.Q.LogTeller in
    let a = c.args.questions.now in
    let b = c.loop-count.questions in
    let e = c.ask.new.self in
    fewest_from (q.task a) c.loop-count.count c.loop-count.best c.loop-count.invariant.count c.loop-count.invariant.one
    (refuted_none t.knows t.log t.learnt b e (q.task b) (q.task a) (Some c.loop-count.count) c.in_ok-d.field-0 c.loop-count.invariant.task c.in-Refuted.is
    c.loop-count.invariant.known
    (laws_back t.knows e (q.task e) (q.task b) c.in_ok-d.ensures.task (record {
      covers = g.met.Q.CountOracle.covers e;
      derives = g.Q.LogTeller.derives e;
    }))
    (omega arith, subst (λ (p : CountTask). c.loop-count.count ≤ p.most) (sym c.loop-count.invariant.task) c.loop-count.invariant.within)
    c.in_ok-d.ensures.lines)

pub returns-in-Refuted-clause-lines : goal.returns-in-Refuted-clause-lines
returns-in-Refuted-clause-lines g c = let q = g.Q.CountOracle in let t = g.Q.LogTeller in
    let a = c.args.questions.now in
    let b = c.loop-count.questions in
    ends_refuted t.knows t.log t.learnt a b c.ask.new.self (q.task b) (q.task a) ((q.task a).count c.args.first) c.loop-count.count c.in_ok-d.field-0
    c.loop-count.best (record {
      same = c.loop-count.invariant.task;
      within = (omega arith, c.loop-count.invariant.within);
      right = c.in_ok-d.ensures.right;
    }) c.in-Refuted.is c.loop-count.invariant.count c.loop-count.invariant.lines c.in_ok-d.ensures.lines

pub returns-in-Stopped-clause-right : goal.returns-in-Stopped-clause-right
returns-in-Stopped-clause-right g c = let q = g.Q.CountOracle in
    right_stopped (q.task c.args.questions.now) c.in-Stopped.stop (Some c.loop-count.best) c.stopped_with.result c.stopped_with.ensures
    c.loop-count.invariant.one

pub returns-in-Stopped-clause-lines : goal.returns-in-Stopped-clause-lines
returns-in-Stopped-clause-lines g c = let q = g.Q.CountOracle in let t = g.Q.LogTeller in
    let a = c.args.questions.now in
    let b = c.loop-count.questions in
    ends_stopped t.knows t.log t.learnt a b c.ask.new.self (q.task b) (q.task a) ((q.task a).count c.args.first) c.loop-count.count c.in_ok-d.field-0
    c.loop-count.best c.in-Stopped.stop c.stopped_with.result (record {
      same = c.loop-count.invariant.task;
      within = (omega arith, c.loop-count.invariant.within);
      right = c.in_ok-d.ensures.right;
    }) c.in-Stopped.is c.stopped_with.ensures
    c.loop-count.invariant.count c.loop-count.invariant.lines c.in_ok-d.ensures.lines

pub returns-clause-right : goal.returns-clause-right
returns-clause-right g c = let q = g.Q.CountOracle in
    fewest_zero (q.task c.args.questions.now) c.loop-count.count c.loop-count.best c.loop-count.invariant.count c.loop-count.invariant.one (omega arith)

pub returns-clause-lines : goal.returns-clause-lines
returns-clause-lines g c = let q = g.Q.CountOracle in let t = g.Q.LogTeller in
    ends_zero t.knows t.log t.learnt c.args.questions.now c.loop-count.questions (q.task c.args.questions.now)
    ((q.task c.args.questions.now).count c.args.first) c.loop-count.count c.loop-count.best (let is = c.loop-count.invariant.count in omega (arith, is))
    c.loop-count.invariant.lines

pub returns-in_err-d-clause-leaves : goal.returns-in_err-d-clause-leaves
returns-in_err-d-clause-leaves g c = let q = g.Q.CountOracle in let t = g.Q.LogTeller in
    let a = c.args.questions.now in
    on_err_anyway _ _ (leaves_later t.knows t.log t.learnt a c.loop-count.questions c.ask.new.self
    (IsRunOfDrawings (q.task a) ((q.task a).count c.args.first) c.loop-count.count) [] [] c.loop-count.invariant.lines (λ lines more h. h.none)
    (g.met.Q.CountOracle.within c.loop-count.questions) (ap (λ (x : CountTask). x.budget) c.loop-count.invariant.task) c.in_err-d.ensures.leaves)
