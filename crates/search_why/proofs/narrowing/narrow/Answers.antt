use Rattle.std.proofs.Common.{◌≡◌, ◌∷◌, [], ◌++◌, List, ℕ, length, refl, sym, ◌∙◌, ap, subst, arith, append_assoc, length-append}
use Rattle.std.specs.Prelude.{Option}
use Rattle.plan_core.specs.Drawing.{Drawing}
use Rattle.refute_log.specs.Told.{Lines}
use Rattle.refute_log.specs.declared.stop.Stop.{Stop}
use Rattle.search_why.specs.declared.outcome.Outcome.{Outcome}
use Rattle.search_why.specs.Task.{Task}
use Rattle.search_why.specs.Narrowed.{IsNarrowed, TellsNarrowed}
use Rattle.refute_log.specs.Cause.{IsCause}
use Rattle.search_why.specs.Asked.{TellsStop}
use Rattle.search_why.specs.Outcome.{IsRightOutcome}
use Rattle.refute_log.proofs.StepLemmas.{AnyLines, stays, goes_on, becomes}
use Rattle.search_why.proofs.NarrowLemmas.{narrow_none, nothing_left}
use Rattle.search_why.proofs.LeftLemmas.{left_later}
use Rattle.search_why.proofs.OutcomeLemmas.{narrowed_explains, narrowed_without}
use Rattle.search_why.proofs.narrowing.narrow.Goals as goal
use Rattle.outside_io.proofs.Results.{on_err_anyway}

pub loop-law-init : goal.loop-law-init
loop-law-init g c = let o = g.O.LawOracle in let t = g.O.LogTeller in
    let p = o.task c.args.oracle.now in
    let b = c.begin-progress in
    record {
      task = refl;
      ready = c.requires.ready;
      narrowed = subst (λ (k : List ℕ). IsNarrowed p k b.result.left.items b.result.without.items) (sym b.ensures.kept)
          (subst (λ (l : List ℕ). IsNarrowed p [] l b.result.without.items) (sym b.ensures.left)
          (subst (λ (w : List Drawing). IsNarrowed p [] c.args.left.items w) (sym b.ensures.without)
          (narrow_none p c.args.left.items c.requires.places c.requires.none)));
      later = g.met.O.LawOracle.later_same c.args.oracle.now;
      faults = omega arith;
      lines = stays t.knows t.log t.learnt c.args.oracle.now AnyLines (λ lines k. tt);
    }

pub take_away-requires-clause-ready : goal.take_away-requires-clause-ready
take_away-requires-clause-ready g c = c.loop-law.invariant.ready

pub take_away-requires-clause-narrowed : goal.take_away-requires-clause-narrowed
take_away-requires-clause-narrowed g c = let o = g.O.LawOracle in
    let q = c.loop-law.progress in
    subst (λ (x : Task). IsNarrowed x q.kept.items (c.pop.new.self.items ++ c.in-Some.law ∷ []) q.without.items) (sym c.loop-law.invariant.task)
    (subst (λ (l : List ℕ). IsNarrowed (o.task c.args.oracle.now) q.kept.items l q.without.items) c.in-Some.ensures.items c.loop-law.invariant.narrowed)

pub loop-law-smaller : goal.loop-law-smaller
loop-law-smaller g c =
    let e : length c.loop-law.progress.left.items ≡ length (c.pop.new.self.items ++ c.in-Some.law ∷ []) = ap length c.in-Some.ensures.items in
    let n = length-append c.pop.new.self.items (c.in-Some.law ∷ []) in
    let fewer = c.in_ok-stop.ensures.fewer in
    omega (arith, e, n, fewer)

pub loop-law-preserved : goal.loop-law-preserved
loop-law-preserved g c = let o = g.O.LawOracle in let t = g.O.LogTeller in
    let q = c.take_away.new.progress in
    let e = c.in_ok-stop.ensures in
    record {
      task = e.task ∙ c.loop-law.invariant.task;
      ready = e.ready;
      narrowed = subst (λ (x : Task). IsNarrowed x q.kept.items q.left.items q.without.items) c.loop-law.invariant.task (e.narrowed c.in_default-2.is);
      later = g.met.O.LawOracle.later_more c.args.oracle.now c.loop-law.oracle c.take_away.new.oracle c.loop-law.invariant.later e.later;
      faults = (let a = c.loop-law.invariant.faults in let b = e.faults in omega arith);
      lines = goes_on t.knows t.log t.learnt c.args.oracle.now c.loop-law.oracle c.take_away.new.oracle AnyLines
          (λ lines more. TellsStop (o.task c.loop-law.oracle) c.in_ok-stop.field-0 (lines ++ more)) AnyLines
          c.loop-law.invariant.lines e.lines (λ lines xs ys ka kb ke r s. tt);
    }

pub returns-in_err-stop-clause-leaves : goal.returns-in_err-stop-clause-leaves
returns-in_err-stop-clause-leaves g c = let o = g.O.LawOracle in let t = g.O.LogTeller in
    on_err_anyway _ _ (left_later t.knows t.log t.learnt o.task c.args.oracle.now c.loop-law.oracle c.take_away.new.oracle AnyLines c.loop-law.invariant.lines
    g.met.O.LawOracle.gives g.met.O.LawOracle.within c.loop-law.invariant.task c.in_err-stop.ensures.leaves)

pub returns-in-Some-2-clause-lines : goal.returns-in-Some-2-clause-lines
returns-in-Some-2-clause-lines g c = let o = g.O.LawOracle in let t = g.O.LogTeller in
    let p = o.task c.args.oracle.now in
    let stop = c.in-Some-2.stop in
    goes_on t.knows t.log t.learnt c.args.oracle.now c.loop-law.oracle c.take_away.new.oracle AnyLines
    (λ lines more. TellsStop (o.task c.loop-law.oracle) c.in_ok-stop.field-0 (lines ++ more)) (λ lines more. IsCause p.budget p.room stop (lines ++ more))
    c.loop-law.invariant.lines c.in_ok-stop.ensures.lines
    (λ lines xs ys ka kb ke r s.
    subst (λ (x : Task). IsCause x.budget x.room stop (lines ++ (xs ++ ys))) c.loop-law.invariant.task
    (subst (λ (ls : Lines). IsCause (o.task c.loop-law.oracle).budget (o.task c.loop-law.oracle).room stop ls) (append_assoc lines xs ys)
    (subst (λ (x : Option Stop). TellsStop (o.task c.loop-law.oracle) x ((lines ++ xs) ++ ys)) c.in-Some-2.is s)))

pub returns-clause-right : goal.returns-clause-right
returns-clause-right g c = let o = g.O.LawOracle in
    let p = o.task c.args.oracle.now in
    let q = c.loop-law.progress in
    let none : q.left.items ≡ [] = nothing_left q.left.items c.pop.new.self.items _ c.in_default.ensures.items c.in_default.ensures.rest
    c.in_default.ensures.cases.0 in
    let n : IsNarrowed p q.kept.items [] q.without.items = subst (λ (l : List ℕ). IsNarrowed p q.kept.items l q.without.items) none
    c.loop-law.invariant.narrowed in
    subst (λ (x : Outcome). IsRightOutcome p x) (sym c.finish.ensures) (
      narrowed_explains p q.kept.items q.without.items c.requires.laws n,
      narrowed_without p
          q.kept.items q.without.items n,
    )

pub returns-clause-lines : goal.returns-clause-lines
returns-clause-lines g c = let o = g.O.LawOracle in let t = g.O.LogTeller in
    let p = o.task c.args.oracle.now in
    becomes t.knows t.log t.learnt c.args.oracle.now c.loop-law.oracle AnyLines (λ lines more. TellsNarrowed p c.finish.result (lines ++ more))
    c.loop-law.invariant.lines
    (λ lines xs ka kb q. subst (λ (x : Outcome). TellsNarrowed p x (lines ++ xs)) (sym c.finish.ensures) tt)
