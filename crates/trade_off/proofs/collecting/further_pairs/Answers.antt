use Rattle.std.proofs.Common.{◌≡◌, ◌≤◌, ◌<◌, ◌∷◌, ◌++◌, [], refl, sym, ◌∙◌, ap, subst, arith, ℕ}
use Rattle.std.specs.Prelude.{None, Some}
use Rattle.search_least.specs.Task.{Task, IsLawful, greatest_of}
use Rattle.refute_log.specs.Steps.{Continues}
use Rattle.trade_off.specs.declared.collecting.Next.{Next}
use Rattle.trade_off.specs.declared.collecting.Next.TheVariants.{Pair, NoMore, Stopped}
use Rattle.trade_off.specs.declared.outcome.FrontEnd.TheVariants.{Whole}
use Rattle.trade_off.specs.Outcome.{EndsFront}
use Rattle.trade_off.specs.Front.{Pairs, IsAttained}
use Rattle.trade_off.specs.Least.{HaveComeTo, AreAsked}
use Rattle.trade_off.specs.Next.{IsNextPair, IsSoFar, under, AsksNext, EndsNext, limit_after, limit_behind}
use Rattle.std.proofs.lemmas.Grind.{fold-append}
use Rattle.trade_off.proofs.AskLemmas.{asked_none, asked_then, asked_to}
use Rattle.trade_off.proofs.NextLemmas.{attained_within}
use Rattle.trade_off.proofs.FrontLemmas.{first_so_far, next_so_far, right_whole, right_stopped, stopped_front, next_is}
use Rattle.refute_log.proofs.StepLemmas.{leaves_same}
use Rattle.trade_off.proofs.LeftLemmas.{asked_here, asked_later}
use Rattle.trade_off.proofs.collecting.further_pairs.Goals as goal
use Rattle.outside_io.proofs.Results.{on_err_anyway}

pub loop-limit-init : goal.loop-limit-init
loop-limit-init g c = let o = g.O.Oracle in let t = g.O.LogTeller in
    let p = o.task c.args.oracle.now in
    let pairs : c.push.new.self ≡ (c.args.first, c.args.second) ∷ [] = c.in_ok-push.ensures.ok
    ∙ ap (λ (ps : Pairs). ps ++ (c.args.first, c.args.second) ∷ []) c.new-pairs.ensures in
    record {
      task = refl;
      caps = refl;
      ready = c.requires.ready;
      known = c.requires.known;
      so_far = subst (λ (ps : Pairs). IsSoFar (IsLawful p) c.args.a c.args.b c.args.second ps) (sym pairs)
          (first_so_far (IsLawful p) c.args.a c.args.b c.args.first c.args.second c.requires.pair);
      behind = ap limit_behind pairs;
      within = attained_within p c.args.a c.args.b c.args.first c.args.second c.requires.pair.attained;
      later = g.met.O.Oracle.later_same c.args.oracle.now;
      faults = omega arith;
      lines = asked_none t.knows t.log t.learnt c.args.oracle.now p (HaveComeTo c.args.b c.args.b (under c.args.b (Some c.args.second)));
    }

pub next_pair-requires-clause-first : goal.next_pair-requires-clause-first
next_pair-requires-clause-first g c =
    ap (λ f. f c.args.a) c.loop-limit.invariant.caps ∙ c.requires.caps_first ∙ sym (ap (λ (p : Task). greatest_of p c.args.a) c.loop-limit.invariant.task)

pub next_pair-requires-clause-second : goal.next_pair-requires-clause-second
next_pair-requires-clause-second g c =
    ap (λ f. f c.args.b) c.loop-limit.invariant.caps ∙ c.requires.caps_second ∙ sym (ap (λ (p : Task). greatest_of p c.args.b) c.loop-limit.invariant.task)

pub next_pair-requires-clause-limit : goal.next_pair-requires-clause-limit
next_pair-requires-clause-limit g c =
    (omega arith, subst (λ (p : Task). c.loop-limit.limit ≤ greatest_of p c.args.b) (sym c.loop-limit.invariant.task) c.loop-limit.invariant.within)

pub loop-limit-smaller : goal.loop-limit-smaller
loop-limit-smaller g c = let o = g.O.Oracle in
    (next_is (IsLawful (o.task c.loop-limit.oracle)) c.args.a c.args.b (Some c.loop-limit.limit) c.in_ok-n.field-0 (Pair c.in-Pair.n c.in-Pair.m) c.in-Pair.is
    c.in_ok-n.ensures.next).below

pub loop-limit-preserved : goal.loop-limit-preserved
loop-limit-preserved g c = let o = g.O.Oracle in let t = g.O.LogTeller in
    let a = c.args.oracle.now in
    let b = c.loop-limit.oracle in
    let e = c.next_pair.new.oracle in
    let p = o.task a in
    let limit = c.loop-limit.limit in
    let pair : IsNextPair (IsLawful p) c.args.a c.args.b (Some limit) c.in-Pair.n c.in-Pair.m = subst
    (λ (q : Task). IsNextPair (IsLawful q) c.args.a c.args.b (Some limit) c.in-Pair.n c.in-Pair.m) c.loop-limit.invariant.task
    (next_is (IsLawful (o.task b)) c.args.a c.args.b (Some limit) c.in_ok-n.field-0 (Pair c.in-Pair.n c.in-Pair.m) c.in-Pair.is c.in_ok-n.ensures.next) in
    record {
      task = c.in_ok-n.ensures.task ∙ c.loop-limit.invariant.task;
      caps = c.in_ok-n.ensures.caps ∙ c.loop-limit.invariant.caps;
      ready = c.in_ok-n.ensures.ready;
      known = c.in_ok-n.ensures.known;
      so_far = subst (λ (ps : Pairs). IsSoFar (IsLawful p) c.args.a c.args.b c.in-Pair.m ps) (sym c.in_ok-push-in-Pair.ensures.ok)
          (next_so_far (IsLawful p) c.args.a c.args.b limit c.loop-limit.pairs c.in-Pair.n c.in-Pair.m c.loop-limit.invariant.so_far pair);
      behind = ap limit_behind c.in_ok-push-in-Pair.ensures.ok ∙ fold-append limit_after None c.loop-limit.pairs ((c.in-Pair.n, c.in-Pair.m) ∷ []);
      within = attained_within p c.args.a c.args.b c.in-Pair.n c.in-Pair.m pair.attained;
      later = g.met.O.Oracle.later_more a b e c.loop-limit.invariant.later c.next_pair.ensures.later;
      faults = (let m = c.loop-limit.invariant.faults in let n = c.next_pair.ensures.faults in omega arith);
      lines = asked_to t.knows t.log t.learnt a e p (HaveComeTo c.args.b c.args.b (under c.args.b (Some c.args.second)))
          (EndsNext p (AsksNext c.args.a c.args.b (Some limit) p) c.args.b (Pair c.in-Pair.n c.in-Pair.m))
          (HaveComeTo c.args.b c.args.b (under c.args.b (Some c.in-Pair.m))) (λ lines h. h)
          (asked_then t.knows t.log t.learnt a b e (o.task b) p (HaveComeTo c.args.b c.args.b (under c.args.b (Some c.args.second)))
          (HaveComeTo c.args.b c.args.b (under c.args.b (Some limit)))
          (λ x. EndsNext x (AsksNext c.args.a c.args.b (Some limit) x) c.args.b (Pair c.in-Pair.n c.in-Pair.m)) c.loop-limit.invariant.task
          c.loop-limit.invariant.lines
          (subst (λ (r : Next). Continues t.knows t.log t.learnt b e (AreAsked (o.task b) (HaveComeTo c.args.b c.args.b (under c.args.b (Some limit)))
          (EndsNext (o.task b) (AsksNext c.args.a c.args.b (Some limit) (o.task b)) c.args.b r))) c.in-Pair.is c.in_ok-n.ensures.lines));
    }

pub returns-in-NoMore-clause-right : goal.returns-in-NoMore-clause-right
returns-in-NoMore-clause-right g c = let o = g.O.Oracle in
    let p = o.task c.args.oracle.now in
    let limit = c.loop-limit.limit in
    let none : (k l : ℕ) → IsAttained (IsLawful p) c.args.a c.args.b k l → l < limit →
    ⊥ = subst (λ (q : Task). (k l : ℕ) → IsAttained (IsLawful q) c.args.a c.args.b k l → l < limit → ⊥) c.loop-limit.invariant.task
    (next_is (IsLawful (o.task c.loop-limit.oracle)) c.args.a c.args.b (Some limit) c.in_ok-n.field-0 NoMore c.in-NoMore.is c.in_ok-n.ensures.next) in
    right_whole (IsLawful p) c.args.a c.args.b limit c.loop-limit.pairs c.loop-limit.invariant.so_far none

pub returns-in-NoMore-clause-lines : goal.returns-in-NoMore-clause-lines
returns-in-NoMore-clause-lines g c = let o = g.O.Oracle in let t = g.O.LogTeller in
    let a = c.args.oracle.now in
    let b = c.loop-limit.oracle in
    let e = c.next_pair.new.oracle in
    let p = o.task a in
    let limit = c.loop-limit.limit in
    let first = HaveComeTo c.args.b c.args.b (under c.args.b (Some c.args.second)) in
    asked_to t.knows t.log t.learnt a e p first (EndsNext p (AsksNext c.args.a c.args.b (Some limit) p) c.args.b NoMore)
    (EndsFront p c.args.a c.args.b c.loop-limit.pairs Whole) (λ lines h. tt)
    (asked_then t.knows t.log t.learnt a b e (o.task b) p first (HaveComeTo c.args.b c.args.b (under c.args.b (Some limit)))
    (λ x. EndsNext x (AsksNext c.args.a c.args.b (Some limit) x) c.args.b NoMore) c.loop-limit.invariant.task c.loop-limit.invariant.lines
    (subst (λ (r : Next). Continues t.knows t.log t.learnt b e (AreAsked (o.task b) (HaveComeTo c.args.b c.args.b (under c.args.b (Some limit)))
    (EndsNext (o.task b) (AsksNext c.args.a c.args.b (Some limit) (o.task b)) c.args.b r))) c.in-NoMore.is c.in_ok-n.ensures.lines))

pub returns-in-Stopped-clause-right : goal.returns-in-Stopped-clause-right
returns-in-Stopped-clause-right g c = let o = g.O.Oracle in
    right_stopped (IsLawful (o.task c.args.oracle.now)) c.args.a c.args.b c.loop-limit.limit c.loop-limit.pairs c.in-Stopped.stop c.stopped_by.result
    c.stopped_by.ensures c.loop-limit.invariant.so_far

pub returns-in-Stopped-clause-lines : goal.returns-in-Stopped-clause-lines
returns-in-Stopped-clause-lines g c = let o = g.O.Oracle in let t = g.O.LogTeller in
    let a = c.args.oracle.now in
    let b = c.loop-limit.oracle in
    let e = c.next_pair.new.oracle in
    let p = o.task a in
    let limit = c.loop-limit.limit in
    let first = HaveComeTo c.args.b c.args.b (under c.args.b (Some c.args.second)) in
    stopped_front t.knows t.log t.learnt a e p c.args.a c.args.b first c.loop-limit.pairs (Some limit) c.in-Stopped.stop c.stopped_by.result
    c.loop-limit.invariant.behind c.stopped_by.ensures
    (asked_then t.knows t.log t.learnt a b e (o.task b) p first (HaveComeTo c.args.b c.args.b (under c.args.b (Some limit)))
    (λ x. EndsNext x (AsksNext c.args.a c.args.b (Some limit) x) c.args.b (Stopped c.in-Stopped.stop)) c.loop-limit.invariant.task
    c.loop-limit.invariant.lines
    (subst (λ (r : Next). Continues t.knows t.log t.learnt b e (AreAsked (o.task b) (HaveComeTo c.args.b c.args.b (under c.args.b (Some limit)))
    (EndsNext (o.task b) (AsksNext c.args.a c.args.b (Some limit) (o.task b)) c.args.b r))) c.in-Stopped.is c.in_ok-n.ensures.lines))

pub returns-clause-right : goal.returns-clause-right
returns-clause-right g c = let o = g.O.Oracle in
    right_whole (IsLawful (o.task c.args.oracle.now)) c.args.a c.args.b c.loop-limit.limit c.loop-limit.pairs c.loop-limit.invariant.so_far
    (λ k l at lt. absurd (omega (arith, lt)))

pub returns-clause-lines : goal.returns-clause-lines
returns-clause-lines g c = let o = g.O.Oracle in let t = g.O.LogTeller in
    let a = c.args.oracle.now in
    let p = o.task a in
    asked_to t.knows t.log t.learnt a c.loop-limit.oracle p (HaveComeTo c.args.b c.args.b (under c.args.b (Some c.args.second)))
    (HaveComeTo c.args.b c.args.b (under c.args.b (Some c.loop-limit.limit))) (EndsFront p c.args.a c.args.b c.loop-limit.pairs Whole) (λ lines h. tt)
    c.loop-limit.invariant.lines

pub returns-in_err-push-clause-leaves : goal.returns-in_err-push-clause-leaves
returns-in_err-push-clause-leaves g c = let t = g.O.LogTeller in
    on_err_anyway _ _ (leaves_same (t.knows c.args.oracle.now) (t.log c.args.oracle.now) (g.O.LogTeller.derives c.args.oracle.now)
    (g.met.O.Oracle.one_reading c.args.oracle.now))

pub returns-in_err-n-clause-leaves : goal.returns-in_err-n-clause-leaves
returns-in_err-n-clause-leaves g c = let o = g.O.Oracle in let t = g.O.LogTeller in
    on_err_anyway _ _ (asked_later t.knows t.log t.learnt c.args.oracle.now c.loop-limit.oracle c.next_pair.new.oracle
    (o.task c.loop-limit.oracle) (o.task c.args.oracle.now) (HaveComeTo c.args.b c.args.b (under c.args.b (Some c.args.second)))
    (HaveComeTo c.args.b c.args.b (under c.args.b (Some c.loop-limit.limit))) c.loop-limit.invariant.lines (g.met.O.Oracle.within c.loop-limit.oracle)
    c.loop-limit.invariant.task c.in_err-n.ensures.leaves)

pub returns-in_err-push-in-Pair-clause-leaves : goal.returns-in_err-push-in-Pair-clause-leaves
returns-in_err-push-in-Pair-clause-leaves g c = let o = g.O.Oracle in let t = g.O.LogTeller in
    on_err_anyway _ _ (asked_later t.knows t.log t.learnt c.args.oracle.now c.loop-limit.oracle c.next_pair.new.oracle
    (o.task c.loop-limit.oracle) (o.task c.args.oracle.now) (HaveComeTo c.args.b c.args.b (under c.args.b (Some c.args.second)))
    (HaveComeTo c.args.b c.args.b (under c.args.b (Some c.loop-limit.limit))) c.loop-limit.invariant.lines
    (g.met.O.Oracle.within c.loop-limit.oracle) c.loop-limit.invariant.task
    (asked_here t.knows t.log t.learnt c.loop-limit.oracle c.next_pair.new.oracle (o.task c.next_pair.new.oracle) (o.task c.loop-limit.oracle)
    (HaveComeTo c.args.b c.args.b (under c.args.b (Some c.loop-limit.limit)))
    (EndsNext (o.task c.loop-limit.oracle) (AsksNext c.args.a c.args.b (Some c.loop-limit.limit) (o.task c.loop-limit.oracle)) c.args.b c.in_ok-n.field-0)
    c.in_ok-n.ensures.lines (g.met.O.Oracle.within c.next_pair.new.oracle) c.in_ok-n.ensures.task
    (g.O.LogTeller.derives c.next_pair.new.oracle) (g.met.O.Oracle.one_reading c.next_pair.new.oracle)))
