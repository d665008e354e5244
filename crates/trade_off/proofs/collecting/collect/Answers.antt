use Rattle.std.proofs.Common.{[], sym, ◌∙◌, ap, subst}
use Rattle.std.specs.Prelude.{None, Some, IfOk}
use Rattle.std.proofs.lemmas.Result.{IfOk-weaker}
use Rattle.search_least.specs.Task.{Task, IsLawful, greatest_of}
use Rattle.refute_log.specs.Steps.{Continues}
use Rattle.trade_off.specs.declared.collecting.Next.{Next}
use Rattle.trade_off.specs.declared.collecting.Next.TheVariants.{Pair, NoMore}
use Rattle.trade_off.specs.Least.{AreAsked}
use Rattle.trade_off.specs.Next.{IsNextPair, under, AsksNext, EndsNext, limit_behind}
use Rattle.trade_off.specs.Outcome.{IsRightFront, EndsFront}
use Rattle.trade_off.specs.Least.{HaveComeTo}
use Rattle.trade_off.specs.declared.outcome.FrontEnd.TheVariants.{Empty}
use Rattle.trade_off.proofs.AskLemmas.{asked_then, asked_to}
use Rattle.trade_off.proofs.FrontLemmas.{right_empty, right_stopped_first, stopped_front, next_is}
use Rattle.refute_log.proofs.StepLemmas.{on_err_weaker}
use Rattle.trade_off.proofs.LeftLemmas.{asked_later}
use Rattle.trade_off.proofs.collecting.collect.Goals as goal
use Rattle.outside_io.proofs.Results.{on_err_anyway}

pub further_pairs-requires-clause-caps_first : goal.further_pairs-requires-clause-caps_first
further_pairs-requires-clause-caps_first g c =
    ap (λ f. f c.args.a) c.in_ok-first.ensures.caps ∙ c.requires.caps_first ∙ sym (ap (λ (p : Task). greatest_of p c.args.a) c.in_ok-first.ensures.task)

pub further_pairs-requires-clause-caps_second : goal.further_pairs-requires-clause-caps_second
further_pairs-requires-clause-caps_second g c =
    ap (λ f. f c.args.b) c.in_ok-first.ensures.caps ∙ c.requires.caps_second ∙ sym (ap (λ (p : Task). greatest_of p c.args.b) c.in_ok-first.ensures.task)

pub further_pairs-requires-clause-pair : goal.further_pairs-requires-clause-pair
further_pairs-requires-clause-pair g c = let o = g.O.Oracle in
    subst (λ (p : Task). IsNextPair (IsLawful p) c.args.a c.args.b None c.in-Pair.first c.in-Pair.second) (sym c.in_ok-first.ensures.task)
    (next_is (IsLawful (o.task c.args.oracle.now)) c.args.a c.args.b None c.in_ok-first.field-0 (Pair c.in-Pair.first c.in-Pair.second) c.in-Pair.is
    c.in_ok-first.ensures.next)

pub returns-in-Pair-clause-right : goal.returns-in-Pair-clause-right
returns-in-Pair-clause-right g c = let o = g.O.Oracle in
    subst (λ (p : Task). IfOk c.further_pairs.result (λ r. IsRightFront (IsLawful p) c.args.a c.args.b r.pairs r.ending)) c.in_ok-first.ensures.task
    c.further_pairs.ensures.right

pub returns-in-Pair-clause-lines : goal.returns-in-Pair-clause-lines
returns-in-Pair-clause-lines g c = let o = g.O.Oracle in let t = g.O.LogTeller in
    let a = c.args.oracle.now in
    let b = c.next_pair.new.oracle in
    let e = c.further_pairs.new.oracle in
    let p = o.task a in
    let limit = HaveComeTo c.args.b c.args.b (under c.args.b (Some c.in-Pair.second)) in
    let begin = HaveComeTo c.args.b c.args.b [] in
    let before : Continues t.knows t.log t.learnt a b (AreAsked p begin limit) =
    asked_to t.knows t.log t.learnt a b p begin (EndsNext p (AsksNext c.args.a c.args.b None p) c.args.b (Pair c.in-Pair.first c.in-Pair.second))
    limit (λ lines h. h)
    (subst (λ (x : Next). Continues t.knows t.log t.learnt a b (AreAsked p (HaveComeTo c.args.b c.args.b [])
    (EndsNext p (AsksNext c.args.a c.args.b None p) c.args.b x))) c.in-Pair.is c.in_ok-first.ensures.lines) in
    IfOk-weaker c.further_pairs.result
    (λ r. Continues t.knows t.log t.learnt b e (AreAsked (o.task b) limit (EndsFront (o.task b) c.args.a c.args.b r.pairs r.ending)))
    (λ r. Continues t.knows t.log t.learnt a e (AreAsked p begin (EndsFront p c.args.a c.args.b r.pairs r.ending)))
    (λ r h. asked_then t.knows t.log t.learnt a b e (o.task b) p begin limit (λ x. EndsFront x c.args.a c.args.b r.pairs r.ending)
    c.in_ok-first.ensures.task before h)
    c.further_pairs.ensures.lines

pub returns-in-NoMore-clause-right : goal.returns-in-NoMore-clause-right
returns-in-NoMore-clause-right g c = let o = g.O.Oracle in
    let p = o.task c.args.oracle.now in
    right_empty (IsLawful p) c.args.a c.args.b c.new.result (next_is (IsLawful p) c.args.a c.args.b None c.in_ok-first.field-0 NoMore c.in-NoMore.is
    c.in_ok-first.ensures.next) c.new.ensures

pub returns-in-NoMore-clause-lines : goal.returns-in-NoMore-clause-lines
returns-in-NoMore-clause-lines g c = let o = g.O.Oracle in let t = g.O.LogTeller in
    let a = c.args.oracle.now in
    let e = c.next_pair.new.oracle in
    let p = o.task a in
    asked_to t.knows t.log t.learnt a e p (HaveComeTo c.args.b c.args.b []) (EndsNext p (AsksNext c.args.a c.args.b None p) c.args.b NoMore)
    (EndsFront p c.args.a c.args.b c.new.result Empty) (λ lines h. tt)
    (subst (λ (x : Next). Continues t.knows t.log t.learnt a e (AreAsked p (HaveComeTo c.args.b c.args.b [])
    (EndsNext p (AsksNext c.args.a c.args.b None p) c.args.b x))) c.in-NoMore.is c.in_ok-first.ensures.lines)

pub returns-in-Stopped-clause-right : goal.returns-in-Stopped-clause-right
returns-in-Stopped-clause-right g c = let o = g.O.Oracle in
    right_stopped_first (IsLawful (o.task c.args.oracle.now)) c.args.a c.args.b c.new-in-Stopped.result c.in-Stopped.stop c.stopped_by.result
    c.stopped_by.ensures c.new-in-Stopped.ensures

pub returns-in-Stopped-clause-lines : goal.returns-in-Stopped-clause-lines
returns-in-Stopped-clause-lines g c = let o = g.O.Oracle in let t = g.O.LogTeller in
    let a = c.args.oracle.now in
    let e = c.next_pair.new.oracle in
    let p = o.task a in
    stopped_front t.knows t.log t.learnt a e p c.args.a c.args.b (HaveComeTo c.args.b c.args.b []) c.new-in-Stopped.result None c.in-Stopped.stop
    c.stopped_by.result
    (ap limit_behind c.new-in-Stopped.ensures) c.stopped_by.ensures
    (subst (λ (x : Next). Continues t.knows t.log t.learnt a e (AreAsked p (HaveComeTo c.args.b c.args.b [])
    (EndsNext p (AsksNext c.args.a c.args.b None p) c.args.b x))) c.in-Stopped.is c.in_ok-first.ensures.lines)

pub returns-in_err-first-clause-leaves : goal.returns-in_err-first-clause-leaves
returns-in_err-first-clause-leaves g c = let o = g.O.Oracle in
    on_err_anyway _ _ c.in_err-first.ensures.leaves

pub returns-in-Pair-clause-leaves : goal.returns-in-Pair-clause-leaves
returns-in-Pair-clause-leaves g c = let o = g.O.Oracle in let t = g.O.LogTeller in
    on_err_weaker c.further_pairs.result _ _ (asked_later t.knows t.log t.learnt c.args.oracle.now c.next_pair.new.oracle c.further_pairs.new.oracle
    (o.task c.next_pair.new.oracle) (o.task c.args.oracle.now) (HaveComeTo c.args.b c.args.b [])
    (EndsNext (o.task c.args.oracle.now) (AsksNext c.args.a c.args.b None (o.task c.args.oracle.now)) c.args.b c.in_ok-first.field-0)
    c.in_ok-first.ensures.lines (g.met.O.Oracle.within c.next_pair.new.oracle) c.in_ok-first.ensures.task) c.further_pairs.ensures.leaves
