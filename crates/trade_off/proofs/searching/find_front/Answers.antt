use Rattle.std.proofs.Common.{◌≡◌, ◌++◌, [], sym, ◌∙◌, ap, subst}
use Rattle.std.specs.Prelude.{IfOk}
use Rattle.std.proofs.lemmas.Result.{IfOk-weaker}
use Rattle.search_least.specs.Task.{Task, IsLawful, greatest_of}
use Rattle.search_least.specs.Outcome.{first_lines}
use Rattle.search_least.proofs.LeftLemmas.{IsSpentWithin}
use Rattle.refute_log.specs.Steps.{ToldBehind, Continues, Leaves}
use Rattle.trade_off.specs.Front.{IsFrontUpTo}
use Rattle.trade_off.specs.Least.{HaveComeTo, AreAsked}
use Rattle.trade_off.specs.Outcome.{IsRightFront, IsFrontLog, IsBuiltFront, EndsFront}
use Rattle.refute_log.proofs.StepLemmas.{known_after, on_err_weaker}
use Rattle.trade_off.proofs.FrontLemmas.{up_to_none}
use Rattle.trade_off.proofs.TellLemmas.{laws_at, tells_no_room, tells_front}
use Rattle.trade_off.proofs.LeftLemmas.{build_left, collect_left}
use Rattle.trade_off.proofs.searching.find_front.Goals as goal
use Rattle.outside_io.proofs.Results.{on_err_anyway}

pub returns-in-NoRoom-clause-right : goal.returns-in-NoRoom-clause-right
returns-in-NoRoom-clause-right g c = let o = g.O.Oracle in
    let L = IsLawful (o.task c.args.oracle.now) in
    subst (IsFrontUpTo L c.args.a c.args.b) (sym c.new.ensures) (up_to_none L c.args.a c.args.b)

pub returns-in-NoRoom-clause-lines : goal.returns-in-NoRoom-clause-lines
returns-in-NoRoom-clause-lines g c = let o = g.O.Oracle in let t = g.O.LogTeller in
    let s = c.args.oracle.now in
    let e = c.build_both.new.oracle in
    tells_no_room t.knows t.log t.learnt s e (o.task s) c.args.a c.args.b c.new.result c.in_ok-build_both.field-0 c.in-NoRoom.is
    c.new.ensures
    (laws_at t.knows e (o.task e) (o.task s) c.build_both.ensures.task
    (record {
      covers = g.met.O.Oracle.covers e;
      formed = g.met.O.Oracle.formed e;
      derives = g.O.LogTeller.derives e;
      due = g.O.LogTeller.due e;
      fits = g.met.O.Oracle.fits e;
      within = g.met.O.Oracle.within e;
    }))
    c.requires.start c.in_ok-build_both.ensures.lines

pub collect-requires-clause-ready : goal.collect-requires-clause-ready
collect-requires-clause-ready g c = c.in_ok-build_both.ensures.ready c.in-Whole.is

pub collect-requires-clause-known : goal.collect-requires-clause-known
collect-requires-clause-known g c = let o = g.O.Oracle in let t = g.O.LogTeller in
    let s = c.args.oracle.now in
    let p = o.task s in
    known_after t.knows t.log t.learnt s c.build_both.new.oracle (λ lines more. lines ≡ first_lines p → IsBuiltFront p c.args.a c.args.b
    c.in_ok-build_both.field-0 (lines ++ more)) (first_lines p, c.requires.start) c.in_ok-build_both.ensures.lines

pub collect-requires-clause-caps_first : goal.collect-requires-clause-caps_first
collect-requires-clause-caps_first g c = c.in_ok-build_both.ensures.first c.in-Whole.is
    ∙ sym (ap (λ (p : Task). greatest_of p c.args.a) c.build_both.ensures.task)

pub collect-requires-clause-caps_second : goal.collect-requires-clause-caps_second
collect-requires-clause-caps_second g c = c.in_ok-build_both.ensures.second c.in-Whole.is
    ∙ sym (ap (λ (p : Task). greatest_of p c.args.b) c.build_both.ensures.task)

pub returns-in-Whole-clause-right : goal.returns-in-Whole-clause-right
returns-in-Whole-clause-right g c =
    subst (λ (p : Task). IfOk c.collect.result (λ r. IsRightFront (IsLawful p) c.args.a c.args.b r.pairs r.ending)) c.build_both.ensures.task
    c.collect.ensures.right

pub returns-in-Whole-clause-lines : goal.returns-in-Whole-clause-lines
returns-in-Whole-clause-lines g c = let o = g.O.Oracle in let teller = g.O.LogTeller in
    let s = c.args.oracle.now in
    let t = c.build_both.new.oracle in
    let e = c.collect.new.oracle in
    let p = o.task s in
    IfOk-weaker c.collect.result
    (λ r. Continues teller.knows teller.log teller.learnt t e (AreAsked (o.task t) (HaveComeTo c.args.b c.args.b [])
    (EndsFront (o.task t) c.args.a c.args.b r.pairs r.ending)))
    (λ r. ToldBehind (teller.knows e) (teller.log s) (teller.log e) (teller.learnt s) (teller.learnt e) (first_lines p)
    (λ more. IsFrontLog p c.args.a c.args.b r.pairs r.ending (first_lines p ++ more)))
    (λ r h. tells_front teller.knows teller.log teller.learnt s t e (o.task t) p c.args.a c.args.b r.pairs c.in_ok-build_both.field-0 r.ending
    c.build_both.ensures.task c.in-Whole.is
    (laws_at teller.knows e (o.task e) p (c.collect.ensures.task ∙ c.build_both.ensures.task)
    (record {
      covers = g.met.O.Oracle.covers e;
      formed = g.met.O.Oracle.formed e;
      derives = g.O.LogTeller.derives e;
      due = g.O.LogTeller.due e;
      fits = g.met.O.Oracle.fits e;
      within = g.met.O.Oracle.within e;
    }))
    c.requires.start c.in_ok-build_both.ensures.lines h)
    c.collect.ensures.lines

pub returns-in_err-build_both-clause-left : goal.returns-in_err-build_both-clause-left
returns-in_err-build_both-clause-left g c = let o = g.O.Oracle in let t = g.O.LogTeller in
    let s = c.args.oracle.now in
    on_err_anyway _ _ (build_left t.knows t.log s c.build_both.new.oracle (o.task s) c.args.a c.args.b (o.vars s) c.requires.fresh.vars_are c.requires.start
    (g.met.O.Oracle.within s) c.in_err-build_both.ensures.leaves)

pub returns-in-Whole-clause-left : goal.returns-in-Whole-clause-left
returns-in-Whole-clause-left g c = let o = g.O.Oracle in let teller = g.O.LogTeller in
    let s = c.args.oracle.now in
    let t = c.build_both.new.oracle in
    on_err_weaker c.collect.result _ _ (λ leaves. collect_left teller.knows teller.log teller.learnt s t c.collect.new.oracle (o.task s) c.args.a c.args.b
    c.in_ok-build_both.field-0
    c.in-Whole.is c.requires.start c.in_ok-build_both.ensures.lines
    (subst (λ (x : Task). IsSpentWithin x (teller.knows t)) c.in_ok-build_both.ensures.task (g.met.O.Oracle.within t))
    (subst (λ (x : Task). Leaves x.budget [] (teller.knows t) (teller.log t) (teller.log c.collect.new.oracle)) c.in_ok-build_both.ensures.task leaves))
    c.collect.ensures.leaves
