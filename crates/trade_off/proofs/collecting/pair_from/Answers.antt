use Rattle.std.proofs.Common.{◌≡◌, sym, ◌∙◌, ap, subst, List, inl, inr}
use Rattle.std.specs.Prelude.{Option, None, Some}
use Rattle.std.proofs.lemmas.Result.{IfOk-weaker}
use Rattle.plan_core.specs.Values.{values_of, value_of}
use Rattle.search_least.specs.declared.oracle.Below.{Below}
use Rattle.refute_log.specs.declared.stop.Stop.{Stop}
use Rattle.search_least.specs.Asked.{AreMet}
use Rattle.search_least.specs.Task.{Task, IsLawful, greatest_of}
use Rattle.refute_log.specs.Steps.{Continues}
use Rattle.trade_off.specs.declared.collecting.Next.TheVariants.{Stopped}
use Rattle.trade_off.specs.Least.{IsLeastUnder, lowered, LowersUnder, HaveComeTo, EndsLowered, AreAsked}
use Rattle.trade_off.specs.Next.{IsUnder, IsNext, IsSecondOf, under, HasLeastFirst, AsksSecond, AsksNext, EndsNext}
use Rattle.trade_off.proofs.LimitLemmas.{no_less_other, no_less_under, behind_under, come_to}
use Rattle.trade_off.proofs.AskLemmas.{asked_then, asked_to, stops_as}
use Rattle.trade_off.proofs.NextLemmas.{under_within, under_beside, meets_under, next_from, next_as}
use Rattle.refute_log.proofs.StepLemmas.{on_err_weaker, leaves_same}
use Rattle.trade_off.proofs.LeftLemmas.{asked_later}
use Rattle.trade_off.proofs.collecting.pair_from.Goals as goal
use Rattle.outside_io.proofs.Results.{on_err_anyway}

pub lower-requires-clause-held : goal.lower-requires-clause-held
lower-requires-clause-held g c = let o = g.O.Oracle in
    under_within (o.caps c.args.oracle.now) c.args.b (greatest_of (o.task c.args.oracle.now) c.args.b) c.args.limit c.deref.result.now
    (c.deref.ensures.value ∙ c.in_ok-held.ensures) c.requires.second c.requires.limit

pub lower-requires-clause-beside : goal.lower-requires-clause-beside
lower-requires-clause-beside g c = under_beside c.args.a c.args.b c.args.limit c.deref.result.now
    (c.deref.ensures.value ∙ c.in_ok-held.ensures) c.requires.apart

pub lower-requires-clause-met : goal.lower-requires-clause-met
lower-requires-clause-met g c = subst (λ (bs : List Below). AreMet (values_of c.args.first) bs)
    (sym (c.deref.ensures.value ∙ c.in_ok-held.ensures)) c.requires.met

pub second_from-requires-clause-first : goal.second_from-requires-clause-first
second_from-requires-clause-first g c = let o = g.O.Oracle in
    ap (λ f. f c.args.a) c.in_ok-lowered.ensures.caps ∙ c.requires.first ∙ sym (ap (λ (p : Task). greatest_of p c.args.a) c.lower.ensures.task)

pub second_from-requires-clause-second : goal.second_from-requires-clause-second
second_from-requires-clause-second g c = let o = g.O.Oracle in
    ap (λ f. f c.args.b) c.in_ok-lowered.ensures.caps ∙ c.requires.second ∙ sym (ap (λ (p : Task). greatest_of p c.args.b) c.lower.ensures.task)

pub second_from-requires-clause-lawful : goal.second_from-requires-clause-lawful
second_from-requires-clause-lawful g c = let o = g.O.Oracle in
    subst (λ (p : Task). IsLawful p c.in_ok-lowered.lowered.least) (sym c.lower.ensures.task) c.in_ok-lowered.ensures.lawful

pub returns-in-Some-clause-lines : goal.returns-in-Some-clause-lines
returns-in-Some-clause-lines g c = let o = g.O.Oracle in let t = g.O.LogTeller in
    let s = c.args.oracle.now in
    let e = c.lower.new.oracle in
    let p = o.task s in
    let a = c.args.a in
    let b = c.args.b in
    let bounds = c.deref.result.now in
    let stop = c.in-Some.stop in
    let least = c.in_ok-lowered.lowered.least in
    let next = AsksNext a b c.args.limit p in
    let held : bounds ≡ under b c.args.limit = c.deref.ensures.value ∙ c.in_ok-held.ensures in
    let start = lowered (under b c.args.limit) a c.args.first in
    asked_to t.knows t.log t.learnt s e p (HaveComeTo b a start) (EndsLowered p bounds a b least (Some stop)) (EndsNext p next b (Stopped stop))
    (λ lines h. stops_as p (LowersUnder bounds a p) next b stop lines (λ bs x. inr (inl (subst (λ (hs : List Below). LowersUnder hs a p bs) held x))) h)
    (subst (λ (hs : List Below). Continues t.knows t.log t.learnt s e (AreAsked p (HaveComeTo b a (lowered hs a c.args.first))
    (EndsLowered p bounds a b least (Some stop)))) held
    (subst (λ (x : Option Stop). Continues t.knows t.log t.learnt s e (AreAsked p (HaveComeTo b a (lowered bounds a c.args.first))
    (EndsLowered p bounds a b least x))) c.in-Some.is (c.in_ok-lowered.ensures.lines b)))

pub returns-clause-lines : goal.returns-clause-lines
returns-clause-lines g c = let o = g.O.Oracle in let teller = g.O.LogTeller in
    let s = c.args.oracle.now in
    let t = c.lower.new.oracle in
    let e = c.second_from.new.oracle in
    let p = o.task s in
    let a = c.args.a in
    let b = c.args.b in
    let bounds = c.deref.result.now in
    let d = c.in_ok-lowered.lowered.least in
    let begin = HaveComeTo b a (lowered (under b c.args.limit) a c.args.first) in
    let n = value_of (values_of d) b in
    let mid = HaveComeTo b b (under b (Some n)) in
    let next = AsksNext a b c.args.limit p in
    let held : bounds ≡ under b c.args.limit = c.deref.ensures.value ∙ c.in_ok-held.ensures in
    let met : AreMet (values_of d) (under b c.args.limit) = subst (AreMet (values_of d)) held c.in_ok-lowered.ensures.met in
    let least : HasLeastFirst p a b c.args.limit d = record {
      lawful = c.in_ok-lowered.ensures.lawful;
      met = met;
      least = subst (λ (hs : List Below). IsLeastUnder p hs a d) held (c.in_ok-lowered.ensures.least c.in-None.is);
    } in
    let low : IsUnder c.args.limit n = meets_under b c.args.limit d met in
    let apart = c.requires.apart in
    let before : Continues teller.knows teller.log teller.learnt s t (AreAsked p begin mid) =
    asked_to teller.knows teller.log teller.learnt s t p begin (EndsLowered p (under b c.args.limit) a b d None) mid
    (λ lines h. come_to b a b (lowered (under b c.args.limit) a d) (under b (Some n)) lines
    (no_less_other b (under b c.args.limit) a d (under b (Some n)) apart (no_less_under b c.args.limit n low))
    (λ more left. behind_under b a c.args.limit (value_of (values_of d) a) n more apart low left) h)
    (subst (λ (hs : List Below). Continues teller.knows teller.log teller.learnt s t (AreAsked p (HaveComeTo b a (lowered hs a c.args.first))
    (EndsLowered p hs a b d None))) held
    (subst (λ (x : Option Stop). Continues teller.knows teller.log teller.learnt s t (AreAsked p (HaveComeTo b a (lowered bounds a c.args.first))
    (EndsLowered p bounds a b d x))) c.in-None.is (c.in_ok-lowered.ensures.lines b))) in
    IfOk-weaker c.second_from.result
    (λ r. Continues teller.knows teller.log teller.learnt t e (AreAsked (o.task t) mid (EndsNext (o.task t) (AsksSecond a b d (o.task t)) b r)))
    (λ r. Continues teller.knows teller.log teller.learnt s e (AreAsked p begin (EndsNext p next b r)))
    (λ r h. asked_to teller.knows teller.log teller.learnt s e p begin (EndsNext p (AsksSecond a b d p) b r) (EndsNext p next b r)
    (λ lines ends. next_as p (AsksSecond a b d p) next b r lines (λ bs x. inr (inr (d, least, x))) ends)
    (asked_then teller.knows teller.log teller.learnt s t e (o.task t) p begin mid (λ x. EndsNext x (AsksSecond a b d x) b r) c.lower.ensures.task before h))
    c.second_from.ensures.lines

pub returns-clause-next : goal.returns-clause-next
returns-clause-next g c = let o = g.O.Oracle in
    let a = c.args.oracle.now in
    let p = o.task a in
    let d = c.in_ok-lowered.lowered.least in
    IfOk-weaker c.second_from.result (IsSecondOf (o.task c.lower.new.oracle) c.args.a c.args.b d) (IsNext (IsLawful p) c.args.a c.args.b c.args.limit)
    (λ r h. next_from p c.args.a c.args.b c.args.limit c.deref.result.now d r (c.deref.ensures.value ∙ c.in_ok-held.ensures) c.in_ok-lowered.ensures.lawful
    c.in_ok-lowered.ensures.met (c.in_ok-lowered.ensures.least c.in-None.is)
    (subst (λ (q : Task). IsSecondOf q c.args.a c.args.b d r) c.lower.ensures.task h))
    c.second_from.ensures.next

pub returns-in_err-held-clause-leaves : goal.returns-in_err-held-clause-leaves
returns-in_err-held-clause-leaves g c = let t = g.O.LogTeller in
    on_err_anyway _ _ (leaves_same (t.knows c.args.oracle.now) (t.log c.args.oracle.now) (g.O.LogTeller.derives c.args.oracle.now)
    (g.met.O.Oracle.one_reading c.args.oracle.now))

pub returns-in_err-lowered-clause-leaves : goal.returns-in_err-lowered-clause-leaves
returns-in_err-lowered-clause-leaves g c = let o = g.O.Oracle in
    on_err_anyway _ _ c.in_err-lowered.ensures.leaves

pub returns-clause-leaves : goal.returns-clause-leaves
returns-clause-leaves g c = let o = g.O.Oracle in let t = g.O.LogTeller in
    on_err_weaker c.second_from.result _ _ (asked_later t.knows t.log t.learnt c.args.oracle.now c.lower.new.oracle c.second_from.new.oracle
    (o.task c.lower.new.oracle) (o.task c.args.oracle.now) (HaveComeTo c.args.b c.args.a (lowered c.deref.result.now c.args.a c.args.first))
    (EndsLowered (o.task c.args.oracle.now) c.deref.result.now c.args.a c.args.b c.in_ok-lowered.lowered.least c.in_ok-lowered.lowered.stop)
    (c.in_ok-lowered.ensures.lines c.args.b) (g.met.O.Oracle.within c.lower.new.oracle) c.in_ok-lowered.ensures.task)
    c.second_from.ensures.leaves
