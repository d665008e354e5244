use Rattle.std.proofs.Common.{◌≡◌, List, sym, ◌∙◌, ap, subst, arith}
use Rattle.std.specs.Prelude.{Option, None, Some}
use Rattle.plan_core.specs.declared.criterion.Values.{Values}
use Rattle.plan_core.specs.Values.{values_of, value_of}
use Rattle.refute_log.specs.declared.stop.Stop.{Stop}
use Rattle.search_least.specs.State.{hold}
use Rattle.refute_log.specs.Steps.{Continues}
use Rattle.search_least.specs.declared.oracle.Below.{Below}
use Rattle.search_least.specs.Task.{greatest_of}
use Rattle.trade_off.specs.declared.collecting.Next.TheVariants.{Pair, Stopped}
use Rattle.trade_off.specs.Least.{AreBeside, lowered, LowersUnder, HaveComeTo, EndsLowered, AreAsked}
use Rattle.trade_off.specs.Next.{under, AsksSecond, EndsNext}
use Rattle.trade_off.proofs.LimitLemmas.{no_less_last, no_less_alone, behind_last, behind_alone, come_to}
use Rattle.trade_off.proofs.AskLemmas.{asked_as, stops_as}
use Rattle.trade_off.proofs.NextLemmas.{hold_within, hold_beside, hold_meets, second_there}
use Rattle.refute_log.proofs.StepLemmas.{leaves_same}
use Rattle.trade_off.proofs.collecting.second_from.Goals as goal
use Rattle.outside_io.proofs.Results.{on_err_anyway}

pub lower-requires-clause-held : goal.lower-requires-clause-held
lower-requires-clause-held g c = let o = g.O.Oracle in
    hold_within (o.caps c.args.oracle.now) c.args.a c.of-first.result c.greatest-most.result c.deref.result.now
    (c.deref.ensures.value ∙ c.in_ok-held.ensures) (c.requires.first ∙ sym c.greatest-most.ensures)

pub lower-requires-clause-beside : goal.lower-requires-clause-beside
lower-requires-clause-beside g c = hold_beside c.args.b c.args.a c.of-first.result c.greatest-most.result c.deref.result.now
    (c.deref.ensures.value ∙ c.in_ok-held.ensures) c.requires.apart

pub lower-requires-clause-met : goal.lower-requires-clause-met
lower-requires-clause-met g c =
    let is : c.of-first.result ≡ value_of (values_of c.args.least) c.args.a = c.of-first.ensures ∙ ap (λ (v : Values). value_of v c.args.a) c.values.ensures in
    hold_meets c.args.a c.of-first.result c.greatest-most.result c.deref.result.now c.args.least
    (c.deref.ensures.value ∙ c.in_ok-held.ensures) (omega (arith, is))

pub returns-in-Some-clause-lines : goal.returns-in-Some-clause-lines
returns-in-Some-clause-lines g c = let o = g.O.Oracle in let t = g.O.LogTeller in
    let s = c.args.oracle.now in
    let e = c.lower.new.oracle in
    let p = o.task s in
    let b = c.args.b in
    let bounds = c.deref.result.now in
    let stop = c.in-Some.stop in
    let least = c.in_ok-lowered.lowered.least in
    let first : c.of-first.result ≡ value_of (values_of c.args.least) c.args.a = c.of-first.ensures
    ∙ ap (λ (v : Values). value_of v c.args.a) c.values.ensures in
    let held : bounds ≡ hold c.args.a (value_of (values_of c.args.least) c.args.a) (greatest_of p c.args.a) =
    c.deref.ensures.value ∙ c.in_ok-held.ensures ∙ ap (hold c.args.a c.of-first.result) c.greatest-most.ensures
    ∙ ap (λ n. hold c.args.a n (greatest_of p c.args.a)) first in
    let start = lowered bounds b c.args.least in
    let first_is = under b (Some (value_of (values_of c.args.least) b)) in
    asked_as t.knows t.log t.learnt s e p (HaveComeTo b b first_is) (HaveComeTo b b start) (EndsLowered p bounds b b least (Some stop))
    (EndsNext p (AsksSecond c.args.a b c.args.least p) b (Stopped stop))
    (λ lines h. come_to b b b first_is start lines (no_less_last b bounds c.args.least) (λ more left. behind_last b bounds c.args.least more left) h)
    (λ lines h. stops_as p (LowersUnder bounds b p) (AsksSecond c.args.a b c.args.least p) b stop lines
    (λ bs x. subst (λ (hs : List Below). LowersUnder hs b p bs) held x) h)
    (subst (λ (x : Option Stop). Continues t.knows t.log t.learnt s e (AreAsked p (HaveComeTo b b start) (EndsLowered p bounds b b least x)))
    c.in-Some.is (c.in_ok-lowered.ensures.lines b))

pub returns-clause-lines : goal.returns-clause-lines
returns-clause-lines g c = let o = g.O.Oracle in let t = g.O.LogTeller in
    let s = c.args.oracle.now in
    let e = c.lower.new.oracle in
    let p = o.task s in
    let b = c.args.b in
    let bounds = c.deref.result.now in
    let least = c.in_ok-lowered.lowered.least in
    let m = c.of.result in
    let first = lowered bounds b c.args.least in
    let second : m ≡ value_of (values_of least) b = c.of.ensures ∙ ap (λ (v : Values). value_of v b) c.values-in-None.ensures in
    let beside : AreBeside b bounds = hold_beside b c.args.a c.of-first.result c.greatest-most.result bounds
    (c.deref.ensures.value ∙ c.in_ok-held.ensures) c.requires.apart in
    let first_is = under b (Some (value_of (values_of c.args.least) b)) in
    asked_as t.knows t.log t.learnt s e p (HaveComeTo b b first_is) (HaveComeTo b b first) (EndsLowered p bounds b b least None)
    (EndsNext p (AsksSecond c.args.a b c.args.least p) b (Pair c.of-first.result m))
    (λ lines h. come_to b b b first_is first lines (no_less_last b bounds c.args.least) (λ more left. behind_last b bounds c.args.least more left) h)
    (λ lines h. come_to b b b (lowered bounds b least) (under b (Some m)) lines (no_less_alone b bounds least m second beside)
    (λ more left. behind_alone b bounds least m more second beside left) h)
    (subst (λ (x : Option Stop). Continues t.knows t.log t.learnt s e (AreAsked p (HaveComeTo b b first) (EndsLowered p bounds b b least x))) c.in-None.is
    (c.in_ok-lowered.ensures.lines b))

pub returns-clause-next : goal.returns-clause-next
returns-clause-next g c = let o = g.O.Oracle in
    let p = o.task c.args.oracle.now in
    let first : c.of-first.result ≡ value_of (values_of c.args.least) c.args.a = c.of-first.ensures
    ∙ ap (λ (v : Values). value_of v c.args.a) c.values.ensures in
    let second : c.of.result ≡ value_of (values_of c.in_ok-lowered.lowered.least) c.args.b = c.of.ensures
    ∙ ap (λ (v : Values). value_of v c.args.b) c.values-in-None.ensures in
    let held = c.deref.ensures.value ∙ c.in_ok-held.ensures ∙ ap (hold c.args.a c.of-first.result) c.greatest-most.ensures in
    second_there p c.args.a c.args.b c.of-first.result c.of.result c.deref.result.now c.args.least c.in_ok-lowered.lowered.least first second held
    c.in_ok-lowered.ensures.lawful c.in_ok-lowered.ensures.met c.in_ok-lowered.ensures.no_more (c.in_ok-lowered.ensures.least c.in-None.is)

pub returns-in_err-held-clause-leaves : goal.returns-in_err-held-clause-leaves
returns-in_err-held-clause-leaves g c = let t = g.O.LogTeller in
    on_err_anyway _ _ (leaves_same (t.knows c.args.oracle.now) (t.log c.args.oracle.now) (g.O.LogTeller.derives c.args.oracle.now)
    (g.met.O.Oracle.one_reading c.args.oracle.now))

pub returns-in_err-lowered-clause-leaves : goal.returns-in_err-lowered-clause-leaves
returns-in_err-lowered-clause-leaves g c = let o = g.O.Oracle in
    on_err_anyway _ _ c.in_err-lowered.ensures.leaves
