use Rattle.std.proofs.Common.{◌≡◌, [], ◌∷◌, refl, sym, ◌∙◌, ap, subst, List, inl}
use Rattle.std.specs.Prelude.{IfOk, MatchOption, ⊤, ◌≤◌}
use Rattle.std.proofs.lemmas.Result.{IfOk-weaker}
use Rattle.plan_core.specs.Values.{values_of, value_of}
use Rattle.search_least.specs.declared.oracle.Below.{Below}
use Rattle.search_least.specs.Asked.{below_limit, AreMet, IsReply}
use Rattle.search_least.specs.Task.{Task, IsLawful, greatest_of}
use Rattle.refute_log.specs.Steps.{Continues}
use Rattle.trade_off.specs.declared.collecting.Next.TheVariants.{NoMore, Stopped}
use Rattle.trade_off.specs.Least.{AreBeside, lowered, HaveComeTo, StopsUnder, AreAsked}
use Rattle.trade_off.specs.Next.{under, IsNext, AsksNext, EndsNext}
use Rattle.refute_log.proofs.StepLemmas.{known_after, on_err_weaker, leaves_same}
use Rattle.trade_off.proofs.AskLemmas.{asked_then, asked_to, stops_as, HasFound, asks_found, asks_refuted, asks_stopped, found_to, refuted_none, laws_back}
use Rattle.trade_off.proofs.LimitLemmas.{no_less_with, behind_with, not_behind_with}
use Rattle.trade_off.proofs.NextLemmas.{under_within, under_once, under_beside, none_from, found_fact}
use Rattle.trade_off.proofs.LeftLemmas.{replied_later}
use Rattle.trade_off.proofs.collecting.next_pair.Goals as goal
use Rattle.outside_io.proofs.Results.{on_err_anyway}

pub ask-requires-clause-there : goal.ask-requires-clause-there
ask-requires-clause-there g c = let o = g.O.Oracle in
    under_within (o.caps c.args.oracle.now) c.args.b (greatest_of (o.task c.args.oracle.now) c.args.b) c.args.limit c.deref.result.now
    (c.deref.ensures.value ∙ c.in_ok-bounds.ensures) c.requires.second c.requires.limit

pub ask-requires-clause-once : goal.ask-requires-clause-once
ask-requires-clause-once g c = under_once c.args.b c.args.limit c.deref.result.now (c.deref.ensures.value ∙ c.in_ok-bounds.ensures)

pub pair_from-requires-clause-known : goal.pair_from-requires-clause-known
pair_from-requires-clause-known g c = let o = g.O.Oracle in let t = g.O.LogTeller in
    let a = c.args.oracle.now in
    known_after t.knows t.log t.learnt a c.ask.new.self (λ lines more. IsReply (o.task a) lines c.deref.result.now c.in_ok-first.field-0 more) c.requires.known
    c.in_ok-first.ensures.lines

pub pair_from-requires-clause-first : goal.pair_from-requires-clause-first
pair_from-requires-clause-first g c =
    ap (λ f. f c.args.a) c.in_ok-first.ensures.caps ∙ c.requires.first ∙ sym (ap (λ (p : Task). greatest_of p c.args.a) c.in_ok-first.ensures.task)

pub pair_from-requires-clause-second : goal.pair_from-requires-clause-second
pair_from-requires-clause-second g c =
    ap (λ f. f c.args.b) c.in_ok-first.ensures.caps ∙ c.requires.second ∙ sym (ap (λ (p : Task). greatest_of p c.args.b) c.in_ok-first.ensures.task)

pub pair_from-requires-clause-limit : goal.pair_from-requires-clause-limit
pair_from-requires-clause-limit g c =
    subst (λ (p : Task). MatchOption c.args.limit ⊤ (λ k. (1 ≤ k) × (k ≤ greatest_of p c.args.b))) (sym c.in_ok-first.ensures.task) c.requires.limit

pub pair_from-requires-clause-lawful : goal.pair_from-requires-clause-lawful
pair_from-requires-clause-lawful g c = let o = g.O.Oracle in
    let a = c.args.oracle.now in
    subst (λ (p : Task). IsLawful p c.in-Found.first) (sym c.in_ok-first.ensures.task)
    (found_fact (o.task a) c.deref.result.now c.in-Found.first c.in_ok-first.field-0 c.in-Found.is c.in_ok-first.ensures.right).0

pub pair_from-requires-clause-met : goal.pair_from-requires-clause-met
pair_from-requires-clause-met g c = let o = g.O.Oracle in
    subst (λ (bs : List Below). AreMet (values_of c.in-Found.first) bs) (c.deref.ensures.value ∙ c.in_ok-bounds.ensures)
    (found_fact (o.task c.args.oracle.now) c.deref.result.now c.in-Found.first c.in_ok-first.field-0 c.in-Found.is c.in_ok-first.ensures.right).1

pub returns-in-Refuted-clause-known : goal.returns-in-Refuted-clause-known
returns-in-Refuted-clause-known g c = let o = g.O.Oracle in let t = g.O.LogTeller in
    let a = c.args.oracle.now in
    known_after t.knows t.log t.learnt a c.ask.new.self (λ lines more. IsReply (o.task a) lines c.deref.result.now c.in_ok-first.field-0 more) c.requires.known
    c.in_ok-first.ensures.lines

pub returns-clause-known : goal.returns-clause-known
returns-clause-known g c = let o = g.O.Oracle in let t = g.O.LogTeller in
    let a = c.args.oracle.now in
    known_after t.knows t.log t.learnt a c.ask.new.self (λ lines more. IsReply (o.task a) lines c.deref.result.now c.in_ok-first.field-0 more) c.requires.known
    c.in_ok-first.ensures.lines

pub returns-in-Refuted-clause-next : goal.returns-in-Refuted-clause-next
returns-in-Refuted-clause-next g c = let o = g.O.Oracle in let t = g.O.LogTeller in
    let a = c.args.oracle.now in
    let e = c.ask.new.self in
    none_from (o.task a) c.args.a c.args.b c.args.limit c.deref.result.now (c.deref.ensures.value ∙ c.in_ok-bounds.ensures)
    (refuted_none t.knows t.log t.learnt a e (o.task a) (o.task a) c.deref.result.now c.in_ok-first.field-0 refl c.in-Refuted.is c.requires.known
    (laws_back t.knows e (o.task e) (o.task a) c.in_ok-first.ensures.task (record { covers = g.met.O.Oracle.covers e; derives = g.O.LogTeller.derives e }))
    c.in_ok-first.ensures.lines)

pub returns-in-Refuted-clause-lines : goal.returns-in-Refuted-clause-lines
returns-in-Refuted-clause-lines g c = let o = g.O.Oracle in let t = g.O.LogTeller in
    let s = c.args.oracle.now in
    let e = c.ask.new.self in
    let p = o.task s in
    let b = c.args.b in
    let bounds = c.deref.ensures.value ∙ c.in_ok-bounds.ensures in
    let begin = under b c.args.limit in
    asked_to t.knows t.log t.learnt s e p (HaveComeTo b b begin) (HaveComeTo b b begin) (EndsNext p (AsksNext c.args.a b c.args.limit p) b NoMore)
    (λ lines h. tt)
    (subst (λ (bs : List Below). Continues t.knows t.log t.learnt s e (AreAsked p (HaveComeTo b b bs) (HaveComeTo b b bs))) bounds
    (asks_refuted t.knows t.log t.learnt s e p p b b c.deref.result.now c.in_ok-first.field-0
    (record { same = refl; once = under_once b c.args.limit c.deref.result.now bounds; right = c.in_ok-first.ensures.right; apart = g.met.O.Oracle.apart e })
    c.in-Refuted.is
    c.in_ok-first.ensures.lines))

pub returns-clause-lines : goal.returns-clause-lines
returns-clause-lines g c = let o = g.O.Oracle in let t = g.O.LogTeller in
    let s = c.args.oracle.now in
    let e = c.ask.new.self in
    let p = o.task s in
    let b = c.args.b in
    let stop = c.in-Stopped.stop in
    let bounds = c.deref.ensures.value ∙ c.in_ok-bounds.ensures in
    let begin = under b c.args.limit in
    let Just : List Below → Type 0 = λ xs. xs ≡ begin in
    let next = AsksNext c.args.a b c.args.limit p in
    asked_to t.knows t.log t.learnt s e p (HaveComeTo b b begin) (StopsUnder p Just b stop) (EndsNext p next b (Stopped stop))
    (λ lines h. stops_as p Just next b stop lines (λ bs x. inl x) h)
    (subst (λ (bs : List Below). Continues t.knows t.log t.learnt s e (AreAsked p (HaveComeTo b b bs) (StopsUnder p (λ (xs : List Below). xs ≡ bs) b stop)))
    bounds
    (asks_stopped t.knows t.log t.learnt s e p p b b c.deref.result.now c.in_ok-first.field-0 stop
    (record { same = refl; once = under_once b c.args.limit c.deref.result.now bounds; right = c.in_ok-first.ensures.right; apart = g.met.O.Oracle.apart e })
    c.in-Stopped.is
    c.in_ok-first.ensures.lines))

pub returns-in-Found-clause-next : goal.returns-in-Found-clause-next
returns-in-Found-clause-next g c = let o = g.O.Oracle in
    let a = c.args.oracle.now in
    subst (λ (p : Task). IfOk c.pair_from.result (IsNext (IsLawful p) c.args.a c.args.b c.args.limit)) c.in_ok-first.ensures.task c.pair_from.ensures.next

pub returns-in-Found-clause-lines : goal.returns-in-Found-clause-lines
returns-in-Found-clause-lines g c = let o = g.O.Oracle in let teller = g.O.LogTeller in
    let s = c.args.oracle.now in
    let t = c.ask.new.self in
    let e = c.pair_from.new.oracle in
    let p = o.task s in
    let b = c.args.b in
    let limit = c.args.limit in
    let bounds = c.deref.ensures.value ∙ c.in_ok-bounds.ensures in
    let begin = under b limit in
    let a = c.args.a in
    let first = c.in-Found.first in
    let u = value_of (values_of first) a in
    let beside : AreBeside a begin = under_beside a b limit begin refl c.requires.apart in
    let before : Continues teller.knows teller.log teller.learnt s t (AreAsked p (HaveComeTo b b begin) (HaveComeTo b a (lowered begin a first))) =
    asked_to teller.knows teller.log teller.learnt s t p (HaveComeTo b b begin) (HasFound b b begin) (HaveComeTo b a (lowered begin a first))
    (λ lines h. found_to b b a begin (lowered begin a first) lines (no_less_with b begin (below_limit a u ∷ []))
    (λ more left. behind_with b a begin u more left) (not_behind_with b a begin u beside) h)
    (subst (λ (bs : List Below). Continues teller.knows teller.log teller.learnt s t (AreAsked p (HaveComeTo b b bs) (HasFound b b bs))) bounds
    (asks_found teller.knows teller.log teller.learnt s t p p b b c.deref.result.now c.in_ok-first.field-0 first
    (record { same = refl; once = under_once b limit c.deref.result.now bounds; right = c.in_ok-first.ensures.right; apart = g.met.O.Oracle.apart t })
    c.in-Found.is c.in_ok-first.ensures.lines)) in
    IfOk-weaker c.pair_from.result
    (λ r. Continues teller.knows teller.log teller.learnt t e
    (AreAsked (o.task t) (HaveComeTo b a (lowered begin a first)) (EndsNext (o.task t) (AsksNext a b limit (o.task t)) b r)))
    (λ r. Continues teller.knows teller.log teller.learnt s e (AreAsked p (HaveComeTo b b begin) (EndsNext p (AsksNext a b limit p) b r)))
    (λ r h. asked_then teller.knows teller.log teller.learnt s t e (o.task t) p (HaveComeTo b b begin) (HaveComeTo b a (lowered begin a first))
    (λ x. EndsNext x (AsksNext a b limit x) b r) c.in_ok-first.ensures.task before h)
    c.pair_from.ensures.lines

pub returns-in_err-bounds-clause-leaves : goal.returns-in_err-bounds-clause-leaves
returns-in_err-bounds-clause-leaves g c = let t = g.O.LogTeller in
    on_err_anyway _ _ (leaves_same (t.knows c.args.oracle.now) (t.log c.args.oracle.now) (g.O.LogTeller.derives c.args.oracle.now)
    (g.met.O.Oracle.one_reading c.args.oracle.now))

pub returns-in_err-first-clause-leaves : goal.returns-in_err-first-clause-leaves
returns-in_err-first-clause-leaves g c = let o = g.O.Oracle in
    on_err_anyway _ _ c.in_err-first.ensures.leaves

pub returns-in-Found-clause-leaves : goal.returns-in-Found-clause-leaves
returns-in-Found-clause-leaves g c = let o = g.O.Oracle in let t = g.O.LogTeller in
    on_err_weaker c.pair_from.result _ _ (replied_later t.knows t.log t.learnt c.args.oracle.now c.ask.new.self c.pair_from.new.oracle
    (o.task c.ask.new.self) (o.task c.args.oracle.now) c.deref.result.now c.in_ok-first.field-0 c.in_ok-first.ensures.lines
    (g.met.O.Oracle.within c.ask.new.self) c.in_ok-first.ensures.task) c.pair_from.ensures.leaves
