use Rattle.std.proofs.Common.{◌⊎◌, [], ◌++◌, List, ℕ, sym, ◌∙◌, ap, subst, append_assoc, inl}
use Rattle.std.specs.Prelude.{All, IfOk}
use Rattle.std.proofs.lemmas.Result.{IfOk-weaker}
use Rattle.refute_log.specs.Told.{Lines}
use Rattle.search_why.specs.declared.oracle.Reply.{Reply}
use Rattle.search_why.specs.Task.{Task, HasAllLaws}
use Rattle.search_why.specs.Narrowed.{countdown, TellsNarrowed}
use Rattle.refute_log.specs.Steps.{Continues, Leaves}
use Rattle.refute_log.specs.Cause.{IsCause}
use Rattle.search_why.specs.Asked.{AreLawPlaces, IsRightReply, NoneMeetsLaws, NoneMeetsAll, IsNoModel, TellsReply}
use Rattle.search_why.specs.Outcome.{IsRightOutcome, TellsOutcome}
use Rattle.refute_log.proofs.StepLemmas.{AnyLines, goes_on, becomes, leaves_same, on_err_weaker}
use Rattle.search_why.proofs.NarrowLemmas.{first_refuted}
use Rattle.search_why.proofs.LeftLemmas.{left_later}
use Rattle.search_why.proofs.OutcomeLemmas.{all_places_are, found_all, none_at_all, narrowed_tells}
use Rattle.search_why.proofs.explaining.find_laws.Goals as goal
use Rattle.outside_io.proofs.Results.{on_err_anyway}

pub returns-in_err-all-clause-leaves : goal.returns-in_err-all-clause-leaves
returns-in_err-all-clause-leaves g c = let t = g.O.LogTeller in
    on_err_anyway _ _ (leaves_same (t.knows c.args.oracle.now) (t.log c.args.oracle.now) (g.O.LogTeller.derives c.args.oracle.now)
    (g.met.O.LawOracle.one_reading c.args.oracle.now))

pub ask-requires-clause-places : goal.ask-requires-clause-places
ask-requires-clause-places g c = let o = g.O.LawOracle in
    let p = o.task c.args.oracle.now in
    subst (λ (w : List ℕ). AreLawPlaces p w) (sym (c.deref.ensures.value ∙ c.in_ok-all.ensures ∙ ap countdown c.laws.ensures)) (all_places_are p)

pub returns-in_err-d-clause-leaves : goal.returns-in_err-d-clause-leaves
returns-in_err-d-clause-leaves g c = on_err_anyway _ _ c.in_err-d.ensures.leaves

pub returns-in-Found-clause-right : goal.returns-in-Found-clause-right
returns-in-Found-clause-right g c = let o = g.O.LawOracle in
    let p = o.task c.args.oracle.now in
    found_all p c.deref.result.now c.in-Found.d c.in_ok-d.field-0 (c.deref.ensures.value ∙ c.in_ok-all.ensures ∙ ap countdown c.laws.ensures) c.in-Found.is
    c.in_ok-d.ensures.right c.requires.laws

pub returns-in-Found-clause-lines : goal.returns-in-Found-clause-lines
returns-in-Found-clause-lines g c = let o = g.O.LawOracle in let t = g.O.LogTeller in
    let p = o.task c.args.oracle.now in
    becomes t.knows t.log t.learnt c.args.oracle.now c.ask.new.self (λ lines more. TellsReply p c.in_ok-d.field-0 lines more) AnyLines
    c.in_ok-d.ensures.lines (λ lines xs ka kb q. tt)

pub narrow-requires-clause-ready : goal.narrow-requires-clause-ready
narrow-requires-clause-ready g c = c.in_ok-d.ensures.ready

pub narrow-requires-clause-laws : goal.narrow-requires-clause-laws
narrow-requires-clause-laws g c = let o = g.O.LawOracle in
    subst (λ (x : Task). HasAllLaws x) (sym c.in_ok-d.ensures.task) c.requires.laws

pub narrow-requires-clause-places : goal.narrow-requires-clause-places
narrow-requires-clause-places g c = let o = g.O.LawOracle in
    let p = o.task c.args.oracle.now in
    let start : AreLawPlaces p c.in_ok-all.all.items = subst (λ (w : List ℕ). AreLawPlaces p w) (sym (c.in_ok-all.ensures ∙ ap countdown c.laws.ensures))
    (all_places_are p) in
    let right = subst (λ (w : List ℕ). IsRightReply p w c.in_ok-d.field-0) c.deref.ensures.value c.in_ok-d.ensures.right in
    let both = first_refuted p c.in_ok-all.all.items c.in-Refuted.core c.as_slice.result.now c.keep_only.new.places.items c.in_ok-d.field-0 start
    c.in-Refuted.is right c.as_slice.ensures c.keep_only.ensures in
    subst (λ (x : Task). AreLawPlaces x c.keep_only.new.places.items) (sym c.in_ok-d.ensures.task) both.0

pub narrow-requires-clause-none : goal.narrow-requires-clause-none
narrow-requires-clause-none g c = let o = g.O.LawOracle in
    let p = o.task c.args.oracle.now in
    let start : AreLawPlaces p c.in_ok-all.all.items = subst (λ (w : List ℕ). AreLawPlaces p w) (sym (c.in_ok-all.ensures ∙ ap countdown c.laws.ensures))
    (all_places_are p) in
    let right = subst (λ (w : List ℕ). IsRightReply p w c.in_ok-d.field-0) c.deref.ensures.value c.in_ok-d.ensures.right in
    let both = first_refuted p c.in_ok-all.all.items c.in-Refuted.core c.as_slice.result.now c.keep_only.new.places.items c.in_ok-d.field-0 start
    c.in-Refuted.is right c.as_slice.ensures c.keep_only.ensures in
    subst (λ (x : Task). NoneMeetsLaws x c.keep_only.new.places.items) (sym c.in_ok-d.ensures.task) both.1

pub returns-in-Refuted-clause-right : goal.returns-in-Refuted-clause-right
returns-in-Refuted-clause-right g c = subst (λ (x : Task). IfOk c.narrow.result (IsRightOutcome x)) c.in_ok-d.ensures.task c.narrow.ensures.right

pub returns-in-Refuted-clause-lines : goal.returns-in-Refuted-clause-lines
returns-in-Refuted-clause-lines g c = let o = g.O.LawOracle in let teller = g.O.LogTeller in
    let a = c.args.oracle.now in
    let b = c.ask.new.self in
    let e = c.narrow.new.oracle in
    let p = o.task a in
    let start : AreLawPlaces p c.in_ok-all.all.items = subst (λ (w : List ℕ). AreLawPlaces p w) (sym (c.in_ok-all.ensures ∙ ap countdown c.laws.ensures))
    (all_places_are p) in
    let right = subst (λ (w : List ℕ). IsRightReply p w c.in_ok-d.field-0) c.deref.ensures.value c.in_ok-d.ensures.right in
    let both = first_refuted p c.in_ok-all.all.items c.in-Refuted.core c.as_slice.result.now c.keep_only.new.places.items c.in_ok-d.field-0 start
    c.in-Refuted.is right c.as_slice.ensures c.keep_only.ensures in
    let none = none_at_all p c.keep_only.new.places.items both.0 both.1 in
    IfOk-weaker c.narrow.result
    (λ x. Continues teller.knows teller.log teller.learnt b e (λ lines more. TellsNarrowed (o.task b) x (lines ++ more)))
    (λ x. Continues teller.knows teller.log teller.learnt a e (λ lines more. TellsOutcome (o.task a) x lines more))
    (λ x run. goes_on teller.knows teller.log teller.learnt a b e (λ lines more. TellsReply (o.task a) c.in_ok-d.field-0 lines more)
    (λ lines more. TellsNarrowed (o.task b) x (lines ++ more)) (λ lines more. TellsOutcome (o.task a) x lines more)
    c.in_ok-d.ensures.lines run
    (λ lines xs ys ka kb ke r s. narrowed_tells p x lines (xs ++ ys) none
    (subst (λ (t : Task). TellsNarrowed t x (lines ++ (xs ++ ys))) c.in_ok-d.ensures.task
    (subst (λ (ls : Lines). TellsNarrowed (o.task b) x ls) (append_assoc lines xs ys) s))))
    c.narrow.ensures.lines

pub returns-in-Refuted-clause-leaves : goal.returns-in-Refuted-clause-leaves
returns-in-Refuted-clause-leaves g c = let o = g.O.LawOracle in let t = g.O.LogTeller in
    let a = c.args.oracle.now in
    let b = c.ask.new.self in
    let e = c.narrow.new.oracle in
    on_err_weaker c.narrow.result (Leaves (o.task b).budget [] (t.knows b) (t.log b) (t.log e))
    (Leaves (o.task a).budget [] (t.knows a) (t.log a) (t.log e))
    (left_later t.knows t.log t.learnt o.task a b e (λ lines more. TellsReply (o.task a) c.in_ok-d.field-0 lines more) c.in_ok-d.ensures.lines
    g.met.O.LawOracle.gives g.met.O.LawOracle.within c.in_ok-d.ensures.task) c.narrow.ensures.leaves

pub returns-in-Stopped-clause-lines : goal.returns-in-Stopped-clause-lines
returns-in-Stopped-clause-lines g c = let o = g.O.LawOracle in let teller = g.O.LogTeller in
    let p = o.task c.args.oracle.now in
    becomes teller.knows teller.log teller.learnt c.args.oracle.now c.ask.new.self (λ lines more. TellsReply p c.in_ok-d.field-0 lines more)
    (λ lines more. IsCause p.budget p.room c.in-Stopped.stop (lines ++ more) × (All IsNoModel more ⊎ NoneMeetsAll p)) c.in_ok-d.ensures.lines
    (λ lines xs ka kb q. let t = subst (λ (r : Reply). TellsReply p r lines xs) c.in-Stopped.is q in (t.0, inl t.1))
