use Rattle.std.proofs.Common.{◌++◌, List, ℕ, refl, sym, ◌∙◌, ap, subst}
use Rattle.search_why.specs.declared.oracle.Reply.{Reply}
use Rattle.search_why.specs.Narrowed.{has_number}
use Rattle.refute_log.specs.Cause.{IsCause}
use Rattle.search_why.specs.Asked.{AreLawPlaces, TellsReply}
use Rattle.refute_log.proofs.StepLemmas.{AnyLines, becomes, leaves_same}
use Rattle.search_why.proofs.LeftLemmas.{left_here}
use Rattle.search_why.proofs.NarrowLemmas.{narrow_asked, found_narrowed, refuted_narrowed, filter_shorter}
use Rattle.search_why.proofs.narrowing.take_away.Goals as goal
use Rattle.outside_io.proofs.Results.{on_err_anyway}

pub returns-in_err-wanted-clause-leaves : goal.returns-in_err-wanted-clause-leaves
returns-in_err-wanted-clause-leaves g c = let t = g.O.LogTeller in
    on_err_anyway _ _ (leaves_same (t.knows c.args.oracle.now) (t.log c.args.oracle.now) (g.O.LogTeller.derives c.args.oracle.now)
    (g.met.O.LawOracle.one_reading c.args.oracle.now))

pub ask-requires-clause-places : goal.ask-requires-clause-places
ask-requires-clause-places g c = let o = g.O.LawOracle in
    let asked = c.deref-3.ensures.value ∙ c.in_ok-wanted.ensures ∙ ap (λ (xs : List ℕ). xs ++ c.deref-2.result.now) c.deref.ensures.value
    ∙ ap (λ (xs : List ℕ). c.args.progress.now.kept.items ++ xs) c.deref-2.ensures.value in
    subst (λ (w : List ℕ). AreLawPlaces (o.task c.args.oracle.now) w) (sym asked)
    (narrow_asked (o.task c.args.oracle.now) c.args.progress.now.kept.items c.args.progress.now.left.items c.args.law c.args.progress.now.without.items
    c.requires.narrowed)

pub returns-in_err-d-clause-leaves : goal.returns-in_err-d-clause-leaves
returns-in_err-d-clause-leaves g c = on_err_anyway _ _ c.in_err-d.ensures.leaves

pub returns-in_err-push-in-Found-clause-leaves : goal.returns-in_err-push-in-Found-clause-leaves
returns-in_err-push-in-Found-clause-leaves g c = let o = g.O.LawOracle in let t = g.O.LogTeller in
    let p = o.task c.args.oracle.now in
    on_err_anyway _ _ (left_here t.knows t.log t.learnt o.task c.args.oracle.now c.ask.new.self (λ lines more. TellsReply p c.in_ok-d.field-0 lines more)
    c.in_ok-d.ensures.lines
    g.met.O.LawOracle.gives g.met.O.LawOracle.within c.in_ok-d.ensures.task g.O.LogTeller.derives g.met.O.LawOracle.one_reading)

pub returns-in_err-push-in-Found-2-clause-leaves : goal.returns-in_err-push-in-Found-2-clause-leaves
returns-in_err-push-in-Found-2-clause-leaves g c = let o = g.O.LawOracle in let t = g.O.LogTeller in
    let p = o.task c.args.oracle.now in
    on_err_anyway _ _ (left_here t.knows t.log t.learnt o.task c.args.oracle.now c.ask.new.self (λ lines more. TellsReply p c.in_ok-d.field-0 lines more)
    c.in_ok-d.ensures.lines
    g.met.O.LawOracle.gives g.met.O.LawOracle.within c.in_ok-d.ensures.task g.O.LogTeller.derives g.met.O.LawOracle.one_reading)

pub returns-in-Found-clause-narrowed : goal.returns-in-Found-clause-narrowed
returns-in-Found-clause-narrowed g c = λ e. let o = g.O.LawOracle in
    let q = c.args.progress.now in
    let asked = c.deref-3.ensures.value ∙ c.in_ok-wanted.ensures ∙ ap (λ (xs : List ℕ). xs ++ c.deref-2.result.now) c.deref.ensures.value
    ∙ ap (λ (xs : List ℕ). q.kept.items ++ xs) c.deref-2.ensures.value in
    found_narrowed (o.task c.args.oracle.now) q.kept.items q.left.items c.deref-3.result.now c.push.new.self.items c.args.law q.without.items
    c.push-in-Found.new.self.items c.in-Found.d c.in_ok-d.field-0
    asked c.in-Found.is c.in_ok-d.ensures.right c.requires.narrowed c.in_ok-push-in-Found.ensures.items c.in_ok-push-in-Found-2.ensures.items

pub returns-in-Found-clause-lines : goal.returns-in-Found-clause-lines
returns-in-Found-clause-lines g c = let o = g.O.LawOracle in let t = g.O.LogTeller in
    let p = o.task c.args.oracle.now in
    becomes t.knows t.log t.learnt c.args.oracle.now c.ask.new.self (λ lines more. TellsReply p c.in_ok-d.field-0 lines more) AnyLines
    c.in_ok-d.ensures.lines (λ lines xs ka kb q. tt)

pub returns-in-Refuted-clause-narrowed : goal.returns-in-Refuted-clause-narrowed
returns-in-Refuted-clause-narrowed g c = λ e. let o = g.O.LawOracle in
    let q = c.args.progress.now in
    let asked = c.deref-3.ensures.value ∙ c.in_ok-wanted.ensures ∙ ap (λ (xs : List ℕ). xs ++ c.deref-2.result.now) c.deref.ensures.value
    ∙ ap (λ (xs : List ℕ). q.kept.items ++ xs) c.deref-2.ensures.value in
    refuted_narrowed (o.task c.args.oracle.now) q.kept.items q.left.items c.deref-3.result.now c.in-Refuted.core c.as_slice.result.now
    c.keep_only.new.places.items c.args.law q.without.items c.in_ok-d.field-0
    asked c.in-Refuted.is c.in_ok-d.ensures.right c.requires.narrowed c.as_slice.ensures c.keep_only.ensures

pub returns-in-Refuted-clause-fewer : goal.returns-in-Refuted-clause-fewer
returns-in-Refuted-clause-fewer g c = filter_shorter (has_number c.as_slice.result.now) c.args.progress.now.left.items c.keep_only.new.places.items
    c.keep_only.ensures

pub returns-in-Refuted-clause-lines : goal.returns-in-Refuted-clause-lines
returns-in-Refuted-clause-lines g c = let o = g.O.LawOracle in let t = g.O.LogTeller in
    let p = o.task c.args.oracle.now in
    becomes t.knows t.log t.learnt c.args.oracle.now c.ask.new.self (λ lines more. TellsReply p c.in_ok-d.field-0 lines more) AnyLines
    c.in_ok-d.ensures.lines (λ lines xs ka kb q. tt)

pub returns-clause-lines : goal.returns-clause-lines
returns-clause-lines g c = let o = g.O.LawOracle in let t = g.O.LogTeller in
    let p = o.task c.args.oracle.now in
    becomes t.knows t.log t.learnt c.args.oracle.now c.ask.new.self (λ lines more. TellsReply p c.in_ok-d.field-0 lines more)
    (λ lines more. IsCause p.budget p.room c.in-Stopped.stop (lines ++ more)) c.in_ok-d.ensures.lines
    (λ lines xs ka kb q. (subst (λ (r : Reply). TellsReply p r lines xs) c.in-Stopped.is q).0)

pub same-d : goal.same-d
same-d g c = refl
