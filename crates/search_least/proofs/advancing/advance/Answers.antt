use Rattle.std.proofs.Common.{◌+◌, ◌++◌, sym, ◌∙◌, ap, subst, arith, List}
use Rattle.plan_core.specs.declared.criterion.Values.{Values}
use Rattle.plan_core.specs.Values.{values_of, value_of}
use Rattle.plan_core.proofs.LimitLemmas.{value-le-limit}
use Rattle.std.specs.Prelude.{All, min}
use Rattle.search_least.specs.declared.oracle.Below.{Below}
use Rattle.search_least.specs.Asked.{IsWithinCap}
use Rattle.refute_log.specs.Steps.{Continues}
use Rattle.search_least.specs.Caps.{AllZero}
use Rattle.search_least.specs.State.{AreBefore, IsCapOf, SearchState, BoundedTo, LeavesSearch}
use Rattle.search_least.proofs.RunLemmas.{no_more}
use Rattle.search_least.proofs.BeforeLemmas.{before_next, before_later}
use Rattle.search_least.proofs.AdvanceLemmas.{go_zeros, go_only_zero, go_bounded, all_held}
use Rattle.outside_io.proofs.Results.{on_err_anyway}
use Rattle.search_least.specs.Task.{Task}
use Rattle.search_least.proofs.LeftLemmas.{HasCaps, IsSpentWithin, bounded_left}
use Rattle.search_least.proofs.advancing.advance.Goals as goal

pub returns-then-most-eq0-clause-lines : goal.returns-then-most-eq0-clause-lines
returns-then-most-eq0-clause-lines g c = let o = g.O.Oracle in let t = g.O.LogTeller in
    let p = o.task c.args.oracle.now in
    go_only_zero t.knows t.log t.learnt c.args.oracle.now p c.args.order.now c.args.i c.args.held.now.items c.get-c.result c.args.best
    (o.caps c.args.oracle.now) c.requires.order c.get-c.ensures
    (sym c.greatest-most.ensures ∙ c.if-most-eq0.true) (let p = o.task c.args.oracle.now in value-le-limit p.graph p.above p.grid c.args.best c.requires.lawful
    c.get-c.result)

pub returns-in-None-clause-lines : goal.returns-in-None-clause-lines
returns-in-None-clause-lines g c = let o = g.O.Oracle in let t = g.O.LogTeller in
    go_zeros t.knows t.log t.learnt c.args.oracle.now (o.task c.args.oracle.now) c.args.order.now c.args.i c.args.held.now.items c.get-c.result c.args.best
    (o.caps c.args.oracle.now) c.requires.order c.get-c.ensures
    (subst (λ (v : Values). AllZero c.args.order.now c.args.i v) c.values-v.ensures c.in-None.ensures)

pub returns-in_ok-hold-in-Some-clause-held : goal.returns-in_ok-hold-in-Some-clause-held
returns-in_ok-hold-in-Some-clause-held g c = λ none. let o = g.O.Oracle in
    let h = o.caps c.bounded.new.oracle in
    all_held h c.args.held.now.items c.hold.new.held.items c.get-c.result c.cap_for-cap.result c.of-least.result c.in_ok-hold-in-Some.ensures
    (c.in_ok-advanced-in-Some.ensures.capped none c.get-c.result c.get-c.ensures)
    (subst (λ (bs : List Below). All (IsWithinCap h) bs) c.deref.ensures.value (c.in_ok-advanced-in-Some.ensures.held none))

pub returns-in_ok-hold-in-Some-clause-lines : goal.returns-in_ok-hold-in-Some-clause-lines
returns-in_ok-hold-in-Some-clause-lines g c = let o = g.O.Oracle in let t = g.O.LogTeller in
    let a = c.args.oracle.now in
    let e = c.bounded.new.oracle in
    let p = o.task a in
    let m = c.get-c.result in
    let r = c.in_ok-advanced-in-Some.advanced in
    let capped : IsCapOf p m (values_of c.args.best) c.cap_for-cap.result = record {
      is = c.cap_for-cap.ensures ∙ ap (λ n. min (n + 1) c.greatest-most.result) (c.of.ensures ∙ ap (λ (v : Values). value_of v m) c.values-v.ensures)
          ∙ ap (λ n. min (value_of (values_of c.args.best) m + 1) n) c.greatest-most.ensures;
      positive = (let ne = c.if-most-eq0.false in let is = c.greatest-most.ensures in omega arith);
    } in
    go_bounded t.knows t.log t.learnt a e p c.args.order.now c.args.i c.args.held.now.items c.hold.new.held.items m c.cap_for-cap.result c.of-least.result
    r.stop r.settled c.args.best r.best (o.caps a) (o.caps e) c.get-c.ensures capped
    (no_more c.args.best r.best m (c.in_ok-advanced-in-Some.ensures.less m c.get-c.ensures))
    (c.of-least.ensures ∙ ap (λ (v : Values). value_of v m) c.values.ensures) c.in_ok-hold-in-Some.ensures
    (subst (λ (bs : List Below). Continues t.knows t.log t.learnt a e (λ lines more. SearchState p c.args.order.now c.args.i bs c.args.best (o.caps a) lines →
    BoundedTo p c.args.order.now c.args.i bs r.stop r.settled r.best (o.caps e) (lines ++ more))) c.deref.ensures.value
    c.in_ok-advanced-in-Some.ensures.lines)

pub returns-in_ok-hold-in-Some-clause-before : goal.returns-in_ok-hold-in-Some-clause-before
returns-in_ok-hold-in-Some-clause-before g c = before_next c.args.order.now c.args.i c.get-c.result c.of-least.result c.cap_for-cap.result c.args.held.now.items
    c.hold.new.held.items c.requires.order c.get-c.ensures c.requires.before c.in_ok-hold-in-Some.ensures

pub returns-then-most-eq0-clause-before : goal.returns-then-most-eq0-clause-before
returns-then-most-eq0-clause-before g c = before_later c.args.order.now c.args.i c.get-c.result c.args.held.now.items c.get-c.ensures c.requires.before

pub returns-in-None-clause-before : goal.returns-in-None-clause-before
returns-in-None-clause-before g c = before_later c.args.order.now c.args.i c.get-c.result c.args.held.now.items c.get-c.ensures c.requires.before

pub bounded-requires-clause-before : goal.bounded-requires-clause-before
bounded-requires-clause-before g c = subst (λ (bs : List Below). AreBefore c.args.order.now c.args.i bs) (sym c.deref.ensures.value) c.requires.before

pub returns-in_err-advanced-in-Some-clause-left : goal.returns-in_err-advanced-in-Some-clause-left
returns-in_err-advanced-in-Some-clause-left g c = let o = g.O.Oracle in let t = g.O.LogTeller in
    let a = c.args.oracle.now in
    let p = o.task a in
    on_err_anyway _ _ (subst (λ (bs : List Below). LeavesSearch p c.args.order.now (SearchState p c.args.order.now c.args.i bs c.args.best (o.caps a))
    (t.knows a) (t.log a) (t.log c.bounded.new.oracle)) c.deref.ensures.value
    c.in_err-advanced-in-Some.ensures.left)

pub returns-in_err-hold-in-Some-clause-left : goal.returns-in_err-hold-in-Some-clause-left
returns-in_err-hold-in-Some-clause-left g c = let o = g.O.Oracle in let t = g.O.LogTeller in
    let a = c.args.oracle.now in
    let b = c.bounded.new.oracle in
    let p = o.task a in
    let r = c.in_ok-advanced-in-Some.advanced in
    on_err_anyway _ _ (bounded_left t.knows t.log t.learnt a b p c.args.order.now c.args.i c.args.held.now.items r.stop r.settled c.args.best r.best (o.caps a)
    (o.caps b) (g.O.LogTeller.derives b) (g.met.O.Oracle.one_reading b)
    (subst (λ (x : Task). HasCaps x (o.caps b) (t.knows b)) c.in_ok-advanced-in-Some.ensures.task (g.met.O.Oracle.counted b))
    (subst (λ (x : Task). IsSpentWithin x (t.knows b)) c.in_ok-advanced-in-Some.ensures.task (g.met.O.Oracle.within b))
    (subst (λ (bs : List Below). Continues t.knows t.log t.learnt a b (λ lines more. SearchState p c.args.order.now c.args.i bs c.args.best (o.caps a) lines →
    BoundedTo p c.args.order.now c.args.i bs r.stop r.settled r.best (o.caps b) (lines ++ more)))
    c.deref.ensures.value c.in_ok-advanced-in-Some.ensures.lines))
