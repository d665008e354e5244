use Rattle.std.proofs.Common.{◌≡◌, ◌+◌, refl, sym, ◌∙◌, subst, inl, arith, ℕ}
use Rattle.plan_core.specs.declared.criterion.Criterion.{Criterion}
use Rattle.plan_core.specs.Values.{values_of}
use Rattle.refute_log.specs.Expected.{caps, sum_lines, sum_vars_of, with_cap}
use Rattle.refute_log.proofs.StepLemmas.{leaves_most}
use Rattle.search_least.specs.declared.oracle.Built.{Built}
use Rattle.search_least.specs.declared.oracle.Built.TheVariants.{Whole, NoRoom}
use Rattle.search_least.specs.Task.{Task, greatest_of}
use Rattle.refute_log.specs.Steps.{Continues}
use Rattle.search_least.specs.Built.{AreBuiltTo, IsBuild}
use Rattle.search_least.specs.State.{IsCapOf, Counted}
use Rattle.search_least.proofs.BuildLemmas.{counted_built, vars_same}
use Rattle.search_least.proofs.AdvanceLemmas.{bounded_whole, bounded_no_room, value_bounded}
use Rattle.outside_io.proofs.Results.{on_err_anyway}
use Rattle.search_least.proofs.LeftLemmas.{built_left, asked_left}
use Rattle.search_least.proofs.advancing.bounded.Goals as goal

pub build-requires-clause-positive : goal.build-requires-clause-positive
build-requires-clause-positive g c = let o = g.O.Oracle in
    let k : IsCapOf (o.task c.args.oracle.now) c.get-c.result (values_of c.args.best) c.args.cap = c.requires.cap c.get-c.result c.get-c.ensures in
    let e = k.is in let l = k.positive in omega arith

pub returns-in-NoRoom-clause-lines : goal.returns-in-NoRoom-clause-lines
returns-in-NoRoom-clause-lines g c = let o = g.O.Oracle in let t = g.O.LogTeller in
    let p = o.task c.args.oracle.now in
    bounded_no_room t.knows t.log t.learnt c.args.oracle.now c.build.new.self p c.args.order.now c.args.i c.args.place c.args.held.now c.get-c.result c.args.cap
    c.args.best (o.caps c.args.oracle.now) (o.caps c.build.new.self) (o.vars c.args.oracle.now)
    c.requires.order c.get-c.ensures c.requires.counted (c.requires.cap c.get-c.result c.get-c.ensures) c.requires.first
    (λ lines m k. g.met.O.Oracle.counted c.args.oracle.now lines m k)
    (subst (λ (b : Built). Continues t.knows t.log t.learnt c.args.oracle.now c.build.new.self
    (λ lines more. IsBuild p (o.vars c.args.oracle.now) c.get-c.result c.args.cap b lines more)) c.in-NoRoom.is c.in_ok-build.ensures.lines)

pub returns-in_ok-lowered-in-Whole-clause-counted : goal.returns-in_ok-lowered-in-Whole-clause-counted
returns-in_ok-lowered-in-Whole-clause-counted g c = λ none. let o = g.O.Oracle in
    let p = o.task c.args.oracle.now in
    let f = o.caps c.args.oracle.now in
    let vars = o.vars c.args.oracle.now in
    let state : AreBuiltTo p f vars c.get-c.result c.args.cap Whole (o.caps c.build.new.self) (o.vars c.build.new.self) = subst
    (λ (b : Built). AreBuiltTo p f vars c.get-c.result c.args.cap b (o.caps c.build.new.self) (o.vars c.build.new.self)) c.in-Whole.is
    c.in_ok-build.ensures.built in
    subst (λ (h : Criterion → ℕ). Counted p c.args.order.now (c.args.i + 1) h (o.vars c.lower.new.oracle))
    (sym (c.in_ok-lowered-in-Whole.ensures.caps ∙ state.0))
    (subst (λ n. Counted p c.args.order.now (c.args.i + 1) (with_cap f c.get-c.result c.args.cap) n) (sym (c.in_ok-lowered-in-Whole.ensures.vars ∙ state.1))
    (counted_built p c.args.order.now c.args.i c.get-c.result c.args.cap f vars c.requires.order c.get-c.ensures c.requires.counted))

pub returns-in_ok-lowered-in-Whole-clause-lines : goal.returns-in_ok-lowered-in-Whole-clause-lines
returns-in_ok-lowered-in-Whole-clause-lines g c = let o = g.O.Oracle in let t = g.O.LogTeller in
    let a = c.args.oracle.now in
    let p = o.task a in
    let f = o.caps a in
    let vars = o.vars a in
    let state : AreBuiltTo p f vars c.get-c.result c.args.cap Whole (o.caps c.build.new.self) (o.vars c.build.new.self) = subst
    (λ (b : Built). AreBuiltTo p f vars c.get-c.result c.args.cap b (o.caps c.build.new.self) (o.vars c.build.new.self)) c.in-Whole.is
    c.in_ok-build.ensures.built in
    let same : o.task c.lower.new.oracle ≡ p = c.in_ok-lowered-in-Whole.ensures.task ∙ c.in_ok-build.ensures.task in
    bounded_whole t.knows t.log t.learnt a c.build.new.self c.lower.new.oracle (o.task c.build.new.self) p c.args.order.now c.args.i c.args.place
    c.args.held.now c.get-c.result c.args.cap c.args.best c.in_ok-lowered-in-Whole.lowered.best c.in_ok-lowered-in-Whole.lowered.stop
    f (o.caps c.lower.new.oracle) vars c.requires.order c.get-c.ensures c.requires.counted (c.requires.cap c.get-c.result c.get-c.ensures) c.requires.first
    (c.in_ok-lowered-in-Whole.ensures.less c.get-c.result c.get-c.ensures) c.in_ok-build.ensures.task (c.in_ok-lowered-in-Whole.ensures.caps ∙ state.0)
    (λ lines m k. subst (λ (x : Task). caps (greatest_of x) lines m ≡ o.caps c.lower.new.oracle m) same (g.met.O.Oracle.counted c.lower.new.oracle lines m k))
    (subst (λ (b : Built). Continues t.knows t.log t.learnt a c.build.new.self (λ lines more. IsBuild p vars c.get-c.result c.args.cap b lines more))
    c.in-Whole.is c.in_ok-build.ensures.lines)
    c.in_ok-lowered-in-Whole.ensures.lines

pub lower-requires-clause-bound : goal.lower-requires-clause-bound
lower-requires-clause-bound g c = λ m there. let o = g.O.Oracle in
    let a = c.args.oracle.now in
    let p = o.task a in
    let state : AreBuiltTo p (o.caps a) (o.vars a) c.get-c.result c.args.cap Whole (o.caps c.build.new.self) (o.vars c.build.new.self) = subst
    (λ (b : Built). AreBuiltTo p (o.caps a) (o.vars a) c.get-c.result c.args.cap b (o.caps c.build.new.self) (o.vars c.build.new.self)) c.in-Whole.is
    c.in_ok-build.ensures.built in
    value_bounded p c.args.order.now c.args.i c.get-c.result m c.args.cap c.args.best (o.caps a) (o.caps c.build.new.self) c.requires.lawful c.get-c.ensures
    (c.requires.cap c.get-c.result c.get-c.ensures) state.0 there

pub returns-in-NoRoom-clause-less : goal.returns-in-NoRoom-clause-less
returns-in-NoRoom-clause-less g c = λ m there. inl refl

pub returns-in-NoRoom-clause-vars : goal.returns-in-NoRoom-clause-vars
returns-in-NoRoom-clause-vars g c = let o = g.O.Oracle in
    let a = c.args.oracle.now in
    let p = o.task a in
    let e = c.build.new.self in
    let state : AreBuiltTo p (o.caps a) (o.vars a) c.get-c.result c.args.cap NoRoom (o.caps e) (o.vars e) = subst
    (λ (b : Built). AreBuiltTo p (o.caps a) (o.vars a) c.get-c.result c.args.cap b (o.caps e) (o.vars e)) c.in-NoRoom.is c.in_ok-build.ensures.built in
    vars_same p c.args.order.now (o.caps a) (o.caps e) (o.vars a) (o.vars e) state.0 state.1 c.requires.counted.vars_are

pub returns-in_ok-lowered-in-Whole-clause-vars : goal.returns-in_ok-lowered-in-Whole-clause-vars
returns-in_ok-lowered-in-Whole-clause-vars g c = let o = g.O.Oracle in
    let a = c.args.oracle.now in
    let p = o.task a in
    let e = c.build.new.self in
    let l = c.lower.new.oracle in
    let state : AreBuiltTo p (o.caps a) (o.vars a) c.get-c.result c.args.cap Whole (o.caps e) (o.vars e) = subst
    (λ (b : Built). AreBuiltTo p (o.caps a) (o.vars a) c.get-c.result c.args.cap b (o.caps e) (o.vars e)) c.in-Whole.is c.in_ok-build.ensures.built in
    let built = counted_built p c.args.order.now c.args.i c.get-c.result c.args.cap (o.caps a) (o.vars a) c.requires.order c.get-c.ensures c.requires.counted in
    vars_same p c.args.order.now (with_cap (o.caps a) c.get-c.result c.args.cap) (o.caps l)
    (o.vars a + sum_vars_of p.encoding (o.vars a) c.get-c.result c.args.cap) (o.vars l)
    (c.in_ok-lowered-in-Whole.ensures.caps ∙ state.0) (c.in_ok-lowered-in-Whole.ensures.vars ∙ state.1) built.vars_are

pub returns-in_err-build-clause-left : goal.returns-in_err-build-clause-left
returns-in_err-build-clause-left g c = let o = g.O.Oracle in let t = g.O.LogTeller in
    let a = c.args.oracle.now in
    on_err_anyway _ _ (built_left (o.task a) c.args.order.now c.args.i c.get-c.result c.args.cap c.args.held.now c.args.best (o.caps a) (o.vars a) (t.knows a)
    (t.log a) (t.log c.build.new.self) c.requires.order c.get-c.ensures (c.requires.cap c.get-c.result c.get-c.ensures) (g.met.O.Oracle.counted a)
    (g.met.O.Oracle.within a) c.requires.counted
    (let p = o.task a in leaves_most 0 p.budget (sum_lines p.encoding (o.vars a) c.get-c.result c.args.cap) (t.knows a) (t.log a) (t.log c.build.new.self)
    (omega arith) c.in_err-build.ensures.leaves))

pub returns-in_err-lowered-in-Whole-clause-left : goal.returns-in_err-lowered-in-Whole-clause-left
returns-in_err-lowered-in-Whole-clause-left g c = let o = g.O.Oracle in let t = g.O.LogTeller in
    let a = c.args.oracle.now in
    on_err_anyway _ _ (asked_left t.knows t.log t.learnt a c.build.new.self c.lower.new.oracle (o.task c.build.new.self) (o.task a) c.args.order.now
    c.args.i c.get-c.result c.args.cap
    c.args.held.now c.args.best (o.caps a) (o.vars a) c.in_ok-build.field-0
    c.requires.order c.get-c.ensures (c.requires.cap c.get-c.result c.get-c.ensures) (g.met.O.Oracle.counted a) (g.met.O.Oracle.within a) c.requires.counted
    c.in-Whole.is
    c.in_ok-build.ensures.lines (g.met.O.Oracle.within c.build.new.self) c.in_ok-build.ensures.task c.in_err-lowered-in-Whole.ensures.leaves)
