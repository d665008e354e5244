use Rattle.std.proofs.Common.{◌≡◌, ◌++◌, ◌∙◌, ap, ◌+◌, ◌∷◌, [], arith}
use Rattle.std.proofs.lemmas.Result.{IfOk-weaker}
use Rattle.plan_core.specs.declared.criterion.Criterion.{Criterion}
use Rattle.refute_log.specs.Expected.{with_cap, sum_lines, sum_vars_of, sums}
use Rattle.search_least.specs.declared.oracle.Built.TheVariants.{Whole}
use Rattle.search_least.specs.Task.{Task, greatest_of}
use Rattle.search_least.specs.Built.{IsBuild}
use Rattle.search_least.specs.Outcome.{first_lines}
use Rattle.refute_log.specs.Steps.{Continues}
use Rattle.trade_off.specs.Outcome.{IsBuiltFront}
use Rattle.trade_off.proofs.TellLemmas.{no_room_for_first, both_built, unbuilt_still, first_still, second_here}
use Rattle.refute_log.proofs.StepLemmas.{on_err_weaker, leaves_more, leaves_most}
use Rattle.trade_off.proofs.LeftLemmas.{both_left}
use Rattle.trade_off.proofs.building.build_both.Goals as goal
use Rattle.outside_io.proofs.Results.{on_err_anyway}

pub build_whole-requires-clause-none : goal.build_whole-requires-clause-none
build_whole-requires-clause-none g c = c.requires.fresh.none c.args.a

pub build_whole-requires-in-Whole-clause-ready : goal.build_whole-requires-in-Whole-clause-ready
build_whole-requires-in-Whole-clause-ready g c = c.in_ok-build_whole.ensures.ready c.in-Whole.is

pub build_whole-requires-in-Whole-clause-none : goal.build_whole-requires-in-Whole-clause-none
build_whole-requires-in-Whole-clause-none g c = let o = g.O.Oracle in
    let a = c.args.oracle.now in
    unbuilt_still (o.caps a) (o.caps c.build_whole.new.oracle) c.args.a c.args.b (greatest_of (o.task a) c.args.a) c.requires.apart
    (c.requires.fresh.none c.args.b) (c.in_ok-build_whole.ensures.caps c.in-Whole.is)

pub returns-in-NoRoom-clause-lines : goal.returns-in-NoRoom-clause-lines
returns-in-NoRoom-clause-lines g c = let o = g.O.Oracle in let t = g.O.LogTeller in
    let a = c.args.oracle.now in
    no_room_for_first t.knows t.log t.learnt a c.build_whole.new.oracle (o.task a) c.args.a c.args.b (o.vars a) c.in_ok-build_whole.field-0 c.in-NoRoom.is
    c.requires.fresh.vars_are c.in_ok-build_whole.ensures.lines

pub returns-in-Whole-clause-first : goal.returns-in-Whole-clause-first
returns-in-Whole-clause-first g c = let o = g.O.Oracle in
    let a = c.args.oracle.now in
    let b = c.build_whole.new.oracle in
    let e = c.build_whole-in-Whole.new.oracle in
    IfOk-weaker c.build_whole-in-Whole.result (λ r. r ≡ Whole → (d : Criterion) → o.caps e d ≡ with_cap (o.caps b) c.args.b (greatest_of (o.task b) c.args.b) d)
    (λ r. r ≡ Whole → o.caps e c.args.a ≡ greatest_of (o.task a) c.args.a)
    (λ r h whole. first_still (o.caps a) (o.caps b) (o.caps e) c.args.a c.args.b (greatest_of (o.task a) c.args.a) (greatest_of (o.task b) c.args.b)
    c.requires.apart (c.in_ok-build_whole.ensures.caps c.in-Whole.is) (h whole))
    c.build_whole-in-Whole.ensures.caps

pub returns-in-Whole-clause-second : goal.returns-in-Whole-clause-second
returns-in-Whole-clause-second g c = let o = g.O.Oracle in
    let a = c.args.oracle.now in
    let b = c.build_whole.new.oracle in
    let e = c.build_whole-in-Whole.new.oracle in
    IfOk-weaker c.build_whole-in-Whole.result (λ r. r ≡ Whole → (d : Criterion) → o.caps e d ≡ with_cap (o.caps b) c.args.b (greatest_of (o.task b) c.args.b) d)
    (λ r. r ≡ Whole → o.caps e c.args.b ≡ greatest_of (o.task a) c.args.b)
    (λ r h whole. second_here (o.caps b) (o.caps e) c.args.b (greatest_of (o.task b) c.args.b) (h whole)
    ∙ ap (λ (p : Task). greatest_of p c.args.b) c.build_whole.ensures.task)
    c.build_whole-in-Whole.ensures.caps

pub returns-in-Whole-clause-lines : goal.returns-in-Whole-clause-lines
returns-in-Whole-clause-lines g c = let o = g.O.Oracle in let t = g.O.LogTeller in
    let a = c.args.oracle.now in
    let b = c.build_whole.new.oracle in
    let e = c.build_whole-in-Whole.new.oracle in
    IfOk-weaker c.build_whole-in-Whole.result (λ r. Continues t.knows t.log t.learnt b e
    (λ lines more. IsBuild (o.task b) (o.vars b) c.args.b (greatest_of (o.task b) c.args.b) r lines more))
    (λ r. Continues t.knows t.log t.learnt a e (λ lines more. lines ≡ first_lines (o.task a) → IsBuiltFront (o.task a) c.args.a c.args.b r (lines ++ more)))
    (λ r h. both_built t.knows t.log t.learnt a b e (o.task b) (o.task a) c.args.a c.args.b (o.vars a) (o.vars b) c.in_ok-build_whole.field-0 r
    c.build_whole.ensures.task c.in-Whole.is c.requires.fresh.vars_are (c.in_ok-build_whole.ensures.vars c.in-Whole.is)
    c.in_ok-build_whole.ensures.lines h)
    c.build_whole-in-Whole.ensures.lines

pub returns-in_err-build_whole-clause-leaves : goal.returns-in_err-build_whole-clause-leaves
returns-in_err-build_whole-clause-leaves g c = let o = g.O.Oracle in let t = g.O.LogTeller in
    let a = c.args.oracle.now in
    let p = o.task a in
    let xs = sum_lines p.encoding (o.vars a) c.args.a (greatest_of p c.args.a) in
    on_err_anyway _ _ (leaves_more xs
    (sums p.encoding (o.vars a + sum_vars_of p.encoding (o.vars a) c.args.a (greatest_of p c.args.a)) (c.args.b ∷ []) (greatest_of p))
    (t.knows a) (t.log a) (t.log c.build_whole.new.oracle)
    (leaves_most 0 p.budget xs (t.knows a) (t.log a) (t.log c.build_whole.new.oracle) (omega arith) c.in_err-build_whole.ensures.leaves))

pub returns-in-Whole-clause-leaves : goal.returns-in-Whole-clause-leaves
returns-in-Whole-clause-leaves g c = let o = g.O.Oracle in let t = g.O.LogTeller in
    let a = c.args.oracle.now in
    let b = c.build_whole.new.oracle in
    on_err_weaker c.build_whole-in-Whole.result _ _ (both_left t.knows t.log t.learnt a b c.build_whole-in-Whole.new.oracle (o.task b) (o.task a) c.args.a
    c.args.b (o.vars a) (o.vars b) c.in_ok-build_whole.field-0
    c.build_whole.ensures.task c.in-Whole.is (c.in_ok-build_whole.ensures.vars c.in-Whole.is) c.in_ok-build_whole.ensures.lines
    (g.met.O.Oracle.within b))
    c.build_whole-in-Whole.ensures.leaves
