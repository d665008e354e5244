use Rattle.std.proofs.Common.{◌≡◌, ◌≤◌, ◌∷◌, ◌++◌, [], refl, ◌∙◌, ap, arith}
use Rattle.std.specs.Prelude.{None, Some}
use Rattle.plan_core.specs.Values.{values_of, value_of}
use Rattle.plan_core.proofs.LimitLemmas.{value-le-limit}
use Rattle.search_least.specs.Task.{greatest_of}
use Rattle.search_least.specs.Asked.{below_limit, IsReply}
use Rattle.search_least.proofs.RunLemmas.{built_all, found_less, found_lawful}
use Rattle.refute_log.proofs.StepLemmas.{known_after}
use Rattle.trade_off.proofs.AskLemmas.{refuted_none, least_from, least_zero, found_meets, once_with, asked_none, lowers_found, lowers_refuted}
use Rattle.trade_off.proofs.AskLemmas.{lowers_stopped, lowers_down, laws_back}
use Rattle.trade_off.specs.Least.{lowered, HaveComeTo}
use Rattle.trade_off.proofs.LeftLemmas.{asked_here, asked_later}
use Rattle.trade_off.proofs.lowering.lower.Goals as goal
use Rattle.outside_io.proofs.Results.{on_err_anyway}

pub loop-value-init : goal.loop-value-init
loop-value-init g c = let o = g.O.Oracle in let t = g.O.LogTeller in
    let p = o.task c.args.oracle.now in
    let is : c.of-value.result ≡ value_of (values_of c.args.first) c.args.c = c.of-value.ensures ∙ ap (λ v. value_of v c.args.c) c.values.ensures in
    let le : value_of (values_of c.args.first) c.args.c ≤ greatest_of p c.args.c = value-le-limit p.graph p.above p.grid c.args.first c.requires.lawful
    c.args.c in
    record {
      value = is;
      task = refl;
      caps = refl;
      ready = c.requires.ready;
      known = c.requires.known;
      lawful = c.requires.lawful;
      met = c.requires.met;
      bound = omega (arith, is, le);
      no_more = omega (arith, is);
      later = g.met.O.Oracle.later_same c.args.oracle.now;
      faults = omega arith;
      lines = λ m. asked_none t.knows t.log t.learnt c.args.oracle.now p (HaveComeTo m c.args.c (lowered c.args.held.now c.args.c c.args.first));
    }

pub ask-requires-clause-there : goal.ask-requires-clause-there
ask-requires-clause-there g c = let o = g.O.Oracle in
    built_all (o.caps c.args.oracle.now) (o.caps c.loop-value.oracle) c.args.held.now c.deref.result.now c.args.c c.loop-value.value c.requires.held
    (omega arith)
    (let le = c.loop-value.invariant.bound in let cap = c.requires.bound in omega (arith, le, cap))
    (c.deref.ensures.value ∙ c.in_ok-bounds.ensures) c.loop-value.invariant.caps

pub ask-requires-clause-once : goal.ask-requires-clause-once
ask-requires-clause-once g c = once_with c.args.held.now c.deref.result.now c.args.c c.loop-value.value
    (c.deref.ensures.value ∙ c.in_ok-bounds.ensures) c.requires.beside

pub loop-value-smaller : goal.loop-value-smaller
loop-value-smaller g c = let o = g.O.Oracle in
    let is : c.of-value-in-Found.result ≡ value_of (values_of c.in-Found.d) c.args.c = c.of-value-in-Found.ensures
    ∙ ap (λ v. value_of v c.args.c) c.values-in-Found.ensures in
    let lt = found_less (o.task c.loop-value.oracle) c.args.held.now c.deref.result.now c.args.c c.loop-value.value c.in-Found.d c.in_ok-d.field-0
    (c.deref.ensures.value ∙ c.in_ok-bounds.ensures) c.in-Found.is c.in_ok-d.ensures.right in
    omega (arith, is, lt)

pub loop-value-preserved : goal.loop-value-preserved
loop-value-preserved g c = let o = g.O.Oracle in let t = g.O.LogTeller in
    let a = c.args.oracle.now in
    let b = c.loop-value.oracle in
    let e = c.ask.new.self in
    let bounds = c.deref.ensures.value ∙ c.in_ok-bounds.ensures in
    let is : c.of-value-in-Found.result ≡ value_of (values_of c.in-Found.d) c.args.c = c.of-value-in-Found.ensures
    ∙ ap (λ v. value_of v c.args.c) c.values-in-Found.ensures in
    let lt = found_less (o.task b) c.args.held.now c.deref.result.now c.args.c c.loop-value.value c.in-Found.d c.in_ok-d.field-0 bounds c.in-Found.is
    c.in_ok-d.ensures.right in
    record {
      value = is;
      task = c.in_ok-d.ensures.task ∙ c.loop-value.invariant.task;
      caps = c.in_ok-d.ensures.caps ∙ c.loop-value.invariant.caps;
      ready = c.in_ok-d.ensures.ready;
      known = known_after t.knows t.log t.learnt b e (λ lines more. IsReply (o.task b) lines c.deref.result.now c.in_ok-d.field-0 more)
          c.loop-value.invariant.known c.in_ok-d.ensures.lines;
      lawful = found_lawful (o.task b) (o.task a) c.deref.result.now c.in-Found.d c.in_ok-d.field-0 c.loop-value.invariant.task c.in-Found.is
          c.in_ok-d.ensures.right;
      met = found_meets (o.task b) (o.task a) c.args.held.now c.deref.result.now c.args.c c.loop-value.value c.in-Found.d c.in_ok-d.field-0 bounds c.in-Found.is
          c.in_ok-d.ensures.right;
      bound = (let le = c.loop-value.invariant.bound in omega (arith, is, lt, le));
      no_more = (let le = c.loop-value.invariant.no_more in omega (arith, is, lt, le));
      later = g.met.O.Oracle.later_more a b e c.loop-value.invariant.later c.in_ok-d.ensures.later;
      faults = (let m = c.loop-value.invariant.faults in let n = c.in_ok-d.ensures.faults in omega arith);
      lines = λ m. lowers_found t.knows t.log t.learnt a b e (o.task b) (o.task a) m c.args.held.now c.args.c c.args.first c.loop-value.least c.in-Found.d
          c.deref.result.now c.in_ok-d.field-0
          (record {
            same = c.loop-value.invariant.task;
            once = once_with c.args.held.now c.deref.result.now c.args.c c.loop-value.value bounds c.requires.beside;
            right = c.in_ok-d.ensures.right;
            apart = g.met.O.Oracle.apart e;
          }) (bounds ∙ ap (λ n. c.args.held.now ++ below_limit c.args.c n ∷ []) c.loop-value.invariant.value) c.in-Found.is c.requires.beside
          (let value = c.loop-value.invariant.value in omega (arith, is, lt, value)) (c.loop-value.invariant.lines m) c.in_ok-d.ensures.lines;
    }

pub returns-in-Refuted-clause-known : goal.returns-in-Refuted-clause-known
returns-in-Refuted-clause-known g c = let o = g.O.Oracle in let t = g.O.LogTeller in
    let b = c.loop-value.oracle in
    known_after t.knows t.log t.learnt b c.ask.new.self (λ lines more. IsReply (o.task b) lines c.deref.result.now c.in_ok-d.field-0 more)
    c.loop-value.invariant.known c.in_ok-d.ensures.lines

pub returns-in-Stopped-clause-known : goal.returns-in-Stopped-clause-known
returns-in-Stopped-clause-known g c = let o = g.O.Oracle in let t = g.O.LogTeller in
    let b = c.loop-value.oracle in
    known_after t.knows t.log t.learnt b c.ask.new.self (λ lines more. IsReply (o.task b) lines c.deref.result.now c.in_ok-d.field-0 more)
    c.loop-value.invariant.known c.in_ok-d.ensures.lines

pub returns-in-Refuted-clause-no_more : goal.returns-in-Refuted-clause-no_more
returns-in-Refuted-clause-no_more g c = (let is = c.loop-value.invariant.value in let le = c.loop-value.invariant.no_more in omega (arith, is, le))

pub returns-in-Stopped-clause-no_more : goal.returns-in-Stopped-clause-no_more
returns-in-Stopped-clause-no_more g c = (let is = c.loop-value.invariant.value in let le = c.loop-value.invariant.no_more in omega (arith, is, le))

pub returns-clause-no_more : goal.returns-clause-no_more
returns-clause-no_more g c = (let is = c.loop-value.invariant.value in let le = c.loop-value.invariant.no_more in omega (arith, is, le))

pub returns-in-Refuted-clause-least : goal.returns-in-Refuted-clause-least
returns-in-Refuted-clause-least g c = let o = g.O.Oracle in let t = g.O.LogTeller in
    let b = c.loop-value.oracle in
    let e = c.ask.new.self in
    λ none. least_from (o.task c.args.oracle.now) c.args.held.now c.deref.result.now c.args.c c.loop-value.value c.loop-value.least
    (c.deref.ensures.value ∙ c.in_ok-bounds.ensures) c.loop-value.invariant.value
    (refuted_none t.knows t.log t.learnt b e (o.task b) (o.task c.args.oracle.now) c.deref.result.now c.in_ok-d.field-0 c.loop-value.invariant.task
    c.in-Refuted.is c.loop-value.invariant.known
    (laws_back t.knows e (o.task e) (o.task b) c.in_ok-d.ensures.task (record { covers = g.met.O.Oracle.covers e; derives = g.O.LogTeller.derives e }))
    c.in_ok-d.ensures.lines)

pub returns-in-Stopped-clause-least : goal.returns-in-Stopped-clause-least
returns-in-Stopped-clause-least g c = λ none. absurd (let f : Some c.in-Stopped.stop ≡ None = none in cc)

pub returns-clause-least : goal.returns-clause-least
returns-clause-least g c = let o = g.O.Oracle in
    λ none. least_zero (o.task c.args.oracle.now) c.args.held.now c.args.c c.loop-value.value c.loop-value.least c.loop-value.invariant.value (omega arith)

pub returns-in-Refuted-clause-lines : goal.returns-in-Refuted-clause-lines
returns-in-Refuted-clause-lines g c = let o = g.O.Oracle in let t = g.O.LogTeller in
    let a = c.args.oracle.now in
    let b = c.loop-value.oracle in
    let bounds = c.deref.ensures.value ∙ c.in_ok-bounds.ensures in
    λ m. lowers_refuted t.knows t.log t.learnt a b c.ask.new.self (o.task b) (o.task a) m c.args.held.now c.args.c c.args.first c.loop-value.least
    c.deref.result.now c.in_ok-d.field-0
    (record {
      same = c.loop-value.invariant.task;
      once = once_with c.args.held.now c.deref.result.now c.args.c c.loop-value.value bounds c.requires.beside;
      right = c.in_ok-d.ensures.right;
      apart = g.met.O.Oracle.apart c.ask.new.self;
    }) (bounds ∙ ap (λ n. c.args.held.now ++ below_limit c.args.c n ∷ []) c.loop-value.invariant.value) c.in-Refuted.is (c.loop-value.invariant.lines m)
    c.in_ok-d.ensures.lines

pub returns-in-Stopped-clause-lines : goal.returns-in-Stopped-clause-lines
returns-in-Stopped-clause-lines g c = let o = g.O.Oracle in let t = g.O.LogTeller in
    let a = c.args.oracle.now in
    let b = c.loop-value.oracle in
    let bounds = c.deref.ensures.value ∙ c.in_ok-bounds.ensures in
    λ m. lowers_stopped t.knows t.log t.learnt a b c.ask.new.self (o.task b) (o.task a) m c.args.held.now c.args.c c.args.first c.loop-value.least
    c.deref.result.now c.in_ok-d.field-0 c.in-Stopped.stop
    (record {
      same = c.loop-value.invariant.task;
      once = once_with c.args.held.now c.deref.result.now c.args.c c.loop-value.value bounds c.requires.beside;
      right = c.in_ok-d.ensures.right;
      apart = g.met.O.Oracle.apart c.ask.new.self;
    }) (bounds ∙ ap (λ n. c.args.held.now ++ below_limit c.args.c n ∷ []) c.loop-value.invariant.value) c.in-Stopped.is c.loop-value.invariant.lawful
    c.loop-value.invariant.met (c.loop-value.invariant.lines m) c.in_ok-d.ensures.lines

pub returns-clause-lines : goal.returns-clause-lines
returns-clause-lines g c = let o = g.O.Oracle in let t = g.O.LogTeller in
    λ m. lowers_down t.knows t.log t.learnt c.args.oracle.now c.loop-value.oracle (o.task c.args.oracle.now) m c.args.held.now c.args.c c.args.first
    c.loop-value.least (c.loop-value.invariant.lines m)

pub returns-in_err-bounds-clause-leaves : goal.returns-in_err-bounds-clause-leaves
returns-in_err-bounds-clause-leaves g c = let o = g.O.Oracle in let t = g.O.LogTeller in
    on_err_anyway _ _ (asked_here t.knows t.log t.learnt c.args.oracle.now c.loop-value.oracle (o.task c.loop-value.oracle) (o.task c.args.oracle.now)
    (HaveComeTo c.args.c c.args.c (lowered c.args.held.now c.args.c c.args.first))
    (HaveComeTo c.args.c c.args.c (lowered c.args.held.now c.args.c c.loop-value.least))
    (c.loop-value.invariant.lines c.args.c) (g.met.O.Oracle.within c.loop-value.oracle) c.loop-value.invariant.task
    (g.O.LogTeller.derives c.loop-value.oracle) (g.met.O.Oracle.one_reading c.loop-value.oracle))

pub returns-in_err-d-clause-leaves : goal.returns-in_err-d-clause-leaves
returns-in_err-d-clause-leaves g c = let o = g.O.Oracle in let t = g.O.LogTeller in
    on_err_anyway _ _ (asked_later t.knows t.log t.learnt c.args.oracle.now c.loop-value.oracle c.ask.new.self (o.task c.loop-value.oracle)
    (o.task c.args.oracle.now)
    (HaveComeTo c.args.c c.args.c (lowered c.args.held.now c.args.c c.args.first))
    (HaveComeTo c.args.c c.args.c (lowered c.args.held.now c.args.c c.loop-value.least))
    (c.loop-value.invariant.lines c.args.c) (g.met.O.Oracle.within c.loop-value.oracle) c.loop-value.invariant.task c.in_err-d.ensures.leaves)
