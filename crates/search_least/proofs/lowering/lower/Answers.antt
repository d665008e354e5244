use Rattle.std.proofs.Common.{[], ◌≡◌, ◌≤◌, refl, ◌∙◌, ap, inl, inr, arith}
use Rattle.plan_core.specs.Values.{values_of, value_of}
use Rattle.search_least.proofs.RunLemmas.{run_none, run_found_at, run_refuted_at, run_stopped_at, run_zero, built_all, found_less, found_lawful, less_still}
use Rattle.search_least.proofs.RunLemmas.{less_there}
use Rattle.search_least.proofs.BeforeLemmas.{once_asked}
use Rattle.outside_io.proofs.Results.{on_err_anyway}
use Rattle.refute_log.proofs.StepLemmas.{leaves_later, leaves_here}
use Rattle.search_least.specs.Task.{Task}
use Rattle.search_least.specs.Reached.{Run}
use Rattle.search_least.proofs.lowering.lower.Goals as goal

pub loop-value-init : goal.loop-value-init
loop-value-init g c = let o = g.O.Oracle in let t = g.O.LogTeller in
    let is : c.of-value.result ≡ value_of (values_of c.args.best) c.get-c.result = c.of-value.ensures ∙ ap (λ v. value_of v c.get-c.result) c.values.ensures in
    let le : value_of (values_of c.args.best) c.get-c.result ≤ o.caps c.args.oracle.now c.get-c.result = c.requires.bound c.get-c.result c.get-c.ensures in
    record {
      value = is;
      task = refl;
      caps = refl;
      vars = refl;
      ready = c.requires.ready;
      lawful = c.requires.lawful;
      less = inl refl;
      bound = omega (arith, is, le);
      later = g.met.O.Oracle.later_same c.args.oracle.now;
      faults = omega arith;
      lines = run_none t.knows t.log t.learnt c.args.oracle.now (o.task c.args.oracle.now) c.args.order.now c.args.i c.args.held.now c.args.best;
    }

pub ask-requires-clause-there : goal.ask-requires-clause-there
ask-requires-clause-there g c = let o = g.O.Oracle in
    built_all (o.caps c.args.oracle.now) (o.caps c.loop-value.oracle) c.args.held.now c.deref.result.now c.get-c.result c.loop-value.value c.requires.held
    (omega arith) c.loop-value.invariant.bound
    (c.deref.ensures.value ∙ c.in_ok-bounds.ensures) c.loop-value.invariant.caps

pub loop-value-smaller : goal.loop-value-smaller
loop-value-smaller g c = let o = g.O.Oracle in
    let is : c.of-value-in-Found.result ≡ value_of (values_of c.in-Found.d) c.get-c.result = c.of-value-in-Found.ensures
    ∙ ap (λ v. value_of v c.get-c.result) c.values-in-Found.ensures in
    let lt = found_less (o.task c.loop-value.oracle) c.args.held.now c.deref.result.now c.get-c.result c.loop-value.value c.in-Found.d c.in_ok-d.field-0
    (c.deref.ensures.value ∙ c.in_ok-bounds.ensures) c.in-Found.is c.in_ok-d.ensures.right in
    omega (arith, is, lt)

pub loop-value-preserved : goal.loop-value-preserved
loop-value-preserved g c = let o = g.O.Oracle in let t = g.O.LogTeller in
    let is : c.of-value-in-Found.result ≡ value_of (values_of c.in-Found.d) c.get-c.result = c.of-value-in-Found.ensures
    ∙ ap (λ v. value_of v c.get-c.result) c.values-in-Found.ensures in
    let bounds = c.deref.ensures.value ∙ c.in_ok-bounds.ensures in
    let lt = found_less (o.task c.loop-value.oracle) c.args.held.now c.deref.result.now c.get-c.result c.loop-value.value c.in-Found.d c.in_ok-d.field-0 bounds
    c.in-Found.is c.in_ok-d.ensures.right in
    record {
      value = is;
      task = c.in_ok-d.ensures.task ∙ c.loop-value.invariant.task;
      caps = c.in_ok-d.ensures.caps ∙ c.loop-value.invariant.caps;
      vars = c.in_ok-d.ensures.vars ∙ c.loop-value.invariant.vars;
      ready = c.in_ok-d.ensures.ready;
      lawful = found_lawful (o.task c.loop-value.oracle) (o.task c.args.oracle.now) c.deref.result.now c.in-Found.d c.in_ok-d.field-0
          c.loop-value.invariant.task c.in-Found.is c.in_ok-d.ensures.right;
      less = inr (let less = less_still c.args.best c.loop-value.best c.get-c.result c.loop-value.value (value_of (values_of c.in-Found.d) c.get-c.result)
          c.loop-value.invariant.value lt c.loop-value.invariant.less in omega (arith, is, less));
      bound = (let le = c.loop-value.invariant.bound in omega (arith, is, lt, le));
      later = g.met.O.Oracle.later_more c.args.oracle.now c.loop-value.oracle c.ask.new.self c.loop-value.invariant.later c.in_ok-d.ensures.later;
      faults = (let a = c.loop-value.invariant.faults in let b = c.in_ok-d.ensures.faults in omega arith);
      lines = run_found_at t.knows t.log t.learnt c.args.oracle.now c.loop-value.oracle c.ask.new.self (o.task c.loop-value.oracle) (o.task c.args.oracle.now)
          c.args.order.now c.args.i c.args.held.now c.get-c.result c.loop-value.value
          c.args.best c.loop-value.best c.in-Found.d c.deref.result.now c.in_ok-d.field-0 c.loop-value.invariant.task
          (record { covers = g.met.O.Oracle.covers c.loop-value.oracle; derives = g.O.LogTeller.derives c.loop-value.oracle })
          (once_asked c.args.order.now c.args.i c.get-c.result c.loop-value.value c.args.held.now c.deref.result.now c.requires.order c.get-c.ensures
          c.requires.before (c.deref.ensures.value ∙ c.in_ok-bounds.ensures))
          bounds c.in-Found.is c.in_ok-d.ensures.right c.loop-value.invariant.lines c.in_ok-d.ensures.lines;
    }

pub returns-in-Refuted-clause-less : goal.returns-in-Refuted-clause-less
returns-in-Refuted-clause-less g c = less_there c.args.order.now c.args.i c.get-c.result c.loop-value.value c.args.best c.loop-value.best c.get-c.ensures
    c.loop-value.invariant.value c.loop-value.invariant.less

pub returns-in-Stopped-clause-less : goal.returns-in-Stopped-clause-less
returns-in-Stopped-clause-less g c = less_there c.args.order.now c.args.i c.get-c.result c.loop-value.value c.args.best c.loop-value.best c.get-c.ensures
    c.loop-value.invariant.value c.loop-value.invariant.less

pub returns-clause-less : goal.returns-clause-less
returns-clause-less g c = less_there c.args.order.now c.args.i c.get-c.result c.loop-value.value c.args.best c.loop-value.best c.get-c.ensures
    c.loop-value.invariant.value c.loop-value.invariant.less

pub returns-in-Refuted-clause-lines : goal.returns-in-Refuted-clause-lines
returns-in-Refuted-clause-lines g c = let o = g.O.Oracle in let t = g.O.LogTeller in
    run_refuted_at t.knows t.log t.learnt c.args.oracle.now c.loop-value.oracle c.ask.new.self (o.task c.loop-value.oracle) (o.task c.args.oracle.now)
    c.args.order.now c.args.i c.args.held.now c.get-c.result c.loop-value.value
    c.args.best c.loop-value.best c.deref.result.now c.in_ok-d.field-0 c.loop-value.invariant.task c.get-c.ensures c.loop-value.invariant.value
    (once_asked c.args.order.now c.args.i c.get-c.result c.loop-value.value c.args.held.now c.deref.result.now c.requires.order c.get-c.ensures
    c.requires.before (c.deref.ensures.value ∙ c.in_ok-bounds.ensures))
    (c.deref.ensures.value ∙ c.in_ok-bounds.ensures) c.in-Refuted.is c.loop-value.invariant.lines c.in_ok-d.ensures.lines

pub returns-in-Stopped-clause-lines : goal.returns-in-Stopped-clause-lines
returns-in-Stopped-clause-lines g c = let o = g.O.Oracle in let t = g.O.LogTeller in
    run_stopped_at t.knows t.log t.learnt c.args.oracle.now c.loop-value.oracle c.ask.new.self (o.task c.loop-value.oracle) (o.task c.args.oracle.now)
    c.args.order.now c.args.i c.args.held.now c.get-c.result c.loop-value.value
    c.args.best c.loop-value.best c.deref.result.now c.in_ok-d.field-0 c.in-Stopped.stop c.loop-value.invariant.task c.get-c.ensures
    c.loop-value.invariant.value (omega arith)
    (once_asked c.args.order.now c.args.i c.get-c.result c.loop-value.value c.args.held.now c.deref.result.now c.requires.order c.get-c.ensures
    c.requires.before (c.deref.ensures.value ∙ c.in_ok-bounds.ensures))
    c.in-Stopped.is c.loop-value.invariant.lines c.in_ok-d.ensures.lines

pub returns-clause-lines : goal.returns-clause-lines
returns-clause-lines g c = let o = g.O.Oracle in let t = g.O.LogTeller in
    run_zero t.knows t.log t.learnt c.args.oracle.now c.loop-value.oracle (o.task c.args.oracle.now) c.args.order.now c.args.i c.args.held.now c.get-c.result
    c.args.best c.loop-value.best c.get-c.ensures
    (let e = c.loop-value.invariant.value in omega arith) c.loop-value.invariant.lines

pub ask-requires-clause-once : goal.ask-requires-clause-once
ask-requires-clause-once g c = once_asked c.args.order.now c.args.i c.get-c.result c.loop-value.value c.args.held.now c.deref.result.now c.requires.order
    c.get-c.ensures c.requires.before (c.deref.ensures.value ∙ c.in_ok-bounds.ensures)

pub returns-in_err-bounds-clause-leaves : goal.returns-in_err-bounds-clause-leaves
returns-in_err-bounds-clause-leaves g c = let o = g.O.Oracle in let t = g.O.LogTeller in
    let a = c.args.oracle.now in
    let b = c.loop-value.oracle in
    on_err_anyway _ _ (leaves_here t.knows t.log t.learnt a b (Run (o.task a) c.args.order.now c.args.i c.args.held.now c.args.best c.loop-value.best)
    c.loop-value.invariant.lines (λ lines more h. h.0) (g.met.O.Oracle.within b) (ap (λ (x : Task). x.budget) c.loop-value.invariant.task)
    (g.O.LogTeller.derives b) (g.met.O.Oracle.one_reading b))

pub returns-in_err-d-clause-leaves : goal.returns-in_err-d-clause-leaves
returns-in_err-d-clause-leaves g c = let o = g.O.Oracle in let t = g.O.LogTeller in
    let a = c.args.oracle.now in
    on_err_anyway _ _ (leaves_later t.knows t.log t.learnt a c.loop-value.oracle c.ask.new.self
    (Run (o.task a) c.args.order.now c.args.i c.args.held.now c.args.best c.loop-value.best) [] []
    c.loop-value.invariant.lines (λ lines more h. h.0) (g.met.O.Oracle.within c.loop-value.oracle) (ap (λ (x : Task). x.budget) c.loop-value.invariant.task)
    c.in_err-d.ensures.leaves)
