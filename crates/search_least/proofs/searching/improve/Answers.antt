use Rattle.std.proofs.Common.{◌≡◌, ◌+◌, ◌++◌, [], refl, sym, ◌∙◌, subst, arith, List}
use Rattle.std.specs.Prelude.{All, Option}
use Rattle.refute_log.specs.declared.stop.Stop.{Stop}
use Rattle.std.proofs.lemmas.List.Elements.{All-nil}
use Rattle.refute_log.specs.Expected.{expected_vars}
use Rattle.search_least.specs.declared.oracle.Below.{Below}
use Rattle.search_least.specs.Task.{Task, IsLawful}
use Rattle.search_least.specs.Asked.{IsWithinCap}
use Rattle.refute_log.specs.Steps.{Continues}
use Rattle.search_least.specs.State.{Counted, SearchState, Advances}
use Rattle.plan_core.proofs.OrderLemmas.{few_criteria}
use Rattle.search_least.proofs.BeforeLemmas.{no_bounds}
use Rattle.search_least.proofs.OutcomeLemmas.{state_none, state_then, ends_best, ends_unfinished, laws_at}
use Rattle.outside_io.proofs.Results.{on_err_anyway}
use Rattle.refute_log.specs.Told.{Lines}
use Rattle.search_least.proofs.LeftLemmas.{search_later}
use Rattle.search_least.proofs.searching.improve.Goals as goal

pub loop-i-init : goal.loop-i-init
loop-i-init g c = let o = g.O.Oracle in let t = g.O.LogTeller in record {
  task = refl;
  counted = c.requires.counted;
  ready = c.requires.ready;
  lawful = c.requires.lawful;
  held = subst (λ (bs : List Below). All (IsWithinCap (o.caps c.args.oracle.now)) bs) (sym c.new-held.ensures.items)
      (All-nil (IsWithinCap (o.caps c.args.oracle.now)));
  before = no_bounds c.args.wanted.now 0 c.new-held.result.items c.new-held.ensures.items;
  later = g.met.O.Oracle.later_same c.args.oracle.now;
  faults = omega arith;
  lines = state_none t.knows t.log t.learnt c.args.oracle.now (o.task c.args.oracle.now) c.args.wanted.now c.args.first (o.caps c.args.oracle.now)
      c.new-held.result.items c.new-held.ensures.items;
}

pub advance-requires : goal.advance-requires
advance-requires g c = record {
  ready = c.loop-i.invariant.ready;
  order = c.requires.order;
  at = (let e = c.requires.places in omega arith);
  counted = c.loop-i.invariant.counted;
  lawful = c.loop-i.invariant.lawful;
  held = c.loop-i.invariant.held;
  before = c.loop-i.invariant.before;
}

pub stopped_with-requires : goal.stopped_with-requires
stopped_with-requires g c =
    let few = few_criteria c.args.wanted.now c.requires.order.each_once in
    let le = c.in_ok-advanced.ensures.settled in
    omega (arith, few, le)

pub returns-in-Some-clause-lines : goal.returns-in-Some-clause-lines
returns-in-Some-clause-lines g c = let o = g.O.Oracle in let t = g.O.LogTeller in
    let a = c.args.oracle.now in
    let b = c.loop-i.oracle in
    let e = c.advance.new.oracle in
    let r = c.in_ok-advanced.advanced in
    let same : o.task e ≡ o.task a = c.in_ok-advanced.ensures.task ∙ c.loop-i.invariant.task in
    ends_unfinished t.knows t.log t.learnt a e (o.task a) c.args.wanted.now c.loop-i.i c.advance.new.held.items c.args.first r.best (o.caps a) (o.caps e) r.stop
    c.in-Some.stop r.settled c.stopped_with.result c.requires.order
    (laws_at t.knows e (o.task e) (o.task a) c.args.wanted.now (o.caps e) (o.vars e) same
    (subst (λ (x : Task). o.vars e ≡ expected_vars x.encoding c.args.wanted.now (o.caps e)) c.loop-i.invariant.task c.in_ok-advanced.ensures.vars)
    (g.met.O.Oracle.covers e) (g.met.O.Oracle.formed e) (g.O.LogTeller.derives e) (g.O.LogTeller.due e) (g.met.O.Oracle.apart e) (g.met.O.Oracle.fits e)
    (g.met.O.Oracle.within e) (g.met.O.Oracle.few e) (g.met.O.Oracle.counted e))
    c.in-Some.is c.stopped_with.ensures
    (state_then t.knows t.log t.learnt a b e (o.task b) (o.task a) c.args.wanted.now c.loop-i.i c.loop-i.held.items c.advance.new.held.items c.args.first
    c.loop-i.best r.best (o.caps a) (o.caps b) (o.caps e) r.stop r.settled
    c.loop-i.invariant.task c.loop-i.invariant.lines c.in_ok-advanced.ensures.lines)

pub returns-clause-lines : goal.returns-clause-lines
returns-clause-lines g c = let o = g.O.Oracle in let t = g.O.LogTeller in
    let a = c.args.oracle.now in
    let s = c.loop-i.oracle in
    ends_best t.knows t.log t.learnt a s (o.task a) c.args.wanted.now c.loop-i.i c.loop-i.held.items c.args.first c.loop-i.best (o.caps a) (o.caps s)
    (laws_at t.knows s (o.task s) (o.task a) c.args.wanted.now (o.caps s) (o.vars s) c.loop-i.invariant.task
    (subst (λ (x : Task). o.vars s ≡ expected_vars x.encoding c.args.wanted.now (o.caps s)) c.loop-i.invariant.task c.loop-i.invariant.counted.vars_are)
    (g.met.O.Oracle.covers s) (g.met.O.Oracle.formed s) (g.O.LogTeller.derives s) (g.O.LogTeller.due s) (g.met.O.Oracle.apart s) (g.met.O.Oracle.fits s)
    (g.met.O.Oracle.within s) (g.met.O.Oracle.few s) (g.met.O.Oracle.counted s))
    (let e = c.requires.places in omega arith) c.loop-i.invariant.lines

pub loop-i-preserved : goal.loop-i-preserved
loop-i-preserved g c = let o = g.O.Oracle in let t = g.O.LogTeller in
    let a = c.args.oracle.now in
    let b = c.loop-i.oracle in
    let e = c.advance.new.oracle in
    let r = c.in_ok-advanced.advanced in
    let back : o.task b ≡ o.task e = sym c.in_ok-advanced.ensures.task in
    let run : Continues t.knows t.log t.learnt a e (λ lines more. SearchState (o.task a) c.args.wanted.now 0 [] c.args.first (o.caps a) lines → Advances
    (o.task a) c.args.wanted.now c.loop-i.i c.advance.new.held.items r.stop r.settled r.best (o.caps e) (lines ++ more)) =
    state_then t.knows t.log t.learnt a b e (o.task b) (o.task a) c.args.wanted.now c.loop-i.i c.loop-i.held.items c.advance.new.held.items c.args.first
    c.loop-i.best r.best (o.caps a) (o.caps b) (o.caps e) r.stop r.settled
    c.loop-i.invariant.task c.loop-i.invariant.lines c.in_ok-advanced.ensures.lines in
    record {
      task = c.in_ok-advanced.ensures.task ∙ c.loop-i.invariant.task;
      counted = subst (λ (x : Task). Counted x c.args.wanted.now (c.loop-i.i + 1) (o.caps e) (o.vars e)) back (c.in_ok-advanced.ensures.counted c.in-None.is);
      ready = c.in_ok-advanced.ensures.ready c.in-None.is;
      lawful = subst (λ (x : Task). IsLawful x r.best) back c.in_ok-advanced.ensures.lawful;
      held = c.in_ok-advanced.ensures.held c.in-None.is;
      before = c.in_ok-advanced.ensures.before;
      later = g.met.O.Oracle.later_more a b e c.loop-i.invariant.later c.advance.ensures.later;
      faults = (let m = c.loop-i.invariant.faults in let n = c.advance.ensures.faults in omega arith);
      lines = subst (λ (x : Option Stop). Continues t.knows t.log t.learnt a e (λ lines more. SearchState (o.task a) c.args.wanted.now 0 [] c.args.first
          (o.caps a) lines → Advances (o.task a) c.args.wanted.now c.loop-i.i c.advance.new.held.items x r.settled r.best (o.caps e) (lines ++ more)))
          c.in-None.is run;
    }

pub returns-in_err-advanced-clause-left : goal.returns-in_err-advanced-clause-left
returns-in_err-advanced-clause-left g c = let o = g.O.Oracle in let t = g.O.LogTeller in
    let a = c.args.oracle.now in
    let b = c.loop-i.oracle in
    on_err_anyway _ _ (search_later t.knows t.log t.learnt a b c.advance.new.oracle (o.task b) (o.task a) c.args.wanted.now
    (SearchState (o.task a) c.args.wanted.now 0 [] c.args.first (o.caps a))
    (λ (x : Task) (lines : Lines). SearchState x c.args.wanted.now c.loop-i.i c.loop-i.held.items c.loop-i.best (o.caps b) lines) c.loop-i.invariant.task
    c.loop-i.invariant.lines c.in_err-advanced.ensures.left)
