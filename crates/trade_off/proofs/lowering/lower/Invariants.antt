use Rattle.std.proofs.Common.{◌≡◌, ◌≤◌}
use Rattle.plan_core.specs.declared.criterion.Criterion.{Criterion}
use Rattle.plan_core.specs.Values.{values_of, value_of}
use Rattle.search_least.specs.Task.{IsLawful, greatest_of}
use Rattle.search_least.specs.Asked.{AreMet}
use Rattle.refute_log.specs.Steps.{Continues, KnowsSome}
use Rattle.trade_off.specs.Least.{lowered, HaveComeTo, AreAsked}
use Rattle.trade_off.proofs.lowering.lower.Given as goal

abbrev pub invariant-loop-value : goal.invariant-loop-value
invariant-loop-value g l = let o = g.O.Oracle in let t = g.O.LogTeller in record {
  value : l.value ≡ value_of (values_of l.least) l.c;
  task : o.task l.oracle ≡ o.task l.fn.oracle;
  caps : o.caps l.oracle ≡ o.caps l.fn.oracle;
  ready : t.ready l.oracle;
  known : KnowsSome t.knows l.oracle;
  lawful : IsLawful (o.task l.fn.oracle) l.least;
  met : AreMet (values_of l.least) l.held;
  bound : l.value ≤ greatest_of (o.task l.fn.oracle) l.c;
  no_more : l.value ≤ value_of (values_of l.fn.first) l.c;
  later : t.is_later l.fn.oracle l.oracle;
  faults : t.faults l.fn.oracle ≤ t.faults l.oracle;
  lines : (m : Criterion) → Continues t.knows t.log t.learnt l.fn.oracle l.oracle
      (AreAsked (o.task l.fn.oracle) (HaveComeTo m l.c (lowered l.held l.c l.fn.first)) (HaveComeTo m l.c (lowered l.held l.c l.least)));
}

abbrev pub decreases-loop-value : goal.decreases-loop-value
decreases-loop-value g l = l.value
