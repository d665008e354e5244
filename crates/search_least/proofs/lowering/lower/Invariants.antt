use Rattle.std.proofs.Common.{◌≡◌, ◌≤◌, ◌<◌, ◌⊎◌}
use Rattle.plan_core.specs.Values.{values_of, value_of}
use Rattle.search_least.specs.Task.{IsLawful}
use Rattle.refute_log.specs.Steps.{Continues}
use Rattle.search_least.specs.Reached.{Run}
use Rattle.search_least.proofs.lowering.lower.Given as goal

abbrev pub invariant-loop-value : goal.invariant-loop-value
invariant-loop-value g l = let o = g.O.Oracle in let t = g.O.LogTeller in record {
  value : l.value ≡ value_of (values_of l.best) l.c;
  task : o.task l.oracle ≡ o.task l.fn.oracle;
  caps : o.caps l.oracle ≡ o.caps l.fn.oracle;
  vars : o.vars l.oracle ≡ o.vars l.fn.oracle;
  ready : t.ready l.oracle;
  lawful : IsLawful (o.task l.fn.oracle) l.best;
  less : (l.best ≡ l.fn.best) ⊎ (l.value < value_of (values_of l.fn.best) l.c);
  bound : l.value ≤ o.caps l.fn.oracle l.c;
  later : t.is_later l.fn.oracle l.oracle;
  faults : t.faults l.fn.oracle ≤ t.faults l.oracle;
  lines : Continues t.knows t.log t.learnt l.fn.oracle l.oracle (Run (o.task l.fn.oracle) l.order l.i l.held l.fn.best l.best);
}

abbrev pub decreases-loop-value : goal.decreases-loop-value
decreases-loop-value g l = l.value
