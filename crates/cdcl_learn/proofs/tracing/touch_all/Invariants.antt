use Rattle.std.proofs.Common.{◌≡◌, drop}
use Rattle.cdcl_learn.specs.Sight.{sight, clause_in}
use Rattle.cdcl_learn.specs.Trace.{trace_with_all}
use Rattle.cdcl_learn.proofs.tracing.touch_all.Given as goal

abbrev pub invariant-loop-i : goal.invariant-loop-i
invariant-loop-i l = record {
  vars : l.work.vars ≡ l.trail.vars;
  rest : trace_with_all (sight l.arena l.trail) l.work (drop l.i (clause_in (sight l.arena l.trail) l.c.0)) ≡ trace_with_all (sight l.arena l.trail) l.fn.work
      (clause_in (sight l.arena l.trail) l.c.0);
}
