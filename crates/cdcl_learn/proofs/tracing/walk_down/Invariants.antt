use Rattle.std.proofs.Common.{◌≡◌, ◌≤◌, List, length}
use Rattle.cnf_core.specs.Lit.{Literal}
use Rattle.cdcl_learn.specs.Sight.{sight}
use Rattle.cdcl_learn.specs.Trace.{IsTracing}
use Rattle.cdcl_learn.proofs.tracing.walk_down.Given as goal

abbrev pub invariant-loop-end : goal.invariant-loop-end
invariant-loop-end l = record {
  vars : l.work.vars ≡ l.trail.vars;
  within : l.end ≤ length l.trail.lits;
  tracing : (front : List Literal) → IsTracing (sight l.arena l.trail) l.fn.work front (length l.trail.lits) →
      IsTracing (sight l.arena l.trail) l.work front l.end;
}

abbrev pub decreases-loop-end : goal.decreases-loop-end
decreases-loop-end l = l.end
