use Rattle.std.proofs.Common.{◌≡◌}
use Rattle.cdcl_learn.specs.Sight.{sight}
use Rattle.cdcl_learn.specs.Cut.{IsStage}
use Rattle.cdcl_learn.proofs.conflict.resolve.Given as goal

abbrev pub invariant-loop-work : goal.invariant-loop-work
invariant-loop-work l = record {
  vars : l.work.vars ≡ l.trail.vars;
  stage : IsStage (sight l.arena l.trail) l.work l.i;
}

abbrev pub decreases-loop-work : goal.decreases-loop-work
decreases-loop-work l = l.i
