use Rattle.std.proofs.Common.{◌≡◌}
use Rattle.std.specs.List.{sum_by}
use Rattle.cnf_core.specs.Trail.{weight}
use Rattle.cdcl_core.specs.Roots.{AreOffered}
use Rattle.cdcl_core.proofs.choices.pick.Given as goal

abbrev pub invariant-loop-v : goal.invariant-loop-v
invariant-loop-v l = record { vars : l.heap.vars ≡ l.trail.vars; offered : AreOffered l.heap l.trail }

abbrev pub decreases-loop-v : goal.decreases-loop-v
decreases-loop-v l = sum_by weight l.heap.held
