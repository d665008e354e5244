use Rattle.std.proofs.Common.{drop}
use Rattle.std.specs.Prelude.{◌↔◌}
use Rattle.plan_core.specs.Values.{Better}
use Rattle.plan_geometry.proofs.comparing.better.Given as goal

abbrev pub invariant-loop-i : goal.invariant-loop-i
invariant-loop-i l = Better (drop l.i l.o) l.a l.b ↔ Better l.o l.a l.b
