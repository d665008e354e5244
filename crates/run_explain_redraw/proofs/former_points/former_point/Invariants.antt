use Rattle.run_explain_redraw.proofs.PointLemmas.{NoneNamed}
use Rattle.run_explain_redraw.proofs.former_points.former_point.Given as goal

abbrev pub invariant-loop-m : goal.invariant-loop-m
invariant-loop-m l = NoneNamed l.old l.name l.m
