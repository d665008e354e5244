use Rattle.cdcl_core.specs.Search.{DeniedUpto}
use Rattle.cdcl_core.proofs.endings.denied.Given as goal

abbrev pub invariant-loop-i : goal.invariant-loop-i
invariant-loop-i l = DeniedUpto l.trail l.i l.lits.items
