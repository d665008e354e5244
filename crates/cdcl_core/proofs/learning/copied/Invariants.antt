use Rattle.std.proofs.Common.{◌≡◌, take}
use Rattle.cdcl_core.proofs.learning.copied.Given as goal

abbrev pub invariant-loop-i : goal.invariant-loop-i
invariant-loop-i l = l.lits.items ≡ take l.i l.analyser.clause
