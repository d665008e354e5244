use Rattle.std.proofs.Common.{◌≡◌, take}
use Rattle.cdcl_learn.proofs.analyser.copy_met.Given as goal

abbrev pub invariant-loop-i : goal.invariant-loop-i
invariant-loop-i l = take l.i l.side ≡ take l.i l.work.met
