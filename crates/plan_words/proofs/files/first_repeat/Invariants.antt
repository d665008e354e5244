use Rattle.std.proofs.Common.{take}
use Rattle.plan_words.specs.WordFaults.{AllMayStand}
use Rattle.plan_words.proofs.files.first_repeat.Given as goal

abbrev pub invariant-loop-i : goal.invariant-loop-i
invariant-loop-i l = AllMayStand (take l.i l.files)
