use Rattle.std.proofs.Common.{[], take}
use Rattle.plan_words.specs.Soundness.{SoundFrom}
use Rattle.plan_words.proofs.leftmost.leftmost_fault.Given as goal

abbrev pub invariant-loop-i : goal.invariant-loop-i
invariant-loop-i l = SoundFrom l.command [] (take l.i l.arguments)
