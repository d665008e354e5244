use Rattle.std.proofs.Common.{take}
use Rattle.refute_check.specs.Words.{HasWords}
use Rattle.refute_check.proofs.question.words_of.Given as goal

abbrev pub invariant-loop-l : goal.invariant-loop-l
invariant-loop-l l = HasWords l.words (take l.l-index l.lits)
