use Rattle.log_trim.specs.Hinting.{IsHinting}
use Rattle.log_trim.proofs.hint_trimming.trim.Given as goal

abbrev pub invariant-loop-i : goal.invariant-loop-i
invariant-loop-i l = IsHinting l.lines l.wanted l.i l.hinting
