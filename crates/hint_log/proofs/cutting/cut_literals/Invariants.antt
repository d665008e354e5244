use Rattle.hint_log.specs.Parts.{NoZeroBefore}
use Rattle.hint_log.proofs.cutting.cut_literals.Given as goal

abbrev pub invariant-loop-place : goal.invariant-loop-place
invariant-loop-place l = NoZeroBefore l.text l.place
