use Rattle.std.proofs.Common.{◌≡◌, length}
use Rattle.railml_text.specs.Reading.{word_at}
use Rattle.railml_text.proofs.reading.word_at.Given as goal

abbrev pub invariant-loop-left : goal.invariant-loop-left
invariant-loop-left l = word_at l.left l.rest ≡ word_at l.word l.bytes

abbrev pub decreases-loop-left : goal.decreases-loop-left
decreases-loop-left l = length l.left
