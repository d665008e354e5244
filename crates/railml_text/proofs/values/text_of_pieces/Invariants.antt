use Rattle.std.proofs.Common.{length}
use Rattle.railml_text.proofs.ValueLemmas.{SoFar}
use Rattle.railml_text.proofs.values.text_of_pieces.Given as goal

abbrev pub invariant-loop-rest : goal.invariant-loop-rest
invariant-loop-rest l = SoFar l.value l.text.items l.rest

abbrev pub decreases-loop-rest : goal.decreases-loop-rest
decreases-loop-rest l = length l.rest
