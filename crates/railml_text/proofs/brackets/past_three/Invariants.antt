use Rattle.std.proofs.Common.{◌≡◌, [], ◌∷◌, length}
use Rattle.railml_text.specs.Reading.{past_first}
use Rattle.railml_text.proofs.brackets.past_three.Given as goal

abbrev pub invariant-loop-rest : goal.invariant-loop-rest
invariant-loop-rest l = past_first (l.a ∷ l.b ∷ l.c ∷ []) l.rest ≡ past_first (l.a ∷ l.b ∷ l.c ∷ []) l.bytes

abbrev pub decreases-loop-rest : goal.decreases-loop-rest
decreases-loop-rest l = length l.rest
