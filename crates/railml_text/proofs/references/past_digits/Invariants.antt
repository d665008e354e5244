use Rattle.std.proofs.Common.{◌≡◌, length}
use Rattle.std.specs.Char.{is_digit}
use Rattle.railml_text.specs.Bytes.{past}
use Rattle.railml_text.proofs.references.past_digits.Given as goal

abbrev pub invariant-loop-rest : goal.invariant-loop-rest
invariant-loop-rest l = past (λ b. is_digit b l.base) l.rest ≡ past (λ b. is_digit b l.base) l.bytes

abbrev pub decreases-loop-rest : goal.decreases-loop-rest
decreases-loop-rest l = length l.rest
