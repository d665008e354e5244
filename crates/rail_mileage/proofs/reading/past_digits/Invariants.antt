use Rattle.std.proofs.Common.{◌≡◌, length}
use Rattle.railml_text.specs.Bytes.{past}
use Rattle.std.specs.Char.{is_ascii_digit}
use Rattle.rail_mileage.proofs.reading.past_digits.Given as goal

abbrev pub invariant-loop-rest : goal.invariant-loop-rest
invariant-loop-rest l = past is_ascii_digit l.rest ≡ past is_ascii_digit l.text

abbrev pub decreases-loop-rest : goal.decreases-loop-rest
decreases-loop-rest l = length l.rest
