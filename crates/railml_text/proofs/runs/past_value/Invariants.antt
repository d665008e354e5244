use Rattle.std.proofs.Common.{◌≡◌, length}
use Rattle.railml_text.specs.Bytes.{is_in_value, past}
use Rattle.railml_text.proofs.runs.past_value.Given as goal

abbrev pub invariant-loop-rest : goal.invariant-loop-rest
invariant-loop-rest l = past (is_in_value l.quote) l.rest ≡ past (is_in_value l.quote) l.bytes

abbrev pub decreases-loop-rest : goal.decreases-loop-rest
decreases-loop-rest l = length l.rest
