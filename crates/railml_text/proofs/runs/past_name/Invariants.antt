use Rattle.std.proofs.Common.{◌≡◌, length}
use Rattle.railml_text.specs.Bytes.{goes_on_name, past}
use Rattle.railml_text.proofs.runs.past_name.Given as goal

abbrev pub invariant-loop-rest : goal.invariant-loop-rest
invariant-loop-rest l = past goes_on_name l.rest ≡ past goes_on_name l.bytes

abbrev pub decreases-loop-rest : goal.decreases-loop-rest
decreases-loop-rest l = length l.rest
