use Rattle.std.proofs.Common.{◌≡◌, ◌≤◌, length}
use Rattle.railml_text.specs.Bytes.{is_in_text, past}
use Rattle.railml_text.proofs.runs.past_text.Given as goal

abbrev pub invariant-loop-rest : goal.invariant-loop-rest
invariant-loop-rest l = record {
  past : past is_in_text l.rest ≡ past is_in_text l.bytes;
  shorter : length l.rest ≤ length l.bytes;
}

abbrev pub decreases-loop-rest : goal.decreases-loop-rest
decreases-loop-rest l = length l.rest
