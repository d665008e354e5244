use Rattle.std.proofs.Common.{◌≤◌, ◌+◌, [], length}
use Rattle.log_check.specs.Expectation.{Expectation}
use Rattle.log_check.specs.Progress.{HasAccepted}
use Rattle.log_check.proofs.JudgingLemmas.{HasRead}
use Rattle.log_check.proofs.judging.judge_lines.Given as goal

abbrev pub invariant-loop-rest : goal.invariant-loop-rest
invariant-loop-rest l = record {
  read : (e : Expectation) → HasAccepted e [] l.fn.progress → HasRead e l.log l.rest l.number l.progress;
  few : l.number + length l.rest ≤ length l.log + 2;
}

abbrev pub decreases-loop-rest : goal.decreases-loop-rest
decreases-loop-rest l = length l.rest
