use Rattle.std.proofs.Common.{◌≤◌, ◌+◌, [], length}
use Rattle.log_check.specs.Expectation.{Expectation}
use Rattle.log_check.specs.HintProgress.{HasAcceptedHints}
use Rattle.log_check.proofs.HintJudgingLemmas.{HasRead}
use Rattle.log_check.proofs.hint_judging.judge_lines.Given as goal

abbrev pub invariant-loop-rest : goal.invariant-loop-rest
invariant-loop-rest l = record {
  read : (e : Expectation) → HasAcceptedHints e [] l.fn.checker → HasRead e l.body l.rest l.number l.checker;
  from : 3 ≤ l.number;
  few : l.number + length l.rest ≤ length l.body + 3;
}

abbrev pub decreases-loop-rest : goal.decreases-loop-rest
decreases-loop-rest l = length l.rest
