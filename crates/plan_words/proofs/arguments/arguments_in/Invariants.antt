use Rattle.std.proofs.Common.{◌≡◌, ◌≤◌, ◌+◌, ◌-◌, ◌++◌, length}
use Rattle.plan_words.specs.Arguments.{texts_of, arguments_from}
use Rattle.plan_words.proofs.arguments.arguments_in.Given as goal

abbrev pub invariant-loop-rest : goal.invariant-loop-rest
invariant-loop-rest l = record {
  cut : l.list.items ++ arguments_from l.position (texts_of l.rest) ≡ arguments_from 2 (texts_of l.words);
  place : l.position + length l.rest ≤ length l.words + 2 + (1 - length l.rest);
}

abbrev pub decreases-loop-rest : goal.decreases-loop-rest
decreases-loop-rest l = length l.rest
