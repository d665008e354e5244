use Rattle.std.proofs.Common.{◌≡◌, ◌≤◌, ◌+◌, length, drop}
use Rattle.plan_words.specs.Arguments.{argument_names}
use Rattle.plan_words.proofs.leftmost.count_names.Given as goal

abbrev pub invariant-loop-argument : goal.invariant-loop-argument
invariant-loop-argument l = record {
  left : l.count + length (argument_names (drop l.argument-index l.arguments)) ≡ length (argument_names l.arguments);
  within : l.count ≤ l.argument-index;
}
