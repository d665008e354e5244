use Rattle.std.proofs.Common.{◌≡◌, ◌++◌, drop}
use Rattle.plan_words.specs.Arguments.{files_in}
use Rattle.plan_words.proofs.files.files_in.Given as goal

abbrev pub invariant-loop-argument : goal.invariant-loop-argument
invariant-loop-argument l = l.files.items ++ files_in l.command (drop l.argument-index l.arguments) ≡ files_in l.command l.arguments
