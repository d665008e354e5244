use Rattle.std.proofs.Common.{◌≡◌, drop}
use Rattle.plan_words.specs.OptionValues.{option_word}
use Rattle.plan_words.specs.Arguments.{option_value}
use Rattle.plan_words.proofs.building.value_given.Given as goal

abbrev pub invariant-loop-argument : goal.invariant-loop-argument
invariant-loop-argument l = option_value (option_word l.option) (drop l.argument-index l.arguments) ≡ option_value (option_word l.option) l.arguments
