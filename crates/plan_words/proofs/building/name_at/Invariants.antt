use Rattle.std.proofs.Common.{◌≡◌, ◌<◌, length, drop}
use Rattle.std.specs.Prelude.{slice_get}
use Rattle.plan_words.specs.Arguments.{argument_names}
use Rattle.plan_words.proofs.building.name_at.Given as goal

abbrev pub invariant-loop-argument : goal.invariant-loop-argument
invariant-loop-argument l = record {
  there : l.left < length (argument_names (drop l.argument-index l.arguments));
  same : slice_get (argument_names (drop l.argument-index l.arguments)) l.left ≡ slice_get (argument_names l.arguments) l.place;
}
