use Rattle.plan_words.specs.declared.command.CommandWord.TheVariants.{Draw}
use Rattle.plan_words.specs.declared.option_values.OptionWord.TheVariants.{Conflicts}
use Rattle.plan_words.specs.Arguments.{argument_names}
use Rattle.plan_words.proofs.SoundLemmas.{names_most}
use Rattle.plan_words.proofs.PartLemmas.{given_is_taken, all_taken, one_name}
use Rattle.plan_words.proofs.building.draw_of.Goals as goal

pub grid_given-requires : goal.grid_given-requires
grid_given-requires c = all_taken Draw c.args.arguments.now c.requires.sound

pub order_given-requires : goal.order_given-requires
order_given-requires c = all_taken Draw c.args.arguments.now c.requires.sound

pub number_given-requires : goal.number_given-requires
number_given-requires c = given_is_taken Draw c.args.arguments.now Conflicts c.requires.sound

pub returns-clause-parts : goal.returns-clause-parts
returns-clause-parts c = record {
  names = one_name (argument_names c.args.arguments.now) c.in_ok-name_copy.field-0 (names_most Draw c.args.arguments.now c.requires.sound)
      c.in_ok-name_copy.ensures;
  width = c.grid_given.ensures.width;
  height = c.grid_given.ensures.height;
  least = c.grid_given.ensures.least;
  criteria = c.order_given.ensures;
  conflicts = c.number_given.ensures;
  svg_name = c.in_ok-file_given.ensures;
  log_name = c.in_ok-file_given-2.ensures;
}
