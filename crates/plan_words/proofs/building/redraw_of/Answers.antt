use Rattle.plan_words.specs.declared.command.CommandWord.TheVariants.{Redraw}
use Rattle.plan_words.specs.declared.option_values.OptionWord.TheVariants.{Conflicts}
use Rattle.plan_words.specs.Arguments.{argument_names}
use Rattle.plan_words.proofs.SoundLemmas.{names_most}
use Rattle.plan_words.proofs.PartLemmas.{given_is_taken, all_taken, three_names}
use Rattle.plan_words.proofs.building.redraw_of.Goals as goal

pub grid_given-requires : goal.grid_given-requires
grid_given-requires c = all_taken Redraw c.args.arguments.now c.requires.sound

pub number_given-requires : goal.number_given-requires
number_given-requires c = given_is_taken Redraw c.args.arguments.now Conflicts c.requires.sound

pub returns-clause-parts : goal.returns-clause-parts
returns-clause-parts c = record {
  names = three_names (argument_names c.args.arguments.now) c.in_ok-name_copy.field-0 c.in_ok-name_copy-2.field-0 c.in_ok-name_copy-3.field-0
      (names_most Redraw c.args.arguments.now c.requires.sound) c.in_ok-name_copy.ensures c.in_ok-name_copy-2.ensures
      c.in_ok-name_copy-3.ensures;
  width = c.grid_given.ensures.width;
  height = c.grid_given.ensures.height;
  least = c.grid_given.ensures.least;
  conflicts = c.number_given.ensures;
  log_name = c.in_ok-file_given.ensures;
}
