use Rattle.plan_words.specs.declared.command.CommandWord.TheVariants.{Recheck}
use Rattle.plan_words.specs.Arguments.{argument_names}
use Rattle.plan_words.proofs.SoundLemmas.{names_most}
use Rattle.plan_words.proofs.PartLemmas.{three_names}
use Rattle.plan_words.proofs.building.recheck_of.Goals as goal

pub returns-clause-parts : goal.returns-clause-parts
returns-clause-parts c =
    three_names (argument_names c.args.arguments.now) c.in_ok-name_copy.field-0 c.in_ok-name_copy-2.field-0 c.in_ok-name_copy-3.field-0
    (names_most Recheck c.args.arguments.now c.requires.sound) c.in_ok-name_copy.ensures c.in_ok-name_copy-2.ensures
    c.in_ok-name_copy-3.ensures
