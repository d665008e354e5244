use Rattle.std.proofs.Common.{sym, subst, List, ℕ}
use Rattle.plan_words.specs.declared.command.CommandWord.TheVariants.{Front}
use Rattle.plan_words.specs.declared.option_values.OptionWord.TheVariants.{Conflicts}
use Rattle.plan_words.specs.OptionValues.{IsPairText}
use Rattle.plan_words.specs.Arguments.{argument_names}
use Rattle.plan_words.proofs.SoundLemmas.{names_most}
use Rattle.plan_words.proofs.PartLemmas.{given_is_taken, all_taken, two_names, pair_taken}
use Rattle.plan_words.proofs.building.front_of.Goals as goal

pub unreachable-requires : goal.unreachable-requires
unreachable-requires c =
    let taken = pair_taken c.args.arguments.now c.name_at.result.now c.requires.sound c.name_at.ensures in
    let P : List ℕ → Type 0 = λ text. IsPairText text taken.0 taken.1 in
    c.in_default.ensures taken.0 taken.1 (subst P (sym c.as_str.ensures) taken.2)

pub grid_given-requires : goal.grid_given-requires
grid_given-requires c = all_taken Front c.args.arguments.now c.requires.sound

pub number_given-requires : goal.number_given-requires
number_given-requires c = given_is_taken Front c.args.arguments.now Conflicts c.requires.sound

pub returns-clause-parts : goal.returns-clause-parts
returns-clause-parts c =
    let P : List ℕ → Type 0 = λ text. IsPairText text c.in-Some.first c.in-Some.second in
    record {
      pair = c.name_at.result.now;
      names = two_names (argument_names c.args.arguments.now) c.in_ok-name_copy.field-0 c.name_at.result.now
          (names_most Front c.args.arguments.now c.requires.sound) c.in_ok-name_copy.ensures c.name_at.ensures;
      criteria = subst P c.as_str.ensures c.in-Some.ensures;
      width = c.grid_given.ensures.width;
      height = c.grid_given.ensures.height;
      least = c.grid_given.ensures.least;
      conflicts = c.number_given.ensures;
    }
