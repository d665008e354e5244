use Rattle.std.proofs.Common.{◌≤◌, length, subst}
use Rattle.plan_words.specs.declared.command.CommandWord.{CommandWord}
use Rattle.plan_words.specs.Arguments.{argument_names}
use Rattle.plan_words.specs.WordFaults.{name_count}
use Rattle.plan_words.proofs.SoundLemmas.{names_most}
use Rattle.plan_words.proofs.PartLemmas.{one_name, two_names, three_names}
use Rattle.plan_words.proofs.building.command_of.Goals as goal

pub returns-in_ok-name_copy-in-Verify-2-clause-parts : goal.returns-in_ok-name_copy-in-Verify-2-clause-parts
returns-in_ok-name_copy-in-Verify-2-clause-parts c =
    let P : CommandWord → Type 0 = λ command. length (argument_names c.args.arguments.now) ≤ name_count command in
    two_names (argument_names c.args.arguments.now) c.in_ok-name_copy-in-Verify.field-0 c.in_ok-name_copy-in-Verify-2.field-0
    (subst P c.in-Verify.is (names_most c.args.command c.args.arguments.now c.requires.sound)) c.in_ok-name_copy-in-Verify.ensures
    c.in_ok-name_copy-in-Verify-2.ensures

pub returns-in_ok-name_copy-in-Check-3-clause-parts : goal.returns-in_ok-name_copy-in-Check-3-clause-parts
returns-in_ok-name_copy-in-Check-3-clause-parts c =
    let P : CommandWord → Type 0 = λ command. length (argument_names c.args.arguments.now) ≤ name_count command in
    three_names (argument_names c.args.arguments.now) c.in_ok-name_copy-in-Check.field-0 c.in_ok-name_copy-in-Check-2.field-0
    c.in_ok-name_copy-in-Check-3.field-0 (subst P c.in-Check.is (names_most c.args.command c.args.arguments.now c.requires.sound))
    c.in_ok-name_copy-in-Check.ensures c.in_ok-name_copy-in-Check-2.ensures c.in_ok-name_copy-in-Check-3.ensures

pub returns-in_ok-name_copy-in-Graph-clause-parts : goal.returns-in_ok-name_copy-in-Graph-clause-parts
returns-in_ok-name_copy-in-Graph-clause-parts c =
    let P : CommandWord → Type 0 = λ command. length (argument_names c.args.arguments.now) ≤ name_count command in
    one_name (argument_names c.args.arguments.now) c.in_ok-name_copy-in-Graph.field-0
    (subst P c.in-Graph.is (names_most c.args.command c.args.arguments.now c.requires.sound)) c.in_ok-name_copy-in-Graph.ensures
