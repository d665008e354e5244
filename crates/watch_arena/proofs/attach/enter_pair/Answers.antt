use Rattle.watch_arena.proofs.EnterLemmas.{first_row, first_room, first_paired, second_row, second_room, second_paired}
use Rattle.watch_arena.proofs.attach.enter_pair.Goals as goal

pub push_pair-requires-clause-row : goal.push_pair-requires-clause-row
push_pair-requires-clause-row c = first_row c.args.trail.now.vars c.args.words.now c.args.places.now c.args.rows.now c.args.clause c.args.a c.args.b
    c.requires.words c.word.result c.requires.entering c.word.ensures.value

pub push_pair-requires-clause-place : goal.push_pair-requires-clause-place
push_pair-requires-clause-place c = first_room c.args.trail.now.vars c.args.words.now c.args.places.now c.args.rows.now c.args.clause c.args.a c.args.b
    c.requires.words c.word.result c.requires.entering c.word.ensures.value

pub push_pair-requires-2-clause-row : goal.push_pair-requires-2-clause-row
push_pair-requires-2-clause-row c =
    let x = first_paired c.args.trail.now.vars c.args.words.now c.args.places.now c.args.rows.now c.args.clause c.args.a c.args.b
    c.requires.words c.word.result c.requires.entering c.word.ensures.value c.requires.two c.push_pair.new.self c.push_pair.ensures in
    second_row c.args.trail.now.vars c.args.words.now c.args.places.now c.push_pair.new.self c.args.clause c.args.a c.args.b c.requires.words
    c.word-2.result x c.word-2.ensures.value

pub push_pair-requires-2-clause-place : goal.push_pair-requires-2-clause-place
push_pair-requires-2-clause-place c =
    let x = first_paired c.args.trail.now.vars c.args.words.now c.args.places.now c.args.rows.now c.args.clause c.args.a c.args.b
    c.requires.words c.word.result c.requires.entering c.word.ensures.value c.requires.two c.push_pair.new.self c.push_pair.ensures in
    second_room c.args.trail.now.vars c.args.words.now c.args.places.now c.push_pair.new.self c.args.clause c.args.a c.args.b c.requires.words
    c.word-2.result x c.word-2.ensures.value

pub returns : goal.returns
returns c =
    let x = first_paired c.args.trail.now.vars c.args.words.now c.args.places.now c.args.rows.now c.args.clause c.args.a c.args.b
    c.requires.words c.word.result c.requires.entering c.word.ensures.value c.requires.two c.push_pair.new.self c.push_pair.ensures in
    second_paired c.args.trail.now.vars c.args.words.now c.args.places.now c.push_pair.new.self c.args.clause c.args.a c.args.b c.requires.words
    c.word-2.result x c.word-2.ensures.value c.requires.two c.push_pair-2.new.self c.push_pair-2.ensures
