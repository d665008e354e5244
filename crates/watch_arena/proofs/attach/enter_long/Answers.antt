use Rattle.watch_arena.proofs.EnterLemmas.{first_row, first_room, first_pushed, second_row, second_room, second_pushed}
use Rattle.watch_arena.proofs.attach.enter_long.Goals as goal

pub push-requires-clause-row : goal.push-requires-clause-row
push-requires-clause-row c = first_row c.args.trail.now.vars c.args.words.now c.args.places.now c.args.rows.now c.args.clause c.args.a c.args.b
    c.requires.words c.word.result c.requires.entering c.word.ensures.value

pub push-requires-clause-place : goal.push-requires-clause-place
push-requires-clause-place c = first_room c.args.trail.now.vars c.args.words.now c.args.places.now c.args.rows.now c.args.clause c.args.a c.args.b
    c.requires.words c.word.result c.requires.entering c.word.ensures.value

pub push-requires-2-clause-row : goal.push-requires-2-clause-row
push-requires-2-clause-row c =
    let x = first_pushed c.args.trail.now.vars c.args.words.now c.args.places.now c.args.rows.now c.args.clause c.args.a c.args.b
    c.requires.words c.word.result c.requires.entering c.word.ensures.value c.push.new.self c.push.ensures in
    second_row c.args.trail.now.vars c.args.words.now c.args.places.now c.push.new.self c.args.clause c.args.a c.args.b c.requires.words
    c.word-2.result x c.word-2.ensures.value

pub push-requires-2-clause-place : goal.push-requires-2-clause-place
push-requires-2-clause-place c =
    let x = first_pushed c.args.trail.now.vars c.args.words.now c.args.places.now c.args.rows.now c.args.clause c.args.a c.args.b
    c.requires.words c.word.result c.requires.entering c.word.ensures.value c.push.new.self c.push.ensures in
    second_room c.args.trail.now.vars c.args.words.now c.args.places.now c.push.new.self c.args.clause c.args.a c.args.b c.requires.words
    c.word-2.result x c.word-2.ensures.value

pub returns : goal.returns
returns c =
    let x = first_pushed c.args.trail.now.vars c.args.words.now c.args.places.now c.args.rows.now c.args.clause c.args.a c.args.b
    c.requires.words c.word.result c.requires.entering c.word.ensures.value c.push.new.self c.push.ensures in
    second_pushed c.args.trail.now.vars c.args.words.now c.args.places.now c.push.new.self c.args.clause c.args.a c.args.b c.requires.words
    c.word-2.result x c.word-2.ensures.value c.push-2.new.self c.push-2.ensures
