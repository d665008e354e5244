use Rattle.std.proofs.Common.{◌≡◌, ◌≤◌, ◌<◌, ℕ, ◌+◌, ◌*◌, ◌/◌, ◌%◌, ◌∙◌, List, length, refl, sym, subst, ap, arith}
use Rattle.std.proofs.lemmas.List.{get_or_default}
use Rattle.watch_arena.specs.declared.rows.Entry.{Entry}
use Rattle.watch_arena.specs.Words.{arena_word}
use Rattle.watch_arena.specs.Rows.{Rowed, row_of, room_of, pairs_of, with_row, pushed, without}
use Rattle.watch_arena.specs.Walk.{done_of}
use Rattle.watch_arena.specs.Filed.{IsWalking}
use Rattle.watch_arena.proofs.LookLemmas.{ready, moved_all}
use Rattle.watch_arena.proofs.visits.move_watch.Goals as goal

pub swap-requires-clause-first : goal.swap-requires-clause-first
swap-requires-clause-first c =
    let r = ready _ _ _ _ _ _ _ _ _ c.requires.walking c.requires.place in
    let two = r.two in
    let within = r.within in
    omega arith

pub swap-requires-clause-second : goal.swap-requires-clause-second
swap-requires-clause-second c =
    let r = ready _ _ _ _ _ _ _ _ _ c.requires.walking c.requires.place in
    let within = r.within in
    let below = c.requires.open_.below in
    omega arith

pub swap-requires-clause-differ : goal.swap-requires-clause-differ
swap-requires-clause-differ c = let from = c.requires.open_.from in omega arith

pub take_out-requires-clause-row : goal.take_out-requires-clause-row
take_out-requires-clause-row c = let x = c.requires.walking in x.row

pub take_out-requires-clause-below : goal.take_out-requires-clause-below
take_out-requires-clause-below c = let x = c.requires.walking in let within = x.within in omega arith

pub push-requires-clause-row : goal.push-requires-clause-row
push-requires-clause-row c =
    let e : Entry = record { other = c.args.other; clause = record { 0 = c.args.s / 2 } } in
    let z = moved_all c.args.trail.now c.args.words.now c.swap.new.words c.args.places.now c.args.rows.now c.take_out.new.self c.args.w c.args.i c.args.s
    c.args.k
    e c.requires.walking c.requires.long c.requires.place c.requires.lit c.requires.open_ c.swap.ensures refl c.requires.other c.take_out.ensures in
    z.row

pub push-requires-clause-place : goal.push-requires-clause-place
push-requires-clause-place c =
    let e : Entry = record { other = c.args.other; clause = record { 0 = c.args.s / 2 } } in
    let z = moved_all c.args.trail.now c.args.words.now c.swap.new.words c.args.places.now c.args.rows.now c.take_out.new.self c.args.w c.args.i c.args.s
    c.args.k
    e c.requires.walking c.requires.long c.requires.place c.requires.lit c.requires.open_ c.swap.ensures refl c.requires.other c.take_out.ensures in
    z.room

pub returns-clause-walking : goal.returns-clause-walking
returns-clause-walking c =
    let e : Entry = record { other = c.args.other; clause = record { 0 = c.args.s / 2 } } in
    let z = moved_all c.args.trail.now c.args.words.now c.swap.new.words c.args.places.now c.args.rows.now c.take_out.new.self c.args.w c.args.i c.args.s
    c.args.k
    e c.requires.walking c.requires.long c.requires.place c.requires.lit c.requires.open_ c.swap.ensures refl c.requires.other c.take_out.ensures in
    subst (λ (r : Rowed). IsWalking c.args.trail.now c.swap.new.words c.args.places.now r (done_of c.args.trail.now) c.args.w
    (pairs_of c.args.rows.now c.args.w)
    c.args.i) (sym c.push.ensures) z.walking

pub returns-clause-pairs : goal.returns-clause-pairs
returns-clause-pairs c = ap (λ (r : Rowed). r.pairs) c.push.ensures ∙ ap (λ (r : Rowed). r.pairs) c.take_out.ensures

pub returns-clause-text : goal.returns-clause-text
returns-clause-text c =
    let e : Entry = record { other = c.args.other; clause = record { 0 = c.args.s / 2 } } in
    let z = moved_all c.args.trail.now c.args.words.now c.swap.new.words c.args.places.now c.args.rows.now c.take_out.new.self c.args.w c.args.i c.args.s
    c.args.k
    e c.requires.walking c.requires.long c.requires.place c.requires.lit c.requires.open_ c.swap.ensures refl c.requires.other c.take_out.ensures in
    z.text

pub bounds-words-s : goal.bounds-words-s
bounds-words-s c =
    let r = ready _ _ _ _ _ _ _ _ _ c.requires.walking c.requires.place in
    let two = r.two in
    let within = r.within in
    let size = c.swap.ensures.size in
    omega arith
