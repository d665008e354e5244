use Rattle.std.proofs.Common.{rules, arith, ◌≡◌, ◌<◌, ◌+◌, ◌∙◌, ℕ, List, length, get_or, sym, ap, take, drop, vec_len}
use Rattle.std.specs.Vec.{with_items}
use Rattle.std.proofs.lemmas.List.{take_at, get_or-set_same}
use Rattle.cnf_core.specs.Lit.{word_of}
use Rattle.watch_arena.specs.declared.rows.Row.{Row}
use Rattle.watch_arena.specs.declared.rows.Space.{Space}
use Rattle.watch_arena.specs.Rows.{Rowed, rowed_of, room_of}
use Rattle.watch_arena.proofs.RoomLemmas.{counted_all, rooms_size}
use Rattle.watch_arena.proofs.rows.Rows.make_room.Goals as goal

pub invariant_of-self-2 : goal.invariant_of-self-2
invariant_of-self-2 c =
    let e = c.ensure_place.new in
    let rows_size : length c.ensure_place.new.rows ≡ length c.deref_mut.result.now = c.ensure_place.auto.rows in
    let rows_len : length c.deref_mut.result.now ≡ vec_len c.self.inside.rows = search rules in
    let rows = with_items c.self.inside.rows c.ensure_place.new.rows in
    let rows_is : rows.items ≡ c.ensure_place.new.rows = take_at c.ensure_place.new.rows (drop (length c.ensure_place.new.rows) c.self.inside.rows.items)
    (vec_len c.self.inside.rows) (rows_size ∙ rows_len) in
    let spaces_size : length c.ensure_place.new.spaces ≡ length c.deref_mut-2.result.now = c.ensure_place.auto.spaces in
    let spaces_len : length c.deref_mut-2.result.now ≡ vec_len c.self.inside.spaces = search rules in
    let spaces = with_items c.self.inside.spaces c.ensure_place.new.spaces in
    let spaces_is : spaces.items ≡ c.ensure_place.new.spaces = take_at c.ensure_place.new.spaces
    (drop (length c.ensure_place.new.spaces) c.self.inside.spaces.items) (vec_len c.self.inside.spaces) (spaces_size ∙ spaces_len) in
    let view : rowed_of c.ensure_place.new.rows c.ensure_place.new.spaces c.ensure_place.new.entries.items ≡ c.args.self.now = c.ensure_place.ensures.same
    ∙ ap (λ (rs : List Row). rowed_of rs c.deref_mut-2.result.now c.self.inside.entries.items) c.deref_mut.ensures.value
    ∙ ap (λ (ss : List Space). rowed_of c.self.inside.rows.items ss c.self.inside.entries.items) c.deref_mut-2.ensures.value ∙ c.self.view_is in
    let z = counted_all c.ensure_place.new.rows rows.items c.ensure_place.new.spaces spaces.items c.ensure_place.new.entries.items c.word-w.result
    (word_of c.args.l) c.args.self.now c.index_mut.result.now rows_is spaces_is c.ensure_place.ensures.rows view c.word-w.ensures.value c.requires
    c.in_ok-ensure_place.ensures.place c.index_mut.ensures.value in
    z.ok

pub returns-clause-more : goal.returns-clause-more
returns-clause-more c =
    let e = c.ensure_place.new in
    let rows_size : length c.ensure_place.new.rows ≡ length c.deref_mut.result.now = c.ensure_place.auto.rows in
    let rows_len : length c.deref_mut.result.now ≡ vec_len c.self.inside.rows = search rules in
    let rows = with_items c.self.inside.rows c.ensure_place.new.rows in
    let rows_is : rows.items ≡ c.ensure_place.new.rows = take_at c.ensure_place.new.rows (drop (length c.ensure_place.new.rows) c.self.inside.rows.items)
    (vec_len c.self.inside.rows) (rows_size ∙ rows_len) in
    let spaces_size : length c.ensure_place.new.spaces ≡ length c.deref_mut-2.result.now = c.ensure_place.auto.spaces in
    let spaces_len : length c.deref_mut-2.result.now ≡ vec_len c.self.inside.spaces = search rules in
    let spaces = with_items c.self.inside.spaces c.ensure_place.new.spaces in
    let spaces_is : spaces.items ≡ c.ensure_place.new.spaces = take_at c.ensure_place.new.spaces
    (drop (length c.ensure_place.new.spaces) c.self.inside.spaces.items) (vec_len c.self.inside.spaces) (spaces_size ∙ spaces_len) in
    let view : rowed_of c.ensure_place.new.rows c.ensure_place.new.spaces c.ensure_place.new.entries.items ≡ c.args.self.now = c.ensure_place.ensures.same
    ∙ ap (λ (rs : List Row). rowed_of rs c.deref_mut-2.result.now c.self.inside.entries.items) c.deref_mut.ensures.value
    ∙ ap (λ (ss : List Space). rowed_of c.self.inside.rows.items ss c.self.inside.entries.items) c.deref_mut-2.ensures.value ∙ c.self.view_is in
    let z = counted_all c.ensure_place.new.rows rows.items c.ensure_place.new.spaces spaces.items c.ensure_place.new.entries.items c.word-w.result
    (word_of c.args.l) c.args.self.now c.index_mut.result.now rows_is spaces_is c.ensure_place.ensures.rows view c.word-w.ensures.value c.requires
    c.in_ok-ensure_place.ensures.place c.index_mut.ensures.value in
    z.view

pub returns-clause-room : goal.returns-clause-room
returns-clause-room c =
    let e = c.ensure_place.new in
    let rows_size : length c.ensure_place.new.rows ≡ length c.deref_mut.result.now = c.ensure_place.auto.rows in
    let rows_len : length c.deref_mut.result.now ≡ vec_len c.self.inside.rows = search rules in
    let rows = with_items c.self.inside.rows c.ensure_place.new.rows in
    let rows_is : rows.items ≡ c.ensure_place.new.rows = take_at c.ensure_place.new.rows (drop (length c.ensure_place.new.rows) c.self.inside.rows.items)
    (vec_len c.self.inside.rows) (rows_size ∙ rows_len) in
    let spaces_size : length c.ensure_place.new.spaces ≡ length c.deref_mut-2.result.now = c.ensure_place.auto.spaces in
    let spaces_len : length c.deref_mut-2.result.now ≡ vec_len c.self.inside.spaces = search rules in
    let spaces = with_items c.self.inside.spaces c.ensure_place.new.spaces in
    let spaces_is : spaces.items ≡ c.ensure_place.new.spaces = take_at c.ensure_place.new.spaces
    (drop (length c.ensure_place.new.spaces) c.self.inside.spaces.items) (vec_len c.self.inside.spaces) (spaces_size ∙ spaces_len) in
    let view : rowed_of c.ensure_place.new.rows c.ensure_place.new.spaces c.ensure_place.new.entries.items ≡ c.args.self.now = c.ensure_place.ensures.same
    ∙ ap (λ (rs : List Row). rowed_of rs c.deref_mut-2.result.now c.self.inside.entries.items) c.deref_mut.ensures.value
    ∙ ap (λ (ss : List Space). rowed_of c.self.inside.rows.items ss c.self.inside.entries.items) c.deref_mut-2.ensures.value ∙ c.self.view_is in
    let z = counted_all c.ensure_place.new.rows rows.items c.ensure_place.new.spaces spaces.items c.ensure_place.new.entries.items c.word-w.result
    (word_of c.args.l) c.args.self.now c.index_mut.result.now rows_is spaces_is c.ensure_place.ensures.rows view c.word-w.ensures.value c.requires
    c.in_ok-ensure_place.ensures.place c.index_mut.ensures.value in
    let below = c.requires in
    let same = rooms_size c.self.inside.rows.items c.self.inside.spaces.items c.self.inside.entries.items c.args.self.now c.self.invariant c.self.view_is in
    ap (λ (r : Rowed). room_of r (word_of c.args.l)) z.view
    ∙ get_or-set_same c.args.self.now.rooms (word_of c.args.l) (room_of c.args.self.now (word_of c.args.l) + 1) 0 (omega arith)
