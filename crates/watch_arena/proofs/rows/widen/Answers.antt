use Rattle.std.proofs.Common.{rules, arith, ◌≡◌, ◌≤◌, ◌<◌, ◌+◌, ◌*◌, ◌^◌, ◌∙◌, ℕ, List, length, sym, subst, ap, take, drop, vec_len}
use Rattle.std.specs.Vec.{with_items}
use Rattle.std.proofs.lemmas.List.{take_at}
use Rattle.watch_arena.specs.declared.rows.Entry.{Entry}
use Rattle.watch_arena.specs.Rows.{row_at, space_at, entries_of}
use Rattle.watch_arena.proofs.RoomLemmas.{IsWidened, widened_by, widened_all}
use Rattle.watch_arena.proofs.rows.widen.Goals as goal

pub returns-clause-rows : goal.returns-clause-rows
returns-clause-rows c =
    let es = c.args.entries.now.items in
    let size = c.max-size.result in
    let n : c.len-before.result ≡ length es = search rules in
    let same : length c.copy_to.new.entries ≡ length c.deref_mut.result.now = c.copy_to.auto.entries in
    let len : length c.deref_mut.result.now ≡ vec_len c.lengthen.new.table = search rules in
    let v = with_items c.lengthen.new.table c.copy_to.new.entries in
    let items : v.items ≡ c.copy_to.new.entries = take_at c.copy_to.new.entries (drop (length c.copy_to.new.entries) c.lengthen.new.table.items)
    (vec_len c.lengthen.new.table) (same ∙ len) in
    let h = c.requires.rows in
    let y = h.row c.args.w c.requires.below in
    let clauses = y.clauses in
    let once = c.max-twice.ensures in
    let max = c.max-size.ensures in
    let small = c.if-before-size.false in
    let x = widened_by c.args.rows.now c.args.spaces.now es c.deref_mut.result.now c.copy_to.new.entries c.args.w size c.len-before.result c.args.filler h
    c.requires.below n (c.deref_mut.ensures.value ∙ c.in_ok-lengthen.ensures.more) same c.copy_to.ensures.front c.copy_to.ensures.copied (omega arith)
    (omega arith) in
    let z = widened_all c.args.rows.now c.args.spaces.now es c.copy_to.new.entries v.items c.args.w size c.len-before.result h c.requires.below x n items in
    z.ok

pub returns-clause-same : goal.returns-clause-same
returns-clause-same c =
    let es = c.args.entries.now.items in
    let size = c.max-size.result in
    let n : c.len-before.result ≡ length es = search rules in
    let same : length c.copy_to.new.entries ≡ length c.deref_mut.result.now = c.copy_to.auto.entries in
    let len : length c.deref_mut.result.now ≡ vec_len c.lengthen.new.table = search rules in
    let v = with_items c.lengthen.new.table c.copy_to.new.entries in
    let items : v.items ≡ c.copy_to.new.entries = take_at c.copy_to.new.entries (drop (length c.copy_to.new.entries) c.lengthen.new.table.items)
    (vec_len c.lengthen.new.table) (same ∙ len) in
    let h = c.requires.rows in
    let y = h.row c.args.w c.requires.below in
    let clauses = y.clauses in
    let once = c.max-twice.ensures in
    let max = c.max-size.ensures in
    let small = c.if-before-size.false in
    let x = widened_by c.args.rows.now c.args.spaces.now es c.deref_mut.result.now c.copy_to.new.entries c.args.w size c.len-before.result c.args.filler h
    c.requires.below n (c.deref_mut.ensures.value ∙ c.in_ok-lengthen.ensures.more) same c.copy_to.ensures.front c.copy_to.ensures.copied (omega arith)
    (omega arith) in
    let z = widened_all c.args.rows.now c.args.spaces.now es c.copy_to.new.entries v.items c.args.w size c.len-before.result h c.requires.below x n items in
    z.same

pub returns-clause-place : goal.returns-clause-place
returns-clause-place c =
    let es = c.args.entries.now.items in
    let size = c.max-size.result in
    let n : c.len-before.result ≡ length es = search rules in
    let same : length c.copy_to.new.entries ≡ length c.deref_mut.result.now = c.copy_to.auto.entries in
    let len : length c.deref_mut.result.now ≡ vec_len c.lengthen.new.table = search rules in
    let v = with_items c.lengthen.new.table c.copy_to.new.entries in
    let items : v.items ≡ c.copy_to.new.entries = take_at c.copy_to.new.entries (drop (length c.copy_to.new.entries) c.lengthen.new.table.items)
    (vec_len c.lengthen.new.table) (same ∙ len) in
    let h = c.requires.rows in
    let y = h.row c.args.w c.requires.below in
    let clauses = y.clauses in
    let once = c.max-twice.ensures in
    let max = c.max-size.ensures in
    let small = c.if-before-size.false in
    let x = widened_by c.args.rows.now c.args.spaces.now es c.deref_mut.result.now c.copy_to.new.entries c.args.w size c.len-before.result c.args.filler h
    c.requires.below n (c.deref_mut.ensures.value ∙ c.in_ok-lengthen.ensures.more) same c.copy_to.ensures.front c.copy_to.ensures.copied (omega arith)
    (omega arith) in
    let z = widened_all c.args.rows.now c.args.spaces.now es c.copy_to.new.entries v.items c.args.w size c.len-before.result h c.requires.below x n items in
    z.place
