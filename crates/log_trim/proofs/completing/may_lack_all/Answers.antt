use Rattle.std.proofs.Common.{◌≡◌, ◌≤◌, length, rules}
use Rattle.std.proofs.lemmas.List.{nil_from_length}
use Rattle.log_trim.proofs.CompletingLemmas.{not_wanted, readied_by_room}
use Rattle.log_trim.proofs.completing.may_lack_all.Goals as goal

pub returns-then-not-is_empty : goal.returns-then-not-is_empty
returns-then-not-is_empty c = λ e passes.
    let some : 1 ≤ length c.args.wanted.now = search rules in
    not_wanted e c.args.lines.now c.args.wanted.now c.len.ensures.told passes c.requires some

pub returns : goal.returns
returns c = λ e passes.
    let none : length c.args.wanted.now ≡ 0 = search rules in
    readied_by_room e c.args.lines.now c.args.wanted.now c.have_room.result (nil_from_length c.args.wanted.now none) (c.if-has_clause_line.ensures)
    c.have_room.ensures
