use Rattle.std.proofs.Common.{◌≡◌, ◌<◌, length, subst, sym, ap, arith}
use Rattle.std.specs.Prelude.{All}
use Rattle.std.proofs.lemmas.List.{take_all}
use Rattle.cnf_core.specs.Lit.{Literal, word_of}
use Rattle.watch_arena.specs.Rows.{IsRoomier, room_of}
use Rattle.watch_arena.proofs.EnterLemmas.{roomier_none, roomier_room, room_step}
use Rattle.watch_arena.proofs.attach.make_room_for.Goals as goal

pub loop-l-init : goal.loop-l-init
loop-l-init c = record { kept = roomier_none c.args.rows.now; more = λ k d lt. absurd (omega arith) }

pub make_room-requires : goal.make_room-requires
make_room-requires c =
    let all = c.requires c.loop-l.l-index c.l-item.result c.loop-l-test.true in
    let k = c.loop-l.invariant.kept in
    omega (arith, ap word_of c.l-item.is, ap length k.lists)

pub loop-l-preserved : goal.loop-l-preserved
loop-l-preserved c =
    let i = c.loop-l.invariant in
    record {
      kept = roomier_room c.args.rows.now c.loop-l.rows c.make_room.new.self (word_of c.l-item.result) i.kept c.in_ok-make_room.ensures.more;
      more = room_step c.args.rows.now c.loop-l.rows c.make_room.new.self c.args.lits.now c.loop-l.l-index c.l-item.result i.kept
          c.in_ok-make_room.ensures.more c.in_ok-make_room.ensures.room c.loop-l-test.true c.l-item.is i.more;
    }

pub returns-in_err-make_room-clause-kept : goal.returns-in_err-make_room-clause-kept
returns-in_err-make_room-clause-kept c = subst (IsRoomier c.args.rows.now) (sym c.in_err-make_room.ensures.none) c.loop-l.invariant.kept

pub returns-clause-more : goal.returns-clause-more
returns-clause-more c = subst (All (λ (x : Literal). room_of c.args.rows.now (word_of x) < room_of c.loop-l.rows (word_of x)))
    (take_all c.loop-l.l-index c.args.lits.now (omega arith)) c.loop-l.invariant.more
