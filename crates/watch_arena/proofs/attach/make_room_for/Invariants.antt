use Rattle.std.proofs.Common.{◌<◌, take}
use Rattle.std.specs.Prelude.{All}
use Rattle.cnf_core.specs.Lit.{Literal, word_of}
use Rattle.watch_arena.specs.Rows.{IsRoomier, room_of}
use Rattle.watch_arena.proofs.attach.make_room_for.Given as goal

abbrev pub invariant-loop-l : goal.invariant-loop-l
invariant-loop-l l = record {
  kept : IsRoomier l.fn.rows l.rows;
  more : All (λ (x : Literal). room_of l.fn.rows (word_of x) < room_of l.rows (word_of x)) (take l.l-index l.lits);
}
