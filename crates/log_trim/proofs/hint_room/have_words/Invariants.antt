use Rattle.std.proofs.Common.{◌≡◌, ◌+◌, take}
use Rattle.std.specs.List.{sum_by}
use Rattle.cnf_core.specs.declared.limits.TheConstants.{ROOM}
use Rattle.log_trim.specs.HintRoom.{line_words}
use Rattle.log_trim.proofs.hint_room.have_words.Given as goal

abbrev pub invariant-loop-i : goal.invariant-loop-i
invariant-loop-i l = l.room + sum_by line_words (take l.i l.lines) ≡ ROOM
