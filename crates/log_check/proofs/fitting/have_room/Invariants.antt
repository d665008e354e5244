use Rattle.std.proofs.Common.{◌≡◌, ◌+◌, take}
use Rattle.std.specs.Prelude.{flat_map}
use Rattle.cnf_core.specs.declared.limits.TheConstants.{ROOM}
use Rattle.cnf_core.specs.Clause.{words_of}
use Rattle.refute_log.specs.Log.{added}
use Rattle.log_check.proofs.fitting.have_room.Given as goal

abbrev pub invariant-loop-i : goal.invariant-loop-i
invariant-loop-i l = l.room + words_of (flat_map added (take l.i l.lines)) ≡ ROOM
