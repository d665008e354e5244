use Rattle.std.proofs.Common.{◌≡◌, take}
use Rattle.cnf_core.specs.declared.limits.TheConstants.{ROOM}
use Rattle.log_check.proofs.hint_expecting.copied.Given as goal

abbrev pub invariant-loop-i : goal.invariant-loop-i
invariant-loop-i l = record {
  clauses : l.copy.clauses ≡ take l.i l.f.clauses;
  vars : l.copy.vars ≡ l.f.vars;
  room : l.copy.room ≡ ROOM;
}
