use Rattle.std.proofs.Common.{◌≡◌, ◌+◌, take}
use Rattle.cnf_core.specs.Trail.{marked}
use Rattle.refute_check.specs.Tables.{false_count}
use Rattle.refute_check.proofs.adding.count_open.Given as goal

abbrev pub invariant-loop-l : goal.invariant-loop-l
invariant-loop-l l = l.count + false_count (marked l.truth) (take l.l-index l.lits) ≡ l.l-index
