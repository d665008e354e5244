use Rattle.std.proofs.Common.{◌≡◌, ◌++◌, replicate}
use Rattle.cnf_core.proofs.tables.lengthen.Given as goal

abbrev pub invariant-loop-i : goal.invariant-loop-i
invariant-loop-i g l = l.table.items ≡ l.fn.table.items ++ replicate l.i l.value
