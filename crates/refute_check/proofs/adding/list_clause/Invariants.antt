use Rattle.std.proofs.Common.{take}
use Rattle.refute_check.specs.Tables.{Lists}
use Rattle.refute_check.proofs.adding.list_clause.Given as goal

abbrev pub invariant-loop-l : goal.invariant-loop-l
invariant-loop-l l = Lists (take l.l-index l.lits) l.number l.lits l.fn.occurrences.items l.occurrences.items
