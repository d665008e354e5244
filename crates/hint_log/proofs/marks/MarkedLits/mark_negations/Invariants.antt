use Rattle.std.proofs.Common.{◌≡◌, ◌++◌, map, take}
use Rattle.cnf_core.specs.Lit.{negate}
use Rattle.hint_log.proofs.marks.MarkedLits.mark_negations.Given as goal

abbrev pub invariant-loop-l : goal.invariant-loop-l
invariant-loop-l l = l.self ≡ l.fn.self ++ map negate (take l.l-index l.lits)
