use Rattle.std.proofs.Common.{◌≡◌, ◌++◌, map, drop}
use Rattle.refute_log.specs.declared.line.LogLine.TheVariants.{Formula}
use Rattle.log_trim.proofs.completing.complete.Given as goal

abbrev pub invariant-loop-i : goal.invariant-loop-i
invariant-loop-i l = l.lines ++ map Formula (drop l.i l.formula.clauses) ≡ l.fn.lines ++ map Formula (drop l.count l.formula.clauses)
