use Rattle.std.proofs.Common.{take}
use Rattle.refute_check.proofs.ShortLemmas.{LookedBeside}
use Rattle.refute_check.proofs.looks.look_beside_each.Given as goal

abbrev pub invariant-loop-r : goal.invariant-loop-r
invariant-loop-r l = LookedBeside l.formula.vars l.formula.clauses l.l (take l.r-index l.shorts) l.fn.trail.items l.truth l.trail.items
