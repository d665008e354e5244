use Rattle.std.proofs.Common.{take}
use Rattle.lex_minimise.specs.Asking.{AreAssumed}
use Rattle.lex_minimise.proofs.asking.assumptions.Given as goal

abbrev pub invariant-loop-bound : goal.invariant-loop-bound
invariant-loop-bound l = AreAssumed l.told (take l.bound-index l.bounds) l.assume.items
