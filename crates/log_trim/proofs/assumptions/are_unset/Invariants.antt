use Rattle.std.proofs.Common.{take}
use Rattle.std.specs.Prelude.{All}
use Rattle.watch_arena.specs.Trail.{IsUnset}
use Rattle.log_trim.proofs.assumptions.are_unset.Given as goal

abbrev pub invariant-loop-l : goal.invariant-loop-l
invariant-loop-l l = All (λ k. IsUnset l.trail.lits k) (take l.l-index l.lits)
