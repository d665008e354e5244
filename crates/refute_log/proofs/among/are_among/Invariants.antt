use Rattle.std.proofs.Common.{take}
use Rattle.std.specs.Prelude.{All, Contains}
use Rattle.refute_log.proofs.among.are_among.Given as goal

abbrev pub invariant-loop-l : goal.invariant-loop-l
invariant-loop-l l = All (λ k. Contains l.others k) (take l.l-index l.lits)
