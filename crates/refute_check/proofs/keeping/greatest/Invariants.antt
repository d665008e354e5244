use Rattle.std.proofs.Common.{◌≡◌, take}
use Rattle.cnf_core.specs.Propagation.{greatest_in}
use Rattle.refute_check.proofs.keeping.greatest.Given as goal

abbrev pub invariant-loop-l : goal.invariant-loop-l
invariant-loop-l l = l.most ≡ greatest_in (take l.l-index l.lits)
