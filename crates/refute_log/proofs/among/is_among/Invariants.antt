use Rattle.std.proofs.Common.{◌≡◌, drop}
use Rattle.cnf_core.specs.Lit.{has}
use Rattle.refute_log.proofs.among.is_among.Given as goal

abbrev pub invariant-loop-k : goal.invariant-loop-k
invariant-loop-k l = has (drop l.k-index l.lits) l.l ≡ has l.lits l.l
