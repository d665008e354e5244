use Rattle.std.proofs.Common.{take}
use Rattle.cnf_core.specs.Trail.{marked}
use Rattle.refute_check.proofs.ScanLemmas.{Seen}
use Rattle.refute_check.proofs.scan.scan_clause.Given as goal

abbrev pub invariant-loop-l : goal.invariant-loop-l
invariant-loop-l l = Seen (marked l.truth) (take l.l-index l.clause) l.candidate
