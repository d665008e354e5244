use Rattle.std.proofs.Common.{◌≡◌, drop}
use Rattle.cnf_core.specs.LitOrTruth.{gathered}
use Rattle.cnf_core.proofs.gather.gather_rest.Given as goal

abbrev pub invariant-loop-t : goal.invariant-loop-t
invariant-loop-t l = gathered l.lits.items (drop l.t-index l.ts) ≡ gathered l.fn.lits.items l.ts
