use Rattle.std.proofs.Common.{◌≤◌, ℕ, take}
use Rattle.cnf_core.specs.Clause.{AreThere}
use Rattle.cnf_core.specs.declared.limits.TheConstants.{LAST_VAR}
use Rattle.log_trim.proofs.hint_trimming.greatest.Given as goal

abbrev pub invariant-loop-l : goal.invariant-loop-l
invariant-loop-l l = record {
  there : AreThere l.most (take l.l-index l.lits);
  least : (n : ℕ) → AreThere n l.lits → l.most ≤ n;
  limit : l.most ≤ LAST_VAR;
}
