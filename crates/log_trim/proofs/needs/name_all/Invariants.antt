use Rattle.std.proofs.Common.{◌≡◌, ◌≤◌, ◌+◌, ℕ, length}
use Rattle.cnf_core.specs.Clause.{Clauses}
use Rattle.log_trim.specs.Found.{AreClauses, AreOnTrail, IsFoundFromFront}
use Rattle.log_trim.proofs.needs.name_all.Given as goal

abbrev pub invariant-loop-i : goal.invariant-loop-i
invariant-loop-i l = record {
  size : length l.needed ≡ length l.fn.needed;
  within : l.i ≤ length l.trail.lits;
  goes_on : (vars : ℕ) (all taken : Clauses) → AreClauses vars all taken l.arena l.numbers → length l.fn.needed ≡ vars + 1 →
      IsFoundFromFront all vars l.trail l.i l.needed l.hints.items;
  on_trail : AreOnTrail l.needed l.trail.lits;
}

abbrev pub decreases-loop-i : goal.decreases-loop-i
decreases-loop-i l = l.i
