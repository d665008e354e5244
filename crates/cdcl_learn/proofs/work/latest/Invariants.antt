use Rattle.std.proofs.Common.{◌≡◌, ◌<◌, ◌≤◌, ℕ, get_or}
use Rattle.cnf_core.specs.Lit.{Literal}
use Rattle.cdcl_learn.proofs.work.latest.Given as goal

abbrev pub invariant-loop-i : goal.invariant-loop-i
invariant-loop-i l = record {
  below : l.best < l.len;
  is : (d : Literal) → get_or l.trail.levels (get_or l.rest l.best d).var 0 ≡ l.back;
  most : (i : ℕ) (d : Literal) → i < l.i → get_or l.trail.levels (get_or l.rest i d).var 0 ≤ l.back;
}
