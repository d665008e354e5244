use Rattle.std.proofs.Common.{◌≡◌, ◌+◌, ◌*◌, ◌<◌, ◌⊎◌, ℕ, get_or}
use Rattle.cnf_core.specs.Lit.{Literal}
use Rattle.cdcl_learn.specs.Sight.{sight, clause_in}
use Rattle.cdcl_learn.specs.Shorter.{IsFounded, AreImplied, KeepsImplied}
use Rattle.cdcl_learn.proofs.shorter.+redundance.Given as goal

abbrev pub decreases-is_covered : goal.decreases-is_covered
decreases-is_covered l = 2 * l.depth

abbrev pub decreases-is_redundant : goal.decreases-is_redundant
decreases-is_redundant l = 2 * l.depth + 1

abbrev pub invariant-is_redundant-loop-i : goal.invariant-is_redundant-loop-i
invariant-is_redundant-loop-i l = record {
  implied : AreImplied (sight l.arena l.trail) l.seen l.found;
  keeps : KeepsImplied l.fn.found l.found;
  met : (j : ℕ) (d : Literal) → j < l.i → ((get_or (clause_in (sight l.arena l.trail) l.c.0) j d).var ≡ l.fn.k.var) ⊎ IsFounded l.seen l.found l.trail.levels
      (get_or (clause_in (sight l.arena l.trail) l.c.0) j d).var;
}
