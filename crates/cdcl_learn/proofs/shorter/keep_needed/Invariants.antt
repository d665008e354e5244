use Rattle.std.proofs.Common.{◌≡◌, ◌≤◌, ℕ, length, get_or, take}
use Rattle.cnf_core.specs.Lit.{Literal}
use Rattle.cdcl_learn.specs.Sight.{sight}
use Rattle.cdcl_learn.specs.Shorter.{AreImplied, IsShortenedBy}
use Rattle.cdcl_learn.proofs.shorter.keep_needed.Given as goal

abbrev pub invariant-loop-i : goal.invariant-loop-i
invariant-loop-i l = record {
  fewer : l.left ≤ l.i;
  same : (j : ℕ) (d : Literal) → l.i ≤ j → get_or l.rest j d ≡ get_or l.fn.rest j d;
  tables : length l.found ≡ length l.fn.found;
  implied : AreImplied (sight l.arena l.trail) l.seen l.found;
  shortened : IsShortenedBy (sight l.arena l.trail) l.seen l.found (take l.i l.fn.rest) (take l.left l.rest);
}
