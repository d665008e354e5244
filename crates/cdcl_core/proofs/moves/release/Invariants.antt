use Rattle.std.proofs.Common.{◌≡◌, ◌≤◌, ◌<◌, ◌+◌, ℕ, length, true, get_or}
use Rattle.cnf_core.specs.Lit.{literal}
use Rattle.pick_heap.specs.Heap.{IsHeld}
use Rattle.cdcl_core.specs.Roots.{AreOffered}
use Rattle.cdcl_core.proofs.moves.release.Given as goal

abbrev pub invariant-loop-i : goal.invariant-loop-i
invariant-loop-i l = record {
  within : l.i ≤ length l.trail.lits;
  vars : l.heap.vars ≡ l.fn.heap.vars;
  size : length l.phases ≡ l.trail.vars + 1;
  offered : AreOffered l.heap l.trail;
  back : (j : ℕ) → l.i ≤ j → j < length l.trail.lits → IsHeld l.heap (get_or l.trail.lits j (literal 0 true)).var;
}

abbrev pub decreases-loop-i : goal.decreases-loop-i
decreases-loop-i l = l.i
