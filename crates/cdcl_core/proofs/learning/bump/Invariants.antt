use Rattle.std.proofs.Common.{◌≡◌, ℕ}
use Rattle.pick_heap.specs.Heap.{IsHeld}
use Rattle.cdcl_core.proofs.learning.bump.Given as goal

abbrev pub invariant-loop-i : goal.invariant-loop-i
invariant-loop-i l = record { vars : l.heap.vars ≡ l.initial.heap.vars; held : (v : ℕ) → IsHeld l.initial.heap v → IsHeld l.heap v }
