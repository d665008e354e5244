use Rattle.std.proofs.Common.{◌≡◌, ◌++◌, ◌/◌, take, drop}
use Rattle.std.specs.Prelude.{map}
use Rattle.pick_heap.proofs.heap.halve.Given as goal

abbrev pub invariant-loop-i : goal.invariant-loop-i
invariant-loop-i l = l.activities ≡ map (λ a. a / 2) (take l.i l.fn.activities) ++ drop l.i l.fn.activities
