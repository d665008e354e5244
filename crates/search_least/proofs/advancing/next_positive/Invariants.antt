use Rattle.std.proofs.Common.{◌≡◌, ◌≤◌, ◌<◌, ℕ}
use Rattle.std.specs.Prelude.{Some, slice_get}
use Rattle.plan_core.specs.declared.criterion.Criterion.{Criterion}
use Rattle.plan_core.specs.Values.{value_of}
use Rattle.search_least.proofs.advancing.next_positive.Given as goal

abbrev pub invariant-loop-j : goal.invariant-loop-j
invariant-loop-j l = (k : ℕ) (c : Criterion) → l.from ≤ k → k < l.j → slice_get l.order k ≡ Some c → value_of l.v c ≡ 0
