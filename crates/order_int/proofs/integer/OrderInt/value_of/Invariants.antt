use Rattle.std.proofs.Common.{◌≡◌, ℕ, ◌+◌, ◌<◌, true}
use Rattle.cnf_core.specs.Truths.{assignment}
use Rattle.order_int.proofs.integer.OrderInt.value_of.Given as goal

abbrev pub invariant-loop-k : goal.invariant-loop-k
invariant-loop-k l = (j : ℕ) → j < l.k → assignment l.m (l.self-inside.first.0 + j) ≡ true
