use Rattle.std.proofs.Common.{◌≡◌, ℕ, ◌+◌, ◌<◌, length, nat_lt}
use Rattle.cnf_core.specs.Assignment.{SameOutside}
use Rattle.cnf_core.specs.Truths.{assignment}
use Rattle.unary_sum.proofs.put.put_outputs.Given as goal

abbrev pub invariant-loop-k : goal.invariant-loop-k
invariant-loop-k l = record {
  same : SameOutside l.first l.k (assignment l.fn.m) (assignment l.m);
  set : (j : ℕ) → j < l.k → assignment l.m (l.first + j) ≡ nat_lt j l.n;
  vars : length l.m ≡ length l.fn.m;
}
