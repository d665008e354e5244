use Rattle.std.proofs.Common.{◌≡◌, ◌-◌, length}
use Rattle.cnf_core.specs.Assignment.{SameOutside}
use Rattle.cnf_core.specs.Truths.{assignment}
use Rattle.order_int.proofs.IntLemmas.{Steps}
use Rattle.order_int.proofs.integer.OrderInt.put.Given as goal

abbrev pub invariant-loop-k : goal.invariant-loop-k
invariant-loop-k l = record {
  same : SameOutside l.self-inside.first.0 l.k (assignment l.fn.m) (assignment l.m);
  steps : Steps (assignment l.m) l.self-inside.first.0 l.k (l.value - l.self-inside.low);
  vars : length l.m ≡ length l.fn.m;
}
