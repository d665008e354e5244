use Rattle.std.proofs.Common.{◌≡◌, ◌+◌, ◌≤◌, drop, length}
use Rattle.cnf_core.specs.Clause.{AreThere}
use Rattle.cnf_core.specs.Truths.{assignment}
use Rattle.unary_sum.specs.Sum.{count_true}
use Rattle.unary_sum.proofs.put.count_of.Given as goal

abbrev pub invariant-loop-l : goal.invariant-loop-l
invariant-loop-l l = record {
  left : l.n + count_true (assignment l.m) (drop l.l-index l.inputs) ≡ count_true (assignment l.m) l.inputs;
  few : l.n ≤ l.l-index;
  there : AreThere (length l.m) (drop l.l-index l.inputs);
}
