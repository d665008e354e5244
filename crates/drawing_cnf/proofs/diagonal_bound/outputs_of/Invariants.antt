use Rattle.std.proofs.Common.{◌≡◌, ◌++◌, drop}
use Rattle.std.specs.List.{flat_map}
use Rattle.unary_sum.specs.Sum.{sum_outputs}
use Rattle.drawing_cnf.proofs.diagonal_bound.outputs_of.Given as goal

abbrev pub invariant-loop-sum : goal.invariant-loop-sum
invariant-loop-sum l = l.outputs.items ++ flat_map sum_outputs (drop l.sum-index l.sums) ≡ flat_map sum_outputs l.sums
