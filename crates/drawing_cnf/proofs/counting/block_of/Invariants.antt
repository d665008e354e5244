use Rattle.std.proofs.Common.{◌≡◌, ◌+◌, ◌-◌, ◌++◌}
use Rattle.unary_sum.specs.Part.{block}
use Rattle.drawing_cnf.proofs.counting.block_of.Given as goal

abbrev pub invariant-loop-k : goal.invariant-loop-k
invariant-loop-k l = l.lits.items ++ block (l.first + l.k) (l.count - l.k) ≡ block l.first l.count
