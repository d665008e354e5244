use Rattle.std.proofs.Common.{◌≡◌, ◌++◌, drop}
use Rattle.law_core.specs.Query.{query_of}
use Rattle.law_core.proofs.asking.assumptions.Given as goal

abbrev pub invariant-loop-n : goal.invariant-loop-n
invariant-loop-n l = l.assume.items ++ query_of l.selecting (drop l.n-index l.wanted) ≡ query_of l.selecting l.wanted
