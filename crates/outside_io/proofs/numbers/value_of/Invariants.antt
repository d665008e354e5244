use Rattle.outside_io.proofs.NumberLemmas.{IsValueTo}
use Rattle.std.proofs.Common.{drop}
use Rattle.outside_io.proofs.numbers.value_of.Given as goal

abbrev pub invariant-loop-digit : goal.invariant-loop-digit
invariant-loop-digit l = IsValueTo l.field (drop l.digit-index l.field) l.number
