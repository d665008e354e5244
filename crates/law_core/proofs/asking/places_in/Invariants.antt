use Rattle.std.proofs.Common.{◌≡◌, ◌++◌, drop}
use Rattle.law_core.specs.Query.{places_in}
use Rattle.law_core.proofs.asking.places_in.Given as goal

abbrev pub invariant-loop-n : goal.invariant-loop-n
invariant-loop-n l = l.core.items ++ places_in l.selecting l.literals (drop l.n-index l.wanted) ≡ places_in l.selecting l.literals l.wanted
