use Rattle.std.proofs.Common.{◌≡◌, drop}
use Rattle.search_why.specs.Narrowed.{has_number}
use Rattle.search_why.proofs.places.has_number.Given as goal

abbrev pub invariant-loop-x : goal.invariant-loop-x
invariant-loop-x l = has_number l.numbers l.n ≡ has_number (drop l.x-index l.numbers) l.n
