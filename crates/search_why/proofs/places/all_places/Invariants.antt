use Rattle.std.proofs.Common.{◌≡◌, ◌++◌, ◌-◌}
use Rattle.search_why.specs.Narrowed.{countdown}
use Rattle.search_why.proofs.places.all_places.Given as goal

abbrev pub invariant-loop-i : goal.invariant-loop-i
invariant-loop-i l = l.places.items ++ countdown (l.count - l.i) ≡ countdown l.count
