use Rattle.std.proofs.Common.{◌≡◌, ◌++◌, drop, map}
use Rattle.lawful_check.specs.Breaks.{break_of}
use Rattle.law_core.specs.Law.{instance_of}
use Rattle.law_core.specs.Chosen.{listed_law}
use Rattle.law_core.proofs.naming.names_of.Given as goal

abbrev pub invariant-loop-n : goal.invariant-loop-n
invariant-loop-n l = l.names.items ++ map (λ n. break_of (listed_law (map instance_of l.laws) n)) (drop l.n-index l.places) ≡ map
    (λ n. break_of (listed_law (map instance_of l.laws) n)) l.places
