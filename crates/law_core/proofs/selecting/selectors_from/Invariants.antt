use Rattle.std.proofs.Common.{◌≡◌, ◌+◌, ◌++◌, drop, map}
use Rattle.law_core.specs.Law.{instance_of}
use Rattle.law_core.specs.Choices.{choices_size, selectors}
use Rattle.law_core.proofs.selecting.selectors_from.Given as goal

abbrev pub invariant-loop-law : goal.invariant-loop-law
invariant-loop-law l = record {
  sum : l.at + choices_size (drop l.law-index (map instance_of l.laws)) ≡ l.first + choices_size (map instance_of l.laws);
  list : l.selecting.items ++ selectors l.at (drop l.law-index (map instance_of l.laws)) ≡ selectors l.first (map instance_of l.laws);
}
