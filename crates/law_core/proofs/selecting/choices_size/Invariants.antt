use Rattle.std.proofs.Common.{◌≡◌, ◌+◌, drop, map}
use Rattle.law_core.specs.Law.{instance_of}
use Rattle.law_core.specs.Choices.{choices_size}
use Rattle.law_core.proofs.selecting.choices_size.Given as goal

abbrev pub invariant-loop-law : goal.invariant-loop-law
invariant-loop-law l = l.sum + choices_size (drop l.law-index (map instance_of l.laws)) ≡ choices_size (map instance_of l.laws)
