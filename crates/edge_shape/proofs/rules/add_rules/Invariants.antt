use Rattle.edge_shape.proofs.RuleCode.{IsListing}
use Rattle.edge_shape.proofs.rules.add_rules.Given as goal

abbrev pub invariant-loop-r : goal.invariant-loop-r
invariant-loop-r l = IsListing l.fn.f l.f l.rules l.r-index
