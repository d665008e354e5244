-- What the code's rules stand for.
use Rattle.edge_shape.specs.declared.rules.OneRule.{OneRule}
use Rattle.edge_shape.specs.Rules.{Rule, rule}

abbrev pub written : OneRule → Rule
written r = rule r.premises.now r.conclusions.now
