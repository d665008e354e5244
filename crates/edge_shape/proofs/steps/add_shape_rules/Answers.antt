use Rattle.std.proofs.Common.{rules, [], ◌∷◌}
use Rattle.std.specs.Prelude.{map}
use Rattle.edge_shape.specs.Written.{written}
use Rattle.edge_shape.specs.EdgeVars.{edge_lits}
use Rattle.edge_shape.specs.Edge.{shape_rules}
use Rattle.edge_shape.proofs.PlaceLemmas.{step_literals, shape_within}
use Rattle.edge_shape.proofs.RuleCode.{adds_rules, within_as}
use Rattle.edge_shape.proofs.steps.add_shape_rules.Goals as goal

pub add_rules-requires : goal.add_rules-requires
add_rules-requires c =
    let x = c.args.e.now in
    record {
      within = within_as c.args.f.now.vars (shape_rules (edge_lits x.first x.high x.width) c.args.c)
          (map written (c.rule.result ∷ c.rule-2.result ∷ c.rule-3.result ∷ c.rule-4.result ∷ [])) (search rules)
          ((shape_within c.args.f.now.vars (edge_lits x.first x.high x.width) c.args.c (step_literals x.first x.high x.width c.args.f.now.vars c.args.c
          c.requires.placed.spot c.requires.there c.requires.c)));
    }

pub returns : goal.returns
returns c =
    let x = c.args.e.now in
    adds_rules c.add_rules.result _ _ (shape_rules (edge_lits x.first x.high x.width) c.args.c)
    (map written (c.rule.result ∷ c.rule-2.result ∷ c.rule-3.result ∷ c.rule-4.result ∷ [])) 5 (search rules) c.add_rules.ensures
