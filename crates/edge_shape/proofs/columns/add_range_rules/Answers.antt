use Rattle.std.proofs.Common.{rules, [], ◌∷◌}
use Rattle.std.specs.Prelude.{map}
use Rattle.edge_shape.specs.Written.{written}
use Rattle.edge_shape.specs.EdgeVars.{edge_lits}
use Rattle.edge_shape.specs.Edge.{range_rules}
use Rattle.edge_shape.proofs.PlaceLemmas.{inside_there, range_within}
use Rattle.edge_shape.proofs.RuleCode.{adds_rules, within_as}
use Rattle.edge_shape.proofs.columns.add_range_rules.Goals as goal

pub add_rules-requires : goal.add_rules-requires
add_rules-requires c =
    let x = c.args.e.now in
    let vars = c.args.f.now.vars in
    let l = edge_lits x.first x.high x.width in
    let p = c.requires.placed.spot in
    let there = c.requires.there in
    record {
      within = within_as c.args.f.now.vars (range_rules (edge_lits x.first x.high x.width) c.args.west.now c.args.east.now c.args.c)
          (map written (c.rule.result ∷ c.rule-2.result ∷ c.rule-3.result ∷ [])) (search rules)
          ((range_within vars l c.args.west.now c.args.east.now c.args.c (inside_there x.first x.high x.width vars c.args.c p there c.requires.c)
          c.requires.west
          c.requires.east));
    }

pub returns : goal.returns
returns c =
    let x = c.args.e.now in
    adds_rules c.add_rules.result _ _ (range_rules (edge_lits x.first x.high x.width) c.args.west.now c.args.east.now c.args.c)
    (map written (c.rule.result ∷ c.rule-2.result ∷ c.rule-3.result ∷ [])) 5 (search rules) c.add_rules.ensures
