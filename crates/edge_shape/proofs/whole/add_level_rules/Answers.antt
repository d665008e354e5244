use Rattle.std.proofs.Common.{rules, [], ◌∷◌, arith, ◌-◌}
use Rattle.std.specs.Prelude.{map}
use Rattle.edge_shape.specs.Written.{written}
use Rattle.edge_shape.specs.EdgeVars.{edge_lits}
use Rattle.edge_shape.specs.Edge.{level_rules}
use Rattle.edge_shape.proofs.PlaceLemmas.{whole_literals, column_there, level_within}
use Rattle.edge_shape.proofs.RuleCode.{adds_rules, within_as}
use Rattle.edge_shape.proofs.whole.add_level_rules.Goals as goal

pub add_rules-requires : goal.add_rules-requires
add_rules-requires c =
    let x = c.args.e.now in
    let vars = c.args.f.now.vars in
    let l = edge_lits x.first x.high x.width in
    let p = c.requires.placed.spot in
    let there = c.requires.there in
    record {
      within = within_as c.args.f.now.vars (level_rules (edge_lits x.first x.high x.width) ((edge_lits x.first x.high x.width).seen (x.width - 1)))
          (map written (c.rule.result ∷ c.rule-2.result ∷ c.rule-3.result ∷ c.rule-4.result ∷ c.rule-5.result ∷ c.rule-6.result ∷ [])) (search rules)
          ((level_within vars l (l.seen (x.width - 1)) (whole_literals x.first x.high x.width vars p there)
          (let some = p.some_columns in column_there x.first x.high x.width vars (x.width - 1) 3 p there (omega (arith, some)) (omega arith))));
    }

pub returns : goal.returns
returns c =
    let x = c.args.e.now in
    adds_rules c.add_rules.result _ _ (level_rules (edge_lits x.first x.high x.width) ((edge_lits x.first x.high x.width).seen (x.width - 1)))
    (map written (c.rule.result ∷ c.rule-2.result ∷ c.rule-3.result ∷ c.rule-4.result ∷ c.rule-5.result ∷ c.rule-6.result ∷ [])) 5 (search rules)
    c.add_rules.ensures
