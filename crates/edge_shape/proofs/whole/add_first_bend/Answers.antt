use Rattle.std.proofs.Common.{rules, [], ◌∷◌, arith, ◌-◌}
use Rattle.std.specs.Prelude.{map}
use Rattle.edge_shape.specs.Written.{written}
use Rattle.edge_shape.specs.EdgeVars.{edge_lits}
use Rattle.edge_shape.specs.Edge.{bend_rules}
use Rattle.edge_shape.proofs.PlaceLemmas.{whole_literals, column_there, bend_within}
use Rattle.edge_shape.proofs.RuleCode.{adds_rules, within_as}
use Rattle.edge_shape.proofs.whole.add_first_bend.Goals as goal

pub add_rules-requires : goal.add_rules-requires
add_rules-requires c =
    let x = c.args.e.now in
    let vars = c.args.f.now.vars in
    let l = edge_lits x.first x.high x.width in
    let p = c.requires.placed.spot in
    let there = c.requires.there in
    record {
      within = within_as c.args.f.now.vars (bend_rules (edge_lits x.first x.high x.width).first_bend (edge_lits x.first x.high x.width).west_up
          (edge_lits x.first x.high x.width).west_down ((edge_lits x.first x.high x.width).seen (x.width - 1)))
          (map written (c.rule.result ∷ c.rule-2.result ∷ c.rule-3.result ∷ c.rule-4.result ∷ [])) (search rules)
          ((let w = (whole_literals x.first x.high x.width vars p there) in bend_within vars l.first_bend l.west_up l.west_down (l.seen (x.width - 1))
          w.first_bend
          w.west_up w.west_down (let some = p.some_columns in column_there x.first x.high x.width vars (x.width - 1) 3 p there (omega (arith, some))
          (omega arith))));
    }

pub returns : goal.returns
returns c =
    let x = c.args.e.now in
    adds_rules c.add_rules.result _ _ (bend_rules (edge_lits x.first x.high x.width).first_bend (edge_lits x.first x.high x.width).west_up
    (edge_lits x.first x.high x.width).west_down ((edge_lits x.first x.high x.width).seen (x.width - 1)))
    (map written (c.rule.result ∷ c.rule-2.result ∷ c.rule-3.result ∷ c.rule-4.result ∷ [])) 5 (search rules) c.add_rules.ensures
