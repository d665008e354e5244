use Rattle.std.proofs.Common.{rules, [], ◌∷◌, arith, ◌+◌}
use Rattle.std.specs.Prelude.{map}
use Rattle.edge_shape.specs.Written.{written}
use Rattle.edge_shape.specs.EdgeVars.{edge_lits}
use Rattle.edge_shape.specs.Edge.{inner_rules}
use Rattle.edge_shape.proofs.PlaceLemmas.{step_literals, column_there, inside_there, inner_within}
use Rattle.edge_shape.proofs.RuleCode.{adds_rules, within_as}
use Rattle.edge_shape.proofs.columns.add_inner_rules.Goals as goal

pub add_rules-requires : goal.add_rules-requires
add_rules-requires c =
    let x = c.args.e.now in
    let vars = c.args.f.now.vars in
    let l = edge_lits x.first x.high x.width in
    let p = c.requires.placed.spot in
    let there = c.requires.there in
    record {
      within = within_as c.args.f.now.vars (inner_rules (edge_lits x.first x.high x.width) c.args.c)
          (map written (c.rule.result ∷ c.rule-2.result ∷ c.rule-3.result ∷ c.rule-4.result ∷ c.rule-5.result ∷ c.rule-6.result ∷ c.rule-7.result
          ∷ c.rule-8.result ∷ c.rule-9.result ∷ [])) (search rules) ((let lt = c.requires.c in let k = c.args.c in
          let here = step_literals x.first x.high x.width vars k p there (omega (arith, lt)) in
          let next = step_literals x.first x.high x.width vars (k + 1) p there (omega (arith, lt)) in
          inner_within vars l k (column_there x.first x.high x.width vars (k + 1) 4 p there (omega (arith, lt)) (omega arith)) here.here
          (inside_there x.first x.high x.width vars (k + 2) p there (omega (arith, lt))) here.up next.up here.down next.down));
    }

pub returns : goal.returns
returns c =
    let x = c.args.e.now in
    adds_rules c.add_rules.result _ _ (inner_rules (edge_lits x.first x.high x.width) c.args.c)
    (map written (c.rule.result ∷ c.rule-2.result ∷ c.rule-3.result ∷ c.rule-4.result ∷ c.rule-5.result ∷ c.rule-6.result ∷ c.rule-7.result
    ∷ c.rule-8.result ∷ c.rule-9.result ∷ [])) 5 (search rules) c.add_rules.ensures
