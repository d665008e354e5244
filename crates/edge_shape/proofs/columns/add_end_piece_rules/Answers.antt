use Rattle.std.proofs.Common.{rules, [], ◌∷◌}
use Rattle.std.specs.Prelude.{map}
use Rattle.edge_shape.specs.Written.{written}
use Rattle.edge_shape.specs.EdgeVars.{edge_lits}
use Rattle.edge_shape.specs.Edge.{end_piece_rules}
use Rattle.edge_shape.proofs.PlaceLemmas.{step_literals, whole_literals, through_within}
use Rattle.edge_shape.proofs.RuleCode.{adds_rules, within_as}
use Rattle.edge_shape.proofs.columns.add_end_piece_rules.Goals as goal

pub add_rules-requires : goal.add_rules-requires
add_rules-requires c =
    let x = c.args.e.now in
    let vars = c.args.f.now.vars in
    let l = edge_lits x.first x.high x.width in
    let p = c.requires.placed.spot in
    let there = c.requires.there in
    record {
      within = within_as c.args.f.now.vars (end_piece_rules (edge_lits x.first x.high x.width) c.args.c) (map written (c.rule.result ∷ c.rule-2.result ∷ []))
          (search rules) ((through_within vars l c.args.c (whole_literals x.first x.high x.width vars p there)
          (step_literals x.first x.high x.width vars c.args.c p there c.requires.c)));
    }

pub returns : goal.returns
returns c =
    let x = c.args.e.now in
    adds_rules c.add_rules.result _ _ (end_piece_rules (edge_lits x.first x.high x.width) c.args.c) (map written (c.rule.result ∷ c.rule-2.result ∷ [])) 5
    (search rules) c.add_rules.ensures
