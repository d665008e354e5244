use Rattle.std.proofs.Common.{rules, ◌≡◌, ◌++◌, List, [], ◌∷◌, length, ◌∙◌, ap, arith}
use Rattle.cnf_core.specs.declared.literal.LitOrTruth.{LitOrTruth}
use Rattle.cnf_core.specs.LitOrTruth.{yes, flip}
use Rattle.cnf_laws.specs.Expected.{drawing_vars}
use Rattle.drawing_cnf.specs.Bounds.{node_columns}
use Rattle.drawing_cnf.proofs.ListCode.{some_column_within}
use Rattle.drawing_cnf.proofs.BoundCode.{column_adds}
use Rattle.drawing_cnf.proofs.width_bound.add_some_column.Goals as goal

pub add_clause-requires-clause-within : goal.add_clause-requires-clause-within
add_clause-requires-clause-within c =
    let g = c.args.g.now in
    let d = c.args.grid.now in
    let x = drawing_vars g d in
    let all = node_columns x c.args.k 0 (length g.nodes) in
    let grown : c.push.new.self.items ≡ c.in_ok-some.some.items ++ c.negated.result ∷ [] = search rules in
    let is : c.deref.result.now ≡ all ++ flip (yes c.args.b) ∷ [] = c.deref.ensures.value ∙ grown
    ∙ ap (λ (ts : List LitOrTruth). ts ++ c.negated.result ∷ []) c.in_ok-some.ensures
    ∙ ap (λ (t : LitOrTruth). all ++ t ∷ []) (c.negated.ensures ∙ ap flip c.yes_var.ensures) in
    some_column_within g d c.args.f.now.vars c.args.b c.args.k c.deref.result.now c.width.ensures.is_grid c.requires.there c.requires.limit c.requires.from
    c.requires.to is

pub returns : goal.returns
returns c =
    let g = c.args.g.now in
    let d = c.args.grid.now in
    let x = drawing_vars g d in
    let all = node_columns x c.args.k 0 (length g.nodes) in
    let grown : c.push.new.self.items ≡ c.in_ok-some.some.items ++ c.negated.result ∷ [] = search rules in
    let is : c.deref.result.now ≡ all ++ flip (yes c.args.b) ∷ [] = c.deref.ensures.value ∙ grown
    ∙ ap (λ (ts : List LitOrTruth). ts ++ c.negated.result ∷ []) c.in_ok-some.ensures
    ∙ ap (λ (t : LitOrTruth). all ++ t ∷ []) (c.negated.ensures ∙ ap flip c.yes_var.ensures) in
    column_adds c.add_clause.result c.args.f.now c.add_clause.new.self x c.args.b c.args.k (length g.nodes) c.deref.result.now _ is (omega arith)
    c.add_clause.ensures.adds
