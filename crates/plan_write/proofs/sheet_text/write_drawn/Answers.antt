use Rattle.std.specs.Prelude.{◌≡◌, ◌∷◌, ◌++◌, flat_map, length}
use Rattle.std.proofs.lemmas.Result.{on_ok_weaker}
use Rattle.plan_write.specs.declared.edition.Edition.TheVariants.{Second}
use Rattle.plan_write.specs.SheetLine.{NodesLine, EdgesLine, text_of_line}
use Rattle.plan_write.specs.SheetText.{node_lines, edge_lines}
use Rattle.plan_write.proofs.SheetParts.{both_appended}
use Rattle.plan_write.proofs.sheet_text.write_drawn.Goals as goal

pub returns-clause-ok : goal.returns-clause-ok
returns-clause-ok c =
    let g = c.args.g.now in
    let d = c.args.d.now in
    let edges = EdgesLine (length g.edges) ∷ edge_lines Second g d in
    let one = c.push_places.new.into.items in
    let two = c.push_lines.new.into.items in
    on_ok_weaker c.push_lines.result
    (λ (last : two ≡ one ++ flat_map text_of_line edges). both_appended (NodesLine (length g.nodes) ∷ node_lines Second g d) edges c.args.into.now.items one two
    c.in_ok-push_places.ensures.ok last)
    c.push_lines.ensures.ok
