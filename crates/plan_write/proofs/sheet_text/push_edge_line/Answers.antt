use Rattle.std.specs.Prelude.{◌≡◌, List, [], ◌∷◌, ◌++◌, codes, map, flat_map}
use Rattle.std.specs.Fmt.{decimal}
use Rattle.std.proofs.Common.{ap, ◌∙◌}
use Rattle.std.proofs.lemmas.Result.{on_ok_weaker}
use Rattle.plan_core.specs.declared.point.Point.{Point}
use Rattle.plan_core.specs.Drawing.{line}
use Rattle.plan_core.specs.Graph.{edge}
use Rattle.outside_io.specs.Fields.{spaced}
use Rattle.plan_write.specs.SheetLine.{coordinates}
use Rattle.plan_write.proofs.LineLemmas.{line_with_head}
use Rattle.plan_write.proofs.sheet_text.push_edge_line.Goals as goal

pub returns-clause-ok : goal.returns-clause-ok
returns-clause-ok c =
    let n = c.args.e in
    let e = edge c.args.g.now c.args.e in
    on_ok_weaker c.push_text.result
    (λ (last : c.push_text.new.into.items ≡ c.push_points.new.into.items ++ codes "\n").
    line_with_head (codes "edge") (decimal n ∷ e.track ∷ decimal e.west ∷ decimal e.east ∷ []) (map decimal (flat_map coordinates (line c.args.d.now n)))
    c.args.into.now.items c.push_edge_head.new.into.items c.push_points.new.into.items c.push_text.new.into.items
    c.in_ok-push_edge_head.ensures.ok
    (c.in_ok-push_points.ensures.ok ∙ ap (λ (ps : List Point). c.push_edge_head.new.into.items ++ spaced (map decimal (flat_map coordinates ps)))
    (c.points.ensures.value ∙ c.line.ensures))
    last)
    c.push_text.ensures.ok
