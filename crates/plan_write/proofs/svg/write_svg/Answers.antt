use Rattle.std.specs.Prelude.{◌≡◌, List, ◌++◌, codes, length, flat_map}
use Rattle.std.specs.List.{range_with_len}
use Rattle.std.proofs.Common.{ap, ◌∙◌}
use Rattle.std.proofs.lemmas.Result.{on_ok_weaker}
use Rattle.plan_core.specs.declared.criterion.Values.{Values}
use Rattle.plan_core.specs.declared.point.Point.{Point}
use Rattle.plan_core.specs.Values.{values_of}
use Rattle.plan_write.specs.SvgText.{polyline, label, picture_begin}
use Rattle.plan_write.proofs.PictureLineLemmas.{appended_four}
use Rattle.plan_write.proofs.svg.write_svg.Goals as goal

pub returns-clause-ok : goal.returns-clause-ok
returns-clause-ok c =
    on_ok_weaker c.push_text.result
    (λ (last : c.push_text.new.into.items ≡ c.push_labels.new.into.items ++ codes "</svg>\n").
    appended_four c.args.into.now.items
    (picture_begin (values_of c.args.d.now).width (values_of c.args.d.now).height)
    (flat_map (polyline (values_of c.args.d.now).height) c.args.d.now.lines)
    (flat_map (label c.args.g.now c.args.d.now) (range_with_len 0 (length c.args.g.now.nodes)))
    (codes "</svg>\n")
    c.push_picture_begin.new.into.items c.push_polylines.new.into.items c.push_labels.new.into.items c.push_text.new.into.items
    (c.in_ok-push_picture_begin.ensures.ok ∙ ap (λ (v : Values). c.args.into.now.items ++ picture_begin v.width v.height) c.values-measured.ensures)
    (c.in_ok-push_polylines.ensures.ok
    ∙ ap (λ (v : Values). c.push_picture_begin.new.into.items ++ flat_map (polyline v.height) c.lines.result.now) c.values-measured.ensures
    ∙ ap (λ (lines : List (List Point)). c.push_picture_begin.new.into.items ++ flat_map (polyline (values_of c.args.d.now).height) lines)
    c.lines.ensures.value)
    c.in_ok-push_labels.ensures.ok last)
    c.push_text.ensures.ok
