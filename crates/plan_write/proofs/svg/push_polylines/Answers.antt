use Rattle.std.proofs.Common.{◌≡◌, ℕ, ◌+◌, ◌<◌, List, ◌++◌, drop, length, get_or, sym, ap, ◌∙◌, append_assoc}
use Rattle.std.specs.Prelude.{flat_map}
use Rattle.std.proofs.lemmas.List.{at_drop_more}
use Rattle.plan_core.specs.declared.point.Point.{Point}
use Rattle.plan_write.specs.SvgText.{polyline}
use Rattle.plan_write.proofs.PictureLineLemmas.{begins_more}
use Rattle.plan_write.proofs.svg.push_polylines.Goals as goal

-- one line more
more : (text : List Point → List ℕ) (lines : List (List Point)) (i : ℕ) (line : List Point) (before after whole : List ℕ) → i < length lines →
    line ≡ get_or lines i line → after ≡ before ++ text line → before ++ flat_map text (drop i lines) ≡ whole →
    after ++ flat_map text (drop (i + 1) lines) ≡ whole
more text lines i line before after whole within is grown so_far =
    let rest : List (List Point) = drop (i + 1) lines in
    let step : flat_map text (drop i lines) ≡ text line ++ flat_map text rest = at_drop_more (λ (ls : List (List Point)). flat_map text ls) lines i line within
    ∙ ap (λ (l : List Point). text l ++ flat_map text rest) (sym is) in
    ap (λ (t : List ℕ). t ++ flat_map text rest) grown
    ∙ append_assoc before (text line) (flat_map text rest)
    ∙ ap (λ (t : List ℕ). before ++ t) (sym step)
    ∙ so_far

pub loop-line-preserved : goal.loop-line-preserved
loop-line-preserved c = record {
  begins = begins_more c.args.into.now.items c.loop-line.into.items c.push_polyline.new.into.items c.loop-line.invariant.begins c.push_polyline.ensures.begins;
  left = more (polyline c.args.height) c.args.lines.now c.loop-line.line-index c.line-item.result c.loop-line.into.items c.push_polyline.new.into.items _
      c.loop-line-test.true c.line-item.is c.in_ok-push_polyline.ensures.ok c.loop-line.invariant.left;
}
