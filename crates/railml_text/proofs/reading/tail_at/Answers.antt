use Rattle.std.proofs.Common.{◌≡◌, ◌++◌, [], ◌∷◌}
use Rattle.std.specs.Prelude.{map}
use Rattle.std.proofs.lemmas.List.{map_push}
use Rattle.railml_text.specs.Reading.{written_of}
use Rattle.railml_text.proofs.TagLemmas.{Attrs-push, step_shorter}
use Rattle.railml_text.proofs.reading.tail_at.Goals as goal

pub loop-attr-smaller : goal.loop-attr-smaller
loop-attr-smaller c =
    let step = c.in-Ok-Attribute-default in
    step_shorter c.args.closing (written_of step.attr) c.loop-attr.rest.now step.after.now (rw step.field-0-0-is at step.ensures)

pub loop-attr-preserved : goal.loop-attr-preserved
loop-attr-preserved c =
    let step = c.in-Ok-Attribute-default in
    let before = map written_of c.loop-attr.attrs.items in
    let pushed : map written_of c.push.new.self.items ≡ before ++ written_of step.attr ∷ [] = rw c.in_ok-push-in-Ok-Attribute-default.ensures.items
    (map_push _ c.loop-attr.attrs.items step.attr) in
    rw pushed (Attrs-push c.args.closing before (written_of step.attr) c.args.bytes.now c.loop-attr.rest.now step.after.now c.loop-attr.invariant
    (rw step.field-0-0-is at step.ensures))
