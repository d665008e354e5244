use Rattle.std.specs.Prelude.{◌≡◌, [], ◌∷◌, ◌++◌}
use Rattle.std.proofs.Common.{ap, ◌∙◌}
use Rattle.std.proofs.lemmas.Result.{on_ok_weaker}
use Rattle.plan_core.specs.declared.criterion.Values.{Values}
use Rattle.plan_core.specs.Values.{values_of}
use Rattle.plan_write.specs.declared.edition.Edition.TheVariants.{Second}
use Rattle.plan_write.specs.SheetLine.{ValuesLine, text_of_line}
use Rattle.plan_write.specs.SheetText.{drawn_lines}
use Rattle.plan_write.proofs.SheetParts.{both_appended, line_appended}
use Rattle.plan_write.proofs.sheet_text.write_drawing.Goals as goal

pub returns-clause-ok : goal.returns-clause-ok
returns-clause-ok c =
    let d = c.args.d.now in
    let one = c.write_drawn.new.into.items in
    let two = c.push_values_line.new.into.items in
    on_ok_weaker c.push_values_line.result
    (λ (last : two ≡ one ++ text_of_line (ValuesLine c.values.result)).
    both_appended (drawn_lines Second c.args.g.now d) (ValuesLine (values_of d) ∷ []) c.args.into.now.items one two c.in_ok-write_drawn.ensures.ok
    (line_appended (ValuesLine (values_of d)) one two (last ∙ ap (λ (v : Values). one ++ text_of_line (ValuesLine v)) c.values.ensures)))
    c.push_values_line.ensures.ok
