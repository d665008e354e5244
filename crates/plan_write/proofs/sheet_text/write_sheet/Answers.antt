use Rattle.std.specs.Prelude.{◌≡◌, ◌++◌}
use Rattle.std.proofs.lemmas.Result.{on_ok_weaker}
use Rattle.plan_write.specs.SheetLine.{EndLine, text_of_line}
use Rattle.plan_write.proofs.SheetParts.{sheet_appended}
use Rattle.plan_write.proofs.PictureLineLemmas.{begins_more}
use Rattle.plan_write.proofs.sheet_text.write_sheet.Goals as goal

pub returns-clause-ok : goal.returns-clause-ok
returns-clause-ok c =
    let s = c.s.inside in
    on_ok_weaker c.push_ending.result
    (λ (last : c.push_ending.new.into.items ≡ c.push_found.new.into.items ++ text_of_line (EndLine s.ending)).
    sheet_appended c.args.g.now c.args.s.now s.grid s.order s.found s.ending
    c.args.into.now.items c.push_text.new.into.items c.write_grid.new.into.items c.push_order_line.new.into.items c.push_found.new.into.items
    c.push_ending.new.into.items
    c.s.view_is c.in_ok-push_text.ensures.ok c.in_ok-write_grid.ensures.ok c.in_ok-push_order_line.ensures.ok c.in_ok-push_found.ensures.ok last)
    c.push_ending.ensures.ok

pub returns-clause-begins : goal.returns-clause-begins
returns-clause-begins c = begins_more _ _ _ (begins_more _ _ _ (begins_more _ _ _ (begins_more _ _ _ c.push_text.ensures.begins c.write_grid.ensures.begins)
    c.push_order_line.ensures.begins) c.push_found.ensures.begins) c.push_ending.ensures.begins
