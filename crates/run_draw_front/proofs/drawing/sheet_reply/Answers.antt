use Rattle.run_draw_front.proofs.DrawnLemmas.{ended_sheet}
use Rattle.run_draw_front.proofs.drawing.sheet_reply.Goals as goal

pub written_is_read-requires : goal.written_is_read-requires
written_is_read-requires c =
    let may = ended_sheet c.args.station.now.graph c.args.station.now.order c.args.asked.now c.args.outcome c.sheet_of-sheet.result
    c.sheet_of-sheet.ensures.sheet c.sheet_of-sheet.ensures.is_order c.requires in
    record { draws_all = may.0; on_grid = may.1; settled = may.2 }

pub write_sheet-requires : goal.write_sheet-requires
write_sheet-requires c =
    let may = ended_sheet c.args.station.now.graph c.args.station.now.order c.args.asked.now c.args.outcome c.sheet_of-sheet.result
    c.sheet_of-sheet.ensures.sheet c.sheet_of-sheet.ensures.is_order c.requires in
    record { draws_all = may.0; on_grid = may.1; settled = may.2 }
