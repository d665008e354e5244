use Rattle.std.proofs.Common.{subst}
use Rattle.railml_read.specs.declared.rows.Elem.{Elem}
use Rattle.railml_faults.specs.Tables.{IsPositionOf}
use Rattle.railml_faults.proofs.TableLemmas.{one_first}
use Rattle.railml_faults.proofs.IdLemmas.{row_at, one_row}
use Rattle.railml_faults.proofs.outside.positions.Goals as goal

pub loop-row-preserved : goal.loop-row-preserved
loop-row-preserved c =
    let rows = c.args.rows.now in
    let row = c.row-item.result in
    let i = c.loop-row.row-index in
    let position = c.read_position.result in
    one_first c.loop-row.invariant c.in_ok-push.ensures.items (λ other there. subst (λ (e : Elem). IsPositionOf e position)
    (one_row rows i row other (row_at rows i row c.loop-row-test.true c.row-item.is) there) c.read_position.ensures)
