use Rattle.std.proofs.Common.{◌≡◌, Some, slice_get, subst}
use Rattle.railml_read.specs.declared.rows.Elem.{Elem}
use Rattle.railml_faults.specs.Tables.{IsTargetOf}
use Rattle.railml_faults.proofs.TableLemmas.{one_first}
use Rattle.railml_faults.proofs.IdLemmas.{row_at, one_row}
use Rattle.railml_faults.proofs.ReferenceLemmas.{target_entry}
use Rattle.railml_faults.proofs.references.targets.Goals as goal

pub loop-row-preserved : goal.loop-row-preserved
loop-row-preserved c =
    let rows = c.args.rows.now in
    let row = c.row-item.result in
    let i = c.loop-row.row-index in
    let target = c.target_of.result in
    let at : slice_get rows i ≡ Some row = row_at rows i row c.loop-row-test.true c.row-item.is in
    let here : IsTargetOf rows row target = target_entry rows c.args.numbers.now row target c.requires c.target_of.ensures in
    one_first c.loop-row.invariant c.in_ok-push.ensures.items (λ other there. subst (λ (e : Elem). IsTargetOf rows e target) (one_row rows i row other at there)
    here)
