use Rattle.std.specs.Prelude.{List, Bool, ◌+◌}
use Rattle.std.proofs.Common.{subst, sym}
use Rattle.track_order.specs.Above.{Above}
use Rattle.track_order.specs.Tables.{IsRowOf}
use Rattle.track_order.proofs.TableLemmas.{row_on}
use Rattle.track_order.proofs.tables.above_row.Goals as goal

pub loop-f-preserved : goal.loop-f-preserved
loop-f-preserved c =
    subst (λ (row : List Bool). IsRowOf (c.loop-f.f + 1) (Above c.args.g.now c.args.e) row) (sym c.in_ok-push.ensures.ok)
    (row_on c.loop-f.f (Above c.args.g.now c.args.e) c.loop-f.row c.is_above.result c.loop-f.invariant c.is_above.ensures)
