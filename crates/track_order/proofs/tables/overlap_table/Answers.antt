use Rattle.std.specs.Prelude.{List, Bool, ◌+◌, length}
use Rattle.std.proofs.Common.{subst, sym}
use Rattle.plan_core.specs.Graph.{Overlap}
use Rattle.track_order.specs.Tables.{IsTableOf}
use Rattle.track_order.proofs.TableLemmas.{table_on}
use Rattle.track_order.proofs.tables.overlap_table.Goals as goal

pub loop-e-preserved : goal.loop-e-preserved
loop-e-preserved c =
    subst (λ (rows : List (List Bool)). IsTableOf (c.loop-e.e + 1) (length c.args.g.now.edges) (Overlap c.args.g.now) rows) (sym c.in_ok-push.ensures.ok)
    (table_on c.loop-e.e (length c.args.g.now.edges) (Overlap c.args.g.now) c.loop-e.rows c.in_ok-overlap_row.field-0 c.loop-e.invariant
    c.in_ok-overlap_row.ensures)
