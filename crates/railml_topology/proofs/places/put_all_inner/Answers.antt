use Rattle.std.proofs.Common.{get_or}
use Rattle.std.proofs.lemmas.List.{get_or_default}
use Rattle.railml_topology.proofs.PlaceLemmas.{first_more}
use Rattle.railml_topology.proofs.places.put_all_inner.Goals as goal

pub loop-number-preserved : goal.loop-number-preserved
loop-number-preserved c =
    first_more c.args.rows.now c.args.track c.args.inner.now c.loop-number.number (get_or c.args.inner.now c.loop-number.number 0) c.args.table.now.items
    c.loop-number.table.items c.put_inner.new.table.items
    c.loop-number-test.true (get_or_default c.args.inner.now c.loop-number.number 0 (get_or c.args.inner.now c.loop-number.number 0) c.loop-number-test.true)
    c.loop-number.invariant c.put_inner.ensures
