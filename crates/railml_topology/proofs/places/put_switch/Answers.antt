use Rattle.std.proofs.Common.{◌<◌, subst, sym}
use Rattle.railml_topology.proofs.PlaceLemmas.{branch_within}
use Rattle.railml_topology.proofs.places.put_switch.Goals as goal

pub put-requires : goal.put-requires
put-requires c = subst (λ n. c.branch_of.result < n) (sym c.requires.whole) (branch_within c.args.rows.now c.args.inner c.branch_of.result c.branch_of.ensures)
