use Rattle.railml_topology.proofs.PlaceLemmas.{crossing_put}
use Rattle.railml_topology.proofs.places.put_crossing.Goals as goal

pub returns : goal.returns
returns c = crossing_put c.args.rows.now c.requires.sound c.args.track c.args.number c.args.inner c.way_of.result c.way_of-2.result c.args.table.now.items
    c.put.new.table.items c.put-2.new.table.items c.way_of.ensures c.way_of-2.ensures c.put.ensures c.put-2.ensures
