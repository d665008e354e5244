use Rattle.std.proofs.Common.{true, false}
use Rattle.railml_topology.proofs.BuildLemmas.{crossing_hand, way_kind, crossing_made}
use Rattle.railml_topology.proofs.building.crossing_of.Goals as goal

pub hand_of-hand-requires : goal.hand_of-hand-requires
hand_of-hand-requires c = crossing_hand c.args.site.now.rows.now c.requires.ready.sound c.args.number c.way_of-leaving.result c.row_at.result.now
    c.way_of-leaving.ensures c.row_at.ensures

pub conn_of-requires-clause-a_connection : goal.conn_of-requires-clause-a_connection
conn_of-requires-clause-a_connection c = way_kind c.args.site.now.rows.now c.args.number c.way_of-coming.result false c.way_of-coming.ensures

pub conn_of-requires-2-clause-a_connection : goal.conn_of-requires-2-clause-a_connection
conn_of-requires-2-clause-a_connection c = way_kind c.args.site.now.rows.now c.args.number c.way_of-leaving.result true c.way_of-leaving.ensures

pub returns : goal.returns
returns c = crossing_made c.args.site.now.rows.now c.args.site.now.layouts.now c.args.number c.way_of-coming.result c.way_of-leaving.result c.row_at.result.now
    c.hand_of-hand.result c.in_ok-incoming.incoming c.in_ok-outgoing.outgoing
    c.way_of-coming.ensures c.way_of-leaving.ensures c.row_at.ensures c.hand_of-hand.ensures c.in_ok-incoming.ensures c.in_ok-outgoing.ensures
