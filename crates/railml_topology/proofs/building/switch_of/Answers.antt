use Rattle.railml_topology.proofs.PlaceLemmas.{branch_within}
use Rattle.railml_topology.proofs.BuildLemmas.{switch_course, branch_kind, switch_made}
use Rattle.railml_topology.proofs.building.switch_of.Goals as goal

pub row_at-connection-requires : goal.row_at-connection-requires
row_at-connection-requires c = branch_within c.args.site.now.rows.now c.args.number c.branch_of-branch.result c.branch_of-branch.ensures

pub course_of-hand-requires : goal.course_of-hand-requires
course_of-hand-requires c = switch_course c.args.site.now.rows.now c.requires.ready.sound c.args.number c.branch_of-branch.result c.args.row.now
    c.row_at-connection.result.now c.requires.at c.branch_of-branch.ensures c.row_at-connection.ensures

pub conn_of-requires-clause-a_connection : goal.conn_of-requires-clause-a_connection
conn_of-requires-clause-a_connection c = branch_kind c.args.site.now.rows.now c.args.number c.branch_of-branch.result c.branch_of-branch.ensures

pub returns : goal.returns
returns c = switch_made c.args.site.now.rows.now c.args.site.now.layouts.now c.requires.ready.sound c.args.number c.branch_of-branch.result c.args.row.now
    c.row_at-connection.result.now c.is_word.result c.course_of-hand.result.0 c.course_of-hand.result.1 c.in_ok-conn.conn
    c.requires.at c.branch_of-branch.ensures c.row_at-connection.ensures c.is_word.ensures c.course_of-hand.ensures c.in_ok-conn.ensures
