use Rattle.std.proofs.Common.{rules, ◌≡◌, ◌+◌, length, subst}
use Rattle.plan_core.specs.Graph.{Ports, Crossing, node}
use Rattle.cnf_core.specs.Added.{AddsClauses}
use Rattle.cnf_laws.specs.Guards.{unless_rules}
use Rattle.cnf_laws.specs.Stands.{slope_vars}
use Rattle.cnf_laws.specs.LawClauses.{ports_rules}
use Rattle.cnf_laws.specs.Expected.{drawing_vars}
use Rattle.cnf_laws.proofs.SpotLemmas.{end_there, joint_there, switch_there, crossing_there}
use Rattle.cnf_laws.proofs.edge_laws.add_ports.Goals as goal

pub returns-in-Crossing : goal.returns-in-Crossing
returns-in-Crossing c =
    let k = c.in-Crossing in
    let g = c.args.g.now in
    let e : Crossing k.west_upper.0 k.west_lower.0 k.east_upper.0 k.east_lower.0 ≡ (node g c.args.n.0).ports = search rules in
    subst (λ (p : Ports). AddsClauses c.add_crossing_at.result c.args.f.now c.add_crossing_at.new.f
    (unless_rules c.args.unless.now (ports_rules (slope_vars g (drawing_vars g c.args.grid.now) c.args.n.0) p)) (length c.args.unless.now + 2)) e
    c.add_crossing_at.ensures

pub add_end-requires-clause-e : goal.add_end-requires-clause-e
add_end-requires-clause-e c = (end_there c.args.g.now c.args.n.0 _ _ c.in-End.ensures.there)

pub add_joint-requires-clause-west : goal.add_joint-requires-clause-west
add_joint-requires-clause-west c = (joint_there c.args.g.now c.args.n.0 _ _ c.in-Joint.ensures.there).0

pub add_joint-requires-clause-east : goal.add_joint-requires-clause-east
add_joint-requires-clause-east c = (joint_there c.args.g.now c.args.n.0 _ _ c.in-Joint.ensures.there).1

pub add_switch_at-requires-clause-trunk : goal.add_switch_at-requires-clause-trunk
add_switch_at-requires-clause-trunk c = (switch_there c.args.g.now c.args.n.0 _ _ _ _ _ c.in-Switch.ensures.there).0

pub add_switch_at-requires-clause-straight : goal.add_switch_at-requires-clause-straight
add_switch_at-requires-clause-straight c = (switch_there c.args.g.now c.args.n.0 _ _ _ _ _ c.in-Switch.ensures.there).1

pub add_switch_at-requires-clause-diverging : goal.add_switch_at-requires-clause-diverging
add_switch_at-requires-clause-diverging c = (switch_there c.args.g.now c.args.n.0 _ _ _ _ _ c.in-Switch.ensures.there).2

pub add_crossing_at-requires-clause-a : goal.add_crossing_at-requires-clause-a
add_crossing_at-requires-clause-a c = (crossing_there c.args.g.now c.args.n.0 _ _ _ _ c.in-Crossing.ensures.there).0

pub add_crossing_at-requires-clause-b : goal.add_crossing_at-requires-clause-b
add_crossing_at-requires-clause-b c = (crossing_there c.args.g.now c.args.n.0 _ _ _ _ c.in-Crossing.ensures.there).1

pub add_crossing_at-requires-clause-c : goal.add_crossing_at-requires-clause-c
add_crossing_at-requires-clause-c c = (crossing_there c.args.g.now c.args.n.0 _ _ _ _ c.in-Crossing.ensures.there).2

pub add_crossing_at-requires-clause-d : goal.add_crossing_at-requires-clause-d
add_crossing_at-requires-clause-d c = (crossing_there c.args.g.now c.args.n.0 _ _ _ _ c.in-Crossing.ensures.there).3
