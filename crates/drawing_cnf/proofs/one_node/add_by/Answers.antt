use Rattle.std.proofs.Common.{sym, subst}
use Rattle.std.specs.Prelude.{Option}
use Rattle.cnf_core.specs.Added.{AddsClauses}
use Rattle.cnf_core.proofs.StepLemmas.{adds_nothing}
use Rattle.plan_core.specs.declared.point.Point.{Point}
use Rattle.edge_shape.specs.EdgeVars.{node_ints}
use Rattle.drawing_cnf.specs.MovedClauses.{clauses_by}
use Rattle.drawing_cnf.proofs.CodeLemmas.{room_for_one}
use Rattle.drawing_cnf.proofs.one_node.add_by.Goals as goal

pub add_node-requires-clause-to : goal.add_node-requires-clause-to
add_node-requires-clause-to c = room_for_one c.args.former c.in-Some.q c.args.m c.args.f.now.vars c.in-Some.is c.requires.to

pub returns-in-Some : goal.returns-in-Some
returns-in-Some c = subst (λ (o : Option Point). AddsClauses c.add_node.result c.args.f.now c.add_node.new.f
    (clauses_by o (node_ints c.args.n.now.x c.args.n.now.y) c.args.m) 5) (sym c.in-Some.is) c.add_node.ensures

pub returns-in-None : goal.returns-in-None
returns-in-None c = rw c.in-None.is (adds_nothing tt c.args.f.now 5)
