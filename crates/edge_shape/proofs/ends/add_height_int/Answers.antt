use Rattle.std.proofs.Common.{arith, ap, subst, sym}
use Rattle.order_int.specs.IntVars.{IntVars, IntIsThere}
use Rattle.order_int.specs.OrderInt.{int_clauses}
use Rattle.edge_shape.proofs.PlaceLemmas.{height_there}
use Rattle.edge_shape.proofs.RuleCode.{adds_as}
use Rattle.edge_shape.proofs.ends.add_height_int.Goals as goal

pub add_int-requires-clause-there : goal.add_int-requires-clause-there
add_int-requires-clause-there c =
    let x = c.args.e.now in
    subst (λ (i : IntVars). IntIsThere c.args.f.now.vars i) (sym c.height.ensures)
    (height_there x.first x.high x.width c.args.f.now.vars c.args.c c.requires.placed.spot c.requires.there c.requires.c)

pub returns : goal.returns
returns c = adds_as c.add_int.result _ _ _ _ 2 5 (ap (λ (i : IntVars). int_clauses i) c.height.ensures) (omega arith) c.add_int.ensures
