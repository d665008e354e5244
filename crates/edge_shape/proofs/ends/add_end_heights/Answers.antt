use Rattle.std.proofs.Common.{arith, ap, subst, sym, ◌∙◌, [], ◌++◌}
use Rattle.order_int.specs.IntVars.{IntVars, IntIsThere}
use Rattle.order_int.specs.OrderInt.{equal_clauses}
use Rattle.edge_shape.specs.EdgeVars.{edge_lits}
use Rattle.edge_shape.proofs.PlaceLemmas.{height_there}
use Rattle.edge_shape.proofs.RuleCode.{adds_as}
use Rattle.edge_shape.proofs.ends.add_end_heights.Goals as goal

pub add_two_equal-requires : goal.add_two_equal-requires
add_two_equal-requires c =
    let x = c.args.e.now in
    record {
      a = subst (λ (i : IntVars). IntIsThere c.args.f.now.vars i) (sym c.height.ensures)
          (height_there x.first x.high x.width c.args.f.now.vars 0 c.requires.placed.spot c.requires.there (omega arith));
      b = c.requires.west_y;
      c = subst (λ (i : IntVars). IntIsThere c.args.f.now.vars i) (sym c.height-2.ensures)
          (height_there x.first x.high x.width c.args.f.now.vars x.width c.requires.placed.spot c.requires.there (omega arith));
      d = c.requires.east_y;
    }

pub returns : goal.returns
returns c =
    let l = edge_lits c.args.e.now.first c.args.e.now.high c.args.e.now.width in
    adds_as c.add_two_equal.result _ _ _ _ 2 2
    (ap (λ (i : IntVars). equal_clauses i c.args.west_y.now [] ++ equal_clauses c.height-2.result c.args.east_y.now []) c.height.ensures
    ∙ ap (λ (i : IntVars). equal_clauses (l.height 0) c.args.west_y.now [] ++ equal_clauses i c.args.east_y.now []) c.height-2.ensures)
    (omega arith) c.add_two_equal.ensures
