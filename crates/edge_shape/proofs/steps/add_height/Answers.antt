use Rattle.std.proofs.Common.{◌+◌, subst, sym, arith}
use Rattle.cnf_core.specs.Lit.{Literal}
use Rattle.cnf_core.specs.Clause.{IsThere}
use Rattle.order_int.specs.IntVars.{IntVars, IntIsThere}
use Rattle.edge_shape.proofs.PlaceLemmas.{height_there, column_there}
use Rattle.edge_shape.proofs.RuleCode.{adds_rise}
use Rattle.edge_shape.proofs.steps.add_height.Goals as goal

pub add_rise-requires : goal.add_rise-requires
add_rise-requires c =
    let x = c.args.e.now in
    let vars = c.args.f.now.vars in
    let k = c.args.c in
    let lt = c.requires.c in
    let placed = c.requires.placed.spot in
    record {
      a = subst (λ (i : IntVars). IntIsThere vars i) (sym c.height.ensures) (height_there x.first x.high x.width vars k placed c.requires.there
          (omega (arith, lt)));
      b = subst (λ (i : IntVars). IntIsThere vars i) (sym c.height-2.ensures) (height_there x.first x.high x.width vars (k + 1) placed c.requires.there
          (omega (arith, lt)));
      up = subst (λ (l : Literal). IsThere vars l) (sym c.up_lit.ensures) (column_there x.first x.high x.width vars k 1 placed c.requires.there lt
          (omega arith));
      down = subst (λ (l : Literal). IsThere vars l) (sym c.down_lit.ensures) (column_there x.first x.high x.width vars k 2 placed c.requires.there lt
          (omega arith));
      high = placed.rows;
    }

pub returns : goal.returns
returns c = adds_rise c.add_rise.result _ _ _ _ _ _ _ _ _ _ c.args.e.now.high c.height.ensures c.height-2.ensures c.up_lit.ensures c.down_lit.ensures
    c.add_rise.ensures
