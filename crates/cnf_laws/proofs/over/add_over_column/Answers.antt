use Rattle.std.proofs.Common.{sym, subst, ◌∙◌, ap}
use Rattle.cnf_core.specs.declared.literal.LitOrTruth.{LitOrTruth}
use Rattle.cnf_core.specs.LitOrTruth.{flip, IsWithin}
use Rattle.order_int.specs.IntVars.{IntVars, IntIsThere}
use Rattle.edge_shape.specs.EdgeVars.{EdgeIsPlaced}
use Rattle.edge_shape.proofs.PlaceLemmas.{inside_there, height_there}
use Rattle.cnf_laws.proofs.ThereLemmas.{at_west_within, at_east_within}
use Rattle.cnf_laws.proofs.over.add_over_column.Goals as goal

pub add_guarded-requires-clause-a : goal.add_guarded-requires-clause-a
add_guarded-requires-clause-a c =
    let e = c.args.g.now in
    let vars = c.args.f.now.vars in
    let placed : EdgeIsPlaced e.first e.high e.width = c.height-low.ensures.placed in
    subst (λ (i : IntVars). IntIsThere vars i) (sym c.height-low.ensures.value) (height_there e.first e.high e.width vars c.args.c placed.spot
    c.requires.g_there c.requires.g_column)

pub add_guarded-requires-clause-b : goal.add_guarded-requires-clause-b
add_guarded-requires-clause-b c =
    let e = c.args.e.now.edge.now in
    let vars = c.args.f.now.vars in
    let placed : EdgeIsPlaced e.first e.high e.width = c.height-high.ensures.placed in
    subst (λ (i : IntVars). IntIsThere vars i) (sym c.height-high.ensures.value) (height_there e.first e.high e.width vars c.args.c placed.spot
    c.requires.e_there c.requires.e_column)

pub add_guarded-requires-clause-guards : goal.add_guarded-requires-clause-guards
add_guarded-requires-clause-guards c =
    let e = c.args.e.now.edge.now in
    let g = c.args.g.now in
    let vars = c.args.f.now.vars in
    let p : EdgeIsPlaced e.first e.high e.width = c.in_range.ensures.placed in
    let q : EdgeIsPlaced g.first g.high g.width = c.in_range-2.ensures.placed in (
      subst (λ (t : LitOrTruth). IsWithin vars t) (sym (c.negated.ensures ∙ ap flip c.in_range.ensures.value))
          (inside_there e.first e.high e.width vars c.args.c p.spot c.requires.e_there c.requires.e_column),
      (
        subst (λ (t : LitOrTruth). IsWithin vars t) (sym (c.negated-2.ensures ∙ ap flip c.in_range-2.ensures.value))
            (inside_there g.first g.high g.width vars c.args.c q.spot c.requires.g_there c.requires.g_column),
        (
          subst (λ (t : LitOrTruth). IsWithin vars t) (sym c.at_west.ensures) (at_west_within vars c.args.e.now.shares_west c.args.e.now.west.now _
              c.requires.west),
          (
            subst (λ (t : LitOrTruth). IsWithin vars t) (sym c.at_east.ensures) (at_east_within vars c.args.e.now.shares_east c.args.e.now.east.now _
                c.requires.east),
            (subst (λ (t : LitOrTruth). IsWithin vars t) (sym c.same.ensures) c.requires.guard, tt),
          ),
        ),
      ),
    )
