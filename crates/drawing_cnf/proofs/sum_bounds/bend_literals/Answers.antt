use Rattle.std.proofs.Common.{◌<◌, ◌≤◌, ◌+◌, ◌∙◌, drop, length, sym, ap, subst, arith}
use Rattle.cnf_core.specs.LitOrTruth.{yes}
use Rattle.edge_shape.specs.EdgeVars.{EdgeLits}
use Rattle.unary_sum.specs.Part.{IsLit}
use Rattle.cnf_laws.specs.Expected.{drawing_vars}
use Rattle.drawing_cnf.proofs.ListCode.{bends_next, bends_done}
use Rattle.drawing_cnf.proofs.DiagonalCode.{left_none, left_one}
use Rattle.drawing_cnf.proofs.sum_bounds.bend_literals.Goals as goal

pub literal_of-requires : goal.literal_of-requires
literal_of-requires c = subst IsLit (sym c.first_bend.ensures.value) tt

pub literal_of-requires-in-loop-e : goal.literal_of-requires-in-loop-e
literal_of-requires-in-loop-e c = subst IsLit (sym c.second_bend.ensures.value) tt

pub loop-e-preserved : goal.loop-e-preserved
loop-e-preserved c =
    let es = c.args.edges.now in
    let k = c.loop-e.e-index in
    let lt : k < length es = omega arith in
    bends_next (drawing_vars c.args.g.now c.args.grid.now) es (drop k es) (drop (k + 1) es) _ c.loop-e.lits.items c.push.new.self.items
    c.push-in-loop-e.new.self.items c.literal_of.result c.literal_of-in-loop-e.result (left_one es k _ lt)
    (c.literal_of.ensures _ (c.first_bend.ensures.value ∙ ap (λ (l : EdgeLits). yes l.first_bend) c.edge_vars-vars.ensures.lits))
    (c.literal_of-in-loop-e.ensures _ (c.second_bend.ensures.value ∙ ap (λ (l : EdgeLits). yes l.second_bend) c.edge_vars-vars.ensures.lits))
    c.in_ok-push.ensures.items c.in_ok-push-2.ensures.items c.loop-e.invariant

pub returns : goal.returns
returns c =
    let es = c.args.edges.now in
    let k = c.loop-e.e-index in
    let past : length es ≤ k = omega arith in
    bends_done (drawing_vars c.args.g.now c.args.grid.now) es (drop k es) c.loop-e.lits.items (left_none es k past) c.loop-e.invariant
