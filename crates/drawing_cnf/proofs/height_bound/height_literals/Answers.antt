use Rattle.std.proofs.Common.{◌≡◌, ◌≤◌, ◌<◌, ◌+◌, ◌++◌, length, sym, ◌∙◌, ap, subst, arith}
use Rattle.edge_shape.specs.EdgeVars.{EdgeSpot, lits_of}
use Rattle.cnf_laws.specs.Expected.{drawing_vars}
use Rattle.drawing_cnf.specs.Bounds.{column_lits, height_lits}
use Rattle.drawing_cnf.proofs.ListCode.{heights_next, heights_done}
use Rattle.drawing_cnf.proofs.height_bound.height_literals.Goals as goal

pub loop-e-preserved : goal.loop-e-preserved
loop-e-preserved c =
    let g = c.args.g.now in
    let d = c.args.grid.now in
    let x = drawing_vars g d in
    let k = c.args.k in
    let e = c.loop-e.e in
    let front = c.loop-e.lits.items in
    let test = c.loop-e-test.true in
    let end = c.edges-end.ensures.value in
    let lt : e < length g.edges = omega arith in
    let more : c.push_heights.new.lits.items ≡ front ++ column_lits (x.edge e) k 0 (d.width + 1) =
    c.in_ok-push_heights.ensures ∙ ap (λ (s : EdgeSpot). front ++ column_lits (lits_of s) k 0 (c.width.result + 1)) c.edge_vars-vars.ensures.edge
    ∙ ap (λ n. front ++ column_lits (x.edge e) k 0 (n + 1)) c.width.ensures.value in
    heights_next x d.width k e (length g.edges) front c.push_heights.new.lits.items (height_lits x d.width k 0 (length g.edges)) lt more c.loop-e.invariant

pub push_heights-requires-clause-to : goal.push_heights-requires-clause-to
push_heights-requires-clause-to c = subst (λ (s : EdgeSpot). c.args.k ≤ s.high) (sym c.edge_vars-vars.ensures.edge) c.requires.to

pub push_heights-requires-clause-width : goal.push_heights-requires-clause-width
push_heights-requires-clause-width c = c.width.ensures.value ∙ sym (ap (λ (s : EdgeSpot). s.width) c.edge_vars-vars.ensures.edge)

pub returns : goal.returns
returns c =
    let g = c.args.g.now in
    let d = c.args.grid.now in
    let x = drawing_vars g d in
    let end = c.edges-end.ensures.value in
    let test = c.loop-e-test.false in
    let past : length g.edges ≤ c.loop-e.e = omega arith in
    heights_done x d.width c.args.k c.loop-e.e (length g.edges) c.loop-e.lits.items (height_lits x d.width c.args.k 0 (length g.edges)) past c.loop-e.invariant
