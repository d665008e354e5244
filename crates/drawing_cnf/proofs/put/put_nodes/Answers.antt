use Rattle.std.proofs.Common.{refl, sym, ◌∙◌, subst, arith}
use Rattle.plan_core.specs.declared.point.Point.{Point}
use Rattle.plan_core.specs.Laws.{IsOnGrid}
use Rattle.cnf_core.specs.Truths.{assignment}
use Rattle.cnf_laws.specs.Stands.{ReadsPoint}
use Rattle.cnf_laws.specs.Expected.{drawing_vars}
use Rattle.cnf_laws.proofs.BaseLemmas.{node_spot}
use Rattle.drawing_cnf.proofs.PutLemmas.{node_put}
use Rattle.drawing_cnf.proofs.put.put_nodes.Goals as goal

pub loop-n-init : goal.loop-n-init
loop-n-init c = ((λ k lt. absurd (omega arith)), refl, λ y high. refl)

pub put_node-requires-clause-on_grid : goal.put_node-requires-clause-on_grid
put_node-requires-clause-on_grid c =
    let to = c.loop-n-test.true in
    let is = c.nodes-end.ensures.value in
    subst (λ (p : Point). IsOnGrid c.args.grid.now p) (sym c.place.ensures) (c.requires.loose.on_grid c.loop-n.n (omega arith))

pub loop-n-preserved : goal.loop-n-preserved
loop-n-preserved c =
    let to = c.loop-n-test.true in
    let is = c.nodes-end.ensures.value in
    let g = c.args.g.now in
    let grid = c.args.grid.now in (
      node_put g grid c.args.d.now (assignment c.loop-n.m) (assignment c.put_node.new.m) c.loop-n.n (omega arith) c.loop-n.invariant.0 c.put_node.ensures.same
          (subst (λ (p : Point). ReadsPoint (assignment c.put_node.new.m) ((drawing_vars g grid).node c.loop-n.n) p) c.place.ensures c.put_node.ensures.reads),
      c.put_node.ensures.vars ∙ c.loop-n.invariant.1,
      λ y high. let s = node_spot g grid c.loop-n.n (omega arith) in c.put_node.ensures.same.above y (omega arith) ∙ c.loop-n.invariant.2 y high,
    )

pub returns : goal.returns
returns c =
    let end = c.loop-n-test.false in
    let is = c.nodes-end.ensures.value in
    record { reads = λ n lt. c.loop-n.invariant.0 n (omega arith); later = c.loop-n.invariant.2; vars = c.loop-n.invariant.1 }
