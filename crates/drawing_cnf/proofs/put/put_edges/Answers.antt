use Rattle.std.proofs.Common.{refl, ◌∙◌, arith}
use Rattle.cnf_core.specs.Truths.{assignment}
use Rattle.cnf_laws.proofs.BaseLemmas.{edge_spot_in}
use Rattle.cnf_laws.proofs.MainLemmas.{few_variables}
use Rattle.drawing_cnf.proofs.PutLemmas.{no_edge_put, edge_put, edges_read, edges_hold}
use Rattle.drawing_cnf.proofs.put.put_edges.Goals as goal

pub loop-e-init : goal.loop-e-init
loop-e-init c = (no_edge_put c.args.g.now c.args.grid.now c.args.d.now (assignment c.args.m.now) c.requires.nodes, refl, λ y high. refl)

pub put_edge-requires-clause-nodes : goal.put_edge-requires-clause-nodes
put_edge-requires-clause-nodes c = λ n lt. c.loop-e.invariant.0.nodes n lt

pub loop-e-preserved : goal.loop-e-preserved
loop-e-preserved c =
    let to = c.loop-e-test.true in
    let is = c.edges-end.ensures.value in
    let g = c.args.g.now in
    let grid = c.args.grid.now in
    let s = c.nodes.ensures.station in
    let size = c.width.ensures.is_grid in
    let p = c.put_edge.ensures in (
      edge_put g grid c.args.d.now (assignment c.loop-e.m) (assignment c.put_edge.new.m) c.loop-e.e s.track_graph size
          (few_variables g grid size s.few_nodes s.few_edges) (omega arith) c.loop-e.invariant.0 p.same p.reads p.satisfies,
      p.vars ∙ c.loop-e.invariant.1,
      λ y high. let all = edge_spot_in g grid c.loop-e.e size (few_variables g grid size s.few_nodes s.few_edges) (omega arith) in let top = all.1 in
          p.same.above y (omega arith) ∙ c.loop-e.invariant.2 y high,
    )

pub returns : goal.returns
returns c =
    let end = c.loop-e-test.false in
    let is = c.edges-end.ensures.value in
    let g = c.args.g.now in
    let grid = c.args.grid.now in
    record {
      reads = edges_read g grid c.args.d.now (assignment c.loop-e.m) c.loop-e.e (omega arith) c.loop-e.invariant.0;
      satisfies = edges_hold g grid c.args.d.now (assignment c.loop-e.m) c.loop-e.e (omega arith) c.loop-e.invariant.0;
      later = c.loop-e.invariant.2;
      vars = c.loop-e.invariant.1;
    }
