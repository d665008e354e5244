use Rattle.std.specs.Prelude.{length, ◌*◌}
use Rattle.cnf_core.specs.Formula.{each}
use Rattle.cnf_core.proofs.BlockLemmas.{IsBuilding}
use Rattle.edge_shape.specs.EdgeVars.{edge_size}
use Rattle.cnf_laws.specs.Expected.{drawing_vars, edge_part}
use Rattle.cnf_laws.proofs.nodes.add_edges.Given as goal

abbrev pub invariant-loop-e : goal.invariant-loop-e
invariant-loop-e l = IsBuilding (λ k. edge_size l.grid.height l.grid.width) (edge_part l.g (drawing_vars l.g l.grid) l.grid) l.fn.f l.f
    (length l.g.edges * edge_size l.grid.height l.grid.width) (each (edge_part l.g (drawing_vars l.g l.grid) l.grid) 0 (length l.g.edges)) l.e l.end
