-- An edge of the graph, as add_edge adds it.
use Rattle.std.proofs.Common.{◌≡◌, ℕ, ◌+◌, ◌∙◌, ap, subst, arith}
use Rattle.std.specs.Prelude.{Result}
use Rattle.plan_core.specs.Grid.{GridSize}
use Rattle.plan_core.specs.Graph.{Graph, edge}
use Rattle.cnf_core.specs.declared.fault.CnfFault.{CnfFault}
use Rattle.cnf_core.specs.Clause.{Clauses}
use Rattle.cnf_core.specs.Formula.{Cnf}
use Rattle.cnf_core.specs.Added.{AddsBlock}
use Rattle.cnf_core.proofs.BlockLemmas.{block_longer}
use Rattle.order_int.specs.IntVars.{IntVars}
use Rattle.edge_shape.specs.EdgeVars.{node_ints, edge_lits, edge_size}
use Rattle.edge_shape.specs.Edge.{edge_clauses}
use Rattle.cnf_laws.specs.Rank.{west_rank}
use Rattle.cnf_laws.specs.Expected.{ints_at_place, edge_first, drawing_vars, edge_part}

pub edge_adds : {T : Type 0} (r : Result T CnfFault) (old new : Cnf) (g : Graph) (grid : GridSize) (e w z : ℕ) (wx wy ex ey : IntVars) →
    old.vars + 1 ≡ edge_first g grid e → w ≡ (edge g e).west → z ≡ (edge g e).east → wx ≡ (ints_at_place grid (west_rank g w)).x →
    wy ≡ (ints_at_place grid (west_rank g w)).y → ex ≡ (ints_at_place grid (west_rank g z)).x → ey ≡ (ints_at_place grid (west_rank g z)).y
    → AddsBlock r old new (edge_size grid.height grid.width) (edge_clauses (edge_lits (old.vars + 1) grid.height grid.width) (node_ints wx wy) (node_ints ex ey)
    grid.least grid.height grid.width) 5
    → AddsBlock r old new (edge_size grid.height grid.width) (edge_part g (drawing_vars g grid) grid e) 7
edge_adds r old new g grid e w z wx wy ex ey at ew ez e1 e2 e3 e4 h =
    let high = grid.height in
    let width = grid.width in
    let same : edge_clauses (edge_lits (old.vars + 1) high width) (node_ints wx wy) (node_ints ex ey) grid.least high width ≡ edge_part g (drawing_vars g grid)
    grid e =
    ap (λ k. edge_clauses (edge_lits k high width) (node_ints wx wy) (node_ints ex ey) grid.least high width) at
    ∙ ap (λ (i : IntVars). edge_clauses (edge_lits (edge_first g grid e) high width) (node_ints i wy) (node_ints ex ey) grid.least high width) e1
    ∙ ap (λ (i : IntVars). edge_clauses (edge_lits (edge_first g grid e) high width) (node_ints (ints_at_place grid (west_rank g w)).x i) (node_ints ex ey)
    grid.least high width) e2
    ∙ ap (λ (i : IntVars). edge_clauses (edge_lits (edge_first g grid e) high width) (ints_at_place grid (west_rank g w)) (node_ints i ey) grid.least high
    width) e3
    ∙ ap (λ (i : IntVars). edge_clauses (edge_lits (edge_first g grid e) high width) (ints_at_place grid (west_rank g w))
    (node_ints (ints_at_place grid (west_rank g z)).x i) grid.least high width) e4
    ∙ ap (λ k. edge_clauses (edge_lits (edge_first g grid e) high width) (ints_at_place grid (west_rank g k)) (ints_at_place grid (west_rank g z)) grid.least
    high width) ew
    ∙ ap (λ k. edge_clauses (edge_lits (edge_first g grid e) high width) (ints_at_place grid (west_rank g (edge g e).west)) (ints_at_place grid (west_rank g k))
    grid.least high width) ez in
    subst (λ (cs : Clauses). AddsBlock r old new (edge_size high width) cs 7) same
    (block_longer r old new (edge_size high width) (edge_clauses (edge_lits (old.vars + 1) high width) (node_ints wx wy) (node_ints ex ey) grid.least high
    width) 5 7 (omega arith) h)
