-- The clauses of nodes and edges by themselves: sound and complete for drawings with laws 1 and 3. With least length 1
-- the formula is what it is without any.
use Rattle.std.proofs.Common.{◌≡◌, ℕ, ◌+◌, ◌≤◌, Bool, false, ◌++◌, length, ap}
use Rattle.plan_core.specs.Grid.{GridSize, IsGrid}
use Rattle.plan_core.specs.Graph.{Graph, edge, IsTrackGraph}
use Rattle.cnf_core.specs.declared.limits.TheConstants.{VARS}
use Rattle.cnf_core.specs.Assignment.{Extends}
use Rattle.cnf_core.specs.Formula.{each}
use Rattle.edge_shape.specs.Edge.{edge_clauses}
use Rattle.cnf_laws.specs.LawClauses.{laws_clauses}
use Rattle.cnf_laws.specs.Expected.{drawing_vars, laws_first, node_clauses, base_clauses, instances, formula_clauses}
use Rattle.cnf_laws.specs.Joined.{SoundJoined, CoversJoined}
use Rattle.cnf_laws.specs.WithoutLeast.{clauses_without_least}
use Rattle.cnf_laws.proofs.BaseLemmas.{base_last, base_means, BaseHolds, base_extends}
use Rattle.cnf_laws.proofs.MainLemmas.{reads_stand}

pub base_sound : (g : Graph) (grid : GridSize) → IsTrackGraph g → IsGrid grid → SoundJoined g grid (base_clauses g (drawing_vars g grid) grid)
base_sound g grid is size v h =
    let b = base_means v g grid is size h in
    record { drawing = b.drawing; joined = b.loose; reads = b.reads; stands = reads_stand v g (drawing_vars g grid) grid b.drawing b.reads b.loose }

pub base_covers : (g : Graph) (grid : GridSize) → IsTrackGraph g → IsGrid grid → laws_first g grid ≤ VARS + 1 →
    CoversJoined g grid (base_clauses g (drawing_vars g grid) grid)
base_covers g grid is size few d joined =
    let b : Extends 1 (base_last g grid) (λ y. false) (λ w. BaseHolds w g grid d) = base_extends g grid d (λ y. false) is size few joined in
    record { to = b.to; satisfies = b.holds.satisfies; reads = b.holds.reads; stands = reads_stand b.to g (drawing_vars g grid) grid d b.holds.reads joined }

pub least_one : (g : Graph) (above overlap : ℕ → ℕ → Bool) (grid : GridSize) → grid.least ≡ 1 →
    formula_clauses g above overlap grid ≡ clauses_without_least g above overlap grid
least_one g above overlap grid one =
    let x = drawing_vars g grid in
    ap (λ least. (each (λ n. node_clauses (x.node n)) 0 (length g.nodes)
    ++ each (λ e. edge_clauses (x.edge e) (x.node (edge g e).west) (x.node (edge g e).east) least grid.height grid.width) 0 (length g.edges))
    ++ laws_clauses g x grid.width (laws_first g grid) (instances g above overlap)) one
