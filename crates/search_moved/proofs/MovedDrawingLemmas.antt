-- The formula with moved nodes is sound, and covers the lawful drawings.
use Rattle.std.proofs.Common.{◌≡◌, ℕ, ◌+◌, ◌*◌, ◌<◌, ◌≤◌, Bool, length, arith}
use Rattle.plan_core.specs.Grid.{GridSize, IsGrid}
use Rattle.plan_core.specs.Graph.{Graph, IsTrackGraph}
use Rattle.plan_core.specs.Drawing.{Drawing, place}
use Rattle.cnf_core.specs.declared.limits.TheConstants.{VARS}
use Rattle.cnf_core.specs.Clause.{IsNamed, words_of}
use Rattle.cnf_core.specs.Assignment.{Assignment, SatisfiesAll, Extends}
use Rattle.cnf_core.proofs.ClauseLemmas.{satisfies_append, satisfies_left, satisfies_right, words_append}
use Rattle.cnf_core.proofs.SettingLemmas.{satisfies_before}
use Rattle.drawing_cnf.specs.Stands.{StandsFor, ReadsPoint, NodeThere}
use Rattle.drawing_cnf.specs.Expected.{drawing_vars, laws_first, formula_clauses, formula_size, instances}
use Rattle.drawing_cnf.proofs.ThereLemmas.{node_more}
use Rattle.drawing_cnf.proofs.OverLemmas.{Read}
use Rattle.drawing_cnf.proofs.InstanceLemmas.{read_stays}
use Rattle.drawing_cnf.proofs.BaseLemmas.{base_last, base_vars, lawful_loose}
use Rattle.drawing_cnf.proofs.MainLemmas.{AreTablesOf, all_listed, full_model, formula_sound, reads_stand}
use Rattle.drawing_cnf.proofs.BoundedLemmas.{expected_there}
use Rattle.drawing_cnf.proofs.BoundNames.{behind}
use Rattle.drawing_cnf.specs.Moved.{Former, matched}
use Rattle.drawing_cnf.specs.MovedClauses.{count_size, count_clauses}
use Rattle.drawing_cnf.proofs.CountLemmas.{count_exact, count_extends}
use Rattle.drawing_cnf.proofs.VariableLemmas.{moved_named}
use Rattle.drawing_cnf.proofs.SizeLemmas.{count_words, count_vars}
use Rattle.search_moved.specs.MovedFormula.{moved_formula, moved_size, SoundMoved, CoversMoved}

stands_read : (v : Assignment) (g : Graph) (grid : GridSize) (d : Drawing) (k : ℕ) → StandsFor v g (drawing_vars g grid) d → k < length g.nodes →
    ReadsPoint v ((drawing_vars g grid).node k) (place d k)
stands_read v g grid d k s lt = record { x = s.columns k lt; y = s.rows k lt }

pub moved_sound : (g : Graph) (above overlap : ℕ → ℕ → Bool) (grid : GridSize) (former : Former) → IsTrackGraph g → IsGrid grid → AreTablesOf g above overlap →
    length former ≡ length g.nodes → SoundMoved g above overlap grid former
moved_sound g above overlap grid former is size t same v h =
    let formula = formula_clauses g above overlap grid in
    let vars = formula_size g above overlap grid in
    let count = count_clauses (drawing_vars g grid).node former vars in
    let s = formula_sound g above overlap grid is size t v (satisfies_left v formula count h) in
    record {
      drawing = s.drawing;
      stands = s.stands;
      lawful = s.lawful;
      tells = count_exact v (drawing_vars g grid).node former (place s.drawing) vars
          (λ k lt. stands_read v g grid s.drawing k s.stands (omega (arith, lt, same))) (satisfies_right v formula count h);
    }

node_there : (g : Graph) (above overlap : ℕ → ℕ → Bool) (grid : GridSize) (k : ℕ) → IsGrid grid → laws_first g grid ≤ VARS + 1 → k < length g.nodes →
    NodeThere (formula_size g above overlap grid) ((drawing_vars g grid).node k)
node_there g above overlap grid k size few lt =
    let a = base_vars g grid size few in
    node_more (base_last g grid) (formula_size g above overlap grid) ((drawing_vars g grid).node k) (omega arith) (record {
      x = a.node_x k lt;
      y = a.node_y k lt;
    })

pub moved_covers : (g : Graph) (above overlap : ℕ → ℕ → Bool) (grid : GridSize) (former : Former) → IsTrackGraph g → IsGrid grid →
    laws_first g grid ≤ VARS + 1 → AreTablesOf g above overlap → length former ≡ length g.nodes →
    CoversMoved g above overlap grid former
moved_covers g above overlap grid former is size few t same d h =
    let laws = instances g above overlap in
    let x = drawing_vars g grid in
    let formula = formula_clauses g above overlap grid in
    let vars = formula_size g above overlap grid in
    let count = count_clauses x.node former vars in
    let are = (all_listed g above overlap t).are in
    let m = full_model g above grid laws d is size few are h in
    let a = base_vars g grid size few in
    let r : Read m.to g x grid d = record { graph = is; reads = m.reads; loose = lawful_loose g above grid d is h } in
    let e : Extends (vars + 1) (count_size former vars) m.to (λ w. SatisfiesAll w count) = count_extends m.to x.node former (place d) vars
    (λ k lt. node_there g above overlap grid k size few (omega (arith, lt, same))) (λ k lt. m.reads.points k (omega (arith, lt, same))) in
    let read : Read e.to g x grid d = read_stays m.to e.to (base_last g grid) g x grid d a (λ y low. e.same.below y (omega arith)) r in
    record {
      to = e.to;
      satisfies = satisfies_append e.to formula count (satisfies_before (vars + 1) (count_size former vars) vars m.to e.to formula (omega arith)
          (expected_there g above grid laws is size few are) e.same m.satisfies) e.holds;
      stands = reads_stand e.to g x grid d read.reads read.loose;
      tells = count_exact e.to x.node former (place d) vars (λ k lt. read.reads.points k (omega (arith, lt, same))) e.holds;
    }

pub moved_is_named : (g : Graph) (above overlap : ℕ → ℕ → Bool) (grid : GridSize) (former : Former) (j : ℕ) → 1 ≤ j → j ≤ matched former →
    IsNamed (moved_formula g above overlap grid former) (formula_size g above overlap grid + j)
moved_is_named g above overlap grid former j from to =
    let x = drawing_vars g grid in
    let vars = formula_size g above overlap grid in
    behind (formula_clauses g above overlap grid) (count_clauses x.node former vars) (vars + j) (moved_named x.node former vars j from to)

pub moved_words : (g : Graph) (above overlap : ℕ → ℕ → Bool) (grid : GridSize) (former : Former) →
    words_of (moved_formula g above overlap grid former) ≤ words_of (formula_clauses g above overlap grid) + 200 * ((length former + 1) * (length former + 2))
moved_words g above overlap grid former =
    let formula = formula_clauses g above overlap grid in
    let vars = formula_size g above overlap grid in
    let count = count_clauses (drawing_vars g grid).node former vars in
    let a = words_append formula count in
    let b = count_words (drawing_vars g grid).node former vars in
    omega (arith, a, b)

pub moved_vars : (g : Graph) (above overlap : ℕ → ℕ → Bool) (grid : GridSize) (former : Former) →
    moved_size g above overlap grid former ≤ formula_size g above overlap grid + 20 * ((length former + 1) * (length former + 2))
moved_vars g above overlap grid former = let b = count_vars former (formula_size g above overlap grid) in omega (arith, b)
