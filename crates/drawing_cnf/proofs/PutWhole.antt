-- A whole drawing that is put: the base, then the laws, then the bounds.
use Rattle.std.proofs.Common.{◌≡◌, ℕ, ◌+◌, ◌≤◌, ◌<◌, Bool, ◌++◌, refl, ◌∙◌, arith}
use Rattle.plan_core.specs.Grid.{GridSize, IsGrid}
use Rattle.plan_core.specs.Graph.{Graph, IsTrackGraph}
use Rattle.plan_core.specs.Drawing.{Drawing}
use Rattle.cnf_core.specs.declared.limits.TheConstants.{VARS}
use Rattle.cnf_core.specs.Clause.{Clauses}
use Rattle.cnf_core.specs.Assignment.{Assignment, SatisfiesAll}
use Rattle.cnf_core.proofs.ClauseLemmas.{satisfies_append, satisfies_all_same}
use Rattle.cnf_laws.specs.Stands.{ReadsDrawing, IsJoinedOnGrid, StandsFor}
use Rattle.cnf_laws.specs.LawClauses.{laws_clauses}
use Rattle.cnf_laws.specs.Expected.{drawing_vars, laws_first, base_clauses, instances, formula_clauses, formula_size}
use Rattle.drawing_cnf.specs.Puts.{IsPutTo, HoldsBefore, PutsLaws}
use Rattle.cnf_laws.proofs.BaseLemmas.{base_last, base_there}
use Rattle.cnf_laws.proofs.MainLemmas.{reads_stand}
use Rattle.drawing_cnf.proofs.PutLaws.{put_to_read}

pub put_base_to : (g : Graph) (grid : GridSize) (d : Drawing) (v : Assignment) → IsTrackGraph g → IsGrid grid → laws_first g grid ≤ VARS + 1 →
    IsJoinedOnGrid g grid d → ReadsDrawing v g (drawing_vars g grid) grid.width d → IsPutTo g grid d v (laws_first g grid)
put_base_to g grid d v is size few loose reads = record { graph = is; size = size; few = few; loose = loose; reads = reads; behind = omega arith }

pub drawing_reads : (g : Graph) (above overlap : ℕ → ℕ → Bool) (grid : GridSize) (d : Drawing) (old new : Assignment) →
    IsPutTo g grid d old (laws_first g grid) → PutsLaws g grid (instances g above overlap) (laws_first g grid) old new →
    ReadsDrawing new g (drawing_vars g grid) grid.width d
drawing_reads g above overlap grid d old new put p = (put_to_read g grid d old new (laws_first g grid) put p.same.below).reads

pub drawing_holds : (g : Graph) (above overlap : ℕ → ℕ → Bool) (grid : GridSize) (d : Drawing) (old new : Assignment) →
    IsPutTo g grid d old (laws_first g grid) → SatisfiesAll old (base_clauses g (drawing_vars g grid) grid) →
    PutsLaws g grid (instances g above overlap) (laws_first g grid) old new →
    HoldsBefore (formula_size g above overlap grid + 1) new (formula_clauses g above overlap grid)
drawing_holds g above overlap grid d old new put base p w agree =
    let x = drawing_vars g grid in
    let last = base_last g grid in
    satisfies_append w (base_clauses g x grid) (laws_clauses g x grid.width (laws_first g grid) (instances g above overlap))
    (satisfies_all_same old w last (base_clauses g x grid) (base_there g grid put.graph put.size put.few)
    (λ y le. agree y (omega arith) ∙ p.same.below y (omega arith)) base)
    (p.holds w (λ y lt. agree y (omega arith)))

-- with the drawing's clauses, the next variable is a bound's
pub put_drawing_to : (g : Graph) (above overlap : ℕ → ℕ → Bool) (grid : GridSize) (d : Drawing) (v : Assignment) → IsTrackGraph g → IsGrid grid →
    formula_size g above overlap grid ≤ VARS → IsJoinedOnGrid g grid d → ReadsDrawing v g (drawing_vars g grid) grid.width d →
    IsPutTo g grid d v (formula_size g above overlap grid + 1)
put_drawing_to g above overlap grid d v is size small loose reads = record {
  graph = is;
  size = size;
  few = omega arith;
  loose = loose;
  reads = reads;
  behind = omega arith;
}

pub whole_stands : (g : Graph) (grid : GridSize) (d : Drawing) (first : ℕ) (old new : Assignment) → IsPutTo g grid d old first →
    ((y : ℕ) → y < first → new y ≡ old y) → StandsFor new g (drawing_vars g grid) d
whole_stands g grid d first old new put below =
    let r = put_to_read g grid d old new first put below in
    reads_stand new g (drawing_vars g grid) grid d r.reads r.loose

pub whole_holds : (last next : ℕ) (old new : Assignment) (xs ys : Clauses) → HoldsBefore (last + 1) old xs → ((y : ℕ) → y ≤ last → new y ≡ old y) →
    HoldsBefore next new ys → SatisfiesAll new (xs ++ ys)
whole_holds last next old new xs ys h below k = satisfies_append new xs ys (h new (λ y lt. below y (omega arith))) (k new (λ y lt. refl))
