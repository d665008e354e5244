-- Bounds behind the formula: each model reads a lawful drawing and tells its values, and each lawful drawing has such a model.
use Rattle.std.proofs.Common.{ℕ, ◌+◌, ◌≤◌, Bool, true, false, List, [], ◌∷◌, ◌++◌, sym, subst, arith, append_assoc, append-nil}
use Rattle.std.specs.Prelude.{cond, nat_eq}
use Rattle.std.proofs.lemmas.List.Elements.{All-nil, All-cons}
use Rattle.plan_core.specs.declared.criterion.Criterion.{Criterion}
use Rattle.plan_core.specs.declared.criterion.Criterion.TheVariants.{Height, Bends, Diagonal, Width}
use Rattle.plan_core.specs.Grid.{GridSize, IsGrid}
use Rattle.plan_core.specs.Graph.{Graph, IsTrackGraph}
use Rattle.plan_core.specs.Drawing.{Drawing}
use Rattle.plan_core.specs.Lawful.{Instance, Lawful}
use Rattle.plan_core.specs.Values.{values_of, value_of}
use Rattle.cnf_core.specs.declared.limits.TheConstants.{VARS}
use Rattle.cnf_core.specs.Clause.{Clauses, AllThere}
use Rattle.cnf_core.specs.Assignment.{Assignment, SatisfiesAll, Extends}
use Rattle.cnf_core.proofs.ClauseLemmas.{satisfies_append, satisfies_left, satisfies_right, satisfies_all_same, all_there_append, all_there_more}
use Rattle.cnf_laws.specs.Stands.{DrawingVars}
use Rattle.cnf_laws.specs.LawClauses.{laws_clauses}
use Rattle.cnf_laws.specs.Expected.{drawing_vars, laws_first, base_clauses, expected_clauses, expected_size, Covers}
use Rattle.drawing_cnf.specs.Bounds.{IsExact, bound_clauses, bound_size, west_first}
use Rattle.drawing_cnf.specs.Bounded.{Bound, bound, clauses_of_bound, size_of_bound, bounds_clauses, bounds_from, AreBehind, Tells, SoundWith}
use Rattle.cnf_laws.proofs.ThereLemmas.{AreVars}
use Rattle.cnf_laws.proofs.OverLemmas.{Read}
use Rattle.cnf_laws.proofs.InstanceLemmas.{AreInstances, laws_there, read_stays}
use Rattle.cnf_laws.proofs.BaseLemmas.{base_means, base_last, base_vars, base_there, lawful_loose}
use Rattle.cnf_laws.proofs.MainLemmas.{ListsAll, each_law, full_model, reads_stand}
use Rattle.drawing_cnf.proofs.BoundLemmas.{all_edges}
use Rattle.drawing_cnf.proofs.BendsBound.{bends_exact, bends_extend, bends_there}
use Rattle.drawing_cnf.proofs.HeightBound.{height_exact, height_extends, height_there}
use Rattle.drawing_cnf.proofs.WidthBound.{width_exact, width_extends, width_there}
use Rattle.drawing_cnf.proofs.DiagonalBound.{diagonal_exact, diagonal_extends, diagonal_there}

-- ANY CRITERION
pub bound_exact : (v : Assignment) (g : Graph) (x : DrawingVars) (grid : GridSize) (d : Drawing) (last cap : ℕ) (c : Criterion) → Read v g x grid d →
    SatisfiesAll v (bound_clauses g x grid last cap c) → IsExact v last cap (value_of (values_of d) c)
bound_exact v g x grid d last cap Height r h = height_exact v g x grid d last cap r h
bound_exact v g x grid d last cap Bends r h = bends_exact v g x grid d (west_first g) last cap (all_edges g) r h
bound_exact v g x grid d last cap Diagonal r h = diagonal_exact v g x grid d (west_first g) last cap (all_edges g) r h
bound_exact v g x grid d last cap Width r h = width_exact v g x grid d last cap r h

pub bound_extends : (v : Assignment) (vars : ℕ) (g : Graph) (x : DrawingVars) (grid : GridSize) (d : Drawing) (last cap : ℕ) (c : Criterion) →
    AreVars vars g x grid.width → vars ≤ last → Read v g x grid d →
    Extends (last + 1) (bound_size g x grid last cap c) v (λ w. SatisfiesAll w (bound_clauses g x grid last cap c))
bound_extends v vars g x grid d last cap Height a le r = height_extends v vars g x grid d last cap a le r
bound_extends v vars g x grid d last cap Bends a le r = bends_extend v vars g x grid d (west_first g) last cap (all_edges g) a le r
bound_extends v vars g x grid d last cap Diagonal a le r = diagonal_extends v vars g x grid d (west_first g) last cap (all_edges g) a le r
bound_extends v vars g x grid d last cap Width a le r = width_extends v vars g x grid d last cap a le r

pub bound_there : (vars : ℕ) (g : Graph) (x : DrawingVars) (grid : GridSize) (last cap : ℕ) (c : Criterion) → IsTrackGraph g → AreVars vars g x grid.width →
    vars ≤ last → AllThere (last + bound_size g x grid last cap c) (bound_clauses g x grid last cap c)
bound_there vars g x grid last cap Height is a le = height_there vars g x grid.width last cap is a le
bound_there vars g x grid last cap Bends is a le = bends_there vars g x grid.width (west_first g) last cap (all_edges g) a le
bound_there vars g x grid last cap Diagonal is a le = diagonal_there vars g x grid (west_first g) last cap (all_edges g) a le
bound_there vars g x grid last cap Width is a le = width_there vars g x grid.width last cap a le

-- A LIST OF BOUNDS
bounds_tell : (v : Assignment) (g : Graph) (x : DrawingVars) (grid : GridSize) (d : Drawing) (bounds : List Bound) → Read v g x grid d →
    SatisfiesAll v (bounds_clauses g x grid bounds) → Tells v (values_of d) bounds
bounds_tell v g x grid d [] r h = All-nil (λ (b : Bound). IsExact v b.last b.cap (value_of (values_of d) b.criterion))
bounds_tell v g x grid d (b ∷ rest) r h =
    All-cons (λ (b : Bound). IsExact v b.last b.cap (value_of (values_of d) b.criterion)) b rest
    (bound_exact v g x grid d b.last b.cap b.criterion r (satisfies_left v (clauses_of_bound g x grid b) (bounds_clauses g x grid rest) h))
    (bounds_tell v g x grid d rest r (satisfies_right v (clauses_of_bound g x grid b) (bounds_clauses g x grid rest) h))

-- an assignment still reads the drawing, and satisfies these clauses too
pub record StillReads (v : Assignment) (g : Graph) (x : DrawingVars) (grid : GridSize) (d : Drawing) (clauses : Clauses) : Type 0 where
  pub to : Assignment
  pub read : Read to g x grid d
  pub satisfies : SatisfiesAll to clauses

one_behind : (v : Assignment) (g : Graph) (x : DrawingVars) (grid : GridSize) (d : Drawing) (clauses : Clauses) (b : Bound) (vars last : ℕ) →
    AreVars vars g x grid.width → vars ≤ last → last ≤ b.last → AllThere last clauses → Read v g x grid d → SatisfiesAll v clauses →
    StillReads v g x grid d (clauses ++ clauses_of_bound g x grid b)
one_behind v g x grid d clauses b vars last a le behind there r h =
    let e : Extends (b.last + 1) (size_of_bound g x grid b) v (λ w. SatisfiesAll w (clauses_of_bound g x grid b)) = bound_extends v vars g x grid d b.last b.cap
    b.criterion a (omega arith) r in
    record {
      to = e.to;
      read = read_stays v e.to vars g x grid d a (λ y low. e.same.below y (omega arith)) r;
      satisfies = satisfies_append e.to clauses (clauses_of_bound g x grid b) (satisfies_all_same v e.to last clauses there
          (λ y low. e.same.below y (omega arith)) h) e.holds;
    }

bounds_behind : (v : Assignment) (g : Graph) (x : DrawingVars) (grid : GridSize) (d : Drawing) (clauses : Clauses) (bounds : List Bound) (vars last : ℕ) →
    IsTrackGraph g → AreVars vars g x grid.width → vars ≤ last → AreBehind g x grid last bounds → AllThere last clauses → Read v g x grid d →
    SatisfiesAll v clauses → StillReads v g x grid d (clauses ++ bounds_clauses g x grid bounds)
bounds_behind v g x grid d clauses [] vars last is a le behind there r h = record {
  to = v;
  read = r;
  satisfies = subst (λ (cs : Clauses). SatisfiesAll v cs) (sym (append-nil clauses)) h;
}
bounds_behind v g x grid d clauses (b ∷ rest) vars last is a le behind there r h =
    let low = behind.0 in
    let next = b.last + size_of_bound g x grid b in
    let one = clauses_of_bound g x grid b in
    let m = one_behind v g x grid d clauses b vars last a le low there r h in
    let k = bounds_behind m.to g x grid d (clauses ++ one) rest vars next is a (omega arith) behind.1
    (all_there_append next clauses one (all_there_more last next clauses (omega arith) there)
    (bound_there vars g x grid b.last b.cap b.criterion is a (omega arith)))
    m.read m.satisfies in
    record {
      to = k.to;
      read = k.read;
      satisfies = subst (λ (cs : Clauses). SatisfiesAll k.to cs) (append_assoc clauses one (bounds_clauses g x grid rest))
          k.satisfies;
    }

-- BEHIND THE FORMULA
-- a model of the formula, whatever stands behind it, reads a lawful drawing
pub record ReadsLawful (v : Assignment) (g : Graph) (above : ℕ → ℕ → Bool) (grid : GridSize) : Type 0 where
  pub drawing : Drawing
  pub read : Read v g (drawing_vars g grid) grid drawing
  pub lawful : Lawful g above grid drawing

pub models_read : (v : Assignment) (g : Graph) (above : ℕ → ℕ → Bool) (grid : GridSize) (laws : List Instance) → IsTrackGraph g → IsGrid grid →
    ListsAll g above laws → SatisfiesAll v (expected_clauses g grid laws) → ReadsLawful v g above grid
models_read v g above grid laws is size l h =
    let x = drawing_vars g grid in
    let base = base_clauses g x grid in
    let more = laws_clauses g x grid.width (laws_first g grid) laws in
    let b = base_means v g grid is size (satisfies_left v base more h) in
    let r : Read v g x grid b.drawing = record { graph = is; reads = b.reads; loose = b.loose } in
    record {
      drawing = b.drawing;
      read = r;
      lawful = record { fits = b.loose.fits; laws = each_law v g above x grid b.drawing (laws_first g grid) laws l r (satisfies_right v base more h) };
    }

pub sound_with : (g : Graph) (above : ℕ → ℕ → Bool) (grid : GridSize) (laws : List Instance) (bounds : List Bound) → IsTrackGraph g → IsGrid grid →
    ListsAll g above laws → SoundWith g above grid (drawing_vars g grid) (expected_clauses g grid laws ++ bounds_clauses g (drawing_vars g grid) grid bounds)
    bounds
sound_with g above grid laws bounds is size l v h =
    let x = drawing_vars g grid in
    let all = expected_clauses g grid laws in
    let m = models_read v g above grid laws is size l (satisfies_left v all (bounds_clauses g x grid bounds) h) in
    record {
      drawing = m.drawing;
      stands = reads_stand v g x grid m.drawing m.read.reads m.read.loose;
      lawful = m.lawful;
      tells = bounds_tell v g x grid m.drawing bounds m.read (satisfies_right v all (bounds_clauses g x grid bounds) h);
    }

pub expected_there : (g : Graph) (above : ℕ → ℕ → Bool) (grid : GridSize) (laws : List Instance) → IsTrackGraph g → IsGrid grid → laws_first g grid ≤ VARS + 1 →
    AreInstances g above laws → AllThere (expected_size g grid laws) (expected_clauses g grid laws)
expected_there g above grid laws is size few are =
    let x = drawing_vars g grid in
    let last = expected_size g grid laws in
    all_there_append last (base_clauses g x grid) (laws_clauses g x grid.width (laws_first g grid) laws)
    (all_there_more (base_last g grid) last (base_clauses g x grid) (omega arith) (base_there g grid is size few))
    (laws_there (base_last g grid) last g above x grid (laws_first g grid) laws is (base_vars g grid size few) (omega arith) are (omega arith))

pub covers_with : (g : Graph) (above : ℕ → ℕ → Bool) (grid : GridSize) (laws : List Instance) (bounds : List Bound) → IsTrackGraph g → IsGrid grid →
    laws_first g grid ≤ VARS + 1 → AreInstances g above laws → AreBehind g (drawing_vars g grid) grid (expected_size g grid laws) bounds →
    Covers g above grid (drawing_vars g grid) (expected_clauses g grid laws ++ bounds_clauses g (drawing_vars g grid) grid bounds)
covers_with g above grid laws bounds is size few are behind d h =
    let x = drawing_vars g grid in
    let m = full_model g above grid laws d is size few are h in
    let a = base_vars g grid size few in
    let r : Read m.to g x grid d = record { graph = is; reads = m.reads; loose = lawful_loose g above grid d is h } in
    let k = bounds_behind m.to g x grid d (expected_clauses g grid laws) bounds (base_last g grid) (expected_size g grid laws) is a (omega arith) behind
    (expected_there g above grid laws is size few are) r m.satisfies in
    record { to = k.to; satisfies = k.satisfies; stands = reads_stand k.to g x grid d k.read.reads k.read.loose }

-- THE FORMULA OF AN ORDER WITH ITS CAPS
-- its bounds stand one behind another
pub from_behind : (g : Graph) (x : DrawingVars) (grid : GridSize) (caps : Criterion → ℕ) (last : ℕ) (order : List Criterion) →
    AreBehind g x grid last (bounds_from g x grid caps last order)
from_behind g x grid caps last [] = tt
from_behind g x grid caps last (c ∷ rest) = cases (nat_eq (caps c) 0) (from_behind g x grid caps last rest)
    (from_behind g x grid caps (last + bound_size g x grid last (caps c) c) rest)
  where
    cases : (b : Bool) → AreBehind g x grid last (bounds_from g x grid caps last rest) →
        AreBehind g x grid (last + bound_size g x grid last (caps c) c) (bounds_from g x grid caps (last + bound_size g x grid last (caps c) c) rest) →
        AreBehind g x grid last (cond b (bounds_from g x grid caps last rest) (bound c last (caps c) ∷ bounds_from g x grid caps
        (last + bound_size g x grid last (caps c) c) rest))
    cases true skip take = skip
    cases false skip take = (omega arith, take)
