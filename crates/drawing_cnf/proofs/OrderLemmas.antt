-- The bounds of an order with one criterion more, and of an order and its front.
use Rattle.std.proofs.Common.{◌≡◌, ℕ, ◌+◌, ◌≤◌, ◌<◌, Bool, true, false, List, [], ◌∷◌, ◌++◌, refl, ◌∙◌, ap, arith}
use Rattle.std.specs.Prelude.{cond, nat_eq}
use Rattle.std.proofs.lemmas.Grind.{flat_map-append}
use Rattle.std.proofs.lemmas.Bool.Decides.{nat_tests}
use Rattle.plan_core.specs.declared.criterion.Criterion.{Criterion}
use Rattle.plan_core.specs.Grid.{GridSize}
use Rattle.plan_core.specs.Graph.{Graph}
use Rattle.cnf_core.specs.Clause.{words_of}
use Rattle.cnf_core.proofs.ClauseLemmas.{words_append}
use Rattle.cnf_laws.specs.Stands.{DrawingVars}
use Rattle.cnf_laws.specs.Expected.{drawing_vars, formula_clauses, formula_size}
use Rattle.drawing_cnf.specs.Bounds.{bound_size}
use Rattle.drawing_cnf.specs.Bounded.{Bound, bound, clauses_of_bound, size_of_bound, bounds_clauses, bounds_from, expected_bounds, expected}
use Rattle.drawing_cnf.specs.Whole.{bounds_last, expected_last}

-- the bounds from a criterion on, by whether its cap is 0
abbrev from_by : Graph → DrawingVars → GridSize → (Criterion → ℕ) → ℕ → Criterion → List Criterion → Bool → List Bound
from_by g x grid caps last c rest none =
    cond none (bounds_from g x grid caps last rest) (bound c last (caps c) ∷ bounds_from g x grid caps (last + bound_size g x grid last (caps c) c) rest)

pub from_more : (g : Graph) (x : DrawingVars) (grid : GridSize) (caps : Criterion → ℕ) (last : ℕ) (order : List Criterion) (c : Criterion) → 0 < caps c →
    bounds_from g x grid caps last (order ++ c ∷ []) ≡ bounds_from g x grid caps last order ++ bound c
    (bounds_last g x grid last (bounds_from g x grid caps last order)) (caps c) ∷ []
from_more g x grid caps last [] c some =
    let has : nat_eq (caps c) 0 ≡ false = grind (arith, nat_tests) in
    ap (from_by g x grid caps last c []) has
from_more g x grid caps last (d ∷ rest) c some =
    cases (nat_eq (caps d) 0) (from_more g x grid caps last rest c some) (from_more g x grid caps (last + bound_size g x grid last (caps d) d) rest c some)
  where
    next : ℕ
    next = last + bound_size g x grid last (caps d) d

    cases : (b : Bool) → bounds_from g x grid caps last (rest ++ c ∷ []) ≡ bounds_from g x grid caps last rest ++ bound c
        (bounds_last g x grid last (bounds_from g x grid caps last rest)) (caps c) ∷ [] →
        bounds_from g x grid caps next (rest ++ c ∷ []) ≡ bounds_from g x grid caps next rest ++ bound c
        (bounds_last g x grid next (bounds_from g x grid caps next rest)) (caps c) ∷ [] →
        from_by g x grid caps last d (rest ++ c ∷ []) b ≡ from_by g x grid caps last d rest b ++ bound c
        (bounds_last g x grid last (from_by g x grid caps last d rest b)) (caps c) ∷ []
    cases true skip take = skip
    cases false skip take = ap (λ (bs : List Bound). bound d last (caps d) ∷ bs) take

pub from_same : (g : Graph) (x : DrawingVars) (grid : GridSize) (caps : Criterion → ℕ) (last : ℕ) (order : List Criterion) (c : Criterion) → caps c ≡ 0 →
    bounds_from g x grid caps last (order ++ c ∷ []) ≡ bounds_from g x grid caps last order
from_same g x grid caps last [] c none =
    let has : nat_eq (caps c) 0 ≡ true = grind (arith, nat_tests) in
    ap (from_by g x grid caps last c []) has
from_same g x grid caps last (d ∷ rest) c none =
    cases (nat_eq (caps d) 0) (from_same g x grid caps last rest c none) (from_same g x grid caps (last + bound_size g x grid last (caps d) d) rest c none)
  where
    next : ℕ
    next = last + bound_size g x grid last (caps d) d

    cases : (b : Bool) → bounds_from g x grid caps last (rest ++ c ∷ []) ≡ bounds_from g x grid caps last rest →
        bounds_from g x grid caps next (rest ++ c ∷ []) ≡ bounds_from g x grid caps next rest →
        from_by g x grid caps last d (rest ++ c ∷ []) b ≡ from_by g x grid caps last d rest b
    cases true skip take = skip
    cases false skip take = ap (λ (bs : List Bound). bound d last (caps d) ∷ bs) take

-- AN ORDER AND ITS FRONT
pub from_append : (g : Graph) (x : DrawingVars) (grid : GridSize) (caps : Criterion → ℕ) (last : ℕ) (front rest : List Criterion) →
    bounds_from g x grid caps last (front ++ rest) ≡ bounds_from g x grid caps last front ++ bounds_from g x grid caps
    (bounds_last g x grid last (bounds_from g x grid caps last front)) rest
from_append g x grid caps last [] rest = refl
from_append g x grid caps last (d ∷ front) rest =
    cases (nat_eq (caps d) 0) (from_append g x grid caps last front rest) (from_append g x grid caps (last + bound_size g x grid last (caps d) d) front rest)
  where
    next : ℕ
    next = last + bound_size g x grid last (caps d) d

    cases : (b : Bool) → bounds_from g x grid caps last (front ++ rest) ≡ bounds_from g x grid caps last front ++ bounds_from g x grid caps
        (bounds_last g x grid last (bounds_from g x grid caps last front)) rest →
        bounds_from g x grid caps next (front ++ rest) ≡ bounds_from g x grid caps next front ++ bounds_from g x grid caps
        (bounds_last g x grid next (bounds_from g x grid caps next front)) rest →
        from_by g x grid caps last d (front ++ rest) b ≡ from_by g x grid caps last d front b ++ bounds_from g x grid caps
        (bounds_last g x grid last (from_by g x grid caps last d front b)) rest
    cases true skip take = skip
    cases false skip take = ap (λ (bs : List Bound). bound d last (caps d) ∷ bs) take

last_append : (g : Graph) (x : DrawingVars) (grid : GridSize) (vars : ℕ) (front rest : List Bound) →
    bounds_last g x grid vars (front ++ rest) ≡ bounds_last g x grid (bounds_last g x grid vars front) rest
last_append g x grid vars [] rest = refl
last_append g x grid vars (b ∷ front) rest = last_append g x grid (b.last + size_of_bound g x grid b) front rest

-- bounds of an order lie behind the variable behind which they were made
from_rises : (g : Graph) (x : DrawingVars) (grid : GridSize) (caps : Criterion → ℕ) (last : ℕ) (order : List Criterion) →
    last ≤ bounds_last g x grid last (bounds_from g x grid caps last order)
from_rises g x grid caps last [] = omega arith
from_rises g x grid caps last (d ∷ rest) = cases (nat_eq (caps d) 0) (from_rises g x grid caps last rest)
    (from_rises g x grid caps (last + bound_size g x grid last (caps d) d) rest)
  where
    next : ℕ
    next = last + bound_size g x grid last (caps d) d

    cases : (b : Bool) → last ≤ bounds_last g x grid last (bounds_from g x grid caps last rest) →
        next ≤ bounds_last g x grid next (bounds_from g x grid caps next rest) → last ≤ bounds_last g x grid last (from_by g x grid caps last d rest b)
    cases true skip take = skip
    cases false skip take = omega arith

pub front_words : (g : Graph) (above overlap : ℕ → ℕ → Bool) (grid : GridSize) (front rest : List Criterion) (caps : Criterion → ℕ) →
    words_of (expected g above overlap grid front caps) ≤ words_of (expected g above overlap grid (front ++ rest) caps)
front_words g above overlap grid front rest caps =
    let x = drawing_vars g grid in
    let size = formula_size g above overlap grid in
    let before = bounds_from g x grid caps size front in
    let behind = bounds_from g x grid caps (bounds_last g x grid size before) rest in
    let f = clauses_of_bound g x grid in
    let split : bounds_clauses g x grid (bounds_from g x grid caps size (front ++ rest)) ≡ bounds_clauses g x grid before ++ bounds_clauses g x grid behind =
    ap (bounds_clauses g x grid) (from_append g x grid caps size front rest) ∙ flat_map-append f before behind in
    let words = ap words_of split in
    omega (
      arith,
      words,
      words_append (formula_clauses g above overlap grid) (bounds_clauses g x grid before),
      words_append (formula_clauses g above overlap grid) (bounds_clauses g x grid (bounds_from g x grid caps size (front ++ rest))),
      words_append (bounds_clauses g x grid before) (bounds_clauses g x grid behind),
    )

pub front_last : (g : Graph) (above overlap : ℕ → ℕ → Bool) (grid : GridSize) (front rest : List Criterion) (caps : Criterion → ℕ) →
    expected_last g above overlap grid front caps ≤ expected_last g above overlap grid (front ++ rest) caps
front_last g above overlap grid front rest caps =
    let x = drawing_vars g grid in
    let size = formula_size g above overlap grid in
    let before = bounds_from g x grid caps size front in
    let behind = bounds_from g x grid caps (bounds_last g x grid size before) rest in
    let split = ap (bounds_last g x grid size) (from_append g x grid caps size front rest) in
    omega (arith, split, last_append g x grid size before behind, from_rises g x grid caps (bounds_last g x grid size before) rest)

pub drawing_in_front : (g : Graph) (above overlap : ℕ → ℕ → Bool) (grid : GridSize) (order : List Criterion) (caps : Criterion → ℕ) →
    words_of (formula_clauses g above overlap grid) ≤ words_of (expected g above overlap grid order caps)
drawing_in_front g above overlap grid order caps =
    let x = drawing_vars g grid in
    omega (arith, words_append (formula_clauses g above overlap grid) (bounds_clauses g x grid (expected_bounds g above overlap grid order caps)))

pub drawing_before : (g : Graph) (above overlap : ℕ → ℕ → Bool) (grid : GridSize) (order : List Criterion) (caps : Criterion → ℕ) →
    formula_size g above overlap grid ≤ expected_last g above overlap grid order caps
drawing_before g above overlap grid order caps = from_rises g (drawing_vars g grid) grid caps (formula_size g above overlap grid) order
