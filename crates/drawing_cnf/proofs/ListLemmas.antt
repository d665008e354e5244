-- The lines of bounds: what they are, and which Bound lines are among them.
use Rattle.std.proofs.Common.{◌≡◌, ◌≤◌, ◌<◌, ℕ, zero, suc, ◌+◌, Bool, false, cond, List, [], ◌∷◌, ◌++◌, length, map, refl, sym, ◌∙◌, ap, subst, inl, inr}
use Rattle.std.proofs.Common.{arith, append-nil, append_assoc}
use Rattle.std.specs.Prelude.{Contains, flat_map, nat_eq}
use Rattle.std.proofs.lemmas.Bool.Decides.{nat_tests}
use Rattle.std.proofs.lemmas.Grind.{flat_map-append}
use Rattle.std.proofs.lemmas.List.Elements.{All-nil, All-cons, All-contains, All-map, Contains-append_left, Contains-append_right, Contains-append_cases}
use Rattle.plan_core.specs.declared.criterion.Criterion.{Criterion}
use Rattle.plan_core.specs.Grid.{GridSize}
use Rattle.plan_core.specs.Graph.{Graph}
use Rattle.cnf_core.specs.declared.literal.Var.{Var}
use Rattle.cnf_core.specs.Clause.{Clauses}
use Rattle.refute_log.specs.declared.line.LogLine.{LogLine}
use Rattle.refute_log.specs.declared.line.LogLine.TheVariants.{Formula, Bound as BoundLine}
use Rattle.refute_log.specs.Told.{Lines}
use Rattle.refute_log.specs.Log.{given}
use Rattle.refute_log.specs.Expected.{HasAllBounds, bound_lines, sum_lines, sum_vars_of, sums, expected_lines}
use Rattle.cnf_laws.specs.Stands.{DrawingVars}
use Rattle.cnf_laws.specs.Expected.{drawing_vars, formula_clauses, formula_size}
use Rattle.drawing_cnf.specs.Bounds.{bound_size}
use Rattle.drawing_cnf.specs.Bounded.{Bound, bound, clauses_of_bound, bounds_clauses, bounds_from, expected_bounds}
use Rattle.drawing_cnf.specs.Lists.{variables_behind, drawing_problem, lines_of_bound, lines_with}

-- ---- one bound

pub length-variables : (last n : ℕ) → length (variables_behind last n) ≡ n
length-variables last zero = refl
length-variables last (suc n) = ap suc (length-variables (last + 1) n)

pub all_bounds : (g : Graph) (above overlap : ℕ → ℕ → Bool) (grid : GridSize) → HasAllBounds (drawing_problem g above overlap grid)
all_bounds g above overlap grid = λ before c cap. length-variables before cap

pub sum_is_bound : (g : Graph) (above overlap : ℕ → ℕ → Bool) (grid : GridSize) (last : ℕ) (c : Criterion) (cap : ℕ) → 1 ≤ cap →
    sum_lines (drawing_problem g above overlap grid) last c cap ≡ lines_of_bound g (drawing_vars g grid) grid (bound c last cap)
sum_is_bound g above overlap grid last c zero le = absurd (omega arith)
sum_is_bound g above overlap grid last c (suc n) le = refl

pub sum_vars_is_size : (g : Graph) (above overlap : ℕ → ℕ → Bool) (grid : GridSize) (last : ℕ) (c : Criterion) (cap : ℕ) → 1 ≤ cap →
    sum_vars_of (drawing_problem g above overlap grid) last c cap ≡ bound_size g (drawing_vars g grid) grid last cap c
sum_vars_is_size g above overlap grid last c zero le = absurd (omega arith)
sum_vars_is_size g above overlap grid last c (suc n) le = refl

-- ---- the clauses of lines

pub given_formulas : (cs : Clauses) → flat_map given (map Formula cs) ≡ cs
given_formulas [] = refl
given_formulas (c ∷ cs) = ap (λ (ds : Clauses). c ∷ ds) (given_formulas cs)

given_bounds : (c : Criterion) (k : ℕ) (xs : List Var) → flat_map given (bound_lines c k xs) ≡ []
given_bounds c k [] = refl
given_bounds c k (x ∷ xs) = given_bounds c (k + 1) xs

pub given_bound : (g : Graph) (x : DrawingVars) (grid : GridSize) (b : Bound) → flat_map given (lines_of_bound g x grid b) ≡ clauses_of_bound g x grid b
given_bound g x grid b =
    flat_map-append given (map Formula (clauses_of_bound g x grid b)) (bound_lines b.criterion 1 (variables_behind b.last b.cap))
    ∙ ap (λ (cs : Clauses). cs ++ flat_map given (bound_lines b.criterion 1 (variables_behind b.last b.cap))) (given_formulas (clauses_of_bound g x grid b))
    ∙ ap (λ (cs : Clauses). clauses_of_bound g x grid b ++ cs) (given_bounds b.criterion 1 (variables_behind b.last b.cap))
    ∙ append-nil (clauses_of_bound g x grid b)

given_many : (g : Graph) (x : DrawingVars) (grid : GridSize) (bounds : List Bound) →
    flat_map given (flat_map (lines_of_bound g x grid) bounds) ≡ bounds_clauses g x grid bounds
given_many g x grid [] = refl
given_many g x grid (b ∷ bs) =
    flat_map-append given (lines_of_bound g x grid b) (flat_map (lines_of_bound g x grid) bs)
    ∙ ap (λ (cs : Clauses). cs ++ flat_map given (flat_map (lines_of_bound g x grid) bs)) (given_bound g x grid b)
    ∙ ap (λ (cs : Clauses). clauses_of_bound g x grid b ++ cs) (given_many g x grid bs)

pub given_with : (g : Graph) (above overlap : ℕ → ℕ → Bool) (grid : GridSize) (bounds : List Bound) →
    flat_map given (lines_with g above overlap grid bounds) ≡ formula_clauses g above overlap grid ++ bounds_clauses g (drawing_vars g grid) grid bounds
given_with g above overlap grid bounds =
    let x = drawing_vars g grid in
    flat_map-append given (map Formula (formula_clauses g above overlap grid)) (flat_map (lines_of_bound g x grid) bounds)
    ∙ ap (λ (cs : Clauses). cs ++ flat_map given (flat_map (lines_of_bound g x grid) bounds)) (given_formulas (formula_clauses g above overlap grid))
    ∙ ap (λ (cs : Clauses). formula_clauses g above overlap grid ++ cs) (given_many g x grid bounds)

-- one more bound
pub with_more : (g : Graph) (above overlap : ℕ → ℕ → Bool) (grid : GridSize) (bounds : List Bound) (b : Bound) →
    lines_with g above overlap grid (bounds ++ b ∷ []) ≡ lines_with g above overlap grid bounds ++ lines_of_bound g (drawing_vars g grid) grid b
with_more g above overlap grid bounds b =
    let x = drawing_vars g grid in
    let first = map Formula (formula_clauses g above overlap grid) in
    ap (λ (ls : Lines). first ++ ls) (flat_map-append (lines_of_bound g x grid) bounds (b ∷ [])
    ∙ ap (λ (ls : Lines). flat_map (lines_of_bound g x grid) bounds ++ ls) (append-nil (lines_of_bound g x grid b)))
    ∙ sym (append_assoc first (flat_map (lines_of_bound g x grid) bounds) (lines_of_bound g x grid b))

-- ---- the Bound lines among them

-- the Bound line is one of n lines of c, for numbers from k on and the variables behind last
pub record IsBoundLine (c : Criterion) (k last n : ℕ) (d : Criterion) (j : ℕ) (x : Var) : Type 0 where
  pub same : c ≡ d
  pub from : k ≤ j
  pub to : j < k + n
  pub is : x.0 + k ≡ last + 1 + j

pub first_line : {X : Type 0} (x y : X) → Contains (x ∷ []) y → x ≡ y
first_line {X} x y there = All-contains (λ (z : X). z ≡ y → x ≡ y) (x ∷ []) y (All-cons (λ (z : X). z ≡ y → x ≡ y) x [] (λ e. e)
    (All-nil (λ (z : X). z ≡ y → x ≡ y))) there refl

pub in_bound_lines : (c : Criterion) (k last n : ℕ) (d : Criterion) (j : ℕ) (x : Var) → Contains (bound_lines c k (variables_behind last n)) (BoundLine d j x) →
    IsBoundLine c k last n d j x
in_bound_lines c k last zero d j x there = absurd (let lt = there.1 in omega arith)
in_bound_lines c k last (suc n) d j x there =
    let v : Var = record { 0 = last + 1 } in
    elim (Contains-append_cases (BoundLine c k v ∷ []) (bound_lines c (k + 1) (variables_behind (last + 1) n)) (BoundLine d j x) there) [
      | inl here ↦
          let e : BoundLine c k v ≡ BoundLine d j x = first_line (BoundLine c k v) (BoundLine d j x) here in
          let same : c ≡ d = cc in
          let number : k ≡ j = cc in
          let variable : v ≡ x = cc in
          let value : last + 1 ≡ x.0 = ap (λ (y : Var). y.0) variable in
          record { same = same; from = omega arith; to = omega arith; is = omega arith }
      | inr later ↦
          let r = in_bound_lines c (k + 1) (last + 1) n d j x later in
          let from = r.from in
          let to = r.to in
          let is = r.is in
          record { same = r.same; from = omega arith; to = omega arith; is = omega arith }
    ]

pub bound_line_there : (c : Criterion) (k last n i : ℕ) → i < n →
    Contains (bound_lines c k (variables_behind last n)) (BoundLine c (k + i) (record { 0 = last + 1 + i }))
bound_line_there c k last zero i lt = absurd (omega arith)
bound_line_there c k last (suc n) zero lt =
    subst (λ m. Contains (bound_lines c k (variables_behind last (suc n))) (BoundLine c m (record { 0 = last + 1 + 0 }))) (let e : k ≡ k + 0 = omega arith in e)
    (subst (λ m. Contains (bound_lines c k (variables_behind last (suc n))) (BoundLine c k (record {
      0 = m;
    }))) (let e : last + 1 ≡ last + 1 + 0 = omega arith in e) (0, omega arith, refl))
bound_line_there c k last (suc n) (suc i) lt =
    let rest = bound_lines c (k + 1) (variables_behind (last + 1) n) in
    let there = bound_line_there c (k + 1) (last + 1) n i (omega arith) in
    Contains-append_right (BoundLine c k (record { 0 = last + 1 }) ∷ []) rest (BoundLine c (k + suc i) (record { 0 = last + 1 + suc i }))
    (subst (λ m. Contains rest (BoundLine c m (record { 0 = last + 1 + suc i }))) (let e : k + 1 + i ≡ k + suc i = omega arith in e)
    (subst (λ m. Contains rest (BoundLine c (k + 1 + i) (record { 0 = m }))) (let e : last + 1 + 1 + i ≡ last + 1 + suc i = omega arith in e) there))

no_bound_among : (cs : Clauses) (d : Criterion) (j : ℕ) (x : Var) → Contains (map Formula cs) (BoundLine d j x) → ⊥
no_bound_among cs d j x there = All-contains (λ (l : LogLine). l ≡ BoundLine d j x → ⊥) (map Formula cs) (BoundLine d j x)
    (All-map (λ (l : LogLine). l ≡ BoundLine d j x → ⊥) Formula cs (λ k e lt f. cc)) there refl

-- the Bound line is one of a bound in the list
pub record IsOfBound (bounds : List Bound) (d : Criterion) (j : ℕ) (x : Var) : Type 0 where
  pub told : Bound
  pub among : Contains bounds told
  pub line : IsBoundLine told.criterion 1 told.last told.cap d j x

in_many : (g : Graph) (v : DrawingVars) (grid : GridSize) (bounds : List Bound) (d : Criterion) (j : ℕ) (x : Var) →
    Contains (flat_map (lines_of_bound g v grid) bounds) (BoundLine d j x) → IsOfBound bounds d j x
in_many g v grid [] d j x there = absurd (let lt = there.1 in omega arith)
in_many g v grid (b ∷ bs) d j x there =
    elim (Contains-append_cases (lines_of_bound g v grid b) (flat_map (lines_of_bound g v grid) bs) (BoundLine d j x) there) [
      | inl here ↦ elim (Contains-append_cases (map Formula (clauses_of_bound g v grid b)) (bound_lines b.criterion 1 (variables_behind b.last b.cap))
          (BoundLine d j x) here) [
            | inl none ↦ absurd (no_bound_among (clauses_of_bound g v grid b) d j x none)
            | inr some ↦ record { told = b; among = (0, omega arith, refl); line = in_bound_lines b.criterion 1 b.last b.cap d j x some }
          ]
      | inr later ↦
          let r = in_many g v grid bs d j x later in
          record { told = r.told; among = Contains-append_right (b ∷ []) bs r.told r.among; line = r.line }
    ]

pub in_lines : (g : Graph) (above overlap : ℕ → ℕ → Bool) (grid : GridSize) (bounds : List Bound) (d : Criterion) (j : ℕ) (x : Var) →
    Contains (lines_with g above overlap grid bounds) (BoundLine d j x) → IsOfBound bounds d j x
in_lines g above overlap grid bounds d j x there =
    elim (Contains-append_cases (map Formula (formula_clauses g above overlap grid)) (flat_map (lines_of_bound g (drawing_vars g grid) grid) bounds)
    (BoundLine d j x) there) [
      | inl none ↦ absurd (no_bound_among (formula_clauses g above overlap grid) d j x none)
      | inr some ↦ in_many g (drawing_vars g grid) grid bounds d j x some
    ]

many_there : (g : Graph) (v : DrawingVars) (grid : GridSize) (bounds : List Bound) (b : Bound) (line : LogLine) → Contains bounds b →
    Contains (bound_lines b.criterion 1 (variables_behind b.last b.cap)) line → Contains (flat_map (lines_of_bound g v grid) bounds) line
many_there g v grid [] b line among there = absurd (let lt = among.1 in omega arith)
many_there g v grid (c ∷ bs) b line among there =
    elim (Contains-append_cases (c ∷ []) bs b among) [
      | inl here ↦
          let same : c ≡ b = first_line c b here in
          Contains-append_left (lines_of_bound g v grid c) (flat_map (lines_of_bound g v grid) bs) line
          (subst (λ (d : Bound). Contains (lines_of_bound g v grid d) line) (sym same)
          (Contains-append_right (map Formula (clauses_of_bound g v grid b)) (bound_lines b.criterion 1 (variables_behind b.last b.cap)) line there))
      | inr later ↦ Contains-append_right (lines_of_bound g v grid c) (flat_map (lines_of_bound g v grid) bs) line (many_there g v grid bs b line later there)
    ]

-- the Bound line of a number from 1 to the cap
pub line_there : (g : Graph) (above overlap : ℕ → ℕ → Bool) (grid : GridSize) (bounds : List Bound) (b : Bound) (k : ℕ) → Contains bounds b → 1 ≤ k →
    k ≤ b.cap → Contains (lines_with g above overlap grid bounds) (BoundLine b.criterion k (record { 0 = b.last + k }))
line_there g above overlap grid bounds b zero among low high = absurd (omega arith)
line_there g above overlap grid bounds b (suc i) among low high =
    let x = drawing_vars g grid in
    let block = bound_lines b.criterion 1 (variables_behind b.last b.cap) in
    let here : Contains block (BoundLine b.criterion (1 + i) (record { 0 = b.last + 1 + i })) = bound_line_there b.criterion 1 b.last b.cap i (omega arith) in
    let there : Contains block (BoundLine b.criterion (suc i) (record { 0 = b.last + suc i })) =
    subst (λ m. Contains block (BoundLine b.criterion (suc i) (record { 0 = m }))) (let e : b.last + 1 + i ≡ b.last + suc i = omega arith in e)
    (subst (λ m. Contains block (BoundLine b.criterion m (record { 0 = b.last + 1 + i }))) (let e : 1 + i ≡ suc i = omega arith in e) here) in
    Contains-append_right (map Formula (formula_clauses g above overlap grid)) (flat_map (lines_of_bound g x grid) bounds)
    (BoundLine b.criterion (suc i) (record {
      0 = b.last + suc i;
    })) (many_there g x grid bounds b (BoundLine b.criterion (suc i) (record { 0 = b.last + suc i })) among there)

-- ---- what is expected for an order with its caps

pub positive_is_not_zero : (n : ℕ) → nat_eq (suc n) 0 ≡ false
positive_is_not_zero n = grind (arith, nat_tests)

sums_step : (g : Graph) (above overlap : ℕ → ℕ → Bool) (grid : GridSize) (last : ℕ) (c : Criterion) (rest : List Criterion) (caps : Criterion → ℕ) (n : ℕ) →
    caps c ≡ n →
    sums (drawing_problem g above overlap grid) last rest caps ≡ flat_map (lines_of_bound g (drawing_vars g grid) grid)
    (bounds_from g (drawing_vars g grid) grid caps last rest) →
    ((m : ℕ) → sums (drawing_problem g above overlap grid) (last + bound_size g (drawing_vars g grid) grid last m c) rest caps
    ≡ flat_map (lines_of_bound g (drawing_vars g grid) grid) (bounds_from g (drawing_vars g grid) grid caps
    (last + bound_size g (drawing_vars g grid) grid last m c) rest)) →
    sums (drawing_problem g above overlap grid) last (c ∷ rest) caps ≡ flat_map (lines_of_bound g (drawing_vars g grid) grid)
    (bounds_from g (drawing_vars g grid) grid caps last (c ∷ rest))
sums_step g above overlap grid last c rest caps zero e skipped further =
    let p = drawing_problem g above overlap grid in
    let x = drawing_vars g grid in
    let left : sums p last (c ∷ rest) caps ≡ sums p last rest caps =
    ap (λ n. sum_lines p last c n ++ sums p (last + sum_vars_of p last c n) rest caps) e
    ∙ ap (λ n. sums p n rest caps) (let h : last + 0 ≡ last = omega arith in h) in
    let right : bounds_from g x grid caps last (c ∷ rest) ≡ bounds_from g x grid caps last rest =
    ap (λ n. cond (nat_eq n 0) (bounds_from g x grid caps last rest) (bound c last n ∷ bounds_from g x grid caps (last + bound_size g x grid last n c) rest))
    e in
    left ∙ skipped ∙ sym (ap (flat_map (lines_of_bound g x grid)) right)
sums_step g above overlap grid last c rest caps (suc n) e skipped further =
    let p = drawing_problem g above overlap grid in
    let x = drawing_vars g grid in
    let left : sums p last (c ∷ rest) caps ≡ lines_of_bound g x grid (bound c last (suc n)) ++ sums p (last + bound_size g x grid last (suc n) c) rest caps =
    ap (λ m. sum_lines p last c m ++ sums p (last + sum_vars_of p last c m) rest caps) e in
    let right : bounds_from g x grid caps last (c ∷ rest) ≡ bound c last (suc n) ∷ bounds_from g x grid caps (last + bound_size g x grid last (suc n) c) rest =
    ap (λ m. cond (nat_eq m 0) (bounds_from g x grid caps last rest) (bound c last m ∷ bounds_from g x grid caps (last + bound_size g x grid last m c) rest)) e
    ∙ ap (λ b. cond b (bounds_from g x grid caps last rest) (bound c last (suc n) ∷ bounds_from g x grid caps (last + bound_size g x grid last (suc n) c) rest))
    (positive_is_not_zero n) in
    left ∙ ap (λ (ls : Lines). lines_of_bound g x grid (bound c last (suc n)) ++ ls) (further (suc n))
    ∙ sym (ap (flat_map (lines_of_bound g x grid)) right)

sums_from : (g : Graph) (above overlap : ℕ → ℕ → Bool) (grid : GridSize) (last : ℕ) (order : List Criterion) (caps : Criterion → ℕ) →
    sums (drawing_problem g above overlap grid) last order caps ≡ flat_map (lines_of_bound g (drawing_vars g grid) grid)
    (bounds_from g (drawing_vars g grid) grid caps last order)
sums_from g above overlap grid last [] caps = refl
sums_from g above overlap grid last (c ∷ rest) caps =
    sums_step g above overlap grid last c rest caps (caps c) refl (sums_from g above overlap grid last rest caps)
    (λ n. sums_from g above overlap grid (last + bound_size g (drawing_vars g grid) grid last n c) rest caps)

pub expected_with : (g : Graph) (above overlap : ℕ → ℕ → Bool) (grid : GridSize) (order : List Criterion) (caps : Criterion → ℕ) →
    expected_lines (drawing_problem g above overlap grid) order caps ≡ lines_with g above overlap grid (expected_bounds g above overlap grid order caps)
expected_with g above overlap grid order caps = ap (λ (ls : Lines). map Formula (formula_clauses g above overlap grid) ++ ls)
    (sums_from g above overlap grid (formula_size g above overlap grid) order caps)
