-- The diagonal of a line: by its end slopes, its bends and its rows, and as a count of the steps that an assignment reads.
use Rattle.std.proofs.Common.{◌≡◌, ◌≢◌, ℕ, zero, suc, ◌+◌, ◌*◌, ◌≤◌, ◌<◌, Bool, true, false, cond, List, [], ◌∷◌, refl, ap, inl, inr, arith}
use Rattle.std.specs.Prelude.{◌||◌, nat_lt, All}
use Rattle.std.specs.List.{count_by, range_with_len}
use Rattle.std.proofs.lemmas.Bool.Decides.{nat_tests, eqb_tells}
use Rattle.std.proofs.lemmas.List.Sums.{sum_by-cons}
use Rattle.plan_core.specs.declared.point.Point.{Point}
use Rattle.plan_core.specs.declared.point.Slope.{Slope}
use Rattle.plan_core.specs.declared.point.Slope.TheVariants.{Down, Level, Up}
use Rattle.plan_core.specs.Line.{Piece, pieces_from, slope, slope_west, slope_east, is_line, bends, absolute_rise, diagonal}
use Rattle.plan_core.proofs.LineLemmas.{line_length}
use Rattle.cnf_core.specs.Assignment.{Assignment}
use Rattle.unary_sum.specs.Sum.{count_true}
use Rattle.edge_shape.specs.Track.{step_slope}
use Rattle.edge_shape.specs.Columns.{is_up, is_down}
use Rattle.edge_shape.proofs.RunLemmas.{one_if}
use Rattle.edge_shape.proofs.LineTrackLemmas.{three_slopes, shape_of}
use Rattle.edge_shape.specs.EdgeVars.{EdgeLits}
use Rattle.drawing_cnf.specs.Bounds.{step_lits}

abbrev over_piece : Point → Point → Piece
over_piece a b = record { west = a; east = b }

-- a piece rises or falls by a row at least, or by none
flat_is_level : (p : Piece) → p.west.y ≡ p.east.y → slope p ≡ Level
flat_is_level p e =
    let a : nat_lt p.west.y p.east.y ≡ false = grind (arith, nat_tests, e) in
    let b : nat_lt p.east.y p.west.y ≡ false = grind (arith, nat_tests, e) in
    rw (a, b) refl

rise_of : (p : Piece) → slope p ≢ Level → 1 ≤ absolute_rise p
rise_of p h = elim (eqb_tells p.west.y p.east.y) [
  | inl same ↦ absurd (h (flat_is_level p same.1))
  | inr other ↦ let ne = other.1 in omega arith
]

flat_of : (p : Piece) → slope p ≡ Level → absolute_rise p ≡ 0
flat_of p h = cases (nat_lt p.west.y p.east.y) (nat_lt p.east.y p.west.y) refl refl h
  where
    cases : (s t : Bool) → nat_lt p.west.y p.east.y ≡ s → nat_lt p.east.y p.west.y ≡ t → cond s Up (cond t Down Level) ≡ Level → absolute_rise p ≡ 0
    cases true t e f k = cc
    cases false true e f k = cc
    cases false false e f k =
        let a : p.east.y ≤ p.west.y = grind (arith, nat_tests, e) in
        let b : p.west.y ≤ p.east.y = grind (arith, nat_tests, f) in
        omega arith

one_piece : (a b : Point) → diagonal (a ∷ b ∷ []) ≡ absolute_rise (over_piece a b)
one_piece a b = let one = sum_by-cons absolute_rise (over_piece a b) [] in omega arith

two_pieces : (a b c : Point) → diagonal (a ∷ b ∷ c ∷ []) ≡ absolute_rise (over_piece a b) + absolute_rise (over_piece b c)
two_pieces a b c =
    let one = sum_by-cons absolute_rise (over_piece a b) (over_piece b c ∷ []) in
    let two = sum_by-cons absolute_rise (over_piece b c) [] in
    omega arith

three_pieces : (a b c d : Point) → diagonal (a ∷ b ∷ c ∷ d ∷ []) ≡ absolute_rise (over_piece a b) +
    (absolute_rise (over_piece b c) + absolute_rise (over_piece c d))
three_pieces a b c d =
    let one = sum_by-cons absolute_rise (over_piece a b) (over_piece b c ∷ over_piece c d ∷ []) in
    let two = sum_by-cons absolute_rise (over_piece b c) (over_piece c d ∷ []) in
    let three = sum_by-cons absolute_rise (over_piece c d) [] in
    omega arith

-- a diagonal end piece
pub west_diagonal : (l : List Point) → slope_west l ≢ Level → 1 ≤ diagonal l
west_diagonal [] h = absurd (h refl)
west_diagonal (a ∷ []) h = absurd (h refl)
west_diagonal (a ∷ b ∷ rest) h =
    let one = rise_of (over_piece a b) h in
    let sum = sum_by-cons absolute_rise (over_piece a b) (pieces_from b rest) in
    omega arith

pub east_diagonal : (l : List Point) → slope_east l ≢ Level → 1 ≤ diagonal l
east_diagonal [] h = absurd (h refl)
east_diagonal (a ∷ []) h = absurd (h refl)
east_diagonal (a ∷ b ∷ []) h = let one = rise_of (over_piece a b) h in let sum = one_piece a b in omega arith
east_diagonal (a ∷ b ∷ c ∷ []) h = let one = rise_of (over_piece b c) h in let sum = two_pieces a b c in omega arith
east_diagonal (a ∷ b ∷ c ∷ d ∷ []) h = let one = rise_of (over_piece c d) h in let sum = three_pieces a b c d in omega arith
east_diagonal (a ∷ b ∷ c ∷ d ∷ e ∷ rest) h = absurd (h refl)

-- two bends
pub bent_diagonal : (l : List Point) → is_line l ≡ true → bends l ≡ 2 → 2 ≤ diagonal l
bent_diagonal [] h two = absurd (omega arith)
bent_diagonal (a ∷ []) h two = absurd (omega arith)
bent_diagonal (a ∷ b ∷ []) h two = absurd (omega arith)
bent_diagonal (a ∷ b ∷ c ∷ []) h two = absurd (omega arith)
bent_diagonal (a ∷ b ∷ c ∷ d ∷ []) h two =
    let s = three_slopes (slope (over_piece a b)) (slope (over_piece b c)) (slope (over_piece c d)) (shape_of (a ∷ b ∷ c ∷ d ∷ []) h) in
    let west = rise_of (over_piece a b) s.0 in
    let east = rise_of (over_piece c d) s.2 in
    let sum = three_pieces a b c d in
    omega arith
bent_diagonal (a ∷ b ∷ c ∷ d ∷ e ∷ rest) h two = absurd (omega arith)

-- two diagonal pieces at most
pub low_diagonal : (l : List Point) (high : ℕ) → is_line l ≡ true → All (λ (p : Point). p.y ≤ high) l → diagonal l ≤ 2 * high
low_diagonal [] high h low = omega arith
low_diagonal (a ∷ []) high h low = omega arith
low_diagonal (a ∷ b ∷ []) high h low =
    let p = low 0 a (omega arith) in
    let q = low 1 a (omega arith) in
    let sum = one_piece a b in
    omega arith
low_diagonal (a ∷ b ∷ c ∷ []) high h low =
    let p = low 0 a (omega arith) in
    let q = low 1 a (omega arith) in
    let r = low 2 a (omega arith) in
    let sum = two_pieces a b c in
    omega arith
low_diagonal (a ∷ b ∷ c ∷ d ∷ []) high h low =
    let s = three_slopes (slope (over_piece a b)) (slope (over_piece b c)) (slope (over_piece c d)) (shape_of (a ∷ b ∷ c ∷ d ∷ []) h) in
    let flat = flat_of (over_piece b c) s.1 in
    let p = low 0 a (omega arith) in
    let q = low 1 a (omega arith) in
    let r = low 2 a (omega arith) in
    let t = low 3 a (omega arith) in
    let sum = three_pieces a b c d in
    omega arith
low_diagonal (a ∷ b ∷ c ∷ d ∷ e ∷ rest) high h low = let few = (line_length (a ∷ b ∷ c ∷ d ∷ e ∷ rest) h).1 in absurd (omega (arith, few))

-- a step that rises or falls is one of the two
step_bits : (s : Slope) → one_if (is_up s) + one_if (is_down s) ≡ one_if (is_up s || is_down s)
step_bits Down = refl
step_bits Level = refl
step_bits Up = refl

pub count_steps : (v : Assignment) (e : EdgeLits) (y : ℕ → ℕ) (c n : ℕ) → ((j : ℕ) → c ≤ j → j < c + n → v (e.up j) ≡ is_up (step_slope y j)) →
    ((j : ℕ) → c ≤ j → j < c + n → v (e.down j) ≡ is_down (step_slope y j))
    → count_true v (step_lits e c n) ≡ count_by (λ j. is_up (step_slope y j) || is_down (step_slope y j)) (range_with_len c n)
count_steps v e y c zero up down = refl
count_steps v e y c (suc n) up down =
    let cons = sum_by-cons (λ j. one_if (is_up (step_slope y j) || is_down (step_slope y j))) c (range_with_len (c + 1) n) in
    let one : one_if (v (e.up c)) ≡ one_if (is_up (step_slope y c)) = ap one_if (up c (omega arith) (omega arith)) in
    let two : one_if (v (e.down c)) ≡ one_if (is_down (step_slope y c)) = ap one_if (down c (omega arith) (omega arith)) in
    let both = step_bits (step_slope y c) in
    let rest = count_steps v e y (c + 1) n (λ j from to. up j (omega arith) (omega arith)) (λ j from to. down j (omega arith) (omega arith)) in
    omega (arith, cons, one, two, both, rest)
