-- What is true of every line: how many points it has, and how its heights go from end to end.
use Rattle.std.proofs.Common.{◌≡◌, ℕ, ◌+◌, ◌<◌, ◌≤◌, true, List, [], ◌∷◌, length, map, refl, ◌∙◌, arith}
use Rattle.std.specs.List.{list_all}
use Rattle.std.proofs.lemmas.Bool.{and_parts, false≢true}
use Rattle.std.proofs.lemmas.List.{length-map}
use Rattle.plan_core.specs.declared.point.Point.{Point}
use Rattle.plan_core.specs.declared.point.Slope.{Slope}
use Rattle.plan_core.specs.Line.{pieces_from, pieces, is_piece, slope, is_shape, is_line, height_from, height, last_from, west_end, east_end, slope_west}
use Rattle.plan_core.specs.Line.{slope_east}
use Rattle.plan_core.proofs.PieceLemmas.{Reaches, piece, ArePieces, pieces_by_test, height_from-west, height_from-past, height_from-step, past_first}

few_slopes : (slopes : List Slope) → is_shape slopes ≡ true → length slopes ≤ 3
few_slopes [] h = omega arith
few_slopes (a ∷ []) h = omega arith
few_slopes (a ∷ b ∷ []) h = omega arith
few_slopes (a ∷ b ∷ c ∷ []) h = omega arith
few_slopes (a ∷ b ∷ c ∷ d ∷ rest) h = absurd (false≢true h)

length-pieces_from : (a : Point) (rest : List Point) → length (pieces_from a rest) ≡ length rest
length-pieces_from a [] = refl
length-pieces_from a (b ∷ rest) = let more = length-pieces_from b rest in omega (arith, more)

-- a line has two to four points
pub line_length : (line : List Point) → is_line line ≡ true → (2 ≤ length line) × (length line ≤ 4)
line_length [] h = absurd (false≢true h)
line_length (a ∷ []) h = absurd (false≢true h)
line_length (a ∷ b ∷ rest) h =
    let all = pieces (a ∷ b ∷ rest) in
    let few = few_slopes (map slope all) (and_parts (list_all is_piece all) (is_shape (map slope all)) h).1 in
    let same = length-map all slope in
    let long = length-pieces_from a (b ∷ rest) in
    (omega arith, omega (arith, few, same, long))

pub pieces_of : (a : Point) (rest : List Point) → is_line (a ∷ rest) ≡ true → ArePieces a rest
pieces_of a rest h = pieces_by_test a rest (and_parts (list_all is_piece (pieces_from a rest)) (is_shape (map slope (pieces_from a rest))) h).0

pub last_is_east : (a : Point) (rest : List Point) → ArePieces a rest → a.x ≤ (last_from a rest).x
last_is_east a [] h = omega arith
last_is_east a (b ∷ rest) h = let rising = h.0.rising in let more = last_is_east b rest h.1 in omega (arith, rising, more)

-- a line's east end lies further east than its west end
pub ends_rise : (line : List Point) → is_line line ≡ true → (west_end line).x < (east_end line).x
ends_rise [] h = absurd (false≢true h)
ends_rise (a ∷ []) h = absurd (false≢true h)
ends_rise (a ∷ b ∷ rest) h =
    let all = pieces_of a (b ∷ rest) h in
    let rising = all.0.rising in
    let more = last_is_east b rest all.1 in
    omega (arith, rising, more)

-- the height over the first column, and over the last, is that of the end

pub height-west_end : (line : List Point) → is_line line ≡ true → height line (west_end line).x ≡ (west_end line).y
height-west_end [] h = absurd (false≢true h)
height-west_end (a ∷ rest) h = height_from-west a rest (pieces_of a rest h)

height_from-last : (a : Point) (rest : List Point) → ArePieces a rest → height_from a rest (last_from a rest).x ≡ (last_from a rest).y
height_from-last a [] h = refl
height_from-last a (b ∷ rest) h = height_from-past a b rest (last_from b rest).x h (last_is_east b rest h.1) ∙ height_from-last b rest h.1

pub height-east_end : (line : List Point) → is_line line ≡ true → height line (east_end line).x ≡ (east_end line).y
height-east_end [] h = absurd (false≢true h)
height-east_end (a ∷ rest) h = height_from-last a rest (pieces_of a rest h)

-- the slope at an end is the step between two columns

pub step_from_west : (line : List Point) → is_line line ≡ true → Reaches (slope_west line) 1 (height line (west_end line).x)
    (height line ((west_end line).x + 1))
step_from_west [] h = absurd (false≢true h)
step_from_west (a ∷ []) h = absurd (false≢true h)
step_from_west (a ∷ b ∷ rest) h =
    let all = pieces_of a (b ∷ rest) h in
    let rising = all.0.rising in
    height_from-step a b rest a.x all (omega arith) (omega (arith, rising))

pub step_to_east : (line : List Point) (x : ℕ) → is_line line ≡ true → x + 1 ≡ (east_end line).x →
    Reaches (slope_east line) 1 (height line x) (height line (x + 1))
step_to_east [] x h last = absurd (false≢true h)
step_to_east (a ∷ []) x h last = absurd (false≢true h)
step_to_east (a ∷ b ∷ []) x h last =
    let all = pieces_of a (b ∷ []) h in
    let rising = all.0.rising in
    height_from-step a b [] x all (omega (arith, rising, last)) (omega (arith, last))
step_to_east (a ∷ b ∷ c ∷ []) x h last =
    let all = pieces_of a (b ∷ c ∷ []) h in
    let rising = all.1.0.rising in
    let far : b.x ≤ x = omega (arith, rising, last) in
    past_first a b (c ∷ []) (slope (piece b c)) x all far (height_from-step b c [] x all.1 far (omega (arith, last)))
step_to_east (a ∷ b ∷ c ∷ d ∷ []) x h last =
    let all = pieces_of a (b ∷ c ∷ d ∷ []) h in
    let before = all.1.0.rising in
    let rising = all.1.1.0.rising in
    let far : c.x ≤ x = omega (arith, rising, last) in
    past_first a b (c ∷ d ∷ []) (slope (piece c d)) x all (omega (arith, far, before))
    (past_first b c (d ∷ []) (slope (piece c d)) x all.1 far (height_from-step c d [] x all.1.1 far (omega (arith, last))))
step_to_east (a ∷ b ∷ c ∷ d ∷ e ∷ rest) x h last = let few = (line_length (a ∷ b ∷ c ∷ d ∷ e ∷ rest) h).1 in absurd (omega (arith, few))
