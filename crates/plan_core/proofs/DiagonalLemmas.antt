-- A line's diagonal counts the columns from which it climbs or falls.
use Rattle.std.proofs.Common.{◌≡◌, ℕ, zero, suc, ◌+◌, ◌-◌, ◌<◌, ◌≤◌, Bool, true, not, cond, ◌==◌, List, [], ◌∷◌, ◌++◌, refl, sym, ◌∙◌, ap, arith}
use Rattle.std.specs.List.{sum_by, count_by, range_with_len}
use Rattle.std.proofs.lemmas.Bool.{false≢true}
use Rattle.std.proofs.lemmas.Bool.Decides.{nat_tests}
use Rattle.std.proofs.lemmas.List.Sums.{sum_by-cons, sum_by-append}
use Rattle.plan_core.specs.declared.point.Point.{Point}
use Rattle.plan_core.specs.declared.point.Slope.{Slope}
use Rattle.plan_core.specs.declared.point.Slope.TheVariants.{Down, Level, Up}
use Rattle.plan_core.specs.Line.{pieces_from, run, slope, is_line, height_from, height, last_from, west_end, east_end, absolute_rise, diagonal}
use Rattle.plan_core.proofs.PieceLemmas.{Reaches, piece, ArePieces, height_from-past, height_from-step}
use Rattle.plan_core.proofs.LineLemmas.{pieces_of, last_is_east}

range-append : (from m n : ℕ) → range_with_len from (m + n) ≡ range_with_len from m ++ range_with_len (from + m) n
range-append from zero n =
    let no_more : 0 + n ≡ n = omega arith in
    let same : from ≡ from + 0 = omega arith in
    ap (range_with_len from) no_more ∙ ap (λ k. range_with_len k n) same
range-append from (suc m) n =
    let one_less : suc m + n ≡ suc (m + n) = omega arith in
    let same : from + 1 + m ≡ from + suc m = omega arith in
    ap (range_with_len from) one_less ∙ ap (λ xs. from ∷ xs) (range-append (from + 1) m n)
    ∙ ap (λ k. (from ∷ range_with_len (from + 1) m) ++ range_with_len k n) same

-- the function differs at the number and at the next one
abbrev pub turns : (ℕ → ℕ) → ℕ → Bool
turns h x = not (h x == h (x + 1))

-- how many of n numbers from one on it differs at
abbrev pub turns_in : (ℕ → ℕ) → ℕ → ℕ → ℕ
turns_in h from n = count_by (turns h) (range_with_len from n)

turns_in-cons : (h : ℕ → ℕ) (from n : ℕ) → turns_in h from (suc n) ≡ cond (turns h from) 1 0 + turns_in h (from + 1) n
turns_in-cons h from n = sum_by-cons (λ x. cond (turns h x) 1 0) from (range_with_len (from + 1) n)

pub turns_in-append : (h : ℕ → ℕ) (from m n : ℕ) → turns_in h from (m + n) ≡ turns_in h from m + turns_in h (from + m) n
turns_in-append h from m n =
    ap (count_by (turns h)) (range-append from m n)
    ∙ sum_by-append (λ x. cond (turns h x) 1 0) (range_with_len from m) (range_with_len (from + m) n)

pub turns_in-same : (h k : ℕ → ℕ) (from n : ℕ) → ((x : ℕ) → from ≤ x → h x ≡ k x) → turns_in h from n ≡ turns_in k from n
turns_in-same h k from zero same = refl
turns_in-same h k from (suc n) same =
    let here = same from (omega arith) in
    let next = same (from + 1) (omega arith) in
    let more = turns_in-same h k (from + 1) n (λ x past. same x (omega (arith, past))) in
    let counted : ℕ → ℕ → ℕ = λ y z. cond (not (y == z)) 1 0 in
    let one : counted (h from) (h (from + 1)) ≡ counted (k from) (k (from + 1)) = ap (λ y. counted y (h (from + 1))) here ∙ ap (counted (k from)) next in
    let left = turns_in-cons h from n in
    let right = turns_in-cons k from n in
    omega (arith, one, more, left, right)

-- what a slope adds to the diagonal over so many columns
abbrev pub share : Slope → ℕ → ℕ
share Down columns = columns
share Level columns = 0
share Up columns = columns

share-suc : (s : Slope) (n : ℕ) → share s (suc n) ≡ share s 1 + share s n
share-suc Down n = omega arith
share-suc Level n = omega arith
share-suc Up n = omega arith

turns_by : (s : Slope) (y z : ℕ) → Reaches s 1 y z → cond (not (y == z)) 1 0 ≡ share s 1
turns_by Down y z h = grind (arith, nat_tests)
turns_by Level y z h = grind (arith, nat_tests)
turns_by Up y z h = grind (arith, nat_tests)

-- where each step is one of the slope
turns_in-slope : (s : Slope) (h : ℕ → ℕ) (from n : ℕ) → ((x : ℕ) → from ≤ x → x < from + n → Reaches s 1 (h x) (h (x + 1))) → turns_in h from n ≡ share s n
turns_in-slope Down h from zero steps = refl
turns_in-slope Level h from zero steps = refl
turns_in-slope Up h from zero steps = refl
turns_in-slope s h from (suc n) steps =
    let one = turns_by s (h from) (h (from + 1)) (steps from (omega arith) (omega arith)) in
    let more = turns_in-slope s h (from + 1) n (λ x past near. steps x (omega (arith, past)) (omega (arith, near))) in
    let all = turns_in-cons h from n in
    let shares = share-suc s n in
    omega (arith, one, more, all, shares)

rise_of : (s : Slope) (n y z : ℕ) → Reaches s n y z → z - y + (y - z) ≡ share s n
rise_of Down n y z h = omega arith
rise_of Level n y z h = omega arith
rise_of Up n y z h = omega arith

-- along what is left of a line
diagonal_from : (a : Point) (rest : List Point) → ArePieces a rest →
    sum_by absolute_rise (pieces_from a rest) ≡ turns_in (height_from a rest) a.x ((last_from a rest).x - a.x)
diagonal_from a [] h = let none : a.x - a.x ≡ 0 = omega arith in sym (ap (turns_in (height_from a []) a.x) none)
diagonal_from a (b ∷ rest) h =
    let p = piece a b in
    let H = height_from a (b ∷ rest) in
    let m = b.x - a.x in
    let n = (last_from b rest).x - b.x in
    let rising = h.0.rising in
    let beyond = last_is_east b rest h.1 in
    let cut : (last_from b rest).x - a.x ≡ m + n = omega (arith, rising, beyond) in
    let there : a.x + m ≡ b.x = omega (arith, rising) in
    let whole : turns_in H a.x ((last_from b rest).x - a.x) ≡ turns_in H a.x m + turns_in H b.x n =
    ap (turns_in H a.x) cut ∙ turns_in-append H a.x m n ∙ ap (λ k. turns_in H a.x m + turns_in H k n) there in
    let first = turns_in-slope (slope p) H a.x m (λ x from to. height_from-step a b rest x h from (omega (arith, to, rising))) in
    let left = turns_in-same H (height_from b rest) b.x n (λ x past. height_from-past a b rest x h past) in
    let more = diagonal_from b rest h.1 in
    let rise : absolute_rise p ≡ share (slope p) m = rise_of (slope p) (run p) a.y b.y h.0.reaches in
    let sum : sum_by absolute_rise (pieces_from a (b ∷ rest)) ≡ absolute_rise p + sum_by absolute_rise (pieces_from b rest) = sum_by-cons absolute_rise p
    (pieces_from b rest) in
    omega (arith, whole, first, left, more, rise, sum)

-- the diagonal is the number of columns, but for the last, whose height isn't the next one's
pub diagonal_by_columns : (line : List Point) → is_line line ≡ true →
    diagonal line ≡ turns_in (height line) (west_end line).x ((east_end line).x - (west_end line).x)
diagonal_by_columns [] h = absurd (false≢true h)
diagonal_by_columns (a ∷ rest) h = diagonal_from a rest (pieces_of a rest h)
