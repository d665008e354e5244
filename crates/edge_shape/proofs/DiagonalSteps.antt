-- A line's diagonal is the number of columns whose step rises or falls.
use Rattle.std.proofs.Common.{◌≡◌, ℕ, zero, suc, ◌+◌, ◌-◌, ◌<◌, ◌≤◌, Bool, true, false, not, cond, ◌==◌, List, refl, sym, ◌∙◌, ap, arith}
use Rattle.std.specs.Prelude.{◌||◌, nat_lt}
use Rattle.plan_core.specs.declared.point.Point.{Point}
use Rattle.plan_core.specs.Line.{is_line, west_end, east_end, height, diagonal}
use Rattle.plan_core.proofs.LineLemmas.{ends_rise}
use Rattle.std.specs.List.{count_by, range_with_len}
use Rattle.std.proofs.lemmas.Bool.Decides.{nat_tests}
use Rattle.std.proofs.lemmas.List.Sums.{sum_by-cons}
use Rattle.plan_core.proofs.DiagonalLemmas.{turns, turns_in, turns_in-append, diagonal_by_columns}
use Rattle.edge_shape.specs.Track.{step_slope, slope_by}
use Rattle.edge_shape.specs.Columns.{is_up, is_down}
use Rattle.edge_shape.proofs.LineHeights.{line_is_flat, steps_are}

abbrev bit : Bool → ℕ
bit b = cond b 1 0

pub count_same : (f g : ℕ → Bool) (from n : ℕ) → ((c : ℕ) → from ≤ c → c < from + n → f c ≡ g c) →
    count_by f (range_with_len from n) ≡ count_by g (range_with_len from n)
count_same f g from zero h = refl
count_same f g from (suc n) h =
    let a = sum_by-cons (λ x. cond (f x) 1 0) from (range_with_len (from + 1) n) in
    let b = sum_by-cons (λ x. cond (g x) 1 0) from (range_with_len (from + 1) n) in
    let one : bit (f from) ≡ bit (g from) = ap bit (h from (omega arith) (omega arith)) in
    let more = count_same f g (from + 1) n (λ c low high. h c (omega arith) (omega arith)) in
    omega (arith, a, b, one, more)

count_none : (f : ℕ → Bool) (from n : ℕ) → ((c : ℕ) → from ≤ c → c < from + n → f c ≡ false) → count_by f (range_with_len from n) ≡ 0
count_none f from zero h = refl
count_none f from (suc n) h =
    let a = sum_by-cons (λ x. cond (f x) 1 0) from (range_with_len (from + 1) n) in
    let one : bit (f from) ≡ 0 = ap bit (h from (omega arith) (omega arith)) in
    let more = count_none f (from + 1) n (λ c low high. h c (omega arith) (omega arith)) in
    omega (arith, a, one, more)

level_turns : (h : ℕ → ℕ) (c : ℕ) → h c ≡ h (c + 1) → turns h c ≡ false
level_turns h c e = grind (arith, nat_tests)

step_turns : (h : ℕ → ℕ) (c : ℕ) → turns h c ≡ (is_up (step_slope h c) || is_down (step_slope h c))
step_turns h c = cases (h c) (h (c + 1)) (nat_lt (h c) (h (c + 1))) (nat_lt (h (c + 1)) (h c)) refl refl
  where
    cases : (a b : ℕ) (p q : Bool) → nat_lt a b ≡ p → nat_lt b a ≡ q → not (a == b) ≡ (is_up (slope_by a b) || is_down (slope_by a b))
    cases a b true q e f = rw e (grind (arith, nat_tests, e))
    cases a b false true e f = rw (e, f) (grind (arith, nat_tests, f))
    cases a b false false e f = rw (e, f) (grind (arith, nat_tests, e, f))

pub diagonal_steps : (line : List Point) (width : ℕ) → is_line line ≡ true → (east_end line).x ≤ width →
    diagonal line ≡ count_by (λ c. is_up (step_slope (height line) c) || is_down (step_slope (height line) c)) (range_with_len 0 width)
diagonal_steps line width h size =
    let y = height line in
    let w = (west_end line).x in
    let z = (east_end line).x in
    let rise = ends_rise line h in
    let is = steps_are line h in
    let flat = line_is_flat line h in
    let cut : width ≡ w + (z - w) + (width - z) = omega arith in
    let there : w + (z - w) ≡ z = omega arith in
    let whole : turns_in y 0 width ≡ turns_in y 0 (w + (z - w)) + turns_in y (0 + (w + (z - w))) (width - z) = ap (turns_in y 0) cut
    ∙ turns_in-append y 0 (w + (z - w)) (width - z) in
    let front : turns_in y 0 (w + (z - w)) ≡ turns_in y 0 w + turns_in y (0 + w) (z - w) = turns_in-append y 0 w (z - w) in
    let before : turns_in y 0 w ≡ 0 = count_none (turns y) 0 w (λ c low high. level_turns y c
    (flat.west c (omega arith) ∙ sym (flat.west (c + 1) (omega arith)))) in
    let behind : turns_in y (0 + (w + (z - w))) (width - z) ≡ 0 = count_none (turns y) (0 + (w + (z - w))) (width - z)
    (λ c low high. level_turns y c (flat.east c (omega arith) ∙ sym (flat.east (c + 1) (omega arith)))) in
    let middle : turns_in y (0 + w) (z - w) ≡ turns_in y w (z - w) = (let k : 0 + w ≡ w = omega arith in ap (λ x. turns_in y x (z - w)) k) in
    let all : turns_in y 0 width ≡ turns_in y w (z - w) = omega (arith, whole, front, before, behind, middle) in
    diagonal_by_columns line h ∙ sym all ∙ count_same (turns y) (λ c. is_up (step_slope y c) || is_down (step_slope y c)) 0 width (λ c low high. step_turns y c)
