-- A line's bends, told by its end slopes and whether a piece is level.
use Rattle.std.proofs.Common.{◌≡◌, ◌+◌, Bool, true, false, not, List, refl, arith}
use Rattle.std.specs.Prelude.{◌&&◌}
use Rattle.plan_core.specs.declared.point.Point.{Point}
use Rattle.plan_core.specs.declared.point.Slope.{Slope}
use Rattle.plan_core.specs.declared.point.Slope.TheVariants.{Down, Level, Up}
use Rattle.plan_core.specs.Line.{is_line, west_end, slope_west, slope_east, height, bends}
use Rattle.edge_shape.specs.Columns.{is_level, steps_of, has_level_piece}
use Rattle.edge_shape.proofs.RunLemmas.{is_diagonal, one_if, bends_by_slopes, no_bends}
use Rattle.edge_shape.proofs.StepLemmas.{seen_some, level_parts, not_seen}
use Rattle.edge_shape.proofs.LineHeights.{steps_are}

-- THE BENDS ARE THE TWO LITERALS
diagonal_is : (s : Slope) → one_if (not (is_level s) && true) ≡ one_if (is_diagonal s)
diagonal_is Down = refl
diagonal_is Level = refl
diagonal_is Up = refl

no_level : (s : Slope) → one_if (not (is_level s) && false) ≡ 0
no_level Down = refl
no_level Level = refl
no_level Up = refl

pub bends_are : (line : List Point) → is_line line ≡ true → bends line ≡ one_if (not (is_level (slope_west line)) && has_level_piece line) + one_if
    (not (is_level (slope_east line)) && has_level_piece line)
bends_are line h = cases (has_level_piece line) refl
  where
    cases : (b : Bool) → has_level_piece line ≡ b → bends line ≡ one_if (not (is_level (slope_west line)) && b) + one_if (not (is_level (slope_east line)) && b)
    cases true e =
        let y = height line in
        let w = (west_end line).x in
        let n = steps_of line in
        let is = steps_are line h in
        let d = seen_some y w n (w + n) e in
        let parts = level_parts y w n d.0 d.2 in
        let upper = parts.1.0 in
        let f = bends_by_slopes line d.0 h parts.0 (omega arith) parts.1.1 in
        let a = diagonal_is (slope_west line) in
        let b = diagonal_is (slope_east line) in
        omega arith
    cases false e =
        let y = height line in
        let w = (west_end line).x in
        let n = steps_of line in
        let is = steps_are line h in
        let f = no_bends line h (λ d from to. not_seen y w n (w + n) (omega arith) e d from (omega arith)) in
        let a = no_level (slope_west line) in
        let b = no_level (slope_east line) in
        omega arith
