-- How long lines are, and walks along them.
use Rattle.std.proofs.Common.{◌≡◌, ℕ, ◌+◌, ◌*◌, ◌<◌, ◌≤◌, true, false, List, length, take, map, refl, ap, arith}
use Rattle.std.specs.Prelude.{sum_by}
use Rattle.std.specs.List.{list_all}
use Rattle.std.proofs.lemmas.Bool.{and_parts}
use Rattle.std.proofs.lemmas.List.{length-take}
use Rattle.plan_core.specs.declared.point.Point.{Point}
use Rattle.plan_core.proofs.LineLemmas.{line_length}
use Rattle.plan_core.specs.Line.{pieces_from, pieces, is_piece, is_line, height, height_from, diagonal, absolute_rise}

pub long_is_no_line : (line : List Point) → 5 ≤ length line → false ≡ is_line line
long_is_no_line line long =
    elim (is_line line) as (λ b. is_line line ≡ b → false ≡ b) [
      | true ↦ λ e. let few = line_length line e in absurd (omega (arith, few, long))
      | false ↦ λ e. refl
    ] refl

-- while a line's points are copied there is room for one more
pub room_left : (line : List Point) (i : ℕ) (copied : List Point) → is_line line ≡ true → i < length line → copied ≡ take i line → length copied < 4
room_left line i copied is_one within same =
    let few = line_length line is_one in
    let n : length copied ≡ length (take i line) = ap (length {A = Point}) same in
    omega (arith, few, within, n, length-take i line)

-- what a walk to a column keeps: the point where it stands, and the points left
pub record IsOnTheWay (line : List Point) (x : ℕ) (west : Point) (rest : List Point) : Type 0 where
  pub same : height_from west rest x ≡ height line x
  pub passed : west.x ≤ x
  pub pieces : list_all is_piece (pieces_from west rest) ≡ true

-- what a walk along a whole line keeps: the rises of the pieces passed, and those left
pub record IsMeasured (line : List Point) (west : Point) (rest : List Point) (sum steps : ℕ) : Type 0 where
  pub same : sum + sum_by absolute_rise (pieces_from west rest) ≡ diagonal line
  pub bounded : sum ≤ 65535 * steps
