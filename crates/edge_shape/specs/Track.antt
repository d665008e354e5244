-- A line as a function of columns: the height over each of them.
use Rattle.std.specs.Prelude.{◌≡◌, ◌≢◌, ℕ, zero, suc, ◌+◌, ◌≤◌, ◌<◌, Bool, true, false, cond, nat_lt, List, [], ◌∷◌}
use Rattle.std.specs.Prelude.{◌++◌, if◌then◌else◌}
use Rattle.plan_core.specs.declared.point.Point.{Point}
use Rattle.plan_core.specs.declared.point.Slope.{Slope}
use Rattle.plan_core.specs.declared.point.Slope.TheVariants.{Down, Level, Up}

-- the slope from height a to height b
abbrev pub slope_by : ℕ → ℕ → Slope
slope_by a b = (if nat_lt a b then Up else (if nat_lt b a then Down else Level))

-- the slope of the step from column c to the next
abbrev pub step_slope : (ℕ → ℕ) → ℕ → Slope
step_slope y c = slope_by (y c) (y (c + 1))

abbrev pub same_slope : Slope → Slope → Bool
same_slope Down Down = true
same_slope Level Level = true
same_slope Up Up = true
same_slope a b = false

-- the point over a column
abbrev pub over : (ℕ → ℕ) → ℕ → Point
over y c = record { x = c; y = y c }

-- the point over the column behind c, where the slope turns there
abbrev pub turn : (ℕ → ℕ) → ℕ → List Point
turn y c = cond (same_slope (step_slope y c) (step_slope y (c + 1))) [] (over y (c + 1) ∷ [])

-- the points behind column c, with n steps left behind the one from c
abbrev pub points_behind : (ℕ → ℕ) → ℕ → ℕ → List Point
points_behind y c zero = over y (c + 1) ∷ []
points_behind y c (suc n) = turn y c ++ points_behind y (c + 1) n

-- the points of the line over n + 1 steps from column w on: its ends, and where its slope turns
abbrev pub line_over : (ℕ → ℕ) → ℕ → ℕ → List Point
line_over y w n = over y w ∷ points_behind y w n

-- n + 1 steps from column w on are those of a line: each is by one row at most, a rise and a fall
-- don't touch, and behind a level step a diagonal one goes on to the end
pub record IsTrack (y : ℕ → ℕ) (w n : ℕ) : Type 0 where
  pub rises : (c : ℕ) → w ≤ c → c ≤ w + n → y (c + 1) ≤ y c + 1
  pub falls : (c : ℕ) → w ≤ c → c ≤ w + n → y c ≤ y (c + 1) + 1
  pub no_peak : (c : ℕ) → w ≤ c → c < w + n → step_slope y c ≡ Up → step_slope y (c + 1) ≢ Down
  pub no_dip : (c : ℕ) → w ≤ c → c < w + n → step_slope y c ≡ Down → step_slope y (c + 1) ≢ Up
  pub goes_on : (d c : ℕ) → w ≤ d → d ≤ c → c < w + n →
      step_slope y d ≡ Level → step_slope y c ≢ Level → step_slope y (c + 1) ≡ step_slope y c

-- heights go on level outside the steps
pub record IsFlatOutside (y : ℕ → ℕ) (w n : ℕ) : Type 0 where
  pub west : (c : ℕ) → c ≤ w → y c ≡ y w
  pub east : (c : ℕ) → w + n + 1 ≤ c → y c ≡ y (w + n + 1)
