-- The grid: columns 0 to width, rows 0 to height, and over how many columns each edge goes at the least.
use Rattle.std.specs.Prelude.{ℕ, ◌≤◌}
use Rattle.plan_core.specs.declared.limits.TheConstants.{MAX_WIDTH, MAX_HEIGHT, MAX_LEAST}

-- a width, a height and a least length
pub record GridSize : Type 0 where
  pub width : ℕ
  pub height : ℕ
  pub least : ℕ

-- the grid of this width, height and least length
abbrev pub grid_with : ℕ → ℕ → ℕ → GridSize
grid_with width height least = record { width = width; height = height; least = least }

-- the grid that asks for one column at each edge, as every line has
abbrev pub grid_size : ℕ → ℕ → GridSize
grid_size width height = grid_with width height 1

-- a width of 1 to 64, a height of 0 to 12 and a least length of 1 to 16
pub record IsGrid (g : GridSize) : Type 0 where
  pub some_width : 1 ≤ g.width
  pub width_limit : g.width ≤ MAX_WIDTH
  pub height_limit : g.height ≤ MAX_HEIGHT
  pub some_least : 1 ≤ g.least
  pub least_limit : g.least ≤ MAX_LEAST
