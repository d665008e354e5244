-- The station of a number: loops in a row on one main track.
use Rattle.std.specs.Prelude.{ℕ, ◌+◌, ◌*◌, ◌/◌, ◌%◌, ◌==◌, if◌then◌else◌}
use Rattle.std.specs.Int.{bit_at}
use Rattle.plan_core.specs.declared.sides.Side.{Side}
use Rattle.plan_core.specs.declared.sides.Side.TheVariants.{Upper, Lower}

-- how many loops there are, 1 to 15
abbrev pub loops : ℕ → ℕ
loops n = n % 15 + 1

-- the side of loop i, counted from 0: upper where its bit of n / 15 is 0
abbrev pub side : ℕ → ℕ → Side
side n i = if bit_at (n / 15) i == 0 then Upper else Lower

-- where loop i, counted from 0, leaves the main track, in metres
abbrev pub leaving : ℕ → ℕ
leaving i = 1000 * i + 200

-- where loop i, counted from 0, comes back to the main track, in metres
abbrev pub returning : ℕ → ℕ
returning i = 1000 * i + 800

-- the main track's length, in metres
abbrev pub main_length : ℕ → ℕ
main_length n = 1000 * loops n
