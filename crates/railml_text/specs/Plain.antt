-- The bytes that stand for themselves wherever they are in a value. Private contracts alone cite this module.
use Rattle.std.specs.Prelude.{ℕ, Bool, not, ◌&&◌, ◌==◌}

abbrev pub is_plain : ℕ → Bool
is_plain b = not (b == 38) && not (b == 9) && not (b == 10) && not (b == 13)
