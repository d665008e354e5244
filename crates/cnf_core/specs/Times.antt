-- How often a number stands in a list.
use Rattle.std.specs.Prelude.{ℕ, ◌+◌, cond, nat_eq, List, [], ◌∷◌}

-- how often the number stands in the list
abbrev pub times : List ℕ → ℕ → ℕ
times [] n = 0
times (m ∷ ms) n = cond (nat_eq m n) 1 0 + times ms n
