-- The truth values that put a line into an edge's variables, by the variables' places.
use Rattle.std.specs.Prelude.{◌+◌, ◌&&◌, ℕ, zero, suc, ◌-◌, Bool, cond, nat_le, nat_lt, nat_eq, List, [], ◌∷◌}
use Rattle.cnf_core.specs.Assignment.{Assignment}
use Rattle.edge_shape.specs.EdgeVars.{column, edge_size}

-- what the variables of each column say, and those of the whole line
pub record EdgeBits : Type 0 where
  pub inside : ℕ → Bool
  pub up : ℕ → Bool
  pub down : ℕ → Bool
  pub seen : ℕ → Bool
  pub bend : ℕ → Bool
  pub height : ℕ → ℕ
  pub whole : ℕ → Bool

-- these bits, and then the steps of a number
abbrev pub bits : List Bool → ℕ → ℕ → Bool
bits [] h k = nat_lt k h
bits (b ∷ bs) h zero = b
bits (b ∷ bs) h (suc k) = bits bs h k

abbrev pub bend_bit : EdgeBits → ℕ → List Bool
bend_bit b zero = []
bend_bit b (suc c) = b.bend c ∷ []

-- the bits before the height's of column c
abbrev pub flags : EdgeBits → ℕ → ℕ → List Bool
flags b width c = cond (nat_eq c width) (b.inside c ∷ []) (b.inside c ∷ b.up c ∷ b.down c ∷ b.seen c ∷ bend_bit b c)

-- the truth value of variable x, by the last of the columns up to c that begins at x or before it
abbrev pub setting : EdgeBits → ℕ → ℕ → ℕ → ℕ → ℕ → Bool
setting b first high width zero x =
    cond (nat_le (column first high 0) x) (bits (flags b width 0) (b.height 0) (x - column first high 0))
    (b.whole (x - first))
setting b first high width (suc c) x =
    cond (nat_le (column first high (suc c)) x) (bits (flags b width (suc c)) (b.height (suc c))
    (x - column first high (suc c)))
    (setting b first high width c x)

-- the assignment with these truth values in the edge's variables
abbrev pub set_edge : EdgeBits → ℕ → ℕ → ℕ → Assignment → Assignment
set_edge b first high width v x =
    cond (nat_le first x && nat_lt x (first + edge_size high width)) (setting b first high width width x) (v x)
