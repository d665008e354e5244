-- The variables of one edge, and their numbers.
use Rattle.std.specs.Prelude.{◌≤◌, ℕ, zero, suc, ◌+◌, ◌*◌, cond, nat_eq, nat_lt, ◌&&◌, ◌≡◌}
use Rattle.cnf_core.specs.declared.limits.TheConstants.{VARS}
use Rattle.plan_core.specs.declared.limits.TheConstants.{MAX_WIDTH, MAX_HEIGHT}
use Rattle.cnf_core.specs.declared.literal.LitOrTruth.{LitOrTruth}
use Rattle.cnf_core.specs.declared.literal.LitOrTruth.TheVariants.{False}
use Rattle.cnf_core.specs.LitOrTruth.{yes}
use Rattle.order_int.specs.IntVars.{IntVars, int_vars, size, IntIsThere}

-- the integers of a node
pub record NodeInts : Type 0 where
  pub x : IntVars
  pub y : IntVars

-- the integers of a node: of its column and of its row
abbrev pub node_ints : IntVars → IntVars → NodeInts
node_ints x y = record { x = x; y = y }

-- the variables by column (whether the line has it, rises or falls from it, was level by then, has an inner
-- point there, and its height), and six of the whole line: whether its first piece and its last rise or
-- fall, and whether it bends at either end of its level piece
pub record EdgeLits : Type 0 where
  pub inside : ℕ → ℕ
  pub up : ℕ → ℕ
  pub down : ℕ → ℕ
  pub seen : ℕ → ℕ
  pub bend : ℕ → ℕ
  pub height : ℕ → IntVars
  pub west_up : ℕ
  pub west_down : ℕ
  pub east_up : ℕ
  pub east_down : ℕ
  pub first_bend : ℕ
  pub second_bend : ℕ

-- the literal of the column before, which is false at the first column
abbrev pub before : (ℕ → ℕ) → ℕ → LitOrTruth
before x zero = False
before x (suc c) = yes (x c)

-- where the variables of column c begin: six of the whole line come first, and column 0 has no bend
abbrev pub column : ℕ → ℕ → ℕ → ℕ
column first high zero = first + 6
column first high (suc c) = first + 10 + high + c * (high + 5)

abbrev pub height_first : ℕ → ℕ → ℕ → ℕ → ℕ
height_first first high width c = cond (nat_eq c width) (first + 6 + c * (high + 5)) (first + 10 + c * (high + 5))

-- the edge whose first variable this is, on a grid of this height and width
abbrev pub edge_lits : ℕ → ℕ → ℕ → EdgeLits
edge_lits first high width = record {
  inside = λ c. column first high c;
  up = λ c. column first high c + 1;
  down = λ c. column first high c + 2;
  seen = λ c. column first high c + 3;
  bend = λ c. column first high c + 4;
  height = λ c. int_vars 0 high (height_first first high width c);
  west_up = first;
  west_down = first + 1;
  east_up = first + 2;
  east_down = first + 3;
  first_bend = first + 4;
  second_bend = first + 5;
}

-- how many variables an edge has
abbrev pub edge_size : ℕ → ℕ → ℕ
edge_size high width = 6 + high + width * (high + 5)

-- a first variable, on a grid that there is
pub record IsSpot (first high width : ℕ) : Type 0 where
  pub from : 1 ≤ first
  pub rows : high ≤ MAX_HEIGHT
  pub some_columns : 1 ≤ width
  pub columns : width ≤ MAX_WIDTH

-- and all of the edge's variables are numbers of variables
pub record EdgeIsPlaced (first high width : ℕ) : Type 0 where
  pub spot : IsSpot first high width
  pub to : first + edge_size high width ≤ VARS + 1

-- the integers of a node are those of a point of the grid, and their variables are there
pub record IsNode (vars high width : ℕ) (n : NodeInts) : Type 0 where
  pub x_there : IntIsThere vars n.x
  pub y_there : IntIsThere vars n.y
  pub x_low : n.x.low ≡ 0
  pub x_high : n.x.high ≡ width
  pub y_low : n.y.low ≡ 0
  pub y_high : n.y.high ≡ high

-- the node's variables lie before the edge's
pub record LieBefore (first : ℕ) (n : NodeInts) : Type 0 where
  pub x : n.x.first + size n.x ≤ first
  pub y : n.y.first + size n.y ≤ first

-- an edge's first variable, on a grid of this height and width
pub record EdgeSpot : Type 0 where
  pub first : ℕ
  pub high : ℕ
  pub width : ℕ

-- the spot with this first variable, on a grid of this height and width
abbrev pub edge_spot : ℕ → ℕ → ℕ → EdgeSpot
edge_spot first high width = record { first = first; high = high; width = width }

-- the variables of the edge at this spot
abbrev pub lits_of : EdgeSpot → EdgeLits
lits_of e = edge_lits e.first e.high e.width

-- "the line rises from the column", which it doesn't from the last of the grid
abbrev pub up_at : EdgeSpot → ℕ → LitOrTruth
up_at e x = cond (nat_lt x e.width) (yes ((lits_of e).up x)) False

-- "the line falls from the column"
abbrev pub down_at : EdgeSpot → ℕ → LitOrTruth
down_at e x = cond (nat_lt x e.width) (yes ((lits_of e).down x)) False

-- "an inner point of the line has the column", which the first and the last of the grid can't have
abbrev pub bend_at : EdgeSpot → ℕ → LitOrTruth
bend_at e x = cond (nat_lt 0 x && nat_lt x e.width) (yes ((lits_of e).bend x)) False
