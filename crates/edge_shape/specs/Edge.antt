-- The clauses of one edge, and what they say.
use Rattle.std.specs.Prelude.{◌≡◌, ◌≤◌, ◌<◌, ℕ, ◌+◌, ◌-◌, not, ◌&&◌, List, [], ◌∷◌, ◌++◌}
use Rattle.cnf_core.specs.Lit.{Literal, positive_of, negate}
use Rattle.cnf_core.specs.Clause.{Clauses}
use Rattle.cnf_core.specs.Assignment.{Assignment}
use Rattle.cnf_core.specs.LitOrTruth.{yes, flip, clause_of}
use Rattle.cnf_core.specs.Formula.{each}
use Rattle.order_int.specs.IntVars.{IntVars}
use Rattle.order_int.specs.OrderInt.{int_at_least, int_clauses, Reads, le_clauses, equal_clauses}
use Rattle.edge_shape.specs.Track.{step_slope}
use Rattle.edge_shape.specs.Rules.{Rule, rule, rule_clauses}
use Rattle.edge_shape.specs.EdgeVars.{NodeInts, EdgeLits, before}
use Rattle.edge_shape.specs.Columns.{is_up, is_down, is_level, within, seen_by, turns_behind, has_level}

-- which columns the line has
abbrev pub range_rules : EdgeLits → IntVars → IntVars → ℕ → List Rule
range_rules e west_x east_x c =
    rule (yes (e.inside c) ∷ int_at_least west_x (c + 1) ∷ []) []
    ∷ rule (yes (e.inside c) ∷ []) (int_at_least east_x c ∷ [])
    ∷ rule (int_at_least east_x c ∷ []) (int_at_least west_x (c + 1) ∷ yes (e.inside c) ∷ [])
    ∷ []

-- a step lies between two columns of the line, and is one of three
abbrev pub step_rules : EdgeLits → ℕ → List Rule
step_rules e c =
    rule (yes (e.up c) ∷ []) (yes (e.inside c) ∷ [])
    ∷ rule (yes (e.up c) ∷ []) (yes (e.inside (c + 1)) ∷ [])
    ∷ rule (yes (e.down c) ∷ []) (yes (e.inside c) ∷ [])
    ∷ rule (yes (e.down c) ∷ []) (yes (e.inside (c + 1)) ∷ [])
    ∷ rule (yes (e.up c) ∷ yes (e.down c) ∷ []) []
    ∷ []

-- a is at most one above b
abbrev pub near_clause : IntVars → IntVars → ℕ → Clauses
near_clause a b k = clause_of [] (flip (int_at_least a (k + 1)) ∷ int_at_least b k ∷ [])

abbrev pub near_clauses : IntVars → IntVars → ℕ → Clauses
near_clauses a b high = each (near_clause a b) 1 (high - 1)

-- a height that doesn't fall stays at least as it is, one that doesn't rise at most
abbrev pub level_clauses : IntVars → IntVars → Literal → Literal → Clauses
level_clauses a b up down = le_clauses a b 0 (down ∷ []) ++ le_clauses b a 0 (up ∷ [])

-- one that rises or falls does so by one row at least
abbrev pub diagonal_clauses : IntVars → IntVars → Literal → Literal → Clauses
diagonal_clauses a b up down = le_clauses a b 1 (negate up ∷ []) ++ le_clauses b a 1 (negate down ∷ [])

-- and by one row at most
abbrev pub rows_clauses : IntVars → IntVars → ℕ → Clauses
rows_clauses a b high = near_clauses b a high ++ near_clauses a b high

-- what a step does to the height
abbrev pub rise_clauses : IntVars → IntVars → Literal → Literal → ℕ → Clauses
rise_clauses a b up down high = (level_clauses a b up down ++ diagonal_clauses a b up down) ++ rows_clauses a b high

abbrev pub height_clauses : EdgeLits → ℕ → ℕ → Clauses
height_clauses e high c = rise_clauses (e.height c) (e.height (c + 1)) (positive_of (e.up c)) (positive_of (e.down c))
    high

-- seen from the first level step on
abbrev pub seen_rules : EdgeLits → ℕ → List Rule
seen_rules e c =
    rule (yes (e.inside c) ∷ yes (e.inside (c + 1)) ∷ []) (yes (e.up c) ∷ yes (e.down c) ∷ yes (e.seen c) ∷ [])
    ∷ rule (before e.seen c ∷ []) (yes (e.seen c) ∷ [])
    ∷ rule (yes (e.seen c) ∷ []) (before e.seen c ∷ yes (e.inside c) ∷ [])
    ∷ rule (yes (e.seen c) ∷ []) (before e.seen c ∷ yes (e.inside (c + 1)) ∷ [])
    ∷ rule (yes (e.seen c) ∷ yes (e.up c) ∷ []) (before e.seen c ∷ [])
    ∷ rule (yes (e.seen c) ∷ yes (e.down c) ∷ []) (before e.seen c ∷ [])
    ∷ []

-- a rise and a fall don't touch, and a diagonal step behind a level one goes on to the end
abbrev pub shape_rules : EdgeLits → ℕ → List Rule
shape_rules e c =
    rule (before e.up c ∷ yes (e.down c) ∷ []) []
    ∷ rule (before e.down c ∷ yes (e.up c) ∷ []) []
    ∷ rule (before e.seen c ∷ before e.up c ∷ yes (e.inside (c + 1)) ∷ []) (yes (e.up c) ∷ [])
    ∷ rule (before e.seen c ∷ before e.down c ∷ yes (e.inside (c + 1)) ∷ []) (yes (e.down c) ∷ [])
    ∷ []

-- the end slopes are two of three
abbrev pub end_rules : EdgeLits → List Rule
end_rules e =
    rule (yes e.west_up ∷ yes e.west_down ∷ []) []
    ∷ rule (yes e.east_up ∷ yes e.east_down ∷ []) []
    ∷ []

-- where x is c, a equals b
abbrev pub same_where : IntVars → ℕ → ℕ → ℕ → List Rule
same_where x c a b =
    rule (int_at_least x c ∷ yes a ∷ []) (int_at_least x (c + 1) ∷ yes b ∷ [])
    ∷ rule (int_at_least x c ∷ yes b ∷ []) (int_at_least x (c + 1) ∷ yes a ∷ [])
    ∷ []

-- the end slopes are those of the first and the last step
abbrev pub slope_rules : EdgeLits → IntVars → IntVars → ℕ → List Rule
slope_rules e west_x east_x c =
    same_where west_x c e.west_up (e.up c) ++ same_where west_x c e.west_down (e.down c)
    ++ same_where east_x (c + 1) e.east_up (e.up c) ++ same_where east_x (c + 1) e.east_down (e.down c)

-- bend equals (rises or falls) and level
abbrev pub bend_rules : ℕ → ℕ → ℕ → ℕ → List Rule
bend_rules bend rises falls level =
    rule (yes bend ∷ []) (yes rises ∷ yes falls ∷ [])
    ∷ rule (yes bend ∷ []) (yes level ∷ [])
    ∷ rule (yes rises ∷ yes level ∷ []) (yes bend ∷ [])
    ∷ rule (yes falls ∷ yes level ∷ []) (yes bend ∷ [])
    ∷ []

-- an inner point has the column behind c
abbrev pub inner_rules : EdgeLits → ℕ → List Rule
inner_rules e c =
    rule (yes (e.bend (c + 1)) ∷ []) (yes (e.inside c) ∷ [])
    ∷ rule (yes (e.bend (c + 1)) ∷ []) (yes (e.inside (c + 2)) ∷ [])
    ∷ rule (yes (e.bend (c + 1)) ∷ yes (e.up c) ∷ yes (e.up (c + 1)) ∷ []) []
    ∷ rule (yes (e.bend (c + 1)) ∷ yes (e.down c) ∷ yes (e.down (c + 1)) ∷ []) []
    ∷ rule (yes (e.bend (c + 1)) ∷ []) (yes (e.up c) ∷ yes (e.down c) ∷ yes (e.up (c + 1)) ∷ yes (e.down (c + 1)) ∷ [])
    ∷ rule (yes (e.inside c) ∷ yes (e.inside (c + 2)) ∷ yes (e.up c) ∷ [])
    (yes (e.up (c + 1)) ∷ yes (e.bend (c + 1)) ∷ [])
    ∷ rule (yes (e.inside c) ∷ yes (e.inside (c + 2)) ∷ yes (e.up (c + 1)) ∷ [])
    (yes (e.up c) ∷ yes (e.bend (c + 1)) ∷ [])
    ∷ rule (yes (e.inside c) ∷ yes (e.inside (c + 2)) ∷ yes (e.down c) ∷ [])
    (yes (e.down (c + 1)) ∷ yes (e.bend (c + 1)) ∷ [])
    ∷ rule (yes (e.inside c) ∷ yes (e.inside (c + 2)) ∷ yes (e.down (c + 1)) ∷ [])
    (yes (e.down c) ∷ yes (e.bend (c + 1)) ∷ [])
    ∷ []

-- a diagonal step is one of the first or of the last piece; this follows from the other clauses, and is
-- there for the search
abbrev pub end_piece_rules : EdgeLits → ℕ → List Rule
end_piece_rules e c =
    rule (yes (e.up c) ∷ []) (yes e.west_up ∷ yes e.east_up ∷ [])
    ∷ rule (yes (e.down c) ∷ []) (yes e.west_down ∷ yes e.east_down ∷ [])
    ∷ []

-- a line without a level piece is one diagonal piece; this follows from the other clauses, and is there for
-- the search
abbrev pub level_rules : EdgeLits → ℕ → List Rule
level_rules e level =
    rule [] (yes e.west_up ∷ yes e.west_down ∷ yes level ∷ [])
    ∷ rule [] (yes e.east_up ∷ yes e.east_down ∷ yes level ∷ [])
    ∷ rule (yes e.west_up ∷ []) (yes e.east_up ∷ yes level ∷ [])
    ∷ rule (yes e.west_down ∷ []) (yes e.east_down ∷ yes level ∷ [])
    ∷ rule (yes e.east_up ∷ []) (yes e.west_up ∷ yes level ∷ [])
    ∷ rule (yes e.east_down ∷ []) (yes e.west_down ∷ yes level ∷ [])
    ∷ []

-- the height beside an end is on the grid; this follows from the other clauses, and is there for the search
abbrev pub beside_end_rules : EdgeLits → IntVars → IntVars → ℕ → List Rule
beside_end_rules e west_y east_y high =
    rule (yes e.west_down ∷ []) (int_at_least west_y 1 ∷ [])
    ∷ rule (yes e.west_up ∷ int_at_least west_y high ∷ []) []
    ∷ rule (yes e.east_up ∷ []) (int_at_least east_y 1 ∷ [])
    ∷ rule (yes e.east_down ∷ int_at_least east_y high ∷ []) []
    ∷ []

-- all clauses of the step from column c
abbrev pub step_clauses : EdgeLits → ℕ → ℕ → Clauses
step_clauses e high c =
    (rule_clauses (step_rules e c) ++ height_clauses e high c)
    ++ (rule_clauses (seen_rules e c) ++ rule_clauses (shape_rules e c))

-- what the assignment gives the variables: the steps from column w to w + n + 1 of the heights y
pub record ReadsTrack (v : Assignment) (e : EdgeLits) (width : ℕ) (y : ℕ → ℕ) (w n : ℕ) : Type 0 where
  pub inside : (c : ℕ) → c ≤ width → v (e.inside c) ≡ within w n c
  pub up : (c : ℕ) → c < width → v (e.up c) ≡ is_up (step_slope y c)
  pub down : (c : ℕ) → c < width → v (e.down c) ≡ is_down (step_slope y c)
  pub seen : (c : ℕ) → c < width → v (e.seen c) ≡ seen_by y w n c
  pub bend : (c : ℕ) → c + 1 < width → v (e.bend (c + 1)) ≡ turns_behind y w n c
  pub height : (c : ℕ) → c ≤ width → Reads v (e.height c) (y c)
  pub west_up : v e.west_up ≡ is_up (step_slope y w)
  pub west_down : v e.west_down ≡ is_down (step_slope y w)
  pub east_up : v e.east_up ≡ is_up (step_slope y (w + n))
  pub east_down : v e.east_down ≡ is_down (step_slope y (w + n))
  pub first_bend : v e.first_bend ≡ (not (is_level (step_slope y w)) && has_level y w n)
  pub second_bend : v e.second_bend ≡ (not (is_level (step_slope y (w + n))) && has_level y w n)

-- the clauses of a line of least columns at least, from the west node's point to the east node's
abbrev pub end_clauses : EdgeLits → NodeInts → NodeInts → ℕ → ℕ → Clauses
end_clauses e west east least width =
    le_clauses west.x east.x least [] ++ (equal_clauses (e.height 0) west.y []
    ++ equal_clauses (e.height width) east.y [])

abbrev pub column_clauses : EdgeLits → NodeInts → NodeInts → ℕ → ℕ → Clauses
column_clauses e west east high width =
    each (λ c. rule_clauses (range_rules e west.x east.x c)) 0 (width + 1) ++ each (step_clauses e high) 0 width

-- the slopes of the two ends
abbrev pub end_slope_clauses : EdgeLits → IntVars → IntVars → ℕ → Clauses
end_slope_clauses e west_x east_x width =
    rule_clauses (end_rules e) ++ each (λ c. rule_clauses (slope_rules e west_x east_x c)) 0 width

-- the bends behind the first piece and before the last
abbrev pub two_bend_clauses : EdgeLits → ℕ → Clauses
two_bend_clauses e width =
    rule_clauses (bend_rules e.first_bend e.west_up e.west_down (e.seen (width - 1)))
    ++ rule_clauses (bend_rules e.second_bend e.east_up e.east_down (e.seen (width - 1)))

abbrev pub whole_clauses : EdgeLits → NodeInts → NodeInts → ℕ → Clauses
whole_clauses e west east width = end_slope_clauses e west.x east.x width ++ two_bend_clauses e width

-- the inner points, and the diagonal steps by their pieces
abbrev pub point_clauses : EdgeLits → ℕ → Clauses
point_clauses e width =
    each (λ c. rule_clauses (inner_rules e c)) 0 (width - 1) ++ each (λ c. rule_clauses (end_piece_rules e c)) 0 width

-- what follows of the end slopes
abbrev pub follow_clauses : EdgeLits → IntVars → IntVars → ℕ → ℕ → Clauses
follow_clauses e west_y east_y high width =
    rule_clauses (level_rules e (e.seen (width - 1))) ++ rule_clauses (beside_end_rules e west_y east_y high)

abbrev pub further_clauses : EdgeLits → NodeInts → NodeInts → ℕ → ℕ → Clauses
further_clauses e west east high width = point_clauses e width ++ follow_clauses e west.y east.y high width

-- the whole line and what goes with it, without its columns
abbrev pub line_clauses : EdgeLits → NodeInts → NodeInts → ℕ → ℕ → Clauses
line_clauses e west east high width = whole_clauses e west east width ++ further_clauses e west east high width

-- all clauses of an edge but those of its heights as integers and those that put its ends (`end_clauses`)
abbrev pub shape_clauses : EdgeLits → NodeInts → NodeInts → ℕ → ℕ → Clauses
shape_clauses e west east high width =
    column_clauses e west east high width ++ line_clauses e west east high width

-- those of an edge's heights as integers and those that put its ends
abbrev pub front_clauses : EdgeLits → NodeInts → NodeInts → ℕ → ℕ → Clauses
front_clauses e west east least width =
    each (λ c. int_clauses (e.height c)) 0 (width + 1) ++ end_clauses e west east least width

-- all clauses of an edge, family by family
abbrev pub edge_clauses : EdgeLits → NodeInts → NodeInts → ℕ → ℕ → ℕ → Clauses
edge_clauses e west east least high width =
    front_clauses e west east least width ++ shape_clauses e west east high width
