-- The text of signals on a drawing: how many there are, and of each, in file order, its number, its id, its edge, and
-- the column and the height at which it stands.
use Rattle.std.specs.Prelude.{ℕ, List, [], ◌∷◌, ◌++◌, codes, length, flat_map, slice_get}
use Rattle.std.specs.Option.{option_map_or}
use Rattle.std.specs.Fmt.{decimal}
use Rattle.outside_io.specs.Fields.{line_text}
use Rattle.plan_core.specs.declared.point.Point.{Point}
use Rattle.plan_core.specs.Line.{height}
use Rattle.plan_core.specs.Drawing.{Drawing, line}
use Rattle.railml_read.specs.declared.rows.SignalElem.{SignalElem}
use Rattle.plan_objects.specs.declared.places.SignalPlace.{SignalPlace}
use Rattle.plan_objects.specs.Places.{edge_at, numbers}
use Rattle.plan_objects.specs.Spread.{column_on}
use Rattle.plan_objects.specs.Rows.{id_of}

-- the line of a signal's edge
abbrev pub line_under : List SignalPlace → Drawing → ℕ → List Point
line_under places d i = line d (edge_at places i)

-- the column of a signal on its edge's line
abbrev pub column_in : List SignalPlace → Drawing → ℕ → ℕ
column_in places d i = column_on places (line_under places d i) i

-- the height of the edge's line in the signal's column
abbrev pub height_in : List SignalPlace → Drawing → ℕ → ℕ
height_in places d i = height (line_under places d i) (column_in places d i)

-- the id of signal i; no definition asks for one past the last
abbrev pub id_at : List SignalElem → ℕ → List ℕ
id_at signals i = option_map_or id_of (slice_get signals i) []

-- the line of signal i: its number, its id, its edge, its column and its height
abbrev pub signal_line : List SignalElem → List SignalPlace → Drawing → ℕ → List ℕ
signal_line signals places d i =
    line_text (codes "signal")
    (decimal i ∷ id_at signals i ∷ decimal (edge_at places i) ∷ decimal (column_in places d i)
    ∷ decimal (height_in places d i) ∷ [])

-- a line with the number of signals, and then the line of each, in file order
abbrev pub signals_text : List SignalElem → List SignalPlace → Drawing → List ℕ
signals_text signals places d =
    line_text (codes "signals") (decimal (length places) ∷ [])
    ++ flat_map (signal_line signals places d) (numbers places)
