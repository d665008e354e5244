-- The text of a drawing with few moved nodes: its first line, the grid, how many nodes moved of how many that have a
-- former point, the drawing as a sheet tells it, and how the search ended.
use Rattle.std.specs.Prelude.{ℕ, List, [], ◌∷◌, ◌++◌, None, Some, codes, flat_map}
use Rattle.std.specs.declared.option.Option.{Option}
use Rattle.std.specs.Fmt.{decimal}
use Rattle.plan_core.specs.Grid.{GridSize}
use Rattle.plan_core.specs.Graph.{Graph}
use Rattle.plan_core.specs.Drawing.{Drawing}
use Rattle.outside_io.specs.Fields.{line_text}
use Rattle.plan_write.specs.declared.edition.Edition.TheVariants.{Second}
use Rattle.plan_text.specs.SheetLine.{GridLine, text_of_line}
use Rattle.plan_text.specs.SheetText.{drawing_lines}
use Rattle.drawing_cnf.specs.Moved.{Former, matched}
use Rattle.search_moved.specs.MovedFormula.{moved_nodes}
use Rattle.search_least.specs.declared.fewest.Fewest.{Fewest}
use Rattle.search_least.specs.declared.fewest.Fewest.TheVariants.{Best, NoDrawing, Spent, Room}

-- the drawing that was found
abbrev pub fewest_found : Fewest → Option Drawing
fewest_found (Best d) = Some d
fewest_found NoDrawing = None
fewest_found (Spent found) = found
fewest_found (Room found) = found

-- no lawful drawing has fewer moved nodes; none is lawful; the budget is spent; there is no room for more
abbrev pub moved_end_word : Fewest → List ℕ
moved_end_word (Best d) = codes "best"
moved_end_word NoDrawing = codes "none"
moved_end_word (Spent found) = codes "conflicts"
moved_end_word (Room found) = codes "room"

-- the line of how many nodes moved, of how many that have a former point
abbrev pub moved_line : Former → Drawing → List ℕ
moved_line former d = line_text (codes "moved")
    (decimal (moved_nodes former d) ∷ codes "of" ∷ decimal (matched former) ∷ [])

-- the drawing's lines are those of a sheet, from the number of nodes to what it measures
abbrev pub moved_drawing_text : Graph → Former → Option Drawing → List ℕ
moved_drawing_text g former None = []
moved_drawing_text g former (Some d) = moved_line former d ++ flat_map text_of_line (drawing_lines Second g d)

-- the text of an outcome
abbrev pub moved_text : Graph → GridSize → Former → Fewest → List ℕ
moved_text g grid former outcome =
    codes "railplan-moved 1\n"
    ++ text_of_line (GridLine Second grid)
    ++ moved_drawing_text g former (fewest_found outcome)
    ++ line_text (codes "end") (moved_end_word outcome ∷ [])
