-- The drawing text, or sheet: what is drawn, line by line.
use Rattle.std.specs.Prelude.{◌≡◌, ℕ, ◌<◌, ⊤, Bool, false, List, [], ◌∷◌, ◌++◌, None, Some, map, length, flat_map, All}
use Rattle.std.specs.Prelude.{IfSome}
use Rattle.std.specs.List.{range_with_len}
use Rattle.std.specs.declared.option.Option.{Option}
use Rattle.plan_core.specs.declared.criterion.Criterion.{Criterion}
use Rattle.plan_core.specs.Grid.{GridSize}
use Rattle.plan_core.specs.Graph.{Graph, node, edge}
use Rattle.plan_core.specs.Drawing.{Drawing, place, line, all_points}
use Rattle.plan_core.specs.Laws.{IsOnGrid}
use Rattle.plan_core.specs.Lawful.{HasSizeOf}
use Rattle.plan_core.specs.Values.{values_of}
use Rattle.rail_mileage.specs.MetresText.{metres_text}
use Rattle.plan_write.specs.declared.edition.Edition.{Edition}
use Rattle.plan_write.specs.declared.edition.Edition.TheVariants.{First, Second}
use Rattle.plan_write.specs.declared.ending.Ending.{Ending}
use Rattle.plan_write.specs.declared.ending.Ending.TheVariants.{Best, NoDrawing, Conflicts, Room}
use Rattle.plan_write.specs.SheetLine.{SheetLine, Title, GridLine, OrderLine, NodesLine, NodeLine, EdgesLine}
use Rattle.plan_write.specs.SheetLine.{EdgeLine, ValuesLine, EndLine, text_of_line}

-- a sheet, whatever it says; the program's has an ending that goes with its drawing
pub record Sheet : Type 0 where
  pub grid : GridSize
  pub order : List Criterion
  pub found : Option Drawing
  pub ending : Ending

-- ---- what a sheet says of its drawing

-- so many criteria, from the first of the order, may be said to be settled, which is that no lawful drawing is
-- better on them: fewer than there are, and none without a drawing
pub record MayBeSettled (order : List Criterion) (is_drawn : Bool) (settled : ℕ) : Type 0 where
  pub some_left : settled < length order
  pub none_undrawn : is_drawn ≡ false → settled ≡ 0

-- of a search that was cut short no more criteria are said to be settled than may be (`MayBeSettled`)
abbrev pub StatesSettled : List Criterion → (is_drawn : Bool) → Ending → Type 0
StatesSettled order is_drawn Best = ⊤
StatesSettled order is_drawn NoDrawing = ⊤
StatesSettled order is_drawn (Conflicts settled) = MayBeSettled order is_drawn settled
StatesSettled order is_drawn (Room settled) = MayBeSettled order is_drawn settled

-- a drawing in the sheet has a point for each node of the graph and a line for each edge
abbrev pub DrawsAll : Graph → Sheet → Type 0
DrawsAll g s = IfSome s.found (HasSizeOf g)

-- every point of the drawing lies on the sheet's grid
abbrev pub DrawsOnGrid : Sheet → Type 0
DrawsOnGrid s = IfSome s.found (λ d. All (IsOnGrid s.grid) (all_points d))

-- ---- the text

-- a node's mileage and an edge's track, where the edition tells them
abbrev pub mileage_field : Edition → Graph → ℕ → Option (List ℕ)
mileage_field First g n = None
mileage_field Second g n = Some (metres_text (node g n).mileage)

abbrev pub track_field : Edition → Graph → ℕ → Option (List ℕ)
track_field First g e = None
track_field Second g e = Some (edge g e).track

abbrev pub node_line : Edition → Graph → Drawing → ℕ → SheetLine
node_line edition g d n = NodeLine n (node g n).name (place d n) (mileage_field edition g n)

abbrev pub edge_line : Edition → Graph → Drawing → ℕ → SheetLine
edge_line edition g d e = EdgeLine e (track_field edition g e) (edge g e).west (edge g e).east (line d e)

-- each node with its point, and each edge with its line, by number
abbrev pub node_lines : Edition → Graph → Drawing → List SheetLine
node_lines edition g d = map (node_line edition g d) (range_with_len 0 (length g.nodes))

abbrev pub edge_lines : Edition → Graph → Drawing → List SheetLine
edge_lines edition g d = map (edge_line edition g d) (range_with_len 0 (length g.edges))

-- each node, how many edges there are, and each edge
abbrev pub picture_lines : Edition → Graph → Drawing → List SheetLine
picture_lines edition g d = node_lines edition g d ++ EdgesLine (length g.edges) ∷ edge_lines edition g d

-- how many nodes there are, and the picture
abbrev pub drawn_lines : Edition → Graph → Drawing → List SheetLine
drawn_lines edition g d = NodesLine (length g.nodes) ∷ picture_lines edition g d

-- the lines of a drawing, from the number of nodes to its own values
abbrev pub drawing_lines : Edition → Graph → Drawing → List SheetLine
drawing_lines edition g d = drawn_lines edition g d ++ ValuesLine (values_of d) ∷ []

abbrev pub found_lines : Edition → Graph → Option Drawing → List SheetLine
found_lines edition g None = []
found_lines edition g (Some d) = drawing_lines edition g d

-- the lines of a sheet in an edition: the title, the grid, the order, those of the drawing, if any, and the
-- ending
abbrev pub sheet_lines : Edition → Graph → Sheet → List SheetLine
sheet_lines edition g s = Title edition ∷ GridLine edition s.grid ∷ OrderLine s.order
    ∷ (found_lines edition g s.found ++ EndLine s.ending ∷ [])

-- the text of a sheet in an edition
abbrev pub text_in : Edition → Graph → Sheet → List ℕ
text_in edition g s = flat_map text_of_line (sheet_lines edition g s)

-- what is written of a drawing without its values
abbrev pub drawn_text : Graph → Drawing → List ℕ
drawn_text g d = flat_map text_of_line (drawn_lines Second g d)

-- the text that is written
abbrev pub sheet_text : Graph → Sheet → List ℕ
sheet_text g s = text_in Second g s

-- the text of the first edition, of a sheet whose grid has least length 1
abbrev pub first_sheet_text : Graph → Sheet → List ℕ
first_sheet_text g s = text_in First g s
