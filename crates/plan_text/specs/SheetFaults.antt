-- Which sheet a text is, and which fault it has.
use Rattle.std.specs.Prelude.{◌≡◌, ◌≢◌, ℕ, ◌+◌, ⊤, Bool, true, false, if◌then◌else◌, nat_lt, List, [], ◌∷◌, ◌++◌, None}
use Rattle.std.specs.Prelude.{Some, length, flat_map}
use Rattle.std.specs.declared.option.Option.{Option}
use Rattle.plan_core.specs.declared.point.Point.{Point}
use Rattle.plan_core.specs.declared.criterion.Criterion.{Criterion}
use Rattle.plan_core.specs.Grid.{GridSize, IsGrid}
use Rattle.plan_core.specs.Order.{IsOrder}
use Rattle.plan_core.specs.Line.{is_line}
use Rattle.plan_core.specs.Graph.{Graph, node, edge}
use Rattle.plan_core.specs.Drawing.{Drawing, drawing}
use Rattle.plan_core.specs.Values.{values_of}
use Rattle.plan_write.specs.declared.edition.Edition.{Edition}
use Rattle.plan_write.specs.declared.edition.Edition.TheVariants.{First, Second}
use Rattle.plan_text.specs.declared.sheet_fault.SheetWhat.{SheetWhat}
use Rattle.plan_text.specs.declared.sheet_fault.SheetWhat.TheVariants as whats
use Rattle.plan_text.specs.declared.sheet_fault.SheetFault.{SheetFault}
use Rattle.plan_text.specs.declared.sheet_fault.SheetFault.TheVariants.{Sheet as SheetHas, Memory}
use Rattle.plan_write.specs.SheetLine.{SheetLine, Title, GridLine, OrderLine, NodesLine, NodeLine, EdgesLine}
use Rattle.plan_write.specs.SheetLine.{EdgeLine, ValuesLine, EndLine, text_of_line, HasForm, MayEnd}
use Rattle.plan_write.specs.SheetText.{Sheet, StatesSettled, DrawsAll, mileage_field, track_field, sheet_lines}
use Rattle.plan_write.specs.SheetText.{text_in}

-- ---- which line is due

-- the kind of line that is due, and its number where it has one. The title says which edition the lines behind
-- it are of, as long as the editions' lines differ. needs_drawing says that a sheet without a
-- drawing isn't taken. Behind the order comes the body: the count of nodes, with which a drawing begins, or
-- the ending of a sheet without one. Behind the ending comes no line
pub data LineDue : Type 0 where
  TitleDue : (needs_drawing : Bool) → LineDue
  GridDue : (edition : Edition) (needs_drawing : Bool) → LineDue
  OrderDue : (edition : Edition) (needs_drawing : Bool) → LineDue
  BodyDue : (edition : Edition) (needs_drawing : Bool) → LineDue
  NodeDue : (edition : Edition) (number : ℕ) → LineDue
  EdgesDue : (edition : Edition) → LineDue
  EdgeDue : (edition : Edition) (number : ℕ) → LineDue
  ValuesDue : LineDue
  EndDue : LineDue
  NoneDue : LineDue

-- the line of the next node, if there is one, or else the count of edges
abbrev pub node_due : Edition → Graph → ℕ → LineDue
node_due edition g n = (if nat_lt n (length g.nodes) then NodeDue edition n else EdgesDue edition)

abbrev pub edge_due : Edition → Graph → ℕ → LineDue
edge_due edition g e = (if nat_lt e (length g.edges) then EdgeDue edition e else ValuesDue)

-- what is due behind a line of the kind that was due
abbrev pub due_behind : Graph → LineDue → SheetLine → LineDue
due_behind g (TitleDue needs_drawing) (Title edition) = GridDue edition needs_drawing
due_behind g (TitleDue needs_drawing) line = NoneDue
due_behind g (GridDue edition needs_drawing) line = OrderDue edition needs_drawing
due_behind g (OrderDue edition needs_drawing) line = BodyDue edition needs_drawing
due_behind g (BodyDue edition needs_drawing) (NodesLine count) = node_due edition g 0
due_behind g (BodyDue edition needs_drawing) line = NoneDue
due_behind g (NodeDue edition n) line = node_due edition g (n + 1)
due_behind g (EdgesDue edition) line = edge_due edition g 0
due_behind g (EdgeDue edition e) line = edge_due edition g (e + 1)
due_behind g ValuesDue line = EndDue
due_behind g EndDue line = NoneDue
due_behind g NoneDue line = NoneDue

-- what is due behind these lines, where the first of them was due
abbrev pub due_after : Graph → LineDue → List SheetLine → LineDue
due_after g due [] = due
due_after g due (line ∷ lines) = due_after g (due_behind g due line) lines

-- the edition tells the field, or it isn't told
abbrev pub IsToldIn : Edition → Option (List ℕ) → Type 0
IsToldIn First None = ⊤
IsToldIn First (Some field) = ⊥
IsToldIn Second None = ⊥
IsToldIn Second (Some field) = ⊤

-- the line is of the kind that is due
abbrev pub IsDue : LineDue → SheetLine → Type 0
IsDue (TitleDue needs_drawing) (Title edition) = ⊤
IsDue (GridDue edition needs_drawing) (GridLine other grid) = other ≡ edition
IsDue (OrderDue edition needs_drawing) (OrderLine order) = ⊤
IsDue (BodyDue edition needs_drawing) (NodesLine count) = ⊤
IsDue (BodyDue edition false) (EndLine ending) = MayEnd false ending
IsDue (NodeDue edition n) (NodeLine number name place mileage) = IsToldIn edition mileage
IsDue (EdgesDue edition) (EdgesLine count) = ⊤
IsDue (EdgeDue edition e) (EdgeLine number track west east points) = IsToldIn edition track
IsDue ValuesDue (ValuesLine values) = ⊤
IsDue EndDue (EndLine ending) = MayEnd true ending
IsDue due line = ⊥

-- ---- what a line must meet beside its form

-- what the lines before tell
abbrev pub criteria_told : SheetLine → List Criterion
criteria_told (OrderLine order) = order
criteria_told line = []

abbrev pub place_told : SheetLine → List Point
place_told (NodeLine number name place mileage) = place ∷ []
place_told line = []

abbrev pub line_told : SheetLine → List (List Point)
line_told (EdgeLine number track west east points) = points ∷ []
line_told line = []

abbrev pub order_told : List SheetLine → List Criterion
order_told lines = flat_map criteria_told lines

abbrev pub drawing_told : List SheetLine → Drawing
drawing_told lines = drawing (flat_map place_told lines) (flat_map line_told lines)

-- width, height and least length are a grid, the criteria an order, and no more criteria are settled than may be
abbrev pub IsInRange : List SheetLine → LineDue → SheetLine → Type 0
IsInRange before due (GridLine edition grid) = IsGrid grid
IsInRange before due (OrderLine order) = IsOrder order
IsInRange before EndDue (EndLine ending) = StatesSettled (order_told before) true ending
IsInRange before due (EndLine ending) = StatesSettled (order_told before) false ending
IsInRange before due line = ⊤

-- the counts, a node's number, name and mileage, and an edge's number, track and ends are the graph's
abbrev pub IsOfGraph : Graph → LineDue → SheetLine → Type 0
IsOfGraph g due (NodesLine count) = count ≡ length g.nodes
IsOfGraph g (NodeDue edition n) (NodeLine number name place mileage) = (number ≡ n) × (name ≡ (node g n).name)
    × (mileage ≡ mileage_field edition g n)
IsOfGraph g due (EdgesLine count) = count ≡ length g.edges
IsOfGraph g (EdgeDue edition e) (EdgeLine number track west east points) = (number ≡ e)
    × (track ≡ track_field edition g e) × (west ≡ (edge g e).west) × (east ≡ (edge g e).east)
IsOfGraph g due line = ⊤

-- an edge's points are a line
abbrev pub HasShape : SheetLine → Type 0
HasShape (EdgeLine number track west east points) = is_line points ≡ true
HasShape line = ⊤

-- the values are those of the drawing that the lines before tell
abbrev pub IsMeasured : List SheetLine → SheetLine → Type 0
IsMeasured before (ValuesLine values) = values ≡ values_of (drawing_told before)
IsMeasured before line = ⊤

-- ---- the first line with a fault

-- the text begins with this line, which is of the form that is due
pub record BeginsWithLine (due : LineDue) (text : List ℕ) (line : SheetLine) : Type 0 where
  pub is_due : IsDue due line
  pub form : HasForm line
  pub behind : List ℕ
  pub spelled : text ≡ text_of_line line ++ behind

-- no line of the form that is due begins the text, so that it is missing, or has no line feed, or is another.
-- Where none is due, there is text all the same
abbrev pub IsMisformed : LineDue → List ℕ → Type 0
IsMisformed NoneDue text = text ≢ []
IsMisformed due text = (line : SheetLine) → BeginsWithLine due text line → ⊥

-- the first line of the text has this fault, and none with a lower number: form, range, graph, shape,
-- values. Where its form is right, only an edge's line can have two, of which the graph's comes first
abbrev pub HasWrongLine : Graph → List SheetLine → LineDue → List ℕ → SheetWhat → Type 0
HasWrongLine g before due text whats.Form = IsMisformed due text
HasWrongLine g before due text whats.Range = (line : SheetLine) × BeginsWithLine due text line
    × (IsInRange before due line → ⊥)
HasWrongLine g before due text whats.Graph = (line : SheetLine) × BeginsWithLine due text line
    × (IsOfGraph g due line → ⊥)
HasWrongLine g before due text whats.Shape = (line : SheetLine) × BeginsWithLine due text line × IsOfGraph g due line
    × (HasShape line → ⊥)
HasWrongLine g before due text whats.Values = (line : SheetLine) × BeginsWithLine due text line
    × (IsMeasured before line → ⊥)

-- the line is due after the lines before, and has no fault
pub record IsRight (g : Graph) (before : List SheetLine) (due : LineDue) (line : SheetLine) : Type 0 where
  pub is_due : IsDue due line
  pub form : HasForm line
  pub range : IsInRange before due line
  pub of_graph : IsOfGraph g due line
  pub shape : HasShape line
  pub measured : IsMeasured before line

-- each line is due after those before it, and has no fault
abbrev pub AreRightLines : Graph → List SheetLine → LineDue → List SheetLine → Type 0
AreRightLines g before due [] = ⊤
AreRightLines g before due (line ∷ lines) = IsRight g before due line
    × AreRightLines g (before ++ line ∷ []) (due_behind g due line) lines

-- the first line of the text that has a fault has this one, and this number, counted from 1
pub record HasSheetFault (g : Graph) (needs_drawing : Bool) (text : List ℕ) (what : SheetWhat) (number : ℕ) : Type 0
  where
    pub before : List SheetLine
    pub right : AreRightLines g [] (TitleDue needs_drawing) before
    pub rest : List ℕ
    pub spelled : text ≡ flat_map text_of_line before ++ rest
    pub counted : number ≡ length before + 1
    pub fault : HasWrongLine g before (due_after g (TitleDue needs_drawing) before) rest what

-- the text is that of the sheet, of this edition, and each of its lines is right. The points needn't lie on the sheet's
-- grid:
-- where one doesn't, the drawing breaks a law
pub record IsSheetText (g : Graph) (needs_drawing : Bool) (text : List ℕ) (s : Sheet) : Type 0 where
  pub edition : Edition
  pub draws_all : DrawsAll g s
  pub right : AreRightLines g [] (TitleDue needs_drawing) (sheet_lines edition g s)
  pub spelled : text ≡ text_in edition g s

-- the text is that of a sheet with this drawing on this grid
pub record IsDrawingOf (g : Graph) (text : List ℕ) (grid : GridSize) (d : Drawing) : Type 0 where
  pub sheet : Sheet
  pub on_grid : sheet.grid ≡ grid
  pub found : sheet.found ≡ Some d
  pub told : IsSheetText g true text sheet

-- the fault is the first of the text; want of memory is none of its faults
abbrev pub IsSheetFault : Graph → (needs_drawing : Bool) → List ℕ → SheetFault → Type 0
IsSheetFault g needs_drawing text (SheetHas what line) = HasSheetFault g needs_drawing text what line
IsSheetFault g needs_drawing text Memory = ⊥
