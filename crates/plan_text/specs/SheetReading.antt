-- What is known of a sheet's text while it is read, for private contracts alone.
use Rattle.std.specs.Prelude.{◌≡◌, ◌≢◌, ◌⊎◌, ℕ, ◌+◌, ◌≤◌, ⊤, Bool, true, false, List, [], ◌∷◌, ◌++◌, IfSome, codes}
use Rattle.std.specs.Prelude.{map, length, flat_map}
use Rattle.std.specs.declared.option.Option.{Option}
use Rattle.std.specs.Fmt.{decimal}
use Rattle.plan_core.specs.declared.point.Point.{Point}
use Rattle.plan_core.specs.declared.criterion.Criterion.{Criterion}
use Rattle.plan_core.specs.Grid.{GridSize}
use Rattle.plan_core.specs.Graph.{Graph, node, edge}
use Rattle.plan_core.specs.Drawing.{Drawing, drawing}
use Rattle.plan_core.specs.Values.{values_of}
use Rattle.plan_write.specs.declared.ending.Ending.{Ending}
use Rattle.plan_write.specs.declared.ending.Ending.TheVariants as endings
use Rattle.plan_text.specs.declared.sheet_fault.SheetWhat.{SheetWhat}
use Rattle.plan_text.specs.declared.sheet_fault.SheetWhat.TheVariants.{Form, Range}
use Rattle.plan_text.specs.declared.sheet_fault.SheetFault.{SheetFault}
use Rattle.plan_text.specs.declared.sheet_fault.SheetFault.TheVariants.{Sheet as SheetHas, Memory}
use Rattle.plan_text.specs.declared.sheet_lines.EndTold.{EndTold}
use Rattle.plan_text.specs.declared.sheet_lines.EndTold.TheVariants.{Best, NoDrawing, Conflicts, Room}
use Rattle.outside_io.specs.Fields.{spaced, Ends, IsOneField}
use Rattle.outside_io.specs.Criteria.{criterion_word}
use Rattle.plan_write.specs.declared.edition.Edition.{Edition}
use Rattle.plan_write.specs.SheetLine.{SheetLine, Title, GridLine, OrderLine, NodesLine, NodeLine, EdgesLine}
use Rattle.plan_write.specs.SheetLine.{EdgeLine, ValuesLine, EndLine, IsName, IsSmall, AreSmall, IsMileageText}
use Rattle.plan_write.specs.SheetLine.{field_told, HasForm, IsSmallEnding, MayEnd, text_of_line}
use Rattle.plan_write.specs.SheetText.{StatesSettled, mileage_field, track_field, picture_lines, drawing_lines}
use Rattle.plan_text.specs.SheetFaults.{LineDue, TitleDue, BodyDue, ValuesDue, EdgesDue, IsToldIn, node_due, edge_due}
use Rattle.plan_text.specs.SheetFaults.{due_after, order_told, drawing_told, HasWrongLine, AreRightLines}

-- ---- fields

-- the field stands in front of the text, after one space, and ends there
pub record IsFieldAt (text field rest : List ℕ) : Type 0 where
  pub one : IsOneField field
  pub ends : Ends rest
  pub spelled : text ≡ 32 ∷ (field ++ rest)

-- the number does
abbrev pub IsNumberAt : List ℕ → ℕ → List ℕ → Type 0
IsNumberAt text n rest = IsSmall n × Ends rest × (text ≡ 32 ∷ (decimal n ++ rest))

-- the coordinates of the point do, one after the other
abbrev pub IsPointAt : List ℕ → Point → List ℕ → Type 0
IsPointAt text p rest = IsSmall p.x × IsSmall p.y × Ends rest
    × (text ≡ 32 ∷ (decimal p.x ++ 32 ∷ (decimal p.y ++ rest)))

-- the name does
abbrev pub IsNameAt : List ℕ → List ℕ → List ℕ → Type 0
IsNameAt text name rest = IsName name × Ends rest × (text ≡ 32 ∷ (name ++ rest))

-- behind this word, a number and a name do
abbrev pub IsNamedAt : List ℕ → List ℕ → ℕ → List ℕ → List ℕ → Type 0
IsNamedAt text word number name rest = IsSmall number × IsName name × Ends rest
    × (text ≡ word ++ 32 ∷ (decimal number ++ 32 ∷ (name ++ rest)))

-- behind the word of an edge, its number does, and its track where the edition tells it
abbrev pub IsNumberedAt : Edition → List ℕ → ℕ → Option (List ℕ) → List ℕ → Type 0
IsNumberedAt edition text number track rest =
    IsToldIn edition track × IfSome track IsName × IsSmall number × Ends rest
    × (text ≡ codes "edge" ++ (spaced (decimal number ∷ field_told track) ++ rest))

-- the end of a node's line stands here, with its mileage where the edition tells it
abbrev pub IsNodeEnd : Edition → List ℕ → Option (List ℕ) → List ℕ → Type 0
IsNodeEnd edition text mileage rest = IsToldIn edition mileage × IfSome mileage IsMileageText
    × (text ≡ spaced (field_told mileage) ++ 10 ∷ rest)

-- the numbers stand in front of the text, each after one space
pub record AreNumbersTo (text : List ℕ) (numbers rest : List ℕ) : Type 0 where
  pub small : AreSmall numbers
  pub ends : (numbers ≡ []) ⊎ Ends rest
  pub spelled : text ≡ spaced (map decimal numbers) ++ rest

-- so do the words of the criteria
pub record AreCriteriaTo (text : List ℕ) (criteria : List Criterion) (rest : List ℕ) : Type 0 where
  pub ends : (criteria ≡ []) ⊎ Ends rest
  pub spelled : text ≡ spaced (map criterion_word criteria) ++ rest

-- the ending that the line tells
abbrev pub ending_told : EndTold → Ending
ending_told Best = endings.Best
ending_told NoDrawing = endings.NoDrawing
ending_told (Conflicts settled) = endings.Conflicts settled
ending_told (Room settled) = endings.Room settled

-- ---- one line

-- the line, of its form, stands in front of the text
pub record IsLineTo (text : List ℕ) (line : SheetLine) (rest : List ℕ) : Type 0 where
  pub form : HasForm line
  pub spelled : text ≡ text_of_line line ++ rest

-- what is wrong with an ending that is of its form
abbrev pub IsEndFault : List Criterion → (is_drawn : Bool) → Ending → SheetWhat → Type 0
IsEndFault order is_drawn ending Form = MayEnd is_drawn ending → ⊥
IsEndFault order is_drawn ending Range = MayEnd is_drawn ending × (StatesSettled order is_drawn ending → ⊥)
IsEndFault order is_drawn ending what = ⊥

-- ---- lines

-- the lines in front of a drawing
abbrev pub head_lines : Edition → GridSize → List Criterion → List SheetLine
head_lines edition grid order = Title edition ∷ GridLine edition grid ∷ OrderLine order ∷ []

-- the lines of the nodes from this number on, which stand at these points
abbrev pub placed_lines : Edition → Graph → ℕ → List Point → List SheetLine
placed_lines edition g n [] = []
placed_lines edition g n (p ∷ places) = NodeLine n (node g n).name p (mileage_field edition g n)
    ∷ placed_lines edition g (n + 1) places

-- the line of an edge that has this line in the drawing
abbrev pub drawn_line : Edition → Graph → ℕ → List Point → SheetLine
drawn_line edition g e l = EdgeLine e (track_field edition g e) (edge g e).west (edge g e).east l

-- the lines of the edges from this number on, which have these lines in the drawing
abbrev pub drawn_lines : Edition → Graph → ℕ → List (List Point) → List SheetLine
drawn_lines edition g e [] = []
drawn_lines edition g e (l ∷ lines) = drawn_line edition g e l ∷ drawn_lines edition g (e + 1) lines

-- the lines stand in front of the text, and are right after those before them
pub record AreReadTo (g : Graph) (before : List SheetLine) (due : LineDue) (text : List ℕ) (lines : List SheetLine)
    (rest : List ℕ) : Type 0 where
  pub right : AreRightLines g before due lines
  pub spelled : text ≡ flat_map text_of_line lines ++ rest

-- the fault is of the first line, which has this number
abbrev pub IsFaultHere : Graph → List SheetLine → LineDue → List ℕ → (number : ℕ) → SheetFault → Type 0
IsFaultHere g before due text number (SheetHas what line) = (line ≡ number) × HasWrongLine g before due text what
IsFaultHere g before due text number Memory = ⊤

-- the first line of the text has this number, and the first line with a fault has that one and this fault
pub record IsFirstFrom (g : Graph) (before : List SheetLine) (due : LineDue) (text : List ℕ) (number : ℕ)
    (what : SheetWhat) (line : ℕ) : Type 0 where
  pub lines : List SheetLine
  pub rest : List ℕ
  pub read : AreReadTo g before due text lines rest
  pub counted : line ≡ number + length lines
  pub fault : HasWrongLine g (before ++ lines) (due_after g due lines) rest what

abbrev pub IsFaultFrom : Graph → List SheetLine → LineDue → List ℕ → (number : ℕ) → SheetFault → Type 0
IsFaultFrom g before due text number (SheetHas what line) = IsFirstFrom g before due text number what line
IsFaultFrom g before due text number Memory = ⊤

-- ---- the head, whatever the graph is, and whether or not a drawing is needed

abbrev pub IsHeadTo : List ℕ → Edition → GridSize → List Criterion → List ℕ → Type 0
IsHeadTo text edition grid order rest =
    (g : Graph) (needs_drawing : Bool) →
    AreReadTo g [] (TitleDue needs_drawing) text (head_lines edition grid order) rest

abbrev pub IsHeadFault : List ℕ → SheetFault → Type 0
IsHeadFault text fault = (g : Graph) (needs_drawing : Bool) → IsFaultFrom g [] (TitleDue needs_drawing) text 1 fault

-- ---- what the readers of several lines say, behind any lines

-- the lines of the nodes, of which there are as many as the graph has
abbrev pub ArePlaced : Edition → Graph → List ℕ → List Point → List ℕ → Type 0
ArePlaced edition g text places rest = (before : List SheetLine) →
    AreReadTo g before (node_due edition g 0) text (placed_lines edition g 0 places) rest

-- the lines of the edges
abbrev pub AreDrawn : Edition → Graph → List ℕ → List (List Point) → List ℕ → Type 0
AreDrawn edition g text lines rest = (before : List SheetLine) →
    AreReadTo g before (edge_due edition g 0) text (drawn_lines edition g 0 lines) rest

-- the same with the counts in front
abbrev pub ArePlacesTo : Edition → Graph → List ℕ → List Point → List ℕ → Type 0
ArePlacesTo edition g text places rest =
    (before : List SheetLine) → AreReadTo g before (BodyDue edition true) text
    (NodesLine (length g.nodes) ∷ placed_lines edition g 0 places) rest

abbrev pub AreLinesTo : Edition → Graph → List ℕ → List (List Point) → List ℕ → Type 0
AreLinesTo edition g text lines rest =
    (before : List SheetLine) → AreReadTo g before (EdgesDue edition) text
    (EdgesLine (length g.edges) ∷ drawn_lines edition g 0 lines) rest

-- the points and lines of the drawing
abbrev pub IsPictureTo : Edition → Graph → List ℕ → Drawing → List ℕ → Type 0
IsPictureTo edition g text d rest =
    (before : List SheetLine) → AreReadTo g before (BodyDue edition true) text
    (NodesLine (length g.nodes) ∷ picture_lines edition g d) rest

-- the first fault of these lines, whatever stands before them
abbrev pub IsFaultAfterAny : Graph → LineDue → List ℕ → (number : ℕ) → SheetFault → Type 0
IsFaultAfterAny g due text number fault = (before : List SheetLine) → IsFaultFrom g before due text number fault

-- behind lines that tell this order and this drawing, the values and the ending stand here and nothing else
abbrev pub IsClosing : Graph → List Criterion → Drawing → List ℕ → Ending → Type 0
IsClosing g order d text e =
    (before : List SheetLine) → order_told before ≡ order → drawing_told before ≡ d →
    AreReadTo g before ValuesDue text (ValuesLine (values_of d) ∷ EndLine e ∷ []) []

-- the first fault of these lines behind lines that tell this order and this drawing
abbrev pub IsFaultAfter : Graph → List Criterion → Drawing → LineDue → List ℕ → (number : ℕ) → SheetFault → Type 0
IsFaultAfter g order d due text number fault =
    (before : List SheetLine) → order_told before ≡ order → drawing_told before ≡ d →
    IsFaultFrom g before due text number fault

-- behind lines that tell this order and no drawing, all lines of the drawing and the ending stand here
abbrev pub IsBody : Edition → Graph → List Criterion → List ℕ → Drawing → Ending → Type 0
IsBody edition g order text d e =
    (before : List SheetLine) → order_told before ≡ order → drawing_told before ≡ drawing [] [] →
    AreReadTo g before (BodyDue edition true) text (drawing_lines edition g d ++ EndLine e ∷ []) []

-- ---- the ending of a sheet without a drawing, behind lines that tell some order, in either edition

abbrev pub IsUndrawnEnding : List ℕ → Ending → Type 0
IsUndrawnEnding text e =
    (g : Graph) (edition : Edition) (before : List SheetLine) → 1 ≤ length (order_told before) →
    AreReadTo g before (BodyDue edition false) text (EndLine e ∷ []) []

abbrev pub IsNoUndrawnEnding : List ℕ → Type 0
IsNoUndrawnEnding text = (e : Ending) (rest : List ℕ) → IsSmallEnding e → MayEnd false e →
    text ≢ text_of_line (EndLine e) ++ rest

abbrev pub IsUndrawnFault : List ℕ → SheetFault → Type 0
IsUndrawnFault text fault =
    (g : Graph) (edition : Edition) (before : List SheetLine) → 1 ≤ length (order_told before) →
    IsFaultFrom g before (BodyDue edition false) text 4 fault
