-- The lines of a sheet: what each says, its fields, and its text.
use Rattle.std.specs.Prelude.{◌≡◌, ℕ, ◌≤◌, ⊤, Bool, true, false, List, [], ◌∷◌, ◌++◌, None, Some, IfSome, codes, map}
use Rattle.std.specs.Prelude.{length, get_or, flat_map}
use Rattle.std.specs.declared.option.Option.{Option}
use Rattle.std.specs.Char.{IsAsciiDigit}
use Rattle.std.specs.List.{AllByRecursion}
use Rattle.std.specs.Fmt.{decimal}
use Rattle.plan_core.specs.declared.point.Point.{Point}
use Rattle.plan_core.specs.declared.criterion.Values.{Values}
use Rattle.plan_core.specs.declared.criterion.Criterion.{Criterion}
use Rattle.plan_core.specs.Grid.{GridSize}
use Rattle.outside_io.specs.Fields.{line_text, IsOneField}
use Rattle.outside_io.specs.Criteria.{criterion_word}
use Rattle.outside_io.specs.Numbers.{IsNumberField}
use Rattle.outside_io.specs.declared.numbers.TheConstants.{MAX_NUMBER}
use Rattle.plan_write.specs.declared.sheet.TheConstants.{MAX_METRES}
use Rattle.plan_write.specs.declared.edition.Edition.{Edition}
use Rattle.plan_write.specs.declared.edition.Edition.TheVariants.{First, Second}
use Rattle.plan_write.specs.declared.ending.Ending.{Ending}
use Rattle.plan_write.specs.declared.ending.Ending.TheVariants.{Best, NoDrawing, Conflicts, Room}

-- the title, the grid, the order of criteria, how many nodes there are, a node, how many edges there are, an
-- edge, the values, and the ending. A node's mileage and an edge's track are told in the second edition alone
pub data SheetLine : Type 0 where
  Title : (edition : Edition) → SheetLine
  GridLine : (edition : Edition) (grid : GridSize) → SheetLine
  OrderLine : (order : List Criterion) → SheetLine
  NodesLine : (count : ℕ) → SheetLine
  NodeLine : (number : ℕ) (name : List ℕ) (place : Point) (mileage : Option (List ℕ)) → SheetLine
  EdgesLine : (count : ℕ) → SheetLine
  EdgeLine : (number : ℕ) (track : Option (List ℕ)) (west east : ℕ) (points : List Point) → SheetLine
  ValuesLine : (values : Values) → SheetLine
  EndLine : (ending : Ending) → SheetLine

-- ---- the text of a line

abbrev pub edition_number : Edition → List ℕ
edition_number First = codes "1"
edition_number Second = codes "2"

abbrev pub grid_numbers : Edition → GridSize → List ℕ
grid_numbers First grid = grid.width ∷ grid.height ∷ []
grid_numbers Second grid = grid.width ∷ grid.height ∷ grid.least ∷ []

abbrev pub coordinates : Point → List ℕ
coordinates p = p.x ∷ p.y ∷ []

-- the field, where it is told
abbrev pub field_told : Option (List ℕ) → List (List ℕ)
field_told None = []
field_told (Some field) = field ∷ []

abbrev pub ending_fields : Ending → List (List ℕ)
ending_fields Best = codes "best" ∷ []
ending_fields NoDrawing = codes "none" ∷ []
ending_fields (Conflicts settled) = codes "conflicts" ∷ decimal settled ∷ []
ending_fields (Room settled) = codes "room" ∷ decimal settled ∷ []

-- its first field
abbrev pub first_field : SheetLine → List ℕ
first_field (Title edition) = codes "railplan"
first_field (GridLine edition grid) = codes "grid"
first_field (OrderLine order) = codes "order"
first_field (NodesLine count) = codes "nodes"
first_field (NodeLine number name place mileage) = codes "node"
first_field (EdgesLine count) = codes "edges"
first_field (EdgeLine number track west east points) = codes "edge"
first_field (ValuesLine values) = codes "values"
first_field (EndLine ending) = codes "end"

-- its other fields
abbrev pub other_fields : SheetLine → List (List ℕ)
other_fields (Title edition) = edition_number edition ∷ []
other_fields (GridLine edition grid) = map decimal (grid_numbers edition grid)
other_fields (OrderLine order) = map criterion_word order
other_fields (NodesLine count) = decimal count ∷ []
other_fields (NodeLine number name place mileage) = decimal number ∷ name ∷ decimal place.x ∷ decimal place.y
    ∷ field_told mileage
other_fields (EdgesLine count) = decimal count ∷ []
other_fields (EdgeLine number track west east points) = decimal number
    ∷ (field_told track ++ map decimal (west ∷ east ∷ flat_map coordinates points))
other_fields (ValuesLine values) = map decimal (values.height ∷ values.bends ∷ values.diagonal ∷ values.width ∷ [])
other_fields (EndLine ending) = ending_fields ending

-- the text of a line: its fields with one space between them, and a line feed
abbrev pub text_of_line : SheetLine → List ℕ
text_of_line line = line_text (first_field line) (other_fields line)

-- ---- the form of a line

-- a number that a sheet may tell
abbrev pub IsSmall : ℕ → Type 0
IsSmall n = n ≤ MAX_NUMBER

-- each of the numbers is at most 65,535 (`MAX_NUMBER`)
abbrev pub AreSmall : List ℕ → Type 0
AreSmall numbers = AllByRecursion IsSmall numbers

-- a byte or more, without a space or line feed
pub record IsName (name : List ℕ) : Type 0 where
  pub some : 1 ≤ length name
  pub one : IsOneField name

-- each byte is a digit
abbrev pub AreDigits : List ℕ → Type 0
AreDigits bytes = AllByRecursion IsAsciiDigit bytes

-- whole metres: the canonical decimal of a number of at most ten digits
abbrev pub IsWholeMetres : List ℕ → Type 0
IsWholeMetres digits = IsNumberField 0 MAX_METRES digits

-- six digits behind the point
pub record IsFraction (digits : List ℕ) : Type 0 where
  pub are_digits : AreDigits digits
  pub six : length digits ≡ 6

-- whole metres, a point and six digits
pub record IsSize (text : List ℕ) : Type 0 where
  pub whole : List ℕ
  pub fraction : List ℕ
  pub is_whole : IsWholeMetres whole
  pub is_fraction : IsFraction fraction
  pub spelled : text ≡ whole ++ 46 ∷ fraction

abbrev pub minus_text : (is_negative : Bool) → List ℕ
minus_text true = codes "-"
minus_text false = []

-- metres as a sheet may tell them, which needn't be those of a node
pub record IsMileageText (text : List ℕ) : Type 0 where
  pub is_negative : Bool
  pub size : List ℕ
  pub is_size : IsSize size
  pub spelled : text ≡ minus_text is_negative ++ size

-- there are from so many to so many
pub record IsBetween (least most count : ℕ) : Type 0 where
  pub from : least ≤ count
  pub to : count ≤ most

-- the number of settled criteria, where the ending has one, is at most 65,535
abbrev pub IsSmallEnding : Ending → Type 0
IsSmallEnding Best = ⊤
IsSmallEnding NoDrawing = ⊤
IsSmallEnding (Conflicts settled) = IsSmall settled
IsSmallEnding (Room settled) = IsSmall settled

-- the first edition tells no least length, and stands for 1
abbrev pub StandsForLeast : Edition → GridSize → Type 0
StandsForLeast First grid = grid.least ≡ 1
StandsForLeast Second grid = ⊤

-- there are as many fields as there may be, no number is above 65,535, a name is one field of a byte or more,
-- and a mileage has its own form
abbrev pub HasForm : SheetLine → Type 0
HasForm (Title edition) = ⊤
HasForm (GridLine edition grid) = AreSmall (grid_numbers edition grid) × StandsForLeast edition grid
HasForm (OrderLine order) = IsBetween 1 4 (length order)
HasForm (NodesLine count) = IsSmall count
HasForm (NodeLine number name place mileage) = IsName name × AreSmall (number ∷ coordinates place)
    × IfSome mileage IsMileageText
HasForm (EdgesLine count) = IsSmall count
HasForm (EdgeLine number track west east points) = IsBetween 2 4 (length points)
    × AreSmall (number ∷ west ∷ east ∷ flat_map coordinates points) × IfSome track IsName
HasForm (ValuesLine values) = AreSmall (values.height ∷ values.bends ∷ values.diagonal ∷ values.width ∷ [])
HasForm (EndLine ending) = IsSmallEnding ending

-- which endings a sheet with a drawing, or without one, may have: best only with one, none only without
abbrev pub MayEnd : (is_drawn : Bool) → Ending → Type 0
MayEnd true NoDrawing = ⊥
MayEnd false Best = ⊥
MayEnd is_drawn ending = ⊤
