-- What `verify` answers to a station and the bytes of a sheet: the verdict on the sheet's drawing, or the
-- sheet's fault.
use Rattle.std.specs.Prelude.{◌≡◌, ◌⊎◌, ℕ, Bool, List, [], ◌∷◌, ◌++◌, None, Some, true, map, codes}
use Rattle.std.specs.declared.option.Option.{Option}
use Rattle.std.specs.Fmt.{decimal}
use Rattle.outside_io.specs.Contents.{Told, IsFileWhereTold}
use Rattle.plan_core.specs.declared.criterion.Values.{Values}
use Rattle.plan_core.specs.Grid.{GridSize}
use Rattle.plan_core.specs.Graph.{Graph}
use Rattle.plan_core.specs.Drawing.{Drawing}
use Rattle.plan_core.specs.Values.{values_of}
use Rattle.plan_core.specs.Lawful.{Lawful}
use Rattle.track_order.specs.Order.{EdgeOrder, is_above}
use Rattle.lawful_check.specs.declared.law_break.LawBreak.{LawBreak}
use Rattle.lawful_check.specs.Breaks.{IsLeastBreak}
use Rattle.outside_io.specs.Fields.{line_text}
use Rattle.plan_text.specs.declared.sheet_fault.SheetWhat.{SheetWhat}
use Rattle.plan_text.specs.SheetFaults.{IsDrawingOf, HasSheetFault}
use Rattle.run_input.specs.declared.status.Status.{Status}
use Rattle.run_input.specs.declared.status.Status.TheVariants.{Done, Broken}
use Rattle.run_input.specs.Input.{HasStation}
use Rattle.run_input.specs.Answer.{IsFileJudged, IsSheetRefused}
use Rattle.run_input.specs.Law.{law_fields}

-- ---- the lines

-- the line of a lawful drawing: what it measures
abbrev pub lawful_line : Values → List ℕ
lawful_line values = line_text (codes "lawful") (map decimal
    (values.height ∷ values.bends ∷ values.diagonal ∷ values.width ∷ []))

-- the line of a broken law: which it is, and by whom it is broken
abbrev pub broken_line : LawBreak → List ℕ
broken_line b = line_text (codes "broken law") (law_fields b)

-- ---- the verdict on a drawing

-- the drawing is lawful, and the answer says what it measures
pub record IsLawfulAnswer (g : Graph) (o : EdgeOrder) (grid : GridSize) (d : Drawing) (status : Status) (text : List ℕ)
    : Type 0 where
  pub lawful : Lawful g (is_above o) grid d
  pub status_is : status ≡ Done
  pub line_is : text ≡ lawful_line (values_of d)

-- the drawing breaks a law, and the answer names the least one with its least parties
pub record IsBrokenAnswer (g : Graph) (o : EdgeOrder) (grid : GridSize) (d : Drawing) (status : Status) (text : List ℕ)
    : Type 0 where
  pub broken : LawBreak
  pub least : IsLeastBreak g (is_above o) grid d broken
  pub status_is : status ≡ Broken
  pub line_is : text ≡ broken_line broken

-- the verdict on a drawing: it is lawful, or it breaks a law
abbrev pub IsVerdict : Graph → EdgeOrder → GridSize → Drawing → Status → List ℕ → Type 0
IsVerdict g o grid d status text = IsLawfulAnswer g o grid d status text ⊎ IsBrokenAnswer g o grid d status text

-- ---- the answer to a sheet

-- the sheet's text is that of a drawing on a grid, and the answer is the verdict on it
pub record IsDrawingJudged (g : Graph) (o : EdgeOrder) (sheet : List ℕ) (status : Status) (text : List ℕ) : Type 0 where
  pub grid : GridSize
  pub drawn : Drawing
  pub has : IsDrawingOf g sheet grid drawn
  pub verdict : IsVerdict g o grid drawn status text

-- what is answered where a drawing is due
abbrev pub IsSheetJudged : Graph → EdgeOrder → List ℕ → Status → List ℕ → Type 0
IsSheetJudged g o sheet status text = IsDrawingJudged g o sheet status text ⊎ IsSheetRefused g true sheet status text

-- the sheet's text has no fault, a drawing being due or not
pub record IsSoundSheet (g : Graph) (needs_drawing : Bool) (sheet : List ℕ) : Type 0 where
  pub sound : (what : SheetWhat) (line : ℕ) → HasSheetFault g needs_drawing sheet what line → ⊥

-- ---- the answer to a file and a sheet

-- what verify answers to the bytes of the file and of the sheet: the file's fault comes before the sheet's
abbrev pub IsVerified : List ℕ → List ℕ → Status → List ℕ → Type 0
IsVerified bytes sheet status text = IsFileJudged (λ g o. IsSheetJudged g o sheet) bytes status text

-- the files of these two names, as far as files are told: the first has this station, and the second is the text of a
-- sheet with this drawing on this grid
pub record HasDrawnFiles (contents : Option Told) (input sheet : List ℕ) (g : Graph) (o : EdgeOrder) (grid : GridSize)
    (d : Drawing) : Type 0 where
  pub file : List ℕ
  pub is_file : IsFileWhereTold contents input file
  pub station : HasStation file g o
  pub text : List ℕ
  pub is_sheet : IsFileWhereTold contents sheet text
  pub has : IsDrawingOf g text grid d
