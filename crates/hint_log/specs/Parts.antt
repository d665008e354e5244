-- What is known of a line's text while its parts are read, for private contracts alone.
use Rattle.std.specs.Prelude.{◌≡◌, ◌≢◌, ◌≤◌, ◌⊎◌, ℕ, Bool, true, false, codes, decimal, map, List, [], ◌∷◌, ◌++◌}
use Rattle.std.specs.Prelude.{length, Option, None}
use Rattle.std.specs.List.{AllByRecursion}
use Rattle.plan_core.specs.declared.criterion.Values.{Values}
use Rattle.outside_io.specs.declared.numbers.TheConstants.{MAX_NUMBER}
use Rattle.hint_log.specs.Caps.{CapsForm}
use Rattle.hint_log.specs.declared.capping.Fields.{Fields}
use Rattle.cnf_core.specs.declared.limits.TheConstants.{LAST_VAR}
use Rattle.outside_io.specs.Numbers.{IsNumberIn, IsNumberField}
use Rattle.refute_log.specs.LineForm.{Field, AreNumbers}
use Rattle.refute_log.specs.FieldText.{trailed, fields_left, HasFields}
use Rattle.refute_log.specs.declared.line.LogLine.{LogLine}
use Rattle.refute_log.specs.declared.fault.LogWhat.{LogWhat}
use Rattle.refute_log.specs.declared.fault.LogWhat.TheVariants as logs
use Rattle.hint_log.specs.declared.hint_line.HintLine.{HintLine}
use Rattle.hint_log.specs.HintedLines.{line_of}
use Rattle.hint_log.specs.declared.text_fault.HintsWhat.{HintsWhat}
use Rattle.hint_log.specs.declared.text_fault.HintsWhat.TheVariants.{Header, Form, Number, Twice, Range}
use Rattle.hint_log.specs.HintText.{IsClauseNumber}

-- a field `0` ends at no place before this one
abbrev pub NoZeroBefore : List ℕ → ℕ → Type 0
NoZeroBefore text place = (a b : List ℕ) → text ≡ a ++ (codes " 0 " ++ b) → place ≤ length a

-- the text is cut behind its first field `0`
pub record IsCutBehindZero (text front rest : List ℕ) : Type 0 where
  pub before : List ℕ
  pub front_is : front ≡ before ++ codes " 0"
  pub spelled : text ≡ before ++ (codes " 0 " ++ rest)
  pub first : NoZeroBefore text (length before)

-- there is none
abbrev pub LacksZero : List ℕ → Type 0
LacksZero text = (a b : List ℕ) → text ≢ a ++ (codes " 0 " ++ b)

-- the text begins as a Learnt or a Refuted line does
abbrev pub BeginsHinted : List ℕ → Type 0
BeginsHinted text = (letter : ℕ) × (rest : List ℕ) × ((letter ≡ 108) ⊎ (letter ≡ 114)) × (text ≡ letter ∷ 32 ∷ rest)

-- the number of the field was added at the end
pub record AddsNumber (old new : List ℕ) (field : Field) : Type 0 where
  pub number : ℕ
  pub added : new ≡ old ++ number ∷ []
  pub is : IsNumberIn 1 LAST_VAR field number

-- the text is that of these numbers and the last `0`
pub record HasHintNumbers (text : List ℕ) (ns : List ℕ) : Type 0 where
  pub some : 1 ≤ length ns
  pub each : AllByRecursion IsClauseNumber ns
  pub spelled : text ≡ fields_left (map decimal ns)

-- the text has these fields for numbers, one or more, and the last `0`
pub record HasNumberFields (text : List ℕ) (fields : List Field) : Type 0 where
  pub some : 1 ≤ length fields
  pub has : HasFields text fields

-- they aren't all right
pub record HasWrongNumbers (text : List ℕ) : Type 0 where
  pub fields : List Field
  pub has : HasNumberFields text fields
  pub wrong : AllByRecursion (IsNumberField 1 LAST_VAR) fields → ⊥

abbrev pub LacksNumbers : List ℕ → Type 0
LacksNumbers text = (fields : List Field) → HasNumberFields text fields → ⊥

-- the fields that were read so far are those of the numbers, or some isn't that of one
abbrev pub AreNumbersRead : Bool → List Field → List ℕ → Type 0
AreNumbersRead true fields ns = (fields ≡ map decimal ns) × AllByRecursion IsClauseNumber ns
AreNumbersRead false fields ns = AllByRecursion (IsNumberField 1 LAST_VAR) fields → ⊥

-- some fields of the text were read, and the rest stands behind them
pub record AreHintsReadTo (text rest : List ℕ) (right : Bool) (ns : List ℕ) : Type 0 where
  pub fields : List Field
  pub numbers : AreNumbers fields
  pub spelled : text ≡ trailed fields ++ rest
  pub read : AreNumbersRead right fields ns

-- the fault is that of the form, for this cause
abbrev pub IsFormFor : Type 0 → HintsWhat → Type 0
IsFormFor Cause Header = ⊥
IsFormFor Cause Form = Cause
IsFormFor Cause Number = ⊥
IsFormFor Cause Twice = ⊥
IsFormFor Cause Range = ⊥

-- why the line of a log isn't joined with these numbers: it is no hinted line's, or one of the numbers isn't right
abbrev pub IsUnjoined : LogLine → Option (List ℕ) → HintsWhat → Type 0
IsUnjoined read hints Header = ⊥
IsUnjoined read hints Form = (line : HintLine) → line_of line ≢ read
IsUnjoined read hints Number = hints ≡ None
IsUnjoined read hints Twice = ⊥
IsUnjoined read hints Range = ⊥

-- the fault of the whole line, by that of its literals and by whether its numbers are right
abbrev pub fault_of : LogWhat → Bool → HintsWhat
fault_of logs.Header right = Header
fault_of logs.Form right = Form
fault_of logs.Number right = Number
fault_of logs.Twice true = Twice
fault_of logs.Twice false = Number

-- ---- the caps

-- the four fields, as they were cut
abbrev pub caps_form : Fields → CapsForm
caps_form f = record { height = f.height.now; bends = f.bends.now; diagonal = f.diagonal.now; width = f.width.now }

-- each field is that of its cap
pub record AreCapsIn (form : CapsForm) (caps : Values) : Type 0 where
  pub height : IsNumberIn 0 MAX_NUMBER form.height caps.height
  pub bends : IsNumberIn 0 MAX_NUMBER form.bends caps.bends
  pub diagonal : IsNumberIn 0 MAX_NUMBER form.diagonal caps.diagonal
  pub width : IsNumberIn 0 MAX_NUMBER form.width caps.width
