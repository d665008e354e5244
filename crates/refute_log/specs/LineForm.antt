-- The form of a line: its kind, and the fields where its numbers are due, as they stand there.
use Rattle.std.specs.Prelude.{◌≡◌, ◌≤◌, ⊤, ℕ, Bool, codes, List, [], ◌∷◌, ◌++◌, length}
use Rattle.std.specs.Char.{IsAsciiDigit}
use Rattle.std.specs.List.{AllByRecursion}
use Rattle.plan_core.specs.declared.criterion.Criterion.{Criterion}
use Rattle.cnf_core.specs.Lit.{Literal}
use Rattle.cnf_core.specs.Clause.{IsThere}
use Rattle.outside_io.specs.Criteria.{criterion_word}
use Rattle.outside_io.specs.Fields.{unended_text}
use Rattle.outside_io.specs.Numbers.{IsNumberField}
use Rattle.cnf_core.specs.declared.limits.TheConstants.{LAST_VAR}
use Rattle.outside_io.specs.declared.numbers.TheConstants.{MAX_NUMBER}
use Rattle.refute_log.specs.Lines.{literal_sign, literal_text, with_zero}

-- the bytes of a field where a number is due
abbrev pub Field : Type 0
Field = List ℕ

-- an optional `-`, and one or more digits
pub record IsNumber (field : Field) : Type 0 where
  pub positive : Bool
  pub digits : List ℕ
  pub some : 1 ≤ length digits
  pub only : AllByRecursion IsAsciiDigit digits
  pub spelled : field ≡ literal_sign positive ++ digits

-- each of the fields is an optional `-` and digits
abbrev pub AreNumbers : List Field → Type 0
AreNumbers fields = AllByRecursion IsNumber fields

-- the kind of a line, of a Bound line its criterion, and the fields of its numbers as they stand there; the
-- last field of a clause, the fixed text `0`, isn't among them
pub data LineForm : Type 0 where
  FormulaForm : List Field → LineForm
  LearntForm : List Field → LineForm
  BoundForm : Criterion → Field → Field → LineForm
  QueryForm : List Field → LineForm
  RefutedForm : List Field → LineForm
  ModelForm : LineForm

-- each field where a number is due has one, and a Learnt line has such a field
abbrev pub IsForm : LineForm → Type 0
IsForm (FormulaForm fields) = AreNumbers fields
IsForm (LearntForm fields) = AreNumbers fields × (1 ≤ length fields)
IsForm (BoundForm criterion k x) = IsNumber k × IsNumber x
IsForm (QueryForm fields) = AreNumbers fields
IsForm (RefutedForm fields) = AreNumbers fields
IsForm ModelForm = ⊤

abbrev pub form_text : LineForm → List ℕ
form_text (FormulaForm fields) = unended_text (codes "f") (with_zero fields)
form_text (LearntForm fields) = unended_text (codes "l") (with_zero fields)
form_text (BoundForm criterion k x) = unended_text (codes "b") (criterion_word criterion ∷ k ∷ x ∷ [])
form_text (QueryForm fields) = unended_text (codes "q") (with_zero fields)
form_text (RefutedForm fields) = unended_text (codes "r") (with_zero fields)
form_text ModelForm = unended_text (codes "m") []

-- the text is of this form
pub record IsOfForm (text : List ℕ) (form : LineForm) : Type 0 where
  pub is_form : IsForm form
  pub spelled : text ≡ form_text form

-- the field is the text of a literal whose variable a log may name
pub record IsLiteral (field : Field) : Type 0 where
  pub literal : Literal
  pub there : IsThere LAST_VAR literal
  pub spelled : field ≡ literal_text literal

-- each number is canonical and within its limits: a variable is 1 to 1,073,741,823, and the number of a
-- Bound line 1 to 65,535
abbrev pub HasRightNumbers : LineForm → Type 0
HasRightNumbers (FormulaForm fields) = AllByRecursion IsLiteral fields
HasRightNumbers (LearntForm fields) = AllByRecursion IsLiteral fields
HasRightNumbers (BoundForm criterion k x) = IsNumberField 1 MAX_NUMBER k × IsNumberField 1 LAST_VAR x
HasRightNumbers (QueryForm fields) = AllByRecursion IsLiteral fields
HasRightNumbers (RefutedForm fields) = AllByRecursion IsLiteral fields
HasRightNumbers ModelForm = ⊤
