-- The form of a hinted line: its kind, and the fields where its numbers are due, as they stand there.
use Rattle.std.specs.Prelude.{◌≡◌, ◌≢◌, ◌≤◌, ℕ, codes, List, ◌++◌, length}
use Rattle.std.specs.List.{AllByRecursion}
use Rattle.cnf_core.specs.declared.limits.TheConstants.{LAST_VAR}
use Rattle.outside_io.specs.Fields.{spaced}
use Rattle.outside_io.specs.Numbers.{IsNumberField}
use Rattle.refute_log.specs.Lines.{with_zero}
use Rattle.refute_log.specs.LineForm.{Field, AreNumbers, LineForm, IsForm, form_text, HasRightNumbers}
use Rattle.refute_log.specs.LineForm.LineForm.{FormulaForm, LearntForm, BoundForm, QueryForm, RefutedForm, ModelForm}

-- no field is `0`
abbrev pub NoneIsZero : List Field → Type 0
NoneIsZero fields = AllByRecursion (λ field. field ≢ codes "0") fields

-- a Learnt or Refuted line, whose literals end at the first field `0`
abbrev pub EndsAtZero : LineForm → Type 0
EndsAtZero (FormulaForm fields) = ⊥
EndsAtZero (LearntForm fields) = NoneIsZero fields
EndsAtZero (BoundForm criterion k x) = ⊥
EndsAtZero (QueryForm fields) = ⊥
EndsAtZero (RefutedForm fields) = NoneIsZero fields
EndsAtZero ModelForm = ⊥

-- the form of a line with its literals, and the fields of its numbers
pub record HintForm : Type 0 where
  pub line : LineForm
  pub numbers : List Field

-- the text is of this form
pub record IsOfHintForm (text : List ℕ) (form : HintForm) : Type 0 where
  pub is_form : IsForm form.line
  pub first : EndsAtZero form.line
  pub some : 1 ≤ length form.numbers
  pub numbers : AreNumbers form.numbers
  pub spelled : text ≡ form_text form.line ++ spaced (with_zero form.numbers)

-- each number is canonical and within its limits
pub record HasRightHintNumbers (form : HintForm) : Type 0 where
  pub literals : HasRightNumbers form.line
  pub hints : AllByRecursion (IsNumberField 1 LAST_VAR) form.numbers
