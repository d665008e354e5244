-- Which hinted line a text is, which fault it has, and the numbers and the words of the faults.
use Rattle.std.specs.Prelude.{◌≡◌, ⊤, ℕ, List, codes}
use Rattle.refute_log.specs.Lines.{NamesOnce}
use Rattle.hint_log.specs.declared.hint_line.HintLine.{HintLine}
use Rattle.hint_log.specs.HintedLines.{line_of}
use Rattle.hint_log.specs.declared.text_fault.HintsWhat.{HintsWhat}
use Rattle.hint_log.specs.declared.text_fault.HintsWhat.TheVariants.{Header, Form, Number, Twice, Range}
use Rattle.hint_log.specs.declared.text_fault.HintTextFault.{HintTextFault}
use Rattle.hint_log.specs.declared.text_fault.HintTextFault.TheVariants.{Hints, Memory}
use Rattle.hint_log.specs.HintText.{IsWellFormedHint, hint_text}
use Rattle.hint_log.specs.HintForm.{HintForm, IsOfHintForm, HasRightHintNumbers}

-- the text is that of a well-formed line
pub record SpellsHint (text : List ℕ) (line : HintLine) : Type 0 where
  pub formed : IsWellFormedHint line
  pub spelled : hint_text line ≡ text

-- the text is that of this line, in which no variable stands twice
pub record IsHintOf (text : List ℕ) (line : HintLine) : Type 0 where
  pub spells : SpellsHint text line
  pub once : NamesOnce (line_of line)

-- no form has the text; a form has it, but some number isn't right; a line has it, but some variable stands twice among
-- its literals
abbrev pub HasHintTextFault : List ℕ → HintsWhat → Type 0
HasHintTextFault text Header = ⊥
HasHintTextFault text Form = (form : HintForm) → IsOfHintForm text form → ⊥
HasHintTextFault text Number = (form : HintForm) × IsOfHintForm text form × (HasRightHintNumbers form → ⊥)
HasHintTextFault text Twice = (line : HintLine) × SpellsHint text line × (NamesOnce (line_of line) → ⊥)
HasHintTextFault text Range = ⊥

-- want of memory, or such a fault at this line
abbrev pub IsHintWhere : (HintsWhat → Type 0) → ℕ → HintTextFault → Type 0
IsHintWhere Has number (Hints what line) = (line ≡ number) × Has what
IsHintWhere Has number Memory = ⊤

-- the fault of the text, which names the line by its number; want of memory is none
abbrev pub IsHintTextFault : List ℕ → ℕ → HintTextFault → Type 0
IsHintTextFault text number (Hints what line) = (line ≡ number) × HasHintTextFault text what
IsHintTextFault text number Memory = ⊥

-- the number of each fault
abbrev pub number_of : HintsWhat → ℕ
number_of Header = 1
number_of Form = 2
number_of Number = 3
number_of Twice = 4
number_of Range = 5

-- the word of each fault
abbrev pub word_of : HintsWhat → List ℕ
word_of Header = codes "Header"
word_of Form = codes "Form"
word_of Number = codes "Number"
word_of Twice = codes "Twice"
word_of Range = codes "Range"
