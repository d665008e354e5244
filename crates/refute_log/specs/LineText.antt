-- Which line a text is, and which fault it has.
use Rattle.std.specs.Prelude.{◌≡◌, ⊤, ℕ, List}
use Rattle.refute_log.specs.declared.line.LogLine.{LogLine}
use Rattle.refute_log.specs.declared.fault.LogWhat.{LogWhat}
use Rattle.refute_log.specs.declared.fault.LogWhat.TheVariants.{Header, Form, Number, Twice}
use Rattle.refute_log.specs.declared.fault.LineTextFault.{LineTextFault}
use Rattle.refute_log.specs.declared.fault.LineTextFault.TheVariants.{Log, Memory}
use Rattle.refute_log.specs.Lines.{IsWellFormed, NamesOnce, log_line_text}
use Rattle.refute_log.specs.LineForm.{LineForm, IsOfForm, HasRightNumbers}

-- the text is that of a well-formed line
pub record SpellsLine (text : List ℕ) (line : LogLine) : Type 0 where
  pub formed : IsWellFormed line
  pub spelled : log_line_text line ≡ text

-- the text is that of this line, in which no variable stands twice
pub record IsTextOf (text : List ℕ) (line : LogLine) : Type 0 where
  pub spells : SpellsLine text line
  pub once : NamesOnce line

-- no form has the text; a form has it, but some number isn't right; a line has it, but some variable stands
-- twice. A text has one fault at most, and none where it is that of a line (`IsTextOf`), proved by
-- one_line_or_one_fault
abbrev pub HasLineFault : List ℕ → LogWhat → Type 0
HasLineFault text Header = ⊥
HasLineFault text Form = (form : LineForm) → IsOfForm text form → ⊥
HasLineFault text Number = (form : LineForm) × IsOfForm text form × (HasRightNumbers form → ⊥)
HasLineFault text Twice = (line : LogLine) × SpellsLine text line × (NamesOnce line → ⊥)

-- want of memory, or such a fault at this line
abbrev pub IsFaultWhere : (LogWhat → Type 0) → ℕ → LineTextFault → Type 0
IsFaultWhere Has number (Log what line) = (line ≡ number) × Has what
IsFaultWhere Has number Memory = ⊤

-- want of memory, or the fault of the text, which names the line by its number
abbrev pub IsWantOrFault : List ℕ → ℕ → LineTextFault → Type 0
IsWantOrFault text number fault = IsFaultWhere (HasLineFault text) number fault

-- the fault of the text, which names the line by its number; want of memory is none
abbrev pub IsLineFault : List ℕ → ℕ → LineTextFault → Type 0
IsLineFault text number (Log what line) = (line ≡ number) × HasLineFault text what
IsLineFault text number Memory = ⊥
