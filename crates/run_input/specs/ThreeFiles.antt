-- The three files of trim, of recheck and of redraw: what reading them gives, and what is answered to them.
use Rattle.std.specs.Prelude.{ℕ, List, ⊤}
use Rattle.std.specs.declared.option.Option.{Option}
use Rattle.outside_io.specs.Contents.{Told}
use Rattle.run_input.specs.declared.input.InputRefusal.{InputRefusal}
use Rattle.run_input.specs.declared.input.InputRefusal.TheVariants as refusals
use Rattle.run_input.specs.declared.status.Status.{Status}
use Rattle.run_input.specs.Fault.{fault_line, fault_status}
use Rattle.run_input.specs.Met.{Met}
use Rattle.run_input.specs.Reading.{IsInput}
use Rattle.run_input.specs.Answer.{InputFile, text_input, IsAnswerAfter, IsAnswerOn}

-- the three files are read, as they stand then, before what they say is judged, and their bytes are answered so
abbrev pub IsAnswerToThree : (first second : List ℕ) → (third : InputFile) → Met →
    (List ℕ → List ℕ → List ℕ → Status → List ℕ → Type 0) → Status → List ℕ → Type 0
IsAnswerToThree first second third met Answers status text =
    IsAnswerOn (text_input 1 first) 0 met (λ bytes. IsAnswerOn (text_input 2 second) 1 met
    (λ next. IsAnswerOn third 2 met (IsAnswerAfter 3 met (Answers bytes next)))) status text

-- these are the bytes of the three files, and none is too long
pub record AreThreeFiles (first second : List ℕ) (third : InputFile) (contents : Option Told)
    (bytes next last : List ℕ) : Type 0 where
  pub is_first : IsInput (text_input 1 first) contents bytes
  pub is_second : IsInput (text_input 2 second) contents next
  pub is_third : IsInput third contents last

-- the line of the fault is an answer to the three files, whatever is answered to their bytes: one of them is too long,
-- or couldn't be read
abbrev pub IsUnreadOfThree : (first second : List ℕ) → (third : InputFile) → Met → InputRefusal → Type 0
IsUnreadOfThree first second third met (refusals.Fault fault) =
    IsAnswerToThree first second third met (λ bytes next last status text. ⊥) (fault_status fault) (fault_line fault)
IsUnreadOfThree first second third met refusals.Memory = ⊤
