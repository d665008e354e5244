-- The line of the caps: its form, its faults, and which caps a text gives.
use Rattle.std.specs.Prelude.{◌≡◌, ◌≤◌, ℕ, List, [], ◌∷◌, codes, Contains}
use Rattle.std.specs.List.{AllByRecursion}
use Rattle.plan_core.specs.declared.criterion.Criterion.{Criterion}
use Rattle.plan_core.specs.declared.criterion.Criterion.TheVariants.{Height, Bends, Diagonal, Width}
use Rattle.plan_core.specs.declared.criterion.Values.{Values}
use Rattle.plan_core.specs.Values.{value_of}
use Rattle.outside_io.specs.Fields.{unended_text}
use Rattle.outside_io.specs.Numbers.{IsNumberField}
use Rattle.outside_io.specs.declared.numbers.TheConstants.{MAX_NUMBER}
use Rattle.refute_log.specs.LineForm.{Field, IsNumber}
use Rattle.hint_log.specs.declared.text_fault.HintsWhat.{HintsWhat}
use Rattle.hint_log.specs.declared.text_fault.HintsWhat.TheVariants.{Header, Form, Number, Twice, Range}
use Rattle.hint_log.specs.HintText.{caps_text}

-- the fields of the four caps, in the order of their line
pub record CapsForm : Type 0 where
  pub height : Field
  pub bends : Field
  pub diagonal : Field
  pub width : Field

abbrev pub caps_fields : CapsForm → List Field
caps_fields form = form.height ∷ form.bends ∷ form.diagonal ∷ form.width ∷ []

-- the text is of this form
pub record IsOfCapsForm (text : List ℕ) (form : CapsForm) : Type 0 where
  pub numbers : AllByRecursion IsNumber (caps_fields form)
  pub spelled : text ≡ unended_text (codes "caps") (caps_fields form)

-- each number is canonical and within its limits
abbrev pub HasRightCaps : CapsForm → Type 0
HasRightCaps form = AllByRecursion (IsNumberField 0 MAX_NUMBER) (caps_fields form)

-- no cap is too great for its line
abbrev pub AreSmallCaps : Values → Type 0
AreSmallCaps caps = (c : Criterion) → value_of caps c ≤ MAX_NUMBER

-- the text is that of these caps
pub record IsCapsText (text : List ℕ) (caps : Values) : Type 0 where
  pub small : AreSmallCaps caps
  pub spelled : text ≡ caps_text caps

-- a criterion's cap isn't above its greatest value, and is positive only where the order has the criterion
pub record IsFitCap (greatest : Criterion → ℕ) (order : List Criterion) (caps : Values) (c : Criterion) : Type 0 where
  pub within : value_of caps c ≤ greatest c
  pub asked : 1 ≤ value_of caps c → Contains order c

-- each cap is in range
abbrev pub AreInRange : (Criterion → ℕ) → List Criterion → Values → Type 0
AreInRange greatest order caps = AllByRecursion (IsFitCap greatest order caps) (Height ∷ Bends ∷ Diagonal ∷ Width ∷ [])

-- the text has no form of caps; a number isn't right; the caps aren't in range
abbrev pub HasCapsFault : (Criterion → ℕ) → List Criterion → List ℕ → HintsWhat → Type 0
HasCapsFault greatest order text Header = ⊥
HasCapsFault greatest order text Form = (form : CapsForm) → IsOfCapsForm text form → ⊥
HasCapsFault greatest order text Number = (form : CapsForm) × IsOfCapsForm text form × (HasRightCaps form → ⊥)
HasCapsFault greatest order text Twice = ⊥
HasCapsFault greatest order text Range = (caps : Values) × IsCapsText text caps
    × (AreInRange greatest order caps → ⊥)

-- the text is that of caps in range
pub record AreCapsOf (greatest : Criterion → ℕ) (order : List Criterion) (text : List ℕ) (caps : Values) : Type 0 where
  pub is_text : IsCapsText text caps
  pub range : AreInRange greatest order caps
