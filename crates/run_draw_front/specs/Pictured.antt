-- The file of a picture: what it holds at the end, and what where it isn't written whole.
use Rattle.std.specs.Prelude.{◌≡◌, ℕ, ⊤, List, ◌++◌, None, Some}
use Rattle.std.specs.declared.option.Option.{Option}
use Rattle.outside_io.specs.Contents.{WhereTold}
use Rattle.plan_core.specs.Graph.{Graph}
use Rattle.plan_core.specs.Drawing.{Drawing}
use Rattle.plan_text.specs.SvgText.{svg_text}
use Rattle.run_input.specs.Met.{Met}

-- the bytes begin the picture of the drawing that was found
pub record BeginsPicture (g : Graph) (found : Option Drawing) (bytes : List ℕ) : Type 0 where
  pub drawing : Drawing
  pub is_found : found ≡ Some drawing
  pub more : List ℕ
  pub spelled : bytes ++ more ≡ svg_text g drawing

-- where a file is named for the picture of the drawing that was found, it holds that; without a drawing it stands as it
-- stood
abbrev pub IsPictured : (named : Option (List ℕ)) → Met → Graph → (found : Option Drawing) → Type 0
IsPictured None met g found = ⊤
IsPictured (Some name) met g None = WhereTold met.before.contents met.after.contents
    (λ before after. after name ≡ before name)
IsPictured (Some name) met g (Some d) = WhereTold met.before.contents met.after.contents
    (λ _ after. after name ≡ Some (svg_text g d))
