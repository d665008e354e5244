use Rattle.std.proofs.Common.{◌≡◌, ℕ, Option, MatchOption, List, sym, subst}
use Rattle.std.specs.Prelude.{⊤}
use Rattle.plan_core.specs.declared.limits.TheConstants.{MAX_WIDTH, MAX_HEIGHT, MAX_LEAST}
use Rattle.outside_io.specs.Numbers.{IsNumberIn}
use Rattle.plan_words.specs.declared.option_values.OptionWord.TheVariants.{Width, Height, Least}
use Rattle.plan_words.proofs.building.grid_given.Goals as goal

-- a limit that was computed is the limit
at_limit : (least greatest computed : ℕ) (value : Option (List ℕ)) → computed ≡ greatest →
    MatchOption value ⊤ (λ text. (n : ℕ) × IsNumberIn least greatest text n) → MatchOption value ⊤ (λ text. (n : ℕ) × IsNumberIn least computed text n)
at_limit least greatest computed value same h =
    let P : ℕ → Type 0 = λ limit. MatchOption value ⊤ (λ text. (n : ℕ) × IsNumberIn least limit text n) in subst P (sym same) h

pub number_given-width-requires : goal.number_given-width-requires
number_given-width-requires c = at_limit 1 MAX_WIDTH _ _ c.from.ensures (c.requires Width)

pub number_given-height-requires : goal.number_given-height-requires
number_given-height-requires c = at_limit 0 MAX_HEIGHT _ _ c.from-2.ensures (c.requires Height)

pub number_given-least-requires : goal.number_given-least-requires
number_given-least-requires c = at_limit 1 MAX_LEAST _ _ c.from-3.ensures (c.requires Least)
