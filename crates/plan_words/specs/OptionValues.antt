-- The words of options, and which values each takes.
use Rattle.std.specs.Prelude.{◌≡◌, ◌≢◌, ℕ, codes, List, [], ◌∷◌, map}
use Rattle.std.specs.List.{join_with_byte}
use Rattle.plan_core.specs.declared.criterion.Criterion.{Criterion}
use Rattle.plan_core.specs.declared.limits.TheConstants.{MAX_WIDTH, MAX_HEIGHT, MAX_LEAST, MAX_BUDGET}
use Rattle.plan_core.specs.Order.{IsOrder}
use Rattle.outside_io.specs.Numbers.{IsNumberIn}
use Rattle.outside_io.specs.Criteria.{criterion_word}
use Rattle.plan_words.specs.declared.option_values.TheConstants.{MAX_SEED}
use Rattle.plan_words.specs.declared.option_values.OptionWord.{OptionWord}
use Rattle.plan_words.specs.declared.option_values.OptionWord.TheVariants.{Width, Height, Least, Criteria, Conflicts}
use Rattle.plan_words.specs.declared.option_values.OptionWord.TheVariants.{Svg, Log}

abbrev pub option_word : OptionWord → List ℕ
option_word Width = codes "--width"
option_word Height = codes "--height"
option_word Least = codes "--least"
option_word Criteria = codes "--order"
option_word Conflicts = codes "--conflicts"
option_word Svg = codes "--svg"
option_word Log = codes "--log"

-- the words of the criteria with a comma between each two
abbrev pub criteria_text : List Criterion → List ℕ
criteria_text order = join_with_byte 44 (map criterion_word order)

-- the text is that of an order
pub record IsOrderText (text : List ℕ) (order : List Criterion) : Type 0 where
  pub written : text ≡ criteria_text order
  pub is_order : IsOrder order

-- the text is that of two criteria that differ
pub record IsPairText (text : List ℕ) (first second : Criterion) : Type 0 where
  pub written : text ≡ criteria_text (first ∷ second ∷ [])
  pub apart : first ≢ second

-- the text is a width of the grid, and this is it
abbrev pub IsWidth : List ℕ → ℕ → Type 0
IsWidth = IsNumberIn 1 MAX_WIDTH

-- the text is a height of the grid, and this is it
abbrev pub IsHeight : List ℕ → ℕ → Type 0
IsHeight = IsNumberIn 0 MAX_HEIGHT

-- the text is a number of columns that each edge goes over at the least, and this is it
abbrev pub IsLeastLength : List ℕ → ℕ → Type 0
IsLeastLength = IsNumberIn 1 MAX_LEAST

-- the text is a budget of learnt clauses, and this is it
abbrev pub IsBudget : List ℕ → ℕ → Type 0
IsBudget = IsNumberIn 1 MAX_BUDGET

-- the text is the number from which `make` and `trial` make a station, and this is it
abbrev pub IsSeed : List ℕ → ℕ → Type 0
IsSeed = IsNumberIn 0 MAX_SEED

-- the option takes this value
abbrev pub Takes : OptionWord → List ℕ → Type 0
Takes Width value = (n : ℕ) × IsWidth value n
Takes Height value = (n : ℕ) × IsHeight value n
Takes Least value = (n : ℕ) × IsLeastLength value n
Takes Criteria value = (order : List Criterion) × IsOrderText value order
Takes Conflicts value = (n : ℕ) × IsBudget value n
Takes Svg value = value ≢ []
Takes Log value = value ≢ []
