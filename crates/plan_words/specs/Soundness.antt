-- What is known of arguments while they are looked at from left to right.
-- Private contracts alone cite this module.
use Rattle.std.specs.Prelude.{◌≡◌, ◌≤◌, ◌<◌, ℕ, ◌+◌, ◌^◌, Option, Some, List, [], ◌∷◌, ◌++◌, length, Contains, ⊤}
use Rattle.std.specs.Prelude.{MatchOption}
use Rattle.plan_words.specs.declared.command.CommandWord.{CommandWord}
use Rattle.plan_words.specs.declared.option_values.OptionWord.{OptionWord}
use Rattle.plan_words.specs.declared.arguments.Argument.{Argument}
use Rattle.plan_words.specs.declared.arguments.Argument.TheVariants.{Name, Setting}
use Rattle.plan_words.specs.declared.fault.WordWhat.{WordWhat}
use Rattle.plan_words.specs.OptionValues.{option_word, Takes}
use Rattle.plan_words.specs.Arguments.{argument_names, options_in, option_value}
use Rattle.plan_words.specs.WordFaults.{number_of, name_count, TakesName, IsOptionOf, HasWordFault}

-- where the argument stands, and where the next one does
abbrev pub argument_place : Argument → ℕ
argument_place (Name at word) = at
argument_place (Setting at word value) = at

abbrev pub next_place : Argument → ℕ
next_place (Name at word) = at + 1
next_place (Setting at word value) = at + 2

-- each argument stands where the one before it ends, and the first one here
abbrev pub StandFrom : ℕ → List Argument → Type 0
StandFrom at [] = ⊤
StandFrom at (argument ∷ arguments) = (argument_place argument ≡ at) × StandFrom (next_place argument) arguments

-- the positions of the argument's words fit
abbrev pub IsNear : Argument → Type 0
IsNear argument = argument_place argument + 1 < 2 ^ 32

-- this fault of the argument is its leftmost, and at its position that with the lowest number
pub record IsFirstWordFault (command : CommandWord) (before : List Argument) (argument : Argument) (what : WordWhat)
    (position : ℕ) : Type 0 where
  pub fault : HasWordFault command before argument what position
  pub leftmost : (other : WordWhat) (place : ℕ) → HasWordFault command before argument other place → position ≤ place
  pub lowest : (other : WordWhat) → HasWordFault command before argument other position →
      number_of what ≤ number_of other

-- the option is one of the command's, is new, and has a value that it takes
pub record IsSoundSetting (command : CommandWord) (before : List Argument) (word : List ℕ) (value : Option (List ℕ)) :
    Type 0 where
  pub known : IsOptionOf command word
  pub fresh : Contains (options_in before) word → ⊥
  pub option : OptionWord
  pub named : word ≡ option_word option
  pub text : List ℕ
  pub there : value ≡ Some text
  pub taken : Takes option text

-- the argument has no fault
abbrev pub IsSoundBehind : CommandWord → List Argument → Argument → Type 0
IsSoundBehind command before (Name at name) = (length (argument_names before) < name_count command)
    × TakesName command (length (argument_names before)) name
IsSoundBehind command before (Setting at word value) = IsSoundSetting command before word value

-- no argument has a fault, behind those before
abbrev pub SoundFrom : CommandWord → List Argument → List Argument → Type 0
SoundFrom command before [] = ⊤
SoundFrom command before (argument ∷ arguments) = IsSoundBehind command before argument
    × SoundFrom command (before ++ argument ∷ []) arguments

-- each option that is given has a value that it takes
abbrev pub AreTaken : List Argument → Type 0
AreTaken arguments =
    (option : OptionWord) → MatchOption (option_value (option_word option) arguments) ⊤ (λ value. Takes option value)
