-- What the words of a command line ask for.
use Rattle.std.specs.Prelude.{◌≡◌, ◌≤◌, ℕ, Option, MatchOption, List, [], ◌∷◌, length, None}
use Rattle.plan_core.specs.declared.criterion.Criterion.{Criterion}
use Rattle.plan_core.specs.declared.criterion.Criterion.TheVariants as criteria
use Rattle.plan_core.specs.Grid.{GridSize}
use Rattle.plan_words.specs.declared.command.CommandWord.{CommandWord}
use Rattle.plan_words.specs.declared.command.CommandWord.TheVariants as words
use Rattle.plan_words.specs.declared.command.Command.{Command}
use Rattle.plan_words.specs.declared.command.Command.TheVariants.{Draw, Verify, Check, Graph, Make, Trial}
use Rattle.plan_words.specs.declared.command.Command.TheVariants.{Signals, Front, Redraw, Explain, Trim, Recheck}
use Rattle.plan_words.specs.declared.option_values.OptionWord.{OptionWord}
use Rattle.plan_words.specs.declared.option_values.OptionWord.TheVariants as options
use Rattle.plan_words.specs.declared.arguments.Argument.{Argument}
use Rattle.plan_words.specs.declared.fault.WordFault.{WordFault}
use Rattle.plan_words.specs.declared.fault.WordFault.TheVariants as answers
use Rattle.plan_words.specs.OptionValues.{option_word, IsWidth, IsHeight, IsLeastLength, IsBudget, IsSeed, IsOrderText}
use Rattle.plan_words.specs.OptionValues.{IsPairText}
use Rattle.plan_words.specs.Arguments.{arguments_from, argument_names, files_in, option_value}
use Rattle.plan_words.specs.WordFaults.{command_word, name_count, HaveNoFault, AllMayStand, IsFaultOfWords}

-- height before bends before diagonal length before width
abbrev pub default_order : List Criterion
default_order = criteria.Height ∷ criteria.Bends ∷ criteria.Diagonal ∷ criteria.Width ∷ []

-- x is what the value means where there is one, and else the default
abbrev pub IsChosen : {X : Type 0} → Option (List ℕ) → (List ℕ → X → Type 0) → X → X → Type 0
IsChosen value Means default x = MatchOption value (x ≡ default) (λ text. Means text x)

-- what was given for an option
abbrev pub given_for : OptionWord → List Argument → Option (List ℕ)
given_for option arguments = option_value (option_word option) arguments

-- the parts of a drawing's command
pub record IsDrawCommand (arguments : List Argument) (input : List ℕ) (grid : GridSize) (order : List Criterion)
    (budget : ℕ) (svg log : Option (List ℕ)) : Type 0 where
  pub names : argument_names arguments ≡ input ∷ []
  pub width : IsChosen (given_for options.Width arguments) IsWidth 40 grid.width
  pub height : IsChosen (given_for options.Height arguments) IsHeight 8 grid.height
  pub least : IsChosen (given_for options.Least arguments) IsLeastLength 1 grid.least
  pub criteria : IsChosen (given_for options.Criteria arguments) IsOrderText default_order order
  pub conflicts : IsChosen (given_for options.Conflicts arguments) IsBudget 50000 budget
  pub svg_name : svg ≡ given_for options.Svg arguments
  pub log_name : log ≡ given_for options.Log arguments

-- the parts of the command for a front
pub record IsFrontCommand (arguments : List Argument) (input : List ℕ) (first second : Criterion) (grid : GridSize)
    (budget : ℕ) : Type 0 where
  pub pair : List ℕ
  pub names : argument_names arguments ≡ input ∷ pair ∷ []
  pub criteria : IsPairText pair first second
  pub width : IsChosen (given_for options.Width arguments) IsWidth 40 grid.width
  pub height : IsChosen (given_for options.Height arguments) IsHeight 8 grid.height
  pub least : IsChosen (given_for options.Least arguments) IsLeastLength 1 grid.least
  pub conflicts : IsChosen (given_for options.Conflicts arguments) IsBudget 50000 budget

-- the parts of the command for a drawing with the fewest moved nodes
pub record IsRedrawCommand (arguments : List Argument) (input former sheet : List ℕ) (grid : GridSize) (budget : ℕ)
    (log : Option (List ℕ)) : Type 0 where
  pub names : argument_names arguments ≡ input ∷ former ∷ sheet ∷ []
  pub width : IsChosen (given_for options.Width arguments) IsWidth 40 grid.width
  pub height : IsChosen (given_for options.Height arguments) IsHeight 8 grid.height
  pub least : IsChosen (given_for options.Least arguments) IsLeastLength 1 grid.least
  pub conflicts : IsChosen (given_for options.Conflicts arguments) IsBudget 50000 budget
  pub log_name : log ≡ given_for options.Log arguments

-- the parts of the command for an explanation
pub record IsExplainCommand (arguments : List Argument) (input : List ℕ) (grid : GridSize) (budget : ℕ) : Type 0 where
  pub names : argument_names arguments ≡ input ∷ []
  pub width : IsChosen (given_for options.Width arguments) IsWidth 40 grid.width
  pub height : IsChosen (given_for options.Height arguments) IsHeight 8 grid.height
  pub least : IsChosen (given_for options.Least arguments) IsLeastLength 1 grid.least
  pub conflicts : IsChosen (given_for options.Conflicts arguments) IsBudget 50000 budget

abbrev pub command_kind : Command → CommandWord
command_kind (Draw input grid order budget svg log) = words.Draw
command_kind (Verify input sheet) = words.Verify
command_kind (Check input sheet log) = words.Check
command_kind (Graph input) = words.Graph
command_kind (Make n) = words.Make
command_kind (Trial n) = words.Trial
command_kind (Signals input grid order budget log) = words.Signals
command_kind (Front input first second grid budget) = words.Front
command_kind (Redraw input former sheet grid budget log) = words.Redraw
command_kind (Explain input grid budget) = words.Explain
command_kind (Trim input sheet log hints) = words.Trim
command_kind (Recheck input sheet hints) = words.Recheck

-- the command has the parts that its arguments give
abbrev pub HasParts : List Argument → Command → Type 0
HasParts arguments (Draw input grid order budget svg log) = IsDrawCommand arguments input grid order budget svg log
HasParts arguments (Verify input sheet) = argument_names arguments ≡ input ∷ sheet ∷ []
HasParts arguments (Check input sheet log) = argument_names arguments ≡ input ∷ sheet ∷ log ∷ []
HasParts arguments (Graph input) = argument_names arguments ≡ input ∷ []
HasParts arguments (Make n) = (name : List ℕ) × (argument_names arguments ≡ name ∷ []) × IsSeed name n
HasParts arguments (Trial n) = (name : List ℕ) × (argument_names arguments ≡ name ∷ []) × IsSeed name n
-- those of `draw` without a picture; the least length is 1, for `signals` has no option that gives another
HasParts arguments (Signals input grid order budget log) = IsDrawCommand arguments input grid order budget None log
HasParts arguments (Front input first second grid budget) = IsFrontCommand arguments input first second grid budget
HasParts arguments (Redraw input former sheet grid budget log) =
    IsRedrawCommand arguments input former sheet grid budget log
HasParts arguments (Explain input grid budget) = IsExplainCommand arguments input grid budget
HasParts arguments (Trim input sheet log hints) = argument_names arguments ≡ input ∷ sheet ∷ log ∷ hints ∷ []
HasParts arguments (Recheck input sheet hints) = argument_names arguments ≡ input ∷ sheet ∷ hints ∷ []

-- the arguments of a command without a fault
pub record AreSoundArguments (command : CommandWord) (arguments : List Argument) : Type 0 where
  pub sound : HaveNoFault command arguments
  pub enough : name_count command ≤ length (argument_names arguments)
  pub apart : AllMayStand (files_in command arguments)

-- the words have no fault, and this is the command that they ask for
pub record IsCommandOf (words : List (List ℕ)) (command : Command) : Type 0 where
  pub rest : List (List ℕ)
  pub first : words ≡ command_word (command_kind command) ∷ rest
  pub sound : AreSoundArguments (command_kind command) (arguments_from 2 rest)
  pub parts : HasParts (arguments_from 2 rest) command

-- the words have this fault, and it is the one that counts; want of memory is no fault of theirs
abbrev pub IsWordFault : List (List ℕ) → WordFault → Type 0
IsWordFault words (answers.Words what position) = IsFaultOfWords words what position
IsWordFault words answers.Memory = ⊥
