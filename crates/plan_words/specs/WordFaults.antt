-- What can be wrong with the words of a command line, and which fault counts.
use Rattle.std.specs.Prelude.{◌≡◌, ◌≢◌, ◌≤◌, ◌<◌, ◌⊎◌, ℕ, zero, suc, ◌+◌}
use Rattle.std.specs.Prelude.{true, None, Some, List, [], ◌∷◌, ◌++◌, codes, length}
use Rattle.std.specs.Prelude.{Contains, AllPairs, ⊤}
use Rattle.plan_words.specs.declared.command.CommandWord.{CommandWord}
use Rattle.plan_words.specs.declared.command.CommandWord.TheVariants.{Draw, Verify, Check, Graph, Make, Trial, Signals}
use Rattle.plan_words.specs.declared.command.CommandWord.TheVariants.{Front, Redraw, Explain, Trim, Recheck}
use Rattle.plan_words.specs.declared.option_values.OptionWord.{OptionWord}
use Rattle.plan_words.specs.declared.option_values.OptionWord.TheVariants.{Width, Height, Least, Criteria, Conflicts}
use Rattle.plan_words.specs.declared.option_values.OptionWord.TheVariants.{Svg, Log}
use Rattle.plan_words.specs.declared.arguments.Argument.{Argument}
use Rattle.plan_words.specs.declared.arguments.Argument.TheVariants.{Name, Setting}
use Rattle.plan_words.specs.declared.files.FileWord.{FileWord}
use Rattle.plan_words.specs.declared.fault.WordWhat.{WordWhat}
use Rattle.plan_words.specs.declared.fault.WordWhat.TheVariants.{NoCommand, UnknownCommand, MissingName, ExtraWord}
use Rattle.plan_words.specs.declared.fault.WordWhat.TheVariants.{UnknownOption, RepeatedOption, BadValue}
use Rattle.plan_core.specs.declared.criterion.Criterion.{Criterion}
use Rattle.plan_words.specs.OptionValues.{option_word, IsSeed, IsPairText, Takes}
use Rattle.plan_words.specs.Arguments.{arguments_from, argument_names, options_in, files_in}

abbrev pub command_word : CommandWord → List ℕ
command_word Draw = codes "draw"
command_word Verify = codes "verify"
command_word Check = codes "check"
command_word Graph = codes "graph"
command_word Make = codes "make"
command_word Trial = codes "trial"
command_word Signals = codes "signals"
command_word Front = codes "front"
command_word Redraw = codes "redraw"
command_word Explain = codes "explain"
command_word Trim = codes "trim"
command_word Recheck = codes "recheck"

-- the number of a fault in the table of faults
abbrev pub number_of : WordWhat → ℕ
number_of NoCommand = 1
number_of UnknownCommand = 2
number_of MissingName = 3
number_of ExtraWord = 4
number_of UnknownOption = 5
number_of RepeatedOption = 6
number_of BadValue = 7

-- the word of a fault in the table of faults
abbrev pub word_of : WordWhat → List ℕ
word_of NoCommand = codes "NoCommand"
word_of UnknownCommand = codes "UnknownCommand"
word_of MissingName = codes "MissingName"
word_of ExtraWord = codes "ExtraWord"
word_of UnknownOption = codes "UnknownOption"
word_of RepeatedOption = codes "RepeatedOption"
word_of BadValue = codes "BadValue"

-- how many names the command has
abbrev pub name_count : CommandWord → ℕ
name_count Draw = 1
name_count Verify = 2
name_count Check = 3
name_count Graph = 1
name_count Make = 1
name_count Trial = 1
name_count Signals = 1
name_count Front = 2
name_count Redraw = 3
name_count Explain = 1
name_count Trim = 4
name_count Recheck = 3

-- the command takes this name behind so many others: the number of `make` and of `trial`, the two criteria of `front`
-- behind its file, and any other that isn't empty
abbrev pub TakesName : CommandWord → ℕ → List ℕ → Type 0
TakesName Draw place name = name ≢ []
TakesName Verify place name = name ≢ []
TakesName Check place name = name ≢ []
TakesName Graph place name = name ≢ []
TakesName Make place name = (n : ℕ) × IsSeed name n
TakesName Trial place name = (n : ℕ) × IsSeed name n
TakesName Signals place name = name ≢ []
TakesName Front zero name = name ≢ []
TakesName Front (suc place) name = (first : Criterion) × (second : Criterion) × IsPairText name first second
TakesName Redraw place name = name ≢ []
TakesName Explain place name = name ≢ []
TakesName Trim place name = name ≢ []
TakesName Recheck place name = name ≢ []

-- the options of `signals`: it has no `--least`, since the signals give it, and no `--svg`, since it writes no picture
abbrev pub IsSignalsOption : OptionWord → Type 0
IsSignalsOption Width = ⊤
IsSignalsOption Height = ⊤
IsSignalsOption Least = ⊥
IsSignalsOption Criteria = ⊤
IsSignalsOption Conflicts = ⊤
IsSignalsOption Svg = ⊥
IsSignalsOption Log = ⊤

-- the options of `front` and of `explain`: no `--order`, since `front` names its two criteria and `explain` has none,
-- and they write no file
abbrev pub IsFrontOption : OptionWord → Type 0
IsFrontOption Width = ⊤
IsFrontOption Height = ⊤
IsFrontOption Least = ⊤
IsFrontOption Criteria = ⊥
IsFrontOption Conflicts = ⊤
IsFrontOption Svg = ⊥
IsFrontOption Log = ⊥

-- the options of `redraw`: it has no `--order`, since few moved nodes are all that it looks for, and no `--svg`, since
-- it writes no picture
abbrev pub IsRedrawOption : OptionWord → Type 0
IsRedrawOption Width = ⊤
IsRedrawOption Height = ⊤
IsRedrawOption Least = ⊤
IsRedrawOption Criteria = ⊥
IsRedrawOption Conflicts = ⊤
IsRedrawOption Svg = ⊥
IsRedrawOption Log = ⊤

-- the word is an option of the command; only `draw`, which has all, `signals`, `front`, `redraw` and `explain`
-- have options
abbrev pub IsOptionOf : CommandWord → List ℕ → Type 0
IsOptionOf Draw word = (option : OptionWord) × (word ≡ option_word option)
IsOptionOf Verify word = ⊥
IsOptionOf Check word = ⊥
IsOptionOf Graph word = ⊥
IsOptionOf Make word = ⊥
IsOptionOf Trial word = ⊥
IsOptionOf Signals word = (option : OptionWord) × (word ≡ option_word option) × IsSignalsOption option
IsOptionOf Front word = (option : OptionWord) × (word ≡ option_word option) × IsFrontOption option
IsOptionOf Redraw word = (option : OptionWord) × (word ≡ option_word option) × IsRedrawOption option
IsOptionOf Explain word = (option : OptionWord) × (word ≡ option_word option) × IsFrontOption option
IsOptionOf Trim word = ⊥
IsOptionOf Recheck word = ⊥

-- ---- faults of one argument, behind the arguments before it

-- the argument has this fault at this position
abbrev pub HasWordFault : CommandWord → List Argument → Argument → WordWhat → ℕ → Type 0
HasWordFault command before (Name at name) ExtraWord position = (name_count command ≤ length (argument_names before))
    × (position ≡ at)
HasWordFault command before (Name at name) BadValue position =
    (TakesName command (length (argument_names before)) name → ⊥) × (position ≡ at)
HasWordFault command before (Setting at word value) UnknownOption position = (IsOptionOf command word → ⊥)
    × (position ≡ at)
HasWordFault command before (Setting at word value) RepeatedOption position = Contains (options_in before) word
    × (position ≡ at)
HasWordFault command before (Setting at word None) BadValue position = position ≡ at
HasWordFault command before (Setting at word (Some value)) BadValue position = (option : OptionWord)
    × (word ≡ option_word option) × (Takes option value → ⊥) × (position ≡ at + 1)
HasWordFault command before argument what position = ⊥

-- one of the arguments has this fault
pub record SomeHasWordFault (command : CommandWord) (arguments : List Argument) (what : WordWhat) (position : ℕ) : Type
    0 where
  pub before : List Argument
  pub argument : Argument
  pub after : List Argument
  pub cut : arguments ≡ before ++ argument ∷ after
  pub fault : HasWordFault command before argument what position

-- the leftmost of these faults; where several stand at one position, that with the lowest number
pub record IsLeftmost (command : CommandWord) (arguments : List Argument) (what : WordWhat) (position : ℕ) : Type 0
  where
    pub fault : SomeHasWordFault command arguments what position
    pub leftmost : (other : WordWhat) (place : ℕ) → SomeHasWordFault command arguments other place → position ≤ place
    pub lowest : (other : WordWhat) → SomeHasWordFault command arguments other position → number_of what ≤
        number_of other

-- no argument has a fault
abbrev pub HaveNoFault : CommandWord → List Argument → Type 0
HaveNoFault command arguments = (what : WordWhat) (position : ℕ) → SomeHasWordFault command arguments what position → ⊥

-- ---- faults of the whole

-- the command writes one of the two files
abbrev pub WritesOne : FileWord → FileWord → Type 0
WritesOne a b = (a.written ≡ true) ⊎ (b.written ≡ true)

-- it writes one of them, and they have one name
pub record Clash (a b : FileWord) : Type 0 where
  pub writes : WritesOne a b
  pub same : a.name ≡ b.name

-- the two may stand in one command: they have different names, or are both read
abbrev pub MayBothStand : FileWord → FileWord → Type 0
MayBothStand a b = Clash a b → ⊥

-- no two of the files clash; files that are only read may have one name
abbrev pub AllMayStand : List FileWord → Type 0
AllMayStand files = AllPairs MayBothStand files

-- one of the earlier files clashes with the file
abbrev pub HasClash : (earlier : List FileWord) → FileWord → Type 0
HasClash earlier file = (other : FileWord) × Contains earlier other × Clash other file

-- the first file, from the left, that clashes with an earlier one stands at this position
pub record IsFirstRepeat (files : List FileWord) (position : ℕ) : Type 0 where
  pub before : List FileWord
  pub file : FileWord
  pub after : List FileWord
  pub cut : files ≡ before ++ file ∷ after
  pub apart : AllMayStand before
  pub again : HasClash before file
  pub place : position ≡ file.position

-- no argument has a fault, and a name is missing at the end, this position
pub record IsMissing (command : CommandWord) (arguments : List Argument) (end position : ℕ) : Type 0 where
  pub sound : HaveNoFault command arguments
  pub few : length (argument_names arguments) < name_count command
  pub place : position ≡ end

-- no argument has a fault, no name is missing, and two files clash
pub record HasOneNameTwice (command : CommandWord) (arguments : List Argument) (position : ℕ) : Type 0 where
  pub sound : HaveNoFault command arguments
  pub enough : name_count command ≤ length (argument_names arguments)
  pub repeat : IsFirstRepeat (files_in command arguments) position

-- the fault that counts of a command's arguments, behind which this position is the first free one
abbrev pub IsFaultOfArguments : CommandWord → List Argument → ℕ → WordWhat → ℕ → Type 0
IsFaultOfArguments command arguments end MissingName position = IsMissing command arguments end position
IsFaultOfArguments command arguments end BadValue position = IsLeftmost command arguments BadValue position
    ⊎ HasOneNameTwice command arguments position
IsFaultOfArguments command arguments end what position = IsLeftmost command arguments what position

-- the words behind a command's own have this fault
pub record IsFaultBehind (first : List ℕ) (rest : List (List ℕ)) (what : WordWhat) (position : ℕ) : Type 0 where
  pub command : CommandWord
  pub named : first ≡ command_word command
  pub fault : IsFaultOfArguments command (arguments_from 2 rest) (length rest + 2) what position

-- the first word is no command
pub record IsUnknown (first : List ℕ) (what : WordWhat) (position : ℕ) : Type 0 where
  pub none : (command : CommandWord) → first ≢ command_word command
  pub kind : what ≡ UnknownCommand
  pub place : position ≡ 1

-- the words have this fault, and it is the one that counts: that there are no words, or a first word that
-- is no command, else the leftmost fault of the arguments, then a missing name, then two files that clash
abbrev pub IsFaultOfWords : List (List ℕ) → WordWhat → ℕ → Type 0
IsFaultOfWords [] what position = (what ≡ NoCommand) × (position ≡ 1)
IsFaultOfWords (first ∷ rest) what position = IsUnknown first what position ⊎ IsFaultBehind first rest what position
