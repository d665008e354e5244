-- The words behind the command, from left to right: names, and options with their values.
-- Positions count from 1 at the command.
use Rattle.std.specs.Prelude.{ℕ, ◌+◌, ◌==◌, Bool, true, false, if◌then◌else◌, ◌||◌, Option, None, Some, List, [], ◌∷◌}
use Rattle.std.specs.Prelude.{codes, map, flat_map, nat_eq, bytes_eq, string_bytes}
use Rattle.std.specs.List.{starts_with}
use Rattle.std.specs.declared.string.String.{String}
use Rattle.std.specs.declared.alloc.Global.{Global}
use Rattle.plan_words.specs.declared.command.CommandWord.{CommandWord}
use Rattle.plan_words.specs.declared.command.CommandWord.TheVariants.{Draw, Verify, Check, Graph, Make, Trial, Signals}
use Rattle.plan_words.specs.declared.command.CommandWord.TheVariants.{Front, Redraw, Explain, Trim, Recheck}
use Rattle.plan_words.specs.declared.option_values.OptionWord.TheVariants.{Svg, Log}
use Rattle.plan_words.specs.declared.arguments.Argument.{Argument}
use Rattle.plan_words.specs.declared.arguments.Argument.TheVariants.{Name, Setting}
use Rattle.plan_words.specs.declared.files.FileWord.{FileWord}
use Rattle.plan_words.specs.OptionValues.{option_word}

-- the bytes of each word
abbrev pub texts_of : List (String Global) → List (List ℕ)
texts_of words = map string_bytes words

-- a word that begins with `--` is an option
abbrev pub is_option : List ℕ → Bool
is_option word = starts_with nat_eq word (codes "--")

-- the words from this position on: an option takes the word behind it as its value, whatever it is, and
-- every word that is neither an option nor a value is a name
abbrev pub arguments_from : ℕ → List (List ℕ) → List Argument
arguments_from at [] = []
arguments_from at (word ∷ []) = (if is_option word then Setting at word None else Name at word) ∷ []
arguments_from at (word ∷ next ∷ rest) =
    if is_option word then Setting at word (Some next) ∷ arguments_from (at + 2) rest
    else Name at word ∷ arguments_from (at + 1) (next ∷ rest)

abbrev pub first_word : List (List ℕ) → Option (List ℕ)
first_word [] = None
first_word (word ∷ words) = Some word

-- ---- parts of arguments

abbrev pub argument_name : Argument → List (List ℕ)
argument_name (Name at word) = word ∷ []
argument_name (Setting at word value) = []

-- the names, in their order
abbrev pub argument_names : List Argument → List (List ℕ)
argument_names arguments = flat_map argument_name arguments

abbrev pub option_of : Argument → List (List ℕ)
option_of (Name at word) = []
option_of (Setting at word value) = word ∷ []

-- the words of the options, in their order
abbrev pub options_in : List Argument → List (List ℕ)
options_in arguments = flat_map option_of arguments

-- the value behind the first option of this word
abbrev pub option_value : List ℕ → List Argument → Option (List ℕ)
option_value option [] = None
option_value option (Name at word ∷ arguments) = option_value option arguments
option_value option (Setting at word value ∷ arguments) =
    if bytes_eq word option then value else option_value option arguments

-- whether the option's value names a file
abbrev pub takes_file : List ℕ → Bool
takes_file option = bytes_eq option (option_word Svg) || bytes_eq option (option_word Log)

-- whether the command writes the file of a name at this position: `trim` writes that of its fourth, which stands there,
-- since `trim` has no options
abbrev pub writes_at : CommandWord → ℕ → Bool
writes_at Draw at = false
writes_at Verify at = false
writes_at Check at = false
writes_at Graph at = false
writes_at Make at = false
writes_at Trial at = false
writes_at Signals at = false
writes_at Front at = false
writes_at Redraw at = false
writes_at Explain at = false
writes_at Trim at = at == 5
writes_at Recheck at = false

abbrev pub named_word : CommandWord → ℕ → List ℕ → FileWord
named_word command position name =
    record { position = position; name = name; written = writes_at command position }

abbrev pub written_word : ℕ → List ℕ → FileWord
written_word position name = record { position = position; name = name; written = true }

abbrev pub file_of : CommandWord → Argument → List FileWord
file_of command (Name at word) = named_word command at word ∷ []
file_of command (Setting at word None) = []
file_of command (Setting at word (Some value)) = if takes_file word then written_word (at + 1) value ∷ [] else []

-- the words that name files: the names, of which a command reads the files but that of the last one of `trim`, and the
-- values of `--svg` and `--log`, of which it writes them
abbrev pub files_in : CommandWord → List Argument → List FileWord
files_in command arguments = flat_map (file_of command) arguments
