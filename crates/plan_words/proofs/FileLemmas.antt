-- The files of a command, and the first that clashes with an earlier one.
use Rattle.std.proofs.Common.{◌≡◌, ◌≢◌, ℕ, suc, ◌+◌, ◌<◌, ◌≤◌, Bool, true, false, None, Some, List, [], ◌∷◌, ◌++◌, length, take, drop, get_or, inl, refl, sym}
use Rattle.std.proofs.Common.{ap, subst, ◌∙◌, arith}
use Rattle.std.specs.Prelude.{Option, All, Contains, if◌then◌else◌, ◌||◌}
use Rattle.std.specs.Str.{bytes_eq}
use Rattle.std.proofs.lemmas.List.{take_more, take_all}
use Rattle.std.proofs.lemmas.List.Elements.{All-contains, All-more, Contains-append_right}
use Rattle.std.proofs.lemmas.List.Quantifiers.{all_pairs_push}
use Rattle.std.proofs.lemmas.Slice.Eq.{bytes_eq-Decides}
use Rattle.plan_core.proofs.ListFacts.{pairs_head, pairs_tail}
use Rattle.plan_words.specs.declared.command.CommandWord.{CommandWord}
use Rattle.plan_words.specs.declared.option_values.OptionWord.TheVariants.{Svg, Log}
use Rattle.plan_words.specs.declared.arguments.Argument.{Argument}
use Rattle.plan_words.specs.declared.arguments.Argument.TheVariants.{Name, Setting}
use Rattle.plan_words.specs.declared.files.FileWord.{FileWord}
use Rattle.plan_words.specs.OptionValues.{option_word}
use Rattle.plan_words.specs.Arguments.{option_value, takes_file, named_word, written_word, file_of, files_in}
use Rattle.plan_words.specs.WordFaults.{Clash, MayBothStand, AllMayStand, HasClash, IsFirstRepeat}
use Rattle.plan_words.proofs.WordLemmas.{cut_at}

-- one of the earlier files that clashes
pub clash_at : (earlier : List FileWord) (i : ℕ) (other file : FileWord) → i < length earlier → other ≡ get_or earlier i other → Clash other file →
    HasClash earlier file
clash_at earlier i other file within is clash = (other, (i, within, sym is), clash)

pub one_more_stands : (earlier : List FileWord) (i : ℕ) (other file : FileWord) → i < length earlier → other ≡ get_or earlier i other →
    MayBothStand other file → All (λ e. MayBothStand e file) (take i earlier) → All (λ e. MayBothStand e file) (take (i + 1) earlier)
one_more_stands earlier i other file within is stands all = let P : FileWord →
    Type 0 = λ e. MayBothStand e file in All-more P earlier i other within all (subst P is stands)

pub all_stand : (earlier : List FileWord) (i : ℕ) (file : FileWord) → length earlier ≤ i → All (λ e. MayBothStand e file) (take i earlier) →
    All (λ e. MayBothStand e file) earlier
all_stand earlier i file all stand = let P : List FileWord → Type 0 = λ xs. All (λ e. MayBothStand e file) xs in subst P (take_all i earlier all) stand

pub one_file_more : (files : List FileWord) (i : ℕ) (file : FileWord) → i < length files → file ≡ get_or files i file →
    All (λ e. MayBothStand e file) (take i files) → AllMayStand (take i files) → AllMayStand (take (i + 1) files)
one_file_more files i file within is stand apart =
    let P : List FileWord → Type 0 = λ xs. AllMayStand xs in
    let more : take (i + 1) files ≡ take i files ++ file ∷ [] = take_more files i file within ∙ ap (λ (f : FileWord). take i files ++ f ∷ []) (sym is) in
    subst P (sym more) (all_pairs_push MayBothStand (take i files) file apart (λ k d there. stand k d there))

pub repeat_at : (files : List FileWord) (i : ℕ) (file : FileWord) → i < length files → file ≡ get_or files i file → HasClash (take i files) file →
    AllMayStand (take i files) → IsFirstRepeat files file.position
repeat_at files i file within is again apart = record {
  before = take i files;
  file = file;
  after = drop (suc i) files;
  cut = cut_at files i file within is;
  apart = apart;
  again = again;
  place = refl;
}

pub all_apart : (files : List FileWord) (i : ℕ) → length files ≤ i → AllMayStand (take i files) → AllMayStand files
all_apart files i all apart = let P : List FileWord → Type 0 = λ xs. AllMayStand xs in subst P (take_all i files all) apart

-- ---- the files of an option

-- one of the files is written and has this name
abbrev Writes : List FileWord → List ℕ → Type 0
Writes files name = (position : ℕ) × Contains files (written_word position name)

-- the value of an option that takes a file is one of the files
value_in : (command : CommandWord) (option : List ℕ) → takes_file option ≡ true → (arguments : List Argument) (name : List ℕ) →
    option_value option arguments ≡ Some name → Writes (files_in command arguments) name
value_in command option takes [] name is = let none : None ≡ Some name = is in cc
value_in command option takes (Name at word ∷ rest) name is =
    let later = value_in command option takes rest name is in
    (later.0, Contains-append_right (named_word command at word ∷ []) (files_in command rest) (written_word later.0 name) later.1)
value_in command option takes (Setting at word value ∷ rest) name is =
    elim (bytes_eq word option) as (λ b. bytes_eq word option ≡ b → (if b then value else option_value option rest) ≡ Some name → Writes
    (files_in command (Setting at word value ∷ rest)) name) [
      | true ↦ λ same there.
          let this : word ≡ option = (bytes_eq-Decides word option).0 same in
          let Q : Argument → Type 0 = λ argument. Writes (files_in command (argument ∷ rest)) name in
          let is_this : Setting at word value ≡ Setting at option (Some name) = cc in
          let R : Bool → Type 0 = λ b. Writes ((if b then written_word (at + 1) name ∷ [] else []) ++ files_in command rest) name in
          subst Q (sym is_this) (subst R (sym takes) (at + 1, (0, omega arith, refl)))
      | false ↦ λ differs later.
          let there = value_in command option takes rest name later in
          (there.0, Contains-append_right (file_of command (Setting at word value)) (files_in command rest) (written_word there.0 name) there.1)
    ] refl is

abbrev NameApart : CommandWord → List Argument → Type 0
NameApart command arguments = AllMayStand (files_in command arguments)

-- an option that takes no file names none
apart_later : (command : CommandWord) (at : ℕ) (word : List ℕ) (value : Option (List ℕ)) (rest : List Argument) → takes_file word ≡ false →
    NameApart command (Setting at word value ∷ rest) → NameApart command rest
apart_later command at word None rest none apart = apart
apart_later command at word (Some value) rest none apart =
    let R : Bool → Type 0 = λ b. AllMayStand ((if b then written_word (at + 1) value ∷ [] else []) ++ files_in command rest) in
    subst R none apart

-- the first option of two that take a file has another value than the second
first_apart : (command : CommandWord) (at : ℕ) (word option other : List ℕ) (value : Option (List ℕ)) (rest : List Argument) (a b : List ℕ) → word ≡ option →
    value ≡ Some a → takes_file option ≡ true → takes_file other ≡ true → option_value other rest ≡ Some b →
    NameApart command (Setting at word value ∷ rest) → a ≢ b
first_apart command at word option other value rest a b this is takes also later apart =
    let is_this : Setting at word value ≡ Setting at option (Some a) = cc in
    let R : Bool → Type 0 = λ t. AllMayStand ((if t then written_word (at + 1) a ∷ [] else []) ++ files_in command rest) in
    let Q : Argument → Type 0 = λ argument. NameApart command (argument ∷ rest) in
    let first = written_word (at + 1) a in
    let pairs : AllMayStand (first ∷ files_in command rest) = subst R takes (subst Q is_this apart) in
    let second = value_in command other also rest b later in
    let stand : MayBothStand first (written_word second.0 b) = All-contains (λ n. MayBothStand first n) (files_in command rest) (written_word second.0 b)
    (pairs_head MayBothStand first (files_in command rest) pairs) second.1 in
    λ same. stand (record { writes = inl refl; same = same })

takes_neither : (word : List ℕ) → bytes_eq word (option_word Svg) ≡ false → bytes_eq word (option_word Log) ≡ false → takes_file word ≡ false
takes_neither word not_svg not_log = ap (λ (b : Bool). b || bytes_eq word (option_word Log)) not_svg ∙ not_log

-- a picture's file isn't a log's
pub values_apart : (command : CommandWord) (arguments : List Argument) (picture log : List ℕ) → option_value (option_word Svg) arguments ≡ Some picture →
    option_value (option_word Log) arguments ≡ Some log → NameApart command arguments → picture ≢ log
values_apart command [] picture log is_picture is_log apart = let none : None ≡ Some picture = is_picture in absurd (cc)
values_apart command (Name at word ∷ rest) picture log is_picture is_log apart =
    values_apart command rest picture log is_picture is_log (pairs_tail MayBothStand (named_word command at word) (files_in command rest) apart)
values_apart command (Setting at word value ∷ rest) picture log is_picture is_log apart =
    elim (bytes_eq word (option_word Svg)) as (λ s. bytes_eq word (option_word Svg) ≡ s → (if s then value else option_value (option_word Svg) rest) ≡ Some
    picture → picture ≢ log) [
      | true ↦ λ same there.
          let this : word ≡ option_word Svg = (bytes_eq-Decides word (option_word Svg)).0 same in
          let P : List ℕ → Type 0 = λ w. option_value (option_word Log) (Setting at w value ∷ rest) ≡ Some log in
          first_apart command at word (option_word Svg) (option_word Log) value rest picture log this there refl refl (subst P this is_log) apart
      | false ↦ λ not_svg later.
          elim (bytes_eq word (option_word Log)) as (λ s. bytes_eq word (option_word Log) ≡ s → (if s then value else option_value (option_word Log) rest)
          ≡ Some log → picture ≢ log) [
            | true ↦ λ same there.
                let apart_so = first_apart command at word (option_word Log) (option_word Svg) value rest log picture
                ((bytes_eq-Decides word (option_word Log)).0 same) there refl refl later apart in
                λ e. apart_so (sym e)
            | false ↦ λ not_log also. values_apart command rest picture log later also
                (apart_later command at word value rest (takes_neither word not_svg not_log) apart)
          ] refl is_log
    ] refl is_picture
