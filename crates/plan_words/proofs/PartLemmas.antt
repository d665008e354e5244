-- What sound arguments give: values that are taken, and as many names as the command has.
use Rattle.std.proofs.Common.{◌≡◌, ℕ, zero, suc, ◌+◌, ◌≤◌, ◌⊎◌, inl, inr, true, false, None, Some, List, [], ◌∷◌, ◌++◌, length, refl, sym, ap, subst, ◌∙◌}
use Rattle.std.proofs.Common.{length-append, arith}
use Rattle.std.specs.Prelude.{Option, MatchOption, slice_get, bytes_eq, if◌then◌else◌, ⊤}
use Rattle.std.proofs.lemmas.Slice.Eq.{bytes_eq-Decides}
use Rattle.plan_words.specs.declared.command.CommandWord.{CommandWord}
use Rattle.plan_words.specs.declared.command.CommandWord.TheVariants.{Make, Trial, Signals, Front}
use Rattle.plan_words.specs.declared.option_values.OptionWord.{OptionWord}
use Rattle.plan_words.specs.declared.option_values.OptionWord.TheVariants.{Svg}
use Rattle.plan_words.specs.declared.arguments.Argument.{Argument}
use Rattle.plan_words.specs.declared.arguments.Argument.TheVariants.{Name, Setting}
use Rattle.plan_core.specs.declared.criterion.Criterion.{Criterion}
use Rattle.plan_words.specs.OptionValues.{option_word, IsSeed, IsPairText, Takes}
use Rattle.plan_words.specs.Arguments.{argument_name, argument_names, option_value}
use Rattle.plan_words.specs.WordFaults.{TakesName, IsOptionOf, IsSignalsOption}
use Rattle.plan_words.specs.Soundness.{SoundFrom, AreTaken}
use Rattle.plan_words.specs.Words.{given_for}
use Rattle.plan_words.proofs.SoundLemmas.{option_word_injective, sound_at, names_most, argument_names-push}

-- an option of this word with this value stands among the arguments
record HasSetting (arguments : List Argument) (word value : List ℕ) : Type 0 where
  before : List Argument
  at : ℕ
  after : List Argument
  cut : arguments ≡ before ++ Setting at word (Some value) ∷ after

setting_of : (arguments : List Argument) (word value : List ℕ) → option_value word arguments ≡ Some value → HasSetting arguments word value
setting_of [] word value is = let e : None ≡ Some value = is in cc
setting_of (Name at name ∷ arguments) word value is =
    let later = setting_of arguments word value is in
    record { before = Name at name ∷ later.before; at = later.at; after = later.after; cut = ap (λ (xs : List Argument). Name at name ∷ xs) later.cut }
setting_of (Setting at other text ∷ arguments) word value is =
    elim (bytes_eq other word) as (λ b. bytes_eq other word ≡ b → (if b then text else option_value word arguments) ≡ Some value → HasSetting
    (Setting at other text ∷ arguments) word value) [
      | true ↦ λ same there. record {
        before = [];
        at = at;
        after = arguments;
        cut =
            ap (λ (w : List ℕ). Setting at w text ∷ arguments) ((bytes_eq-Decides other word).0 same)
            ∙ ap (λ (v : Option (List ℕ)). Setting at word v ∷ arguments) there;
      }
      | false ↦ λ differs there.
          let later = setting_of arguments word value there in
          record {
            before = Setting at other text ∷ later.before;
            at = later.at;
            after = later.after;
            cut = ap (λ (xs : List Argument). Setting at other text ∷ xs)
                later.cut;
          }
    ] refl is

pub given_taken : (command : CommandWord) (arguments : List Argument) (option : OptionWord) (value : List ℕ) → SoundFrom command [] arguments →
    given_for option arguments ≡ Some value → Takes option value
given_taken command arguments option value sound is =
    let setting = setting_of arguments (option_word option) value is in
    let one = sound_at command arguments setting.before (Setting setting.at (option_word option) (Some value)) setting.after sound setting.cut in
    let there : Some value ≡ Some one.text = one.there in
    let text : one.text ≡ value = cc in
    let same : one.option ≡ option = option_word_injective one.option option (sym one.named) in
    let P : OptionWord → Type 0 = λ o. Takes o value in
    subst P same (subst (Takes one.option) text one.taken)

-- an option that is given is one of the command's
given_known : (command : CommandWord) (arguments : List Argument) (option : OptionWord) (value : List ℕ) → SoundFrom command [] arguments →
    given_for option arguments ≡ Some value → IsOptionOf command (option_word option)
given_known command arguments option value sound is =
    let setting = setting_of arguments (option_word option) value is in
    let one = sound_at command arguments setting.before (Setting setting.at (option_word option) (Some value)) setting.after sound setting.cut in
    one.known

pub given_is_taken : (command : CommandWord) (arguments : List Argument) (option : OptionWord) → SoundFrom command [] arguments →
    MatchOption (given_for option arguments) ⊤ (Takes option)
given_is_taken command arguments option sound =
    elim (given_for option arguments) as (λ r. given_for option arguments ≡ r → MatchOption r ⊤ (Takes option))
    [ None ↦ λ is. tt | Some value ↦ λ is. given_taken command arguments option value sound is ] refl

pub all_taken : (command : CommandWord) (arguments : List Argument) → SoundFrom command [] arguments → AreTaken arguments
all_taken command arguments sound = λ option. given_is_taken command arguments option sound

-- an option that is given is taken
pub taken_one : (arguments : List Argument) (option : OptionWord) (value : List ℕ) → AreTaken arguments → given_for option arguments ≡ Some value →
    Takes option value
taken_one arguments option value taken is = let P : Option (List ℕ) → Type 0 = λ r. MatchOption r ⊤ (Takes option) in subst P is (taken option)

-- ---- names

names_before : (before : List Argument) (argument : Argument) → length (argument_names (before ++ argument ∷ [])) ≡ length (argument_names before) + length
    (argument_name argument)
names_before before argument = ap length (argument_names-push before argument) ∙ length-append (argument_names before) (argument_name argument)

-- each name is taken, behind those before it
pub name_taken : (command : CommandWord) (before arguments : List Argument) (i : ℕ) (name : List ℕ) → SoundFrom command before arguments →
    slice_get (argument_names arguments) i ≡ Some name → TakesName command (length (argument_names before) + i) name
name_taken command before [] i name sound is = let e : None ≡ Some name = is in cc
name_taken command before (Name at word ∷ arguments) zero name sound is =
    let e : Some word ≡ Some name = is in
    let same : word ≡ name = cc in
    let place : length (argument_names before) ≡ length (argument_names before) + 0 = omega arith in
    subst (λ (w : List ℕ). TakesName command (length (argument_names before) + 0) w) same (subst (λ n. TakesName command n word) place sound.0.1)
name_taken command before (Name at word ∷ arguments) (suc i) name sound is =
    let count = names_before before (Name at word) in
    let place : length (argument_names (before ++ Name at word ∷ [])) + i ≡ length (argument_names before) + suc i = omega (arith, count) in
    subst (λ n. TakesName command n name) place (name_taken command (before ++ Name at word ∷ []) arguments i name sound.1 is)
name_taken command before (Setting at word value ∷ arguments) i name sound is =
    let count = names_before before (Setting at word value) in
    let place : length (argument_names (before ++ Setting at word value ∷ [])) + i ≡ length (argument_names before) + i = omega (arith, count) in
    subst (λ n. TakesName command n name) place (name_taken command (before ++ Setting at word value ∷ []) arguments i name sound.1 is)

pub one_name : (names : List (List ℕ)) (a : List ℕ) → length names ≤ 1 → slice_get names 0 ≡ Some a → names ≡ a ∷ []
one_name [] a most first = let e : None ≡ Some a = first in cc
one_name (x ∷ []) a most first = let e : Some x ≡ Some a = first in cc
one_name (x ∷ y ∷ names) a most first = absurd (omega arith)

pub two_names : (names : List (List ℕ)) (a b : List ℕ) → length names ≤ 2 → slice_get names 0 ≡ Some a → slice_get names 1 ≡ Some b → names ≡ a ∷ b ∷ []
two_names [] a b most first second = let e : None ≡ Some a = first in cc
two_names (x ∷ []) a b most first second = let e : None ≡ Some b = second in cc
two_names (x ∷ y ∷ []) a b most first second = let e : Some x ≡ Some a = first in let f : Some y ≡ Some b = second in cc
two_names (x ∷ y ∷ z ∷ names) a b most first second = absurd (omega arith)

pub three_names : (names : List (List ℕ)) (a b d : List ℕ) → length names ≤ 3 → slice_get names 0 ≡ Some a → slice_get names 1 ≡ Some b →
    slice_get names 2 ≡ Some d → names ≡ a ∷ b ∷ d ∷ []
three_names [] a b d most first second third = let e : None ≡ Some a = first in cc
three_names (x ∷ []) a b d most first second third = let e : None ≡ Some b = second in cc
three_names (x ∷ y ∷ []) a b d most first second third = let e : None ≡ Some d = third in cc
three_names (x ∷ y ∷ z ∷ []) a b d most first second third = let e : Some x ≡ Some a = first in let f : Some y ≡ Some b = second in let g : Some z ≡ Some
    d = third in cc
three_names (x ∷ y ∷ z ∷ u ∷ names) a b d most first second third = absurd (omega arith)

pub four_names : (names : List (List ℕ)) (a b d e : List ℕ) → length names ≤ 4 → slice_get names 0 ≡ Some a → slice_get names 1 ≡ Some b →
    slice_get names 2 ≡ Some d → slice_get names 3 ≡ Some e → names ≡ a ∷ b ∷ d ∷ e ∷ []
four_names [] a b d e most first second third fourth = let none : None ≡ Some a = first in cc
four_names (x ∷ names) a b d e most first second third fourth =
    let is : Some x ≡ Some a = first in
    let rest : names ≡ b ∷ d ∷ e ∷ [] = three_names names b d e (omega (arith, most)) second third fourth in
    cc

pub first_taken : (command : CommandWord) (arguments : List Argument) (name : List ℕ) → SoundFrom command [] arguments → argument_names arguments ≡ name ∷ [] →
    TakesName command 0 name
first_taken command arguments name sound is = name_taken command [] arguments 0 name sound (ap (λ (names : List (List ℕ)). slice_get names 0) is)

pub pair_taken : (arguments : List Argument) (name : List ℕ) → SoundFrom Front [] arguments → slice_get (argument_names arguments) 1 ≡ Some name →
    (a : Criterion) × (b : Criterion) × IsPairText name a b
pair_taken arguments name sound is = name_taken Front [] arguments 1 name sound is

-- ---- the arguments of `signals`

no_svg : IsOptionOf Signals (option_word Svg) → ⊥
no_svg (option, named, one) =
    let P : OptionWord → Type 0 = λ o. IsSignalsOption o in
    subst P (sym (option_word_injective Svg option named)) one

-- none of them names a picture
pub without_svg : (arguments : List Argument) → SoundFrom Signals [] arguments → None ≡ given_for Svg arguments
without_svg arguments sound =
    elim (given_for Svg arguments) as (λ r. given_for Svg arguments ≡ r → None ≡ r) [
      | None ↦ λ is. refl
      | Some value ↦ λ is. absurd (no_svg (given_known Signals arguments Svg value sound is))
    ] refl

-- ---- the number of a made station

-- a command that takes a station's number has one name at most, and takes it
pub seed_most : (arguments : List Argument) → SoundFrom Make [] arguments ⊎ SoundFrom Trial [] arguments → length (argument_names arguments) ≤ 1
seed_most arguments (inl sound) = names_most Make arguments sound
seed_most arguments (inr sound) = names_most Trial arguments sound

pub seed_taken : (arguments : List Argument) (name : List ℕ) → SoundFrom Make [] arguments ⊎ SoundFrom Trial [] arguments →
    argument_names arguments ≡ name ∷ [] → (n : ℕ) × IsSeed name n
seed_taken arguments name (inl sound) is = first_taken Make arguments name sound is
seed_taken arguments name (inr sound) is = first_taken Trial arguments name sound is
