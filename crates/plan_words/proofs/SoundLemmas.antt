-- Arguments without a fault: one more, how many they can be, and that the first fault behind them is the leftmost.
use Rattle.std.proofs.Common.{◌≡◌, ◌≢◌, ℕ, zero, suc, ◌+◌, ◌<◌, ◌≤◌, ◌⊎◌, inl, inr, true, false, ◌||◌, None, Some, List, [], ◌∷◌, ◌++◌, length, take, drop}
use Rattle.std.proofs.Common.{get_or, map, eqb, refl, sym, ap, subst, ◌∙◌, append_assoc, length-append, arith}
use Rattle.std.specs.Prelude.{if◌then◌else◌, ◌==◌, AllPairs, All}
use Rattle.std.proofs.lemmas.Bool.{ne_eqb, eqb-true, false≢true}
use Rattle.std.proofs.lemmas.Bool.Decides.{nat_tests}
use Rattle.std.proofs.lemmas.List.{append-nil, get_or-map, length-map, get_or_default, take_more, length-take-le}
use Rattle.std.proofs.lemmas.List.Elements.{All-push}
use Rattle.std.proofs.lemmas.List.Quantifiers.{all_pairs_push}
use Rattle.std.proofs.lemmas.Grind.{flat_map-append}
use Rattle.std.proofs.lemmas.Map.Keys.{IsDistinct-from_apart}
use Rattle.std.proofs.lemmas.Map.Steps.{length-le_from_distinct_below}
use Rattle.std.specs.List.{list_any}
use Rattle.plan_words.specs.declared.command.CommandWord.{CommandWord}
use Rattle.plan_words.specs.declared.command.CommandWord.TheVariants.{Draw, Verify, Check, Graph, Make, Trial, Signals, Front, Redraw, Explain, Trim, Recheck}
use Rattle.plan_words.specs.declared.option_values.OptionWord.{OptionWord}
use Rattle.plan_words.specs.declared.option_values.OptionWord.TheVariants.{Width, Height, Least, Criteria, Conflicts, Svg, Log}
use Rattle.plan_words.specs.declared.arguments.Argument.{Argument}
use Rattle.plan_words.specs.declared.arguments.Argument.TheVariants.{Name, Setting}
use Rattle.plan_words.specs.declared.fault.WordWhat.{WordWhat}
use Rattle.plan_words.specs.declared.fault.WordWhat.TheVariants.{NoCommand, UnknownCommand, MissingName, ExtraWord, UnknownOption, RepeatedOption, BadValue}
use Rattle.plan_words.specs.OptionValues.{option_word, Takes}
use Rattle.plan_words.specs.Arguments.{argument_name, argument_names, option_of, options_in}
use Rattle.plan_words.specs.WordFaults.{name_count, IsOptionOf, HasWordFault, IsLeftmost, HaveNoFault}
use Rattle.plan_words.specs.Soundness.{next_place, StandFrom, IsNear, IsFirstWordFault, IsSoundBehind, SoundFrom}
use Rattle.plan_words.proofs.WordLemmas.{cut_at}
use Rattle.plan_words.proofs.PlaceLemmas.{stands_behind, stands_near, fault_from, fault_to}

-- ---- each option has a number

abbrev rank : List ℕ → ℕ
rank word =
    let letter = get_or word 2 0 in
    if letter == 119 then 0 else if letter == 104 then 1 else if letter == 111 then 2 else if letter == 99 then 3 else if letter == 115 then 4 else if get_or
    word 3 0 == 101 then 5 else 6

abbrev of_rank : ℕ → OptionWord
of_rank zero = Width
of_rank (suc zero) = Height
of_rank (suc (suc zero)) = Criteria
of_rank (suc (suc (suc zero))) = Conflicts
of_rank (suc (suc (suc (suc zero)))) = Svg
of_rank (suc (suc (suc (suc (suc zero))))) = Least
of_rank other = Log

of_rank-word : (option : OptionWord) → of_rank (rank (option_word option)) ≡ option
of_rank-word Width = refl
of_rank-word Height = refl
of_rank-word Least = refl
of_rank-word Criteria = refl
of_rank-word Conflicts = refl
of_rank-word Svg = refl
of_rank-word Log = refl

pub option_word_injective : (a b : OptionWord) → option_word a ≡ option_word b → a ≡ b
option_word_injective a b is = sym (of_rank-word a) ∙ ap (λ (word : List ℕ). of_rank (rank word)) is ∙ of_rank-word b

rank_is_small : (word : List ℕ) → rank word < 7
rank_is_small word = grind (arith, nat_tests)

-- ---- there are few

abbrev IsKnown : List ℕ → Type 0
IsKnown word = (option : OptionWord) × (word ≡ option_word option)

ranks_are_small : (words : List (List ℕ)) (q : ℕ) → list_any (eqb q) (map rank words) ≡ true → q < 7
ranks_are_small [] q h = absurd (false≢true h)
ranks_are_small (word ∷ words) q h =
    elim (eqb q (rank word)) as (λ b. eqb q (rank word) ≡ b → (b || list_any (eqb q) (map rank words)) ≡ true → q < 7) [
      | true ↦ λ e _. let k : q ≡ rank word = eqb-true q (rank word) e in let m = rank_is_small word in omega (arith, k, m)
      | false ↦ λ _ more. ranks_are_small words q more
    ] refl h

few_options : (words : List (List ℕ)) → AllPairs (λ a b. a ≢ b) words → All IsKnown words → length words ≤ 7
few_options words apart known =
    let n : length (map rank words) ≡ length words = length-map words rank in
    let distinct : (i j : ℕ) (d : ℕ) → i < j → j < length (map rank words) → eqb (get_or (map rank words) i d) (get_or (map rank words) j d) ≡ false =
    λ i j d less within.
    let in_j : j < length words = omega arith in
    let in_i : i < length words = omega arith in
    let ei : get_or (map rank words) i d ≡ rank (get_or words i []) = get_or-map rank words i [] d in_i in
    let ej : get_or (map rank words) j d ≡ rank (get_or words j []) = get_or-map rank words j [] d in_j in
    ne_eqb (get_or (map rank words) i d) (get_or (map rank words) j d) (λ e.
    let a = known i [] in_i in
    let b = known j [] in_j in
    let same : a.0 ≡ b.0 = sym (of_rank-word a.0) ∙ ap of_rank (ap rank (sym a.1) ∙ sym ei ∙ e ∙ ej ∙ ap rank b.1) ∙ of_rank-word b.0 in
    apart i j [] less in_j (a.1 ∙ ap option_word same ∙ sym b.1))
    in
    let most = length-le_from_distinct_below (map rank words) 7 (IsDistinct-from_apart eqb (map rank words) distinct) (ranks_are_small words) in
    omega (arith, n, most)

pub argument_names-push : (before : List Argument) (argument : Argument) →
    argument_names (before ++ argument ∷ []) ≡ argument_names before ++ argument_name argument
argument_names-push before argument = flat_map-append argument_name before (argument ∷ [])
    ∙ ap (λ (ws : List (List ℕ)). argument_names before ++ ws) (append-nil (argument_name argument))

options_in-push : (before : List Argument) (argument : Argument) → options_in (before ++ argument ∷ []) ≡ options_in before ++ option_of argument
options_in-push before argument = flat_map-append option_of before (argument ∷ [])
    ∙ ap (λ (ws : List (List ℕ)). options_in before ++ ws) (append-nil (option_of argument))

names_push : (command : CommandWord) (before : List Argument) (argument : Argument) → length (argument_names before) ≤ name_count command →
    IsSoundBehind command before argument → length (argument_names (before ++ argument ∷ [])) ≤ name_count command
names_push command before (Name at name) few sound =
    let n = ap length (argument_names-push before (Name at name)) ∙ length-append (argument_names before) (name ∷ []) in
    let less = sound.0 in
    omega (arith, n, less)
names_push command before (Setting at word value) few sound =
    let n = ap length (argument_names-push before (Setting at word value) ∙ append-nil (argument_names before)) in
    omega (arith, n, few)

names_few : (command : CommandWord) (before arguments : List Argument) → length (argument_names before) ≤ name_count command →
    SoundFrom command before arguments → length (argument_names (before ++ arguments)) ≤ name_count command
names_few command before [] few sound = let P : List Argument → Type 0 = λ xs. length (argument_names xs) ≤ name_count command in subst P
    (sym (append-nil before)) few
names_few command before (argument ∷ arguments) few sound =
    let P : List Argument → Type 0 = λ xs. length (argument_names xs) ≤ name_count command in
    subst P (append_assoc before (argument ∷ []) arguments) (names_few command (before ++ argument ∷ []) arguments
    (names_push command before argument few sound.0) sound.1)

-- option words that stand once each, and are known
record AreOptions (words : List (List ℕ)) : Type 0 where
  apart : AllPairs (λ a b. a ≢ b) words
  known : All IsKnown words

known_option : (command : CommandWord) (word : List ℕ) → IsOptionOf command word → IsKnown word
known_option Draw word h = h
known_option Verify word h = absurd h
known_option Check word h = absurd h
known_option Graph word h = absurd h
known_option Make word h = absurd h
known_option Trial word h = absurd h
known_option Signals word h = (h.0, h.1)
known_option Front word h = (h.0, h.1)
known_option Redraw word h = (h.0, h.1)
known_option Explain word h = (h.0, h.1)
known_option Trim word h = absurd h
known_option Recheck word h = absurd h

options_push : (command : CommandWord) (before : List Argument) (argument : Argument) → AreOptions (options_in before) → IsSoundBehind command before argument →
    AreOptions (options_in (before ++ argument ∷ []))
options_push command before (Name at name) are sound = subst AreOptions (sym (options_in-push before (Name at name) ∙ append-nil (options_in before))) are
options_push command before (Setting at word value) are sound =
    let longer : AreOptions (options_in before ++ word ∷ []) = record {
      apart = all_pairs_push (λ a b. a ≢ b) (options_in before) word are.apart (λ k d within same. sound.fresh
          (k, within, get_or_default (options_in before) k word d within ∙ same));
      known = All-push IsKnown (options_in before) word are.known (known_option command word sound.known);
    } in
    subst AreOptions (sym (options_in-push before (Setting at word value))) longer

options_once : (command : CommandWord) (before arguments : List Argument) → AreOptions (options_in before) → SoundFrom command before arguments →
    AreOptions (options_in (before ++ arguments))
options_once command before [] are sound = let P : List Argument → Type 0 = λ xs. AreOptions (options_in xs) in subst P (sym (append-nil before)) are
options_once command before (argument ∷ arguments) are sound =
    let P : List Argument → Type 0 = λ xs. AreOptions (options_in xs) in
    subst P (append_assoc before (argument ∷ []) arguments) (options_once command (before ++ argument ∷ []) arguments
    (options_push command before argument are sound.0) sound.1)

no_options : AreOptions []
no_options = record { apart = λ i j d less within. absurd (omega arith); known = λ k d within. absurd (omega arith) }

length-parts : (arguments : List Argument) → length arguments ≡ length (argument_names arguments) + length (options_in arguments)
length-parts [] = refl
length-parts (Name at name ∷ arguments) = let n = length-parts arguments in omega (arith, n)
length-parts (Setting at word value ∷ arguments) = let n = length-parts arguments in omega (arith, n)

name_count_small : (command : CommandWord) → name_count command ≤ 4
name_count_small Draw = omega arith
name_count_small Verify = omega arith
name_count_small Check = omega arith
name_count_small Graph = omega arith
name_count_small Make = omega arith
name_count_small Trial = omega arith
name_count_small Signals = omega arith
name_count_small Front = omega arith
name_count_small Redraw = omega arith
name_count_small Explain = omega arith
name_count_small Trim = omega arith
name_count_small Recheck = omega arith

pub few_arguments : (command : CommandWord) (arguments : List Argument) → SoundFrom command [] arguments → length arguments ≤ 11
few_arguments command arguments sound =
    let parts = length-parts arguments in
    let names = names_few command [] arguments (omega arith) sound in
    let few = name_count_small command in
    let are = options_once command [] arguments no_options sound in
    let options = few_options (options_in arguments) are.apart are.known in
    omega (arith, parts, names, few, options)

-- an argument behind others without a fault stands near
pub is_near : (command : CommandWord) (before : List Argument) (argument : Argument) (after : List Argument) → SoundFrom command [] before →
    StandFrom 2 (before ++ argument ∷ after) → IsNear argument
is_near command before argument after sound stand =
    let near = stands_near 2 before argument after stand in
    let few = few_arguments command before sound in
    omega (arith, near, few)

-- ---- sound arguments have no fault

pub sound_push : (command : CommandWord) (before arguments : List Argument) (argument : Argument) → SoundFrom command before arguments →
    IsSoundBehind command (before ++ arguments) argument → SoundFrom command before (arguments ++ argument ∷ [])
sound_push command before [] argument sound one = let P : List Argument →
    Type 0 = λ xs. IsSoundBehind command xs argument in (subst P (append-nil before) one, tt)
sound_push command before (first ∷ arguments) argument sound one =
    let P : List Argument → Type 0 = λ xs. IsSoundBehind command xs argument in
    (sound.0, sound_push command (before ++ first ∷ []) arguments argument sound.1 (subst P (sym (append_assoc before (first ∷ []) arguments)) one))

no_fault_behind : (command : CommandWord) (before : List Argument) (argument : Argument) → IsSoundBehind command before argument →
    (what : WordWhat) (position : ℕ) → HasWordFault command before argument what position → ⊥
no_fault_behind command before (Name at name) sound NoCommand position h = h
no_fault_behind command before (Name at name) sound UnknownCommand position h = h
no_fault_behind command before (Name at name) sound MissingName position h = h
no_fault_behind command before (Name at name) sound ExtraWord position h = let less = sound.0 in let more = h.0 in omega (arith, less, more)
no_fault_behind command before (Name at name) sound UnknownOption position h = h
no_fault_behind command before (Name at name) sound RepeatedOption position h = h
no_fault_behind command before (Name at name) sound BadValue position h = h.0 sound.1
no_fault_behind command before (Setting at word value) sound NoCommand position h = h
no_fault_behind command before (Setting at word value) sound UnknownCommand position h = h
no_fault_behind command before (Setting at word value) sound MissingName position h = h
no_fault_behind command before (Setting at word value) sound ExtraWord position h = h
no_fault_behind command before (Setting at word value) sound UnknownOption position h = h.0 sound.known
no_fault_behind command before (Setting at word value) sound RepeatedOption position h = sound.fresh h.0
no_fault_behind command before (Setting at word None) sound BadValue position h = let e : None ≡ Some sound.text = sound.there in cc
no_fault_behind command before (Setting at word (Some value)) sound BadValue position h =
    let e : Some value ≡ Some sound.text = sound.there in
    let text : sound.text ≡ value = cc in
    let same : sound.option ≡ h.0 = option_word_injective sound.option h.0 (sym sound.named ∙ h.1) in
    let P : OptionWord → Type 0 = λ o. Takes o value in
    h.2 (subst P same (subst (Takes sound.option) text sound.taken))

sound_later : (command : CommandWord) (before between : List Argument) (argument : Argument) (after : List Argument) →
    SoundFrom command before (between ++ argument ∷ after) → IsSoundBehind command (before ++ between) argument
sound_later command before [] argument after sound = let P : List Argument →
    Type 0 = λ xs. IsSoundBehind command xs argument in subst P (sym (append-nil before)) sound.0
sound_later command before (first ∷ between) argument after sound =
    let P : List Argument → Type 0 = λ xs. IsSoundBehind command xs argument in
    subst P (append_assoc before (first ∷ []) between) (sound_later command (before ++ first ∷ []) between argument after sound.1)

pub sound_at : (command : CommandWord) (arguments before : List Argument) (argument : Argument) (after : List Argument) → SoundFrom command [] arguments →
    arguments ≡ before ++ argument ∷ after → IsSoundBehind command before argument
sound_at command arguments before argument after sound cut = sound_later command [] before argument after (subst (SoundFrom command []) cut sound)

pub sound_have_no_fault : (command : CommandWord) (arguments : List Argument) → SoundFrom command [] arguments → HaveNoFault command arguments
sound_have_no_fault command arguments sound what position f =
    no_fault_behind command f.before f.argument (sound_at command arguments f.before f.argument f.after sound f.cut) what position f.fault

-- ---- the first fault behind sound arguments

same_or_later : (command : CommandWord) (before sound_ones : List Argument) (argument : Argument) (after : List Argument) (at : ℕ) →
    SoundFrom command before sound_ones → StandFrom at (sound_ones ++ argument ∷ after) → (between : List Argument) (other : Argument) (rest : List Argument) →
    sound_ones ++ argument ∷ after ≡ between ++ other ∷ rest → (what : WordWhat) (position : ℕ) → HasWordFault command (before ++ between) other what position →
    HasWordFault command (before ++ sound_ones) argument what position ⊎ (next_place argument ≤ position)
same_or_later command before [] argument after at sound stand [] other rest cut what position fault =
    let same : other ≡ argument = cc in
    let P : Argument → Type 0 = λ x. HasWordFault command (before ++ []) x what position in
    inl (subst P same fault)
same_or_later command before [] argument after at sound stand (y ∷ between) other rest cut what position fault =
    let tail : after ≡ between ++ other ∷ rest = cc in
    let later = stands_behind (next_place argument) between other rest (subst (StandFrom (next_place argument)) tail stand.1) in
    let from = fault_from command (before ++ y ∷ between) other what position fault in
    inr (omega (arith, later, from))
same_or_later command before (x ∷ sound_ones) argument after at sound stand [] other rest cut what position fault =
    let same : other ≡ x = cc in
    let P : Argument → Type 0 = λ z. HasWordFault command before z what position in
    let Q : List Argument → Type 0 = λ zs. HasWordFault command zs other what position in
    absurd (no_fault_behind command before x sound.0 what position (subst P same (subst Q (append-nil before) fault)))
same_or_later command before (x ∷ sound_ones) argument after at sound stand (y ∷ between) other rest cut what position fault =
    let same : y ≡ x = cc in
    let tail : sound_ones ++ argument ∷ after ≡ between ++ other ∷ rest = cc in
    let P : List Argument → Type 0 = λ zs. HasWordFault command zs other what position in
    let shift : before ++ y ∷ between ≡ (before ++ x ∷ []) ++ between = ap (λ (z : Argument). before ++ z ∷ between) same
    ∙ sym (append_assoc before (x ∷ []) between) in
    let found = same_or_later command (before ++ x ∷ []) sound_ones argument after (next_place x) sound.1 stand.1 between other rest tail what position
    (subst P shift fault) in
    let Q : List Argument → Type 0 = λ zs. HasWordFault command zs argument what position ⊎ (next_place argument ≤ position) in
    subst Q (append_assoc before (x ∷ []) sound_ones) found

pub leftmost_from : (command : CommandWord) (arguments before : List Argument) (argument : Argument) (after : List Argument) (what : WordWhat) (position : ℕ) →
    arguments ≡ before ++ argument ∷ after → SoundFrom command [] before → StandFrom 2 arguments → IsFirstWordFault command before argument what position →
    IsLeftmost command arguments what position
leftmost_from command arguments before argument after what position cut sound stand first =
    let stand_cut = subst (StandFrom 2) cut stand in
    let to = fault_to command before argument what position first.fault in
    record {
      fault = record { before = before; argument = argument; after = after; cut = cut; fault = first.fault };
      leftmost = λ other place f.
          elim (same_or_later command [] before argument after 2 sound stand_cut f.before f.argument f.after (sym cut ∙ f.cut) other place f.fault) [
            | inl h ↦ first.leftmost other place h
            | inr later ↦ omega (arith, to, later)
          ];
      lowest = λ other f.
          elim (same_or_later command [] before argument after 2 sound stand_cut f.before f.argument f.after (sym cut ∙ f.cut) other position f.fault) [
            | inl h ↦ first.lowest other h
            | inr later ↦ absurd (omega (arith, to, later))
          ];
    }

-- ---- the same at a place of the list

pub near_at : (command : CommandWord) (arguments : List Argument) (i : ℕ) (argument : Argument) → i < length arguments →
    argument ≡ get_or arguments i argument → SoundFrom command [] (take i arguments) → StandFrom 2 arguments → IsNear argument
near_at command arguments i argument within is sound stand =
    is_near command (take i arguments) argument (drop (suc i) arguments) sound (subst (StandFrom 2) (cut_at arguments i argument within is) stand)

pub sound_more : (command : CommandWord) (arguments : List Argument) (i : ℕ) (argument : Argument) → i < length arguments →
    argument ≡ get_or arguments i argument → SoundFrom command [] (take i arguments) → IsSoundBehind command (take i arguments) argument →
    SoundFrom command [] (take (i + 1) arguments)
sound_more command arguments i argument within is sound one =
    let more : take (i + 1) arguments ≡ take i arguments ++ argument ∷ [] = take_more arguments i argument within
    ∙ ap (λ (a : Argument). take i arguments ++ a ∷ []) (sym is) in
    subst (SoundFrom command []) (sym more) (sound_push command [] (take i arguments) argument sound one)

pub leftmost_at : (command : CommandWord) (arguments : List Argument) (i : ℕ) (argument : Argument) (what : WordWhat) (position : ℕ) → i < length arguments →
    argument ≡ get_or arguments i argument → SoundFrom command [] (take i arguments) → StandFrom 2 arguments →
    IsFirstWordFault command (take i arguments) argument what position → IsLeftmost command arguments what position
leftmost_at command arguments i argument what position within is sound stand first =
    leftmost_from command arguments (take i arguments) argument (drop (suc i) arguments) what position (cut_at arguments i argument within is) sound stand first

-- ---- names, and files

pub names_most : (command : CommandWord) (arguments : List Argument) → SoundFrom command [] arguments → length (argument_names arguments) ≤ name_count command
names_most command arguments sound = names_few command [] arguments (omega arith) sound

pub all_near : (command : CommandWord) (arguments : List Argument) → SoundFrom command [] arguments → StandFrom 2 arguments → All IsNear arguments
all_near command arguments sound stand k d within =
    let near = stands_near 2 (take k arguments) (get_or arguments k d) (drop (suc k) arguments)
    (subst (StandFrom 2) (cut_at arguments k (get_or arguments k d) within (get_or_default arguments k d (get_or arguments k d) within)) stand) in
    let few = few_arguments command arguments sound in
    omega (arith, near, few, within, length-take-le k arguments (omega (arith, within)))
