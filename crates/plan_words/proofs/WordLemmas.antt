-- Whether a word is among others.
use Rattle.std.proofs.Common.{◌≡◌, ℕ, suc, ◌<◌, ◌≤◌, true, false, List, ◌∷◌, ◌++◌, length, take, drop, get_or, refl, sym, ap, subst, ◌∙◌, arith}
use Rattle.std.specs.Prelude.{Option, Contains}
use Rattle.std.proofs.Math.Seq.{drop-cons}
use Rattle.std.proofs.lemmas.List.{take-append-drop, drop_all}
use Rattle.std.proofs.lemmas.Grind.{flat_map-append}
use Rattle.std.specs.Bool.{Decides}
use Rattle.std.specs.List.{list_any}
use Rattle.std.specs.Str.{bytes_eq}
use Rattle.std.proofs.lemmas.Bool.Decides.{Decides-by_or}
use Rattle.std.proofs.lemmas.List.Elements.{Decides-contains, Contains-append_right}
use Rattle.std.proofs.lemmas.Slice.Eq.{bytes_eq-Decides}
use Rattle.plan_words.specs.declared.arguments.Argument.{Argument}
use Rattle.plan_words.specs.declared.arguments.Argument.TheVariants.{Setting}
use Rattle.plan_words.specs.Arguments.{option_of, options_in}

pub word_decides : (words : List (List ℕ)) (word : List ℕ) → Decides (list_any (λ other. bytes_eq other word) words) (Contains words word)
word_decides words word =
    Decides-contains words word (list_any (λ other. bytes_eq other word) words)
    (Decides-by_or (λ other. bytes_eq other word) (λ other. other ≡ word) (list_any (λ other. bytes_eq other word)) (λ other. bytes_eq-Decides other word) refl
    (λ _ _. refl) words)

-- a list is cut at one of its places
pub cut_at : {X : Type 0} (xs : List X) (i : ℕ) (x : X) → i < length xs → x ≡ get_or xs i x → xs ≡ take i xs ++ x ∷ drop (suc i) xs
cut_at xs i x within is =
    sym (take-append-drop i xs)
    ∙ ap (λ ys. take i xs ++ ys) (drop-cons xs i x within ∙ ap (λ y. y ∷ drop (suc i) xs) (sym is))

pub option_found : (arguments : List Argument) (i : ℕ) (argument : Argument) (at : ℕ) (word : List ℕ) (value : Option (List ℕ)) (option : List ℕ) →
    i < length arguments → argument ≡ get_or arguments i argument → argument ≡ Setting at word value → bytes_eq word option ≡ true →
    Contains (options_in arguments) option
option_found arguments i argument at word value option within there is same =
    let e : word ≡ option = (bytes_eq-Decides word option).0 same in
    let cut : options_in arguments ≡ options_in (take i arguments) ++ option ∷ options_in (drop (suc i) arguments) =
    ap options_in (cut_at arguments i argument within there)
    ∙ flat_map-append option_of (take i arguments) (argument ∷ drop (suc i) arguments)
    ∙ ap (λ (a : Argument). options_in (take i arguments) ++ (option_of a ++ options_in (drop (suc i) arguments))) is
    ∙ ap (λ (w : List ℕ). options_in (take i arguments) ++ (w ∷ options_in (drop (suc i) arguments))) e
    in
    let P : List (List ℕ) → Type 0 = λ words. Contains words option in
    subst P (sym cut) (Contains-append_right (options_in (take i arguments)) (option ∷ options_in (drop (suc i) arguments)) option (0, omega arith, refl))

pub option_absent : (arguments : List Argument) (i : ℕ) (option : List ℕ) → length arguments ≤ i →
    list_any (λ word. bytes_eq word option) (options_in (drop i arguments)) ≡ list_any (λ word. bytes_eq word option) (options_in arguments) →
    Contains (options_in arguments) option → ⊥
option_absent arguments i option all left there =
    let none : list_any (λ word. bytes_eq word option) (options_in (drop i arguments)) ≡ false = ap
    (λ (rest : List Argument). list_any (λ word. bytes_eq word option) (options_in rest)) (drop_all i arguments all) in
    let some : list_any (λ word. bytes_eq word option) (options_in arguments) ≡ true = (word_decides (options_in arguments) option).1 there in
    cc
