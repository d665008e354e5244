-- How the words in front are cut.
use Rattle.std.proofs.Common.{◌≡◌, ℕ, ◌+◌, ◌-◌, ◌≤◌, true, false, None, Some, List, [], ◌∷◌, ◌++◌, length, take, drop, get_or, string_bytes, refl, sym, ap}
use Rattle.std.proofs.Common.{◌∙◌, append_assoc, length-drop, arith}
use Rattle.std.proofs.lemmas.List.{take_rest}
use Rattle.std.specs.Prelude.{◌*◌, if◌then◌else◌, Option}
use Rattle.std.specs.declared.string.String.{String}
use Rattle.std.specs.declared.alloc.Global.{Global}
use Rattle.plan_words.specs.declared.arguments.Argument.{Argument}
use Rattle.plan_words.specs.declared.arguments.Argument.TheVariants.{Name, Setting}
use Rattle.plan_words.specs.Arguments.{texts_of, is_option, first_word, arguments_from}

setting_in_front : (at : ℕ) (word : List ℕ) (words : List (List ℕ)) → is_option word ≡ true →
    arguments_from at (word ∷ words) ≡ Setting at word (first_word words) ∷ arguments_from (at + 2) (drop 1 words)
setting_in_front at word [] is = rw is refl
setting_in_front at word (next ∷ words) is = rw is refl

name_in_front : (at : ℕ) (word : List ℕ) (words : List (List ℕ)) → is_option word ≡ false →
    arguments_from at (word ∷ words) ≡ Name at word ∷ arguments_from (at + 1) words
name_in_front at word [] is = rw is refl
name_in_front at word (next ∷ words) is = rw is refl

-- the words from the front of a list
record Front (words : List (String Global)) (front : String Global) : Type 0 where
  rest : List (String Global)
  cut : words ≡ front ∷ rest
  tail : take (length words - 1) (drop 1 words) ≡ rest

front_of : (words : List (String Global)) (front : String Global) → 1 ≤ length words → front ≡ get_or words 0 front → Front words front
front_of [] front some is = absurd (omega arith)
front_of (word ∷ words) front some is = record { rest = words; cut = ap (λ w. w ∷ words) (sym is); tail = take_rest (word ∷ words) 1 }

texts_of-drop : (words : List (String Global)) → drop 1 (texts_of words) ≡ texts_of (drop 1 words)
texts_of-drop [] = refl
texts_of-drop (word ∷ words) = refl

pub setting_taken : (items done : List Argument) (at : ℕ) (words : List (String Global)) (front : String Global) (word : List ℕ) (value : Option (List ℕ))
    (others : List (String Global)) → 1 ≤ length words → front ≡ get_or words 0 front → word ≡ string_bytes front → is_option (string_bytes front) ≡ true →
    value ≡ first_word (texts_of (take (length words - 1) (drop 1 words))) → others ≡ drop 1 (take (length words - 1) (drop 1 words)) →
    done ≡ items ++ Setting at word value ∷ [] → done ++ arguments_from (at + 2) (texts_of others) ≡ items ++ arguments_from at (texts_of words)
setting_taken items done at words front word value others some is copied option first behind put =
    let f = front_of words front some is in
    let copied_value : value ≡ first_word (texts_of f.rest) = first ∙ ap (λ (ws : List (String Global)). first_word (texts_of ws)) f.tail in
    let left : texts_of others ≡ drop 1 (texts_of f.rest) = ap texts_of (behind ∙ ap (drop 1) f.tail) ∙ sym (texts_of-drop f.rest) in
    ap (λ (xs : List Argument). xs ++ arguments_from (at + 2) (texts_of others)) put
    ∙ append_assoc items (Setting at word value ∷ []) (arguments_from (at + 2) (texts_of others))
    ∙ ap (λ (ws : List (List ℕ)). items ++ (Setting at word value ∷ arguments_from (at + 2) ws)) left
    ∙ ap (λ (w : List ℕ). items ++ (Setting at w value ∷ arguments_from (at + 2) (drop 1 (texts_of f.rest)))) copied
    ∙ ap (λ (v : Option (List ℕ)). items ++ (Setting at (string_bytes front) v ∷ arguments_from (at + 2) (drop 1 (texts_of f.rest)))) copied_value
    ∙ ap (λ (xs : List Argument). items ++ xs) (sym (setting_in_front at (string_bytes front) (texts_of f.rest) option))
    ∙ ap (λ (ws : List (String Global)). items ++ arguments_from at (texts_of ws)) (sym f.cut)

pub name_taken : (items done : List Argument) (at : ℕ) (words : List (String Global)) (front : String Global) (word : List ℕ) → 1 ≤ length words →
    front ≡ get_or words 0 front → word ≡ string_bytes front → is_option (string_bytes front) ≡ false → done ≡ items ++ Name at word ∷ [] →
    done ++ arguments_from (at + 1) (texts_of (take (length words - 1) (drop 1 words))) ≡ items ++ arguments_from at (texts_of words)
name_taken items done at words front word some is copied option put =
    let f = front_of words front some is in
    ap (λ (xs : List Argument). xs ++ arguments_from (at + 1) (texts_of (take (length words - 1) (drop 1 words)))) put
    ∙ append_assoc items (Name at word ∷ []) (arguments_from (at + 1) (texts_of (take (length words - 1) (drop 1 words))))
    ∙ ap (λ (ws : List (String Global)). items ++ (Name at word ∷ arguments_from (at + 1) (texts_of ws))) f.tail
    ∙ ap (λ (w : List ℕ). items ++ (Name at w ∷ arguments_from (at + 1) (texts_of f.rest))) copied
    ∙ ap (λ (xs : List Argument). items ++ xs) (sym (name_in_front at (string_bytes front) (texts_of f.rest) option))
    ∙ ap (λ (ws : List (String Global)). items ++ arguments_from at (texts_of ws)) (sym f.cut)

-- the next position and what is left, beside the whole
behind_front : (words : List (String Global)) → length (take (length words - 1) (drop 1 words)) ≡ length words - 1
behind_front words = ap length (take_rest words 1) ∙ length-drop 1 words

pub setting_place : (at whole : ℕ) (words others : List (String Global)) → 1 ≤ length words → others ≡ drop 1 (take (length words - 1) (drop 1 words)) →
    at + length words ≤ whole + 2 + (1 - length words) → at + 2 + length others ≤ whole + 2 + (1 - length others)
setting_place at whole words others some behind place =
    let n : length others ≡ length words - 1 - 1 = ap length behind ∙ length-drop 1 (take (length words - 1) (drop 1 words))
    ∙ ap (λ (k : ℕ). k - 1) (behind_front words) in
    omega arith

pub name_place : (at whole : ℕ) (words : List (String Global)) → 1 ≤ length words → at + length words ≤ whole + 2 + (1 - length words) →
    at + 1 + length (take (length words - 1) (drop 1 words)) ≤ whole + 2 + (1 - length (take (length words - 1) (drop 1 words)))
name_place at whole words some place = let n = behind_front words in omega arith

-- ---- the whole

pub texts_front : (words : List (String Global)) (front : String Global) → 1 ≤ length words → front ≡ get_or words 0 front →
    texts_of words ≡ string_bytes front ∷ texts_of (take (length words - 1) (drop 1 words))
texts_front words front some is =
    let f = front_of words front some is in
    ap texts_of f.cut ∙ ap (λ (rest : List (String Global)). string_bytes front ∷ texts_of rest) (sym f.tail)

-- each argument has at most two words
pub words_few : (at : ℕ) (words : List (List ℕ)) → length words ≤ 2 * length (arguments_from at words)
words_few at [] = omega arith
words_few at (word ∷ []) =
    elim (is_option word) as (λ b. 1 ≤ 2 * length ((if b then Setting at word None else Name at word) ∷ [])) [ true ↦ omega arith | false ↦ omega arith ]
words_few at (word ∷ next ∷ words) =
    let two = words_few (at + 2) words in
    let one = words_few (at + 1) (next ∷ words) in
    elim (is_option word) as (λ b. length (word ∷ next ∷ words) ≤ 2 * length (if b then Setting at word (Some next) ∷ arguments_from (at + 2) words else Name at
    word ∷ arguments_from (at + 1) (next ∷ words))) [
      | true ↦ omega (arith, two)
      | false ↦ omega (arith, one)
    ]
