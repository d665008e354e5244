-- The text of an order, cut at its commas.
use Rattle.std.proofs.Common.{◌≡◌, ◌≢◌, ℕ, ◌+◌, ◌<◌, ◌≤◌, false, List, [], ◌∷◌, ◌++◌, length, take, get_or, map, eqb, refl, sym, ap, subst, ◌∙◌, arith}
use Rattle.std.specs.Prelude.{Option, None, Some, if◌then◌else◌, ◌==◌, MatchOption, SomeIff}
use Rattle.std.specs.List.{All, slice_split, join_with_byte}
use Rattle.std.proofs.lemmas.List.{take_more, take_all, get_or-map, length-map, map-append}
use Rattle.std.proofs.lemmas.List.Elements.{All-from_recursion}
use Rattle.std.proofs.lemmas.List.Splits.{slice_split_none, slice_split_at, join_with_byte-slice_split}
use Rattle.plan_core.specs.declared.criterion.Criterion.{Criterion}
use Rattle.plan_core.specs.declared.criterion.Criterion.TheVariants.{Height, Bends, Diagonal, Width}
use Rattle.plan_core.specs.Order.{IsOrder}
use Rattle.plan_core.proofs.OrderLemmas.{few_criteria}
use Rattle.outside_io.specs.Criteria.{criterion_word}
use Rattle.plan_words.specs.OptionValues.{criteria_text, IsOrderText, IsPairText}

abbrev pub pieces : List ℕ → List (List ℕ)
pieces text = slice_split (λ b. eqb b 44) text

no_comma : (c : Criterion) → All (λ b. eqb b 44 ≡ false) (criterion_word c)
no_comma Height = All-from_recursion (λ b. eqb b 44 ≡ false) (criterion_word Height) (refl, (refl, (refl, (refl, (refl, (refl, tt))))))
no_comma Bends = All-from_recursion (λ b. eqb b 44 ≡ false) (criterion_word Bends) (refl, (refl, (refl, (refl, (refl, tt)))))
no_comma Diagonal = All-from_recursion (λ b. eqb b 44 ≡ false) (criterion_word Diagonal) (refl, (refl, (refl, (refl, (refl, (refl, (refl, (refl, tt))))))))
no_comma Width = All-from_recursion (λ b. eqb b 44 ≡ false) (criterion_word Width) (refl, (refl, (refl, (refl, (refl, tt)))))

pub pieces-criteria_text : (c : Criterion) (rest : List Criterion) → pieces (criteria_text (c ∷ rest)) ≡ map criterion_word (c ∷ rest)
pieces-criteria_text c [] = slice_split_none (λ b. eqb b 44) (criterion_word c) (no_comma c)
pieces-criteria_text c (d ∷ rest) =
    slice_split_at (λ b. eqb b 44) (criterion_word c) 44 (criteria_text (d ∷ rest)) (no_comma c) refl
    ∙ ap (λ (ps : List (List ℕ)). criterion_word c ∷ ps) (pieces-criteria_text d rest)

pieces_are : (text : List ℕ) (order : List Criterion) → 1 ≤ length order → text ≡ criteria_text order → pieces text ≡ map criterion_word order
pieces_are text [] some is = absurd (omega arith)
pieces_are text (c ∷ rest) some is = ap pieces is ∙ pieces-criteria_text c rest

-- the piece at n is this word
abbrev pub IsPiece : List ℕ → ℕ → List ℕ → Type 0
IsPiece text n word = (n < length (pieces text)) × (word ≡ get_or (pieces text) n word)

pub wrong_word : (text word : List ℕ) (n : ℕ) → IsPiece text n word → ((c : Criterion) → word ≢ criterion_word c) → (order : List Criterion) →
    1 ≤ length order → text ≢ criteria_text order
wrong_word text word n piece none order some is =
    let words : pieces text ≡ map criterion_word order = pieces_are text order some is in
    let count : length (pieces text) ≡ length order = ap length words ∙ length-map order criterion_word in
    let within = piece.0 in
    let n_within : n < length order = omega (arith, within, count) in
    none (get_or order n Height) (piece.1 ∙ ap (λ (ps : List (List ℕ)). get_or ps n word) words ∙ get_or-map criterion_word order n Height word n_within)

pub too_many_words : (text word : List ℕ) (n : ℕ) → IsPiece text n word → 4 ≤ n → (order : List Criterion) → 1 ≤ length order → length order ≤ 4 →
    text ≢ criteria_text order
too_many_words text word n piece many order some few is =
    let count : length (pieces text) ≡ length order = ap length (pieces_are text order some is) ∙ length-map order criterion_word in
    let within = piece.0 in
    omega (arith, within, count)

pub one_word_more : (text word : List ℕ) (n : ℕ) (list longer : List Criterion) (c : Criterion) → IsPiece text n word → word ≡ criterion_word c →
    map criterion_word list ≡ take n (pieces text) → longer ≡ list ++ c ∷ [] → map criterion_word longer ≡ take (n + 1) (pieces text)
one_word_more text word n list longer c piece is read put =
    ap (map criterion_word) put
    ∙ map-append criterion_word list (c ∷ [])
    ∙ ap (λ (ws : List (List ℕ)). ws ++ criterion_word c ∷ []) read
    ∙ ap (λ (w : List ℕ). take n (pieces text) ++ w ∷ []) (sym is ∙ piece.1)
    ∙ sym (take_more (pieces text) n word piece.0)

pub all_words : (text : List ℕ) (n : ℕ) (list : List Criterion) → n ≡ length (pieces text) → map criterion_word list ≡ take n (pieces text) →
    text ≡ criteria_text list
all_words text n list all read =
    sym (join_with_byte-slice_split 44 text)
    ∙ ap (join_with_byte 44) (sym (read ∙ take_all n (pieces text) (omega arith)))

pub not_an_order : (text : List ℕ) → ((list : List Criterion) → 1 ≤ length list → length list ≤ 4 → text ≢ criteria_text list) → (order : List Criterion) →
    IsOrderText text order → ⊥
not_an_order text none order is = none order is.is_order.some (few_criteria order is.is_order.each_once) is.written

-- ---- a text is that of one order

abbrev criterion_at : List ℕ → Criterion
criterion_at [] = Height
criterion_at (b ∷ bytes) = if b == 104 then Height else if b == 98 then Bends else if b == 100 then Diagonal else Width

criterion_at-word : (c : Criterion) → criterion_at (criterion_word c) ≡ c
criterion_at-word Height = refl
criterion_at-word Bends = refl
criterion_at-word Diagonal = refl
criterion_at-word Width = refl

criteria_at-words : (list : List Criterion) → map criterion_at (map criterion_word list) ≡ list
criteria_at-words [] = refl
criteria_at-words (c ∷ list) =
    ap (λ (d : Criterion). d ∷ map criterion_at (map criterion_word list)) (criterion_at-word c)
    ∙ ap (λ (cs : List Criterion). c ∷ cs) (criteria_at-words list)

word_not_empty : (c : Criterion) → 0 < length (criterion_word c)
word_not_empty Height = omega arith
word_not_empty Bends = omega arith
word_not_empty Diagonal = omega arith
word_not_empty Width = omega arith

some_text : (c : Criterion) (rest : List Criterion) → criteria_text (c ∷ rest) ≡ [] → ⊥
some_text c rest is =
    let word : [] ∷ [] ≡ map criterion_word (c ∷ rest) = ap pieces (sym is) ∙ pieces-criteria_text c rest in
    let some = word_not_empty c in
    let long : 0 ≡ length (criterion_word c) = ap (λ (ps : List (List ℕ)). length (get_or ps 0 [])) word in
    omega (arith, some, long)

pub criteria_text_injective : (a b : List Criterion) → criteria_text a ≡ criteria_text b → a ≡ b
criteria_text_injective [] [] is = refl
criteria_text_injective [] (d ∷ rest) is = absurd (some_text d rest (sym is))
criteria_text_injective (c ∷ rest) [] is = absurd (some_text c rest is)
criteria_text_injective (c ∷ rest) (d ∷ others) is =
    sym (criteria_at-words (c ∷ rest))
    ∙ ap (map criterion_at) (sym (pieces-criteria_text c rest) ∙ ap pieces is ∙ pieces-criteria_text d others)
    ∙ criteria_at-words (d ∷ others)

pub order_or_none : (text : List ℕ) (list : List Criterion) (r : Option (List Criterion)) → text ≡ criteria_text list → SomeIff r (IsOrder list) list →
    MatchOption r ((order : List Criterion) → IsOrderText text order → ⊥) (IsOrderText text)
order_or_none text list None is none = λ order other. none (subst IsOrder (criteria_text_injective order list (sym other.written ∙ is)) other.is_order)
order_or_none text list (Some order) is (is_order, same) = record { written = is ∙ ap criteria_text (sym same); is_order = subst IsOrder (sym same) is_order }

-- ---- two criteria

pub pair_or_none : (text : List ℕ) (list : List Criterion) (r : Option (Criterion × Criterion)) → text ≡ criteria_text list →
    MatchOption r ((a b : Criterion) → a ≢ b → list ≢ a ∷ b ∷ []) (λ pair. (pair.0 ≢ pair.1) × (list ≡ pair.0 ∷ pair.1 ∷ [])) →
    MatchOption r ((a b : Criterion) → IsPairText text a b → ⊥) (λ pair. IsPairText text pair.0 pair.1)
pair_or_none text list None is none = λ a b p. none a b p.apart (criteria_text_injective list (a ∷ b ∷ []) (sym is ∙ p.written))
pair_or_none text list (Some pair) is (apart, same) = record { written = is ∙ ap criteria_text same; apart = apart }
