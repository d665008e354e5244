-- Lines that are written one after another.
use Rattle.std.specs.Prelude.{◌≡◌, ℕ, List, ◌∷◌, ◌++◌, codes}
use Rattle.std.proofs.Common.{sym, ap, ◌∙◌, append_assoc}
use Rattle.std.proofs.lemmas.Grind.{flat_map-append}
use Rattle.outside_io.specs.Fields.{spaced, line_text}

-- a line of which the first fields are appended first
pub line_with_head : (first : List ℕ) (xs ys : List (List ℕ)) (old one two three : List ℕ) → one ≡ old ++ (first ++ spaced xs) → two ≡ one ++ spaced ys →
    three ≡ two ++ codes "\n" → three ≡ old ++ line_text first (xs ++ ys)
line_with_head first xs ys old one two three a b c =
    c
    ∙ ap (λ (t : List ℕ). t ++ codes "\n") (b ∙ ap (λ (t : List ℕ). t ++ spaced ys) a ∙ append_assoc old (first ++ spaced xs) (spaced ys))
    ∙ append_assoc old ((first ++ spaced xs) ++ spaced ys) (codes "\n")
    ∙ ap (λ (t : List ℕ). old ++ (t ++ codes "\n")) (append_assoc first (spaced xs) (spaced ys)
    ∙ ap (λ (t : List ℕ). first ++ t) (sym (flat_map-append (λ (field : List ℕ). 32 ∷ field) xs ys)))

pub line_in_two : (first : List ℕ) (xs ys : List (List ℕ)) (old one two three four : List ℕ) → one ≡ old ++ first → two ≡ one ++ spaced xs →
    three ≡ two ++ spaced ys → four ≡ three ++ codes "\n" → four ≡ old ++ line_text first (xs ++ ys)
line_in_two first xs ys old one two three four a b c d =
    line_with_head first xs ys old two three four (b ∙ ap (λ (t : List ℕ). t ++ spaced xs) a ∙ append_assoc old first (spaced xs)) c d
