-- The first of a list that passes a test.
use Rattle.std.proofs.Common.{◌≡◌, ℕ, ◌<◌, ◌+◌, Bool, true, List, [], ◌∷◌, ◌++◌, length, Some, slice_get, take, drop, filter, get_or, sym, ◌∙◌, ap}
use Rattle.std.proofs.Common.{if◌then◌else◌}
use Rattle.std.proofs.lemmas.List.{take-append-drop}
use Rattle.std.proofs.lemmas.List.Elements.{filter_more, filter-append}

pub first_passes : {X : Type 0} (p : X → Bool) (xs : List X) (i : ℕ) (d : X) → i < length xs → filter p (take i xs) ≡ [] → p (get_or xs i d) ≡ true →
    slice_get (filter p xs) 0 ≡ Some (get_or xs i d)
first_passes {X} p xs i d within none here =
    let more : filter p (take (i + 1) xs) ≡ get_or xs i d ∷ [] = filter_more p xs i d within
    ∙ (ap (λ b. filter p (take i xs) ++ (if b then get_or xs i d ∷ [] else [])) here ∙ ap (λ l. l ++ get_or xs i d ∷ []) none) in
    ap (λ l. slice_get l 0) (ap (filter p) (sym (take-append-drop (i + 1) xs)) ∙ (filter-append p (take (i + 1) xs) (drop (i + 1) xs)
    ∙ ap (λ l. l ++ filter p (drop (i + 1) xs)) more))
