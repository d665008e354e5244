-- The criteria of an order, one word after another.
use Rattle.std.proofs.Common.{◌≡◌, ℕ, ◌+◌, ◌<◌, List, ◌∷◌, ◌++◌, Some, map, drop, length, sym, ◌∙◌, ap, append_assoc}
use Rattle.std.specs.Prelude.{slice_get}
use Rattle.std.proofs.lemmas.List.{at_drop_more}
use Rattle.std.proofs.lemmas.Option.{get_or_from_slice_get}
use Rattle.plan_core.specs.declared.criterion.Criterion.{Criterion}
use Rattle.outside_io.specs.Fields.{spaced}
use Rattle.outside_io.specs.Criteria.{criterion_word}

pub one_word_more : (order : List Criterion) (i : ℕ) (c : Criterion) (before after whole : List ℕ) → i < length order → slice_get order i ≡ Some c →
    after ≡ before ++ (32 ∷ criterion_word c) → before ++ spaced (map criterion_word (drop i order)) ≡ whole →
    after ++ spaced (map criterion_word (drop (i + 1) order)) ≡ whole
one_word_more order i c before after whole within is_c grown so_far =
    let rest = drop (i + 1) order in
    let left : drop i order ≡ c ∷ rest = at_drop_more (λ xs. xs) order i c within ∙ ap (λ x. x ∷ rest) (get_or_from_slice_get order i c c is_c) in
    ap (λ xs. xs ++ spaced (map criterion_word rest)) grown
    ∙ append_assoc before (32 ∷ criterion_word c) (spaced (map criterion_word rest))
    ∙ ap (λ xs. before ++ spaced (map criterion_word xs)) (sym left)
    ∙ so_far
