-- Criteria that stand once each.
use Rattle.std.proofs.Common.{◌≡◌, ◌≢◌, ℕ, zero, suc, ◌+◌, ◌<◌, ◌≤◌, true, false, ◌||◌, List, [], ◌∷◌, ◌++◌, length, take, map, get_or, refl, sym, ◌∙◌, ap}
use Rattle.std.proofs.Common.{subst, arith}
use Rattle.std.proofs.Math.Dec.{eqb}
use Rattle.std.specs.Prelude.{AllPairs, Contains}
use Rattle.std.specs.List.{list_any}
use Rattle.std.proofs.lemmas.Bool.{ne_eqb, eqb-true, false≢true}
use Rattle.std.proofs.lemmas.List.{take_more, get_or-map, get_or_default, length-map}
use Rattle.std.proofs.lemmas.List.Quantifiers.{all_pairs_push}
use Rattle.std.proofs.lemmas.Map.Keys.{IsDistinct-from_apart}
use Rattle.std.proofs.lemmas.Map.Steps.{length-le_from_distinct_below}
use Rattle.plan_core.specs.declared.criterion.Criterion.{Criterion}
use Rattle.plan_core.specs.declared.criterion.Criterion.TheVariants.{Height, Bends, Diagonal, Width}

-- a number for each criterion
abbrev rank : Criterion → ℕ
rank Height = 0
rank Bends = 1
rank Diagonal = 2
rank Width = 3

rank_is_small : (c : Criterion) → rank c < 4
rank_is_small Height = omega arith
rank_is_small Bends = omega arith
rank_is_small Diagonal = omega arith
rank_is_small Width = omega arith

abbrev of_rank : ℕ → Criterion
of_rank zero = Height
of_rank (suc zero) = Bends
of_rank (suc (suc zero)) = Diagonal
of_rank other = Width

of_rank-rank : (c : Criterion) → of_rank (rank c) ≡ c
of_rank-rank Height = refl
of_rank-rank Bends = refl
of_rank-rank Diagonal = refl
of_rank-rank Width = refl

rank_injective : (c d : Criterion) → rank c ≡ rank d → c ≡ d
rank_injective c d e = sym (of_rank-rank c) ∙ ap of_rank e ∙ of_rank-rank d

ranks_are_small : (list : List Criterion) (q : ℕ) → list_any (eqb q) (map rank list) ≡ true → q < 4
ranks_are_small [] q h = absurd (false≢true h)
ranks_are_small (c ∷ list) q h =
    elim (eqb q (rank c)) as (λ b. eqb q (rank c) ≡ b → (b || list_any (eqb q) (map rank list)) ≡ true → q < 4) [
      | true ↦ λ e _. let k : q ≡ rank c = eqb-true q (rank c) e in let m = rank_is_small c in omega (arith, k, m)
      | false ↦ λ _ more. ranks_are_small list q more
    ] refl h

-- criteria that stand once each are at most four
pub few_criteria : (list : List Criterion) → AllPairs (λ c d. c ≢ d) list → length list ≤ 4
few_criteria list apart =
    let n : length (map rank list) ≡ length list = length-map list rank in
    let distinct : (i j : ℕ) (d : ℕ) → i < j → j < length (map rank list) → eqb (get_or (map rank list) i d) (get_or (map rank list) j d) ≡ false =
    λ i j d less within.
    let jn : j < length list = omega arith in
    let in_i : i < length list = omega arith in
    let ei : get_or (map rank list) i d ≡ rank (get_or list i Height) = get_or-map rank list i Height d in_i in
    let ej : get_or (map rank list) j d ≡ rank (get_or list j Height) = get_or-map rank list j Height d jn in
    ne_eqb (get_or (map rank list) i d) (get_or (map rank list) j d) (λ e. apart i j Height less jn
    (rank_injective (get_or list i Height) (get_or list j Height) (sym ei ∙ e ∙ ej)))
    in
    let most = length-le_from_distinct_below (map rank list) 4 (IsDistinct-from_apart eqb (map rank list) distinct) (ranks_are_small list) in
    omega (arith, n, most)

-- one more criterion, that isn't among those before it
pub once_more : (list : List Criterion) (i : ℕ) (c : Criterion) → i < length list → get_or list i c ≡ c → (Contains (take i list) c → ⊥) →
    AllPairs (λ c d. c ≢ d) (take i list) → AllPairs (λ c d. c ≢ d) (take (i + 1) list)
once_more list i c within is_c absent apart =
    let P : List Criterion → Type 0 = λ xs. AllPairs (λ c d. c ≢ d) xs in
    let e : take (i + 1) list ≡ take i list ++ c ∷ [] = take_more list i c within ∙ ap (λ x. take i list ++ x ∷ []) is_c in
    subst P (sym e) (all_pairs_push (λ c d. c ≢ d) (take i list) c apart (λ k d kn same.
    absent (k, kn, get_or_default (take i list) k c d kn ∙ same)))
