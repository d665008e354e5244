-- How far a law holds: how that begins, each step, and how it ends.
use Rattle.std.specs.Prelude.{◌≡◌, ℕ, ◌+◌, ◌<◌, ◌≤◌}
use Rattle.std.proofs.Common.{inl, inr, subst, arith}
use Rattle.std.proofs.lemmas.Bool.{cases_lt}
use Rattle.plan_core.proofs.TruthFacts.{below_or_is}
use Rattle.lawful_check.specs.Holding.{Where, HoldsTo, HoldsForAll, HoldsToPair, HoldsForPairs}

-- ---- one party

pub to_on : (C S : ℕ → Type 0) (n : ℕ) → HoldsTo C S n → S n → HoldsTo C S (n + 1)
to_on C S n so_far here = record {
  each = λ m less. elim (below_or_is m n less) [
    | inl before ↦ so_far.each m before
    | inr same ↦ record { met = λ is. subst S (back same) here }
  ];
}
  where
    back : {a b : ℕ} → a ≡ b → b ≡ a
    back e = search e

pub to_all : (S : ℕ → Type 0) (count n : ℕ) → count ≤ n → HoldsTo (λ m. m < count) S n → HoldsForAll (λ m. m < count) S
to_all S count n past all = record { each = λ m. record { met = λ is. (all.each m (omega (arith, is, past))).met is } }

pub pair_on : (C S : ℕ → ℕ → Type 0) (a b : ℕ) → HoldsToPair C S a b → Where (C a b) (S a b) → HoldsToPair C S a (b + 1)
pair_on C S a b so_far here = record {
  each = λ c d earlier. elim earlier [
    | inl less ↦ so_far.each c d (inl less)
    | inr same ↦ (elim (below_or_is d b same.1) [
      | inl before ↦ so_far.each c d (inr (same.0, before))
      | inr is ↦ subst (λ (x : ℕ). Where (C x d) (S x d)) (back same.0) (subst (λ (x : ℕ). Where (C a x) (S a x)) (back is) here)
    ])
  ];
}
  where
    back : {a b : ℕ} → a ≡ b → b ≡ a
    back e = search e

-- of no pair up to n in this row the law speaks
pub pair_from : (C S : ℕ → ℕ → Type 0) (a n : ℕ) → ((b : ℕ) → b < n → C a b → ⊥) → HoldsToPair C S a 0 → HoldsToPair C S a n
pair_from C S a n none so_far = record {
  each = λ c d earlier. elim earlier [
    | inl less ↦ so_far.each c d (inl less)
    | inr same ↦ record { met = λ is. absurd (none d same.1 (subst (λ (x : ℕ). C x d) same.0 is)) }
  ];
}

-- of no pair from here on in this row the law speaks
pub row_ends : (C S : ℕ → ℕ → Type 0) (a count : ℕ) → ((b : ℕ) → count ≤ b → C a b → ⊥) → HoldsToPair C S a count → HoldsToPair C S (a + 1) 0
row_ends C S a count none so_far = record {
  each = λ c d earlier. elim earlier [
    | inl less ↦ (elim (below_or_is c a less) [
      | inl before ↦ so_far.each c d (inl before)
      | inr is ↦ (elim (cases_lt d count) [
        | inl within ↦ so_far.each c d (inr (is, within))
        | inr past ↦ record { met = λ speaks. absurd (none d past (subst (λ (x : ℕ). C x d) is speaks)) }
      ])
    ])
    | inr same ↦ (let less = same.1 in absurd (omega arith))
  ];
}

-- of no pair with a first party from count on the law speaks
pub pairs_end : (C S : ℕ → ℕ → Type 0) (count : ℕ) → ((a b : ℕ) → count ≤ a → C a b → ⊥) → HoldsToPair C S count 0 → HoldsForPairs C S
pairs_end C S count none all = record {
  each = λ a b. elim (cases_lt a count) [
    | inl within ↦ all.each a b (inl within)
    | inr past ↦ record { met = λ is. absurd (none a b past is) }
  ];
}
