-- Better values: where the two differ first, and that better is an order.
use Rattle.std.proofs.Common.{◌≡◌, ℕ, zero, suc, ◌<◌, inl, inr, List, [], ◌∷◌, take, ◌∙◌, arith}
use Rattle.std.specs.Prelude.{◌↔◌, slice_index_or}
use Rattle.plan_core.specs.declared.criterion.Criterion.{Criterion}
use Rattle.plan_core.specs.declared.criterion.Criterion.TheVariants.{Height}
use Rattle.plan_core.specs.declared.criterion.Values.{Values}
use Rattle.plan_core.specs.Values.{value_of, Better}
use Rattle.plan_core.specs.Readings.{IsLessAt}

equal_before : (c : Criterion) (rest : List Criterion) (a b : Values) (i : ℕ) → value_of a c ≡ value_of b c → IsLessAt rest a b i → (j : ℕ) → j < suc i →
    value_of a (slice_index_or (c ∷ rest) j Height) ≡ value_of b (slice_index_or (c ∷ rest) j Height)
equal_before c rest a b i same h zero before = same
equal_before c rest a b i same h (suc j) before = h.equal j (omega arith)

less_later : (c : Criterion) (rest : List Criterion) (a b : Values) (i : ℕ) → value_of a c ≡ value_of b c → IsLessAt rest a b i →
    IsLessAt (c ∷ rest) a b (suc i)
less_later c rest a b i same h = let within = h.within in record { within = omega (arith, within); less = h.less; equal = equal_before c rest a b i same h }

pub less_somewhere : (order : List Criterion) (a b : Values) → Better order a b → (i : ℕ) × IsLessAt order a b i
less_somewhere [] a b h = absurd h
less_somewhere (c ∷ rest) a b (inl less) = (0, record { within = omega arith; less = less; equal = λ j before. absurd (omega (arith, before)) })
less_somewhere (c ∷ rest) a b (inr h) = let later = less_somewhere rest a b h.1 in (suc later.0, less_later c rest a b later.0 h.0 later.1)

pub better_from : (order : List Criterion) (a b : Values) (i : ℕ) → IsLessAt order a b i → Better order a b
better_from [] a b i h = let within = h.within in absurd (omega (arith, within))
better_from (c ∷ rest) a b zero h = inl h.less
better_from (c ∷ rest) a b (suc i) h =
    let within = h.within in
    inr (
      h.equal 0 (omega arith),
      better_from rest a b i (record {
        within = omega (arith, within);
        less = h.less;
        equal = λ j before. h.equal (suc j) (omega (arith, before));
      }),
    )

pub better_is_less_somewhere : (order : List Criterion) (a b : Values) → Better order a b ↔ (i : ℕ) × IsLessAt order a b i
better_is_less_somewhere order a b = (less_somewhere order a b, λ h. better_from order a b h.0 h.1)

-- nothing is better than itself
pub Better-irreflexive : (order : List Criterion) (a : Values) → Better order a a → ⊥
Better-irreflexive [] a h = h
Better-irreflexive (c ∷ rest) a (inl less) = omega (arith, less)
Better-irreflexive (c ∷ rest) a (inr h) = Better-irreflexive rest a h.1

pub Better-transitive : (order : List Criterion) (a b c : Values) → Better order a b → Better order b c → Better order a c
Better-transitive [] a b c h k = h
Better-transitive (q ∷ rest) a b c (inl h) (inl k) = inl (omega (arith, h, k))
Better-transitive (q ∷ rest) a b c (inl h) (inr k) = let same = k.0 in inl (omega (arith, h, same))
Better-transitive (q ∷ rest) a b c (inr h) (inl k) = let same = h.0 in inl (omega (arith, same, k))
Better-transitive (q ∷ rest) a b c (inr h) (inr k) = inr (h.0 ∙ k.0, Better-transitive rest a b c h.1 k.1)
