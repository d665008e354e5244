-- Tests together with the facts that they decide, and tests of a whole made from tests of its parts.
use Rattle.std.proofs.Common.{◌≡◌, ℕ, zero, suc, ◌<◌, ◌≤◌, ◌⊎◌, Bool, true, false, not, ◌&&◌, ◌||◌, ◌==◌, nat_lt, List, refl, arith, ℤ, ◌<ℤ◌, int_eq, leb-true}
use Rattle.std.proofs.Common.{le-leb}
use Rattle.std.specs.Prelude.{nat_le, int_lt, All}
use Rattle.std.specs.List.{list_all}
use Rattle.std.specs.Bool.{Decides}
use Rattle.std.proofs.lemmas.Bool.{false≢true}
use Rattle.std.proofs.lemmas.Bool.Decides.{Decides-eqb, Decides-int_eq, Decides-ltb, Decides-and, Decides-or, Decides-not, Decides-like, Decides-below_and}
use Rattle.std.proofs.lemmas.Bool.Decides.{Decides-by_and, not_from_Decides}
use Rattle.std.proofs.lemmas.Int.{ints}

-- a test that passes exactly where the fact holds
pub record Test (Fact : Type 0) : Type 0 where
  pub passes : Bool
  pub decides : Decides passes Fact

-- what a passed test shows, and a failed one
pub shown : {Fact : Type 0} (t : Test Fact) → t.passes ≡ true → Fact
shown t = t.decides.0

pub refuted : {Fact : Type 0} (t : Test Fact) → t.passes ≡ false → Fact → ⊥
refuted t = not_from_Decides t.passes t.decides

-- numbers

abbrev pub are_equal : (a b : ℕ) → Test (a ≡ b)
are_equal a b = record { passes = a == b; decides = Decides-eqb a b }

abbrev pub is_below : (a b : ℕ) → Test (a < b)
is_below a b = record { passes = nat_lt a b; decides = Decides-ltb a b }

pub decides_at_most : (a b : ℕ) → Decides (nat_le a b) (a ≤ b)
decides_at_most a b = (leb-true a b, le-leb a b)

abbrev pub is_at_most : (a b : ℕ) → Test (a ≤ b)
is_at_most a b = record { passes = nat_le a b; decides = decides_at_most a b }

abbrev pub are_same_integer : (a b : ℤ) → Test (a ≡ b)
are_same_integer a b = record { passes = int_eq a b; decides = Decides-int_eq a b }

pub decides_smaller : (a b : ℤ) → Decides (int_lt a b) (a <ℤ b)
decides_smaller a b = (λ e. grind (arith, ints), λ h. grind (arith, ints))

abbrev pub is_smaller_integer : (a b : ℤ) → Test (a <ℤ b)
is_smaller_integer a b = record { passes = int_lt a b; decides = decides_smaller a b }

abbrev pub is_bool : (b : Bool) → Test (b ≡ true)
is_bool b = record { passes = b; decides = (λ e. e, λ e. e) }

-- facts made of facts

-- the same test, for a fact that says the same
abbrev pub restated : {P Q : Type 0} → (P → Q) → (Q → P) → Test P → Test Q
restated there back t = record { passes = t.passes; decides = Decides-like t.passes there back t.decides }

abbrev pub both : {P Q : Type 0} → Test P → Test Q → Test (P × Q)
both p q = record { passes = p.passes && q.passes; decides = Decides-and p.passes q.passes p.decides q.decides }

abbrev pub either : {P Q : Type 0} → Test P → Test Q → Test (P ⊎ Q)
either p q = record { passes = p.passes || q.passes; decides = Decides-or p.passes q.passes p.decides q.decides }

abbrev pub opposite_of : {P : Type 0} → Test P → Test (P → ⊥)
opposite_of p = record { passes = not p.passes; decides = Decides-not p.passes p.decides }

pub decides_implied : {P Q : Type 0} (p q : Bool) → Decides p P → Decides q Q → Decides (not p || q) (P → Q)
decides_implied true q d k = (λ e _. k.0 e, λ f. k.1 (f (d.0 refl)))
decides_implied false q d k = (λ _ x. absurd (false≢true (d.1 x)), λ _. refl)

-- where the first holds, the second does
abbrev pub implied : {P Q : Type 0} → Test P → Test Q → Test (P → Q)
implied p q = record { passes = not p.passes || q.passes; decides = decides_implied p.passes q.passes p.decides q.decides }

-- facts on each of many

abbrev pub all_below : ℕ → (ℕ → Bool) → Bool
all_below zero p = true
all_below (suc n) p = p n && all_below n p

abbrev pub each_below : (n : ℕ) (P : ℕ → Type 0) → ((k : ℕ) → Test (P k)) → Test ((k : ℕ) → k < n → P k)
each_below n P t = record {
  passes = all_below n (λ k. (t k).passes);
  decides = Decides-below_and (λ k. (t k).passes) P (λ m. all_below m (λ k. (t k).passes)) (λ k. (t k).decides) refl (λ _. refl) n;
}

abbrev pub each_of : {X : Type 0} (P : X → Type 0) → ((x : X) → Test (P x)) → (xs : List X) → Test (All P xs)
each_of P t xs = record {
  passes = list_all (λ x. (t x).passes) xs;
  decides = Decides-by_and (λ x. (t x).passes) P (list_all (λ x. (t x).passes)) (λ x. (t x).decides) refl (λ _ _. refl) xs;
}
