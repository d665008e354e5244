-- Entries of a table after a push and after a write.
use Rattle.std.proofs.Common.{◌≡◌, ℕ, suc, zero, ◌+◌, ◌⊎◌, ◌≢◌, List, [], ◌∷◌, ◌++◌, length, Some, slice_get, refl, sym, ◌∙◌, ap, subst, inl, inr, arith}
use Rattle.std.proofs.Common.{length-append}
use Rattle.std.proofs.Math.ListN.{set}
use Rattle.std.proofs.lemmas.Option.{same_Some, none-some}
use Rattle.railml_read.specs.declared.rows.Elem.{Elem}
use Rattle.railml_faults.specs.Tables.{HasEntries}

pub entry_pushed : {X : Type 0} (xs : List X) (x : X) (k : ℕ) (y : X) → slice_get (xs ++ x ∷ []) k ≡ Some y →
    (slice_get xs k ≡ Some y) ⊎ ((k ≡ length xs) × (y ≡ x))
entry_pushed [] x zero y h = inr (refl, sym (same_Some x y h))
entry_pushed [] x (suc k) y h = absurd (none-some y h)
entry_pushed (z ∷ xs) x zero y h = inl h
entry_pushed (z ∷ xs) x (suc k) y h = by (entry_pushed xs x k y h)
  where
    by : (slice_get xs k ≡ Some y) ⊎ ((k ≡ length xs) × (y ≡ x)) → (slice_get xs k ≡ Some y) ⊎ ((suc k ≡ length (z ∷ xs)) × (y ≡ x))
    by (inl e) = inl e
    by (inr e) = inr (ap suc e.0, e.1)

pub entry_written : {X : Type 0} (xs : List X) (i : ℕ) (v : X) (k : ℕ) (y : X) → slice_get (set xs i v) k ≡ Some y →
    ((k ≡ i) × (y ≡ v)) ⊎ ((k ≢ i) × (slice_get xs k ≡ Some y))
entry_written [] i v k y h = absurd (none-some y h)
entry_written (x ∷ xs) zero v zero y h = inl (refl, sym (same_Some v y h))
entry_written (x ∷ xs) zero v (suc k) y h = inr ((λ e. omega arith), h)
entry_written (x ∷ xs) (suc i) v zero y h = inr ((λ e. omega arith), h)
entry_written (x ∷ xs) (suc i) v (suc k) y h = by (entry_written xs i v k y h)
  where
    by : ((k ≡ i) × (y ≡ v)) ⊎ ((k ≢ i) × (slice_get xs k ≡ Some y)) → ((suc k ≡ suc i) × (y ≡ v)) ⊎ ((suc k ≢ suc i) × (slice_get xs k ≡ Some y))
    by (inl e) = inl (ap suc e.0, e.1)
    by (inr e) = inr ((λ s. let same : k ≡ i = omega arith in e.0 same), e.1)

pub slice_get-set_other : {X : Type 0} (xs : List X) (i : ℕ) (v : X) (k : ℕ) → k ≢ i → slice_get (set xs i v) k ≡ slice_get xs k
slice_get-set_other [] i v k ne = refl
slice_get-set_other (x ∷ xs) zero v zero ne = absurd (ne refl)
slice_get-set_other (x ∷ xs) zero v (suc k) ne = refl
slice_get-set_other (x ∷ xs) (suc i) v zero ne = refl
slice_get-set_other (x ∷ xs) (suc i) v (suc k) ne = slice_get-set_other xs i v k (λ e. ne (ap suc e))

-- the entries so far, after one more is pushed
pub record HasFirst {X : Type 0} (Q : ℕ → X → Type 0) (n : ℕ) (table : List X) : Type 0 where
  pub counted : length table ≡ n
  pub entry : (i : ℕ) (x : X) → slice_get table i ≡ Some x → Q i x

pub none_first : {X : Type 0} (Q : ℕ → X → Type 0) (table : List X) → table ≡ [] → HasFirst Q 0 table
none_first Q table e = record { counted = ap length e; entry = λ i x at. absurd (none-some x (sym (ap (λ l. slice_get l i) e) ∙ at)) }

pub one_first : {X : Type 0} {Q : ℕ → X → Type 0} {n : ℕ} {table : List X} {x : X} {longer : List X} → HasFirst Q n table → longer ≡ table ++ x ∷ [] → Q n x →
    HasFirst Q (n + 1) longer
one_first {X} {Q} {n} {table} {x} {longer} h e q = record {
  counted = ap length e ∙ omega (arith, length-append table (x ∷ []), h.counted);
  entry = λ i y at. by i y (entry_pushed table x i y (sym (ap (λ l. slice_get l i) e) ∙ at));
}
  where
    by : (i : ℕ) (y : X) → (slice_get table i ≡ Some y) ⊎ ((i ≡ length table) × (y ≡ x)) → Q i y
    by i y (inl at) = h.entry i y at
    by i y (inr w) = subst (λ z. Q i z) (sym w.1) (subst (λ j. Q j x) (sym (w.0 ∙ h.counted)) q)

pub all_first : {X : Type 0} {Q : ℕ → X → Type 0} {n : ℕ} {rows : List Elem} {table : List X} → HasFirst Q n table → n ≡ length rows → HasEntries Q rows table
all_first h e = record { whole = h.counted ∙ e; entry = h.entry }
