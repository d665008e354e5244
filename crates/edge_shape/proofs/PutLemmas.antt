-- Variables that are put one after another: those before x have their new value, the others the old one.
use Rattle.std.proofs.Common.{◌≡◌, ◌≢◌, ℕ, ◌+◌, ◌≤◌, ◌<◌, Bool, List, length, inl, inr, refl, sym, ◌∙◌, ap, arith}
use Rattle.std.proofs.Math.Path.{fun_ext}
use Rattle.std.proofs.lemmas.Bool.Decides.{leb_tells, eqb_tells}
use Rattle.cnf_core.specs.Assignment.{Assignment}
use Rattle.cnf_core.specs.Truths.{assignment}

pub record PutTo (x : ℕ) (old target now : Assignment) : Type 0 where
  pub below : (k : ℕ) → k < x → now k ≡ target k
  pub above : (k : ℕ) → x ≤ k → now k ≡ old k

-- before all, where the new values are the old ones up to x
pub put_none : (x : ℕ) (old target : Assignment) → ((k : ℕ) → k < x → target k ≡ old k) → PutTo x old target old
put_none x old target same = record { below = λ k lt. sym (same k lt); above = λ k le. refl }

-- one variable more
pub put_next : (x : ℕ) (old target now new : Assignment) → PutTo x old target now → new x ≡ target x → ((k : ℕ) → k ≢ x → new k ≡ now k) →
    PutTo (x + 1) old target new
put_next x old target now new p is others = record {
  below = λ k lt. elim (eqb_tells k x) [ inl e ↦ ap new e.1 ∙ is ∙ sym (ap target e.1) | inr e ↦ let ne = e.1 in others k ne ∙ p.below k (omega arith) ];
  above = λ k le. others k (omega arith) ∙ p.above k (omega arith);
}

-- after all, where the new values are the old ones from x on
pub put_all : (x : ℕ) (old target now : Assignment) → PutTo x old target now → ((k : ℕ) → x ≤ k → target k ≡ old k) → now ≡ target
put_all x old target now p same = fun_ext (λ k. elim (leb_tells x k) [
  | inl a ↦ p.above k a.1
      ∙ sym (same k a.1)
  | inr a ↦ let low = a.1 in p.below k (omega arith)
])

-- what the helpers of put answer

-- the model has its variables still
pub record IsPutting (x : ℕ) (target : Assignment) (old now : List Bool) : Type 0 where
  pub put : PutTo x (assignment old) target (assignment now)
  pub vars : length now ≡ length old
