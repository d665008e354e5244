-- For the code that reads off a line what it is at a column.
use Rattle.std.proofs.Common.{◌≡◌, ℕ, zero, suc, ◌+◌, ◌≤◌, ◌<◌, Bool, true, false, List, [], ◌∷◌, length, refl, ◌∙◌, ap, arith}
use Rattle.std.specs.Prelude.{◌||◌, nat_le, nat_eq, slice_index_or}
use Rattle.std.proofs.lemmas.Bool.Decides.{nat_tests}
use Rattle.plan_core.specs.declared.point.Point.{Point}
use Rattle.edge_shape.specs.Columns.{has_inner, is_level_step, seen_by}

or_false : (b : Bool) → b ≡ (b || false)
or_false true = refl
or_false false = refl

pub inner_three : (line : List Point) (d : Point) (x : ℕ) → length line ≡ 3 → nat_eq (slice_index_or line 1 d).x x ≡ has_inner line x
inner_three (a ∷ b ∷ c ∷ []) d x is = or_false (nat_eq b.x x)
inner_three [] d x is = absurd (omega arith)
inner_three (a ∷ []) d x is = absurd (omega arith)
inner_three (a ∷ b ∷ []) d x is = absurd (omega arith)
inner_three (a ∷ b ∷ c ∷ e ∷ rest) d x is = absurd (omega arith)

pub inner_four : (line : List Point) (d : Point) (x : ℕ) → length line ≡ 4 →
    (nat_eq (slice_index_or line 1 d).x x || nat_eq (slice_index_or line 2 d).x x) ≡ has_inner line x
inner_four (a ∷ b ∷ c ∷ e ∷ []) d x is = ap (λ t. nat_eq b.x x || t) (or_false (nat_eq c.x x))
inner_four [] d x is = absurd (omega arith)
inner_four (a ∷ []) d x is = absurd (omega arith)
inner_four (a ∷ b ∷ []) d x is = absurd (omega arith)
inner_four (a ∷ b ∷ c ∷ []) d x is = absurd (omega arith)
inner_four (a ∷ b ∷ c ∷ e ∷ f ∷ rest) d x is = absurd (omega arith)

pub seen_false : (y : ℕ → ℕ) (w n c : ℕ) → ((j : ℕ) → j < c + 1 → is_level_step y w n j ≡ false) → seen_by y w n c ≡ false
seen_false y w n zero h = h 0 (omega arith)
seen_false y w n (suc c) h = rw (seen_false y w n c (λ j lt. h j (omega arith))) (h (suc c) (omega arith))

pub or_first : (m x : ℕ) (p h : Bool) → m ≡ x → (nat_eq m x || p) ≡ h → nat_eq m x ≡ h
or_first m x p h e g = let t : nat_eq m x ≡ true = grind (arith, nat_tests) in t ∙ (rw t at g)

pub or_second : (m x : ℕ) (q h : Bool) → (m ≡ x → ⊥) → (nat_eq m x || q) ≡ h → q ≡ h
or_second m x q h ne g = let t : nat_eq m x ≡ false = grind (arith, nat_tests, ne) in rw t at g

pub level_high : (y : ℕ → ℕ) (w n e c : ℕ) → w + n + 1 ≡ e → w < e → e ≤ c → false ≡ is_level_step y w n c
level_high y w n e c is less le =
    let t : nat_le w c ≡ true = grind (arith, nat_tests) in
    let s : nat_le c (w + n) ≡ false = grind (arith, nat_tests) in
    rw (t, s) refl
