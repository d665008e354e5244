-- From heights over columns to the points of a line.
use Rattle.std.proofs.Common.{◌≡◌, ℕ, ◌+◌, ◌-◌, ◌<◌, ◌≤◌, ◌⊎◌, inl, inr, Bool, true, false, nat_lt, refl, sym, ◌∙◌, subst, arith}
use Rattle.std.specs.Prelude.{if◌then◌else◌}
use Rattle.std.proofs.lemmas.Bool.Decides.{nat_tests, leb_tells}
use Rattle.plan_core.specs.declared.point.Slope.{Slope}
use Rattle.plan_core.specs.declared.point.Slope.TheVariants.{Down, Level, Up}
use Rattle.plan_core.specs.Line.{is_piece, slope, height_on}
use Rattle.plan_core.proofs.PieceLemmas.{Reaches, reached-all, piece}
use Rattle.edge_shape.specs.Track.{slope_by, same_slope, over}

-- slopes and steps
pub reaches_by_slope : (a b : ℕ) → b ≤ a + 1 → a ≤ b + 1 → Reaches (slope_by a b) 1 a b
reaches_by_slope a b up down = cases (nat_lt a b) (nat_lt b a) refl refl
  where
    cases : (p q : Bool) → nat_lt a b ≡ p → nat_lt b a ≡ q → Reaches (if p then Up else (if q then Down else Level)) 1 a b
    cases true q e f = grind (arith, nat_tests, e)
    cases false true e f = grind (arith, nat_tests, e, f)
    cases false false e f = grind (arith, nat_tests, e, f)

pub slope_by_reaches : (s : Slope) (n a b : ℕ) → 1 ≤ n → Reaches s n a b → slope_by a b ≡ s
slope_by_reaches Down n a b some h =
    let e : nat_lt a b ≡ false = grind (arith, nat_tests) in
    let f : nat_lt b a ≡ true = grind (arith, nat_tests) in
    rw (e, f) refl
slope_by_reaches Level n a b some h =
    let e : nat_lt a b ≡ false = grind (arith, nat_tests) in
    let f : nat_lt b a ≡ false = grind (arith, nat_tests) in
    rw (e, f) refl
slope_by_reaches Up n a b some h = let e : nat_lt a b ≡ true = grind (arith, nat_tests) in rw e refl

pub same_is : (s t : Slope) → same_slope s t ≡ true → s ≡ t
same_is Down Down e = refl
same_is Level Level e = refl
same_is Up Up e = refl
same_is Down Level e = cc
same_is Down Up e = cc
same_is Level Down e = cc
same_is Level Up e = cc
same_is Up Down e = cc
same_is Up Level e = cc

pub same_self : (s : Slope) → same_slope s s ≡ true
same_self Down = refl
same_self Level = refl
same_self Up = refl

-- the slope from b on, of heights that go by it at each column up to d
abbrev pub IsRun : (ℕ → ℕ) → Slope → ℕ → ℕ → Type 0
IsRun y s b d = (k : ℕ) → b ≤ k → k ≤ d → Reaches s (k - b) (y b) (y k)

reaches_none : (s : Slope) (y : ℕ → ℕ) (b : ℕ) → Reaches s (b - b) (y b) (y b)
reaches_none Down y b = omega arith
reaches_none Level y b = refl
reaches_none Up y b = omega arith

reaches_more : (s : Slope) (m x a b : ℕ) → Reaches s m x a → Reaches s 1 a b → Reaches s (m + 1) x b
reaches_more Down m x a b h k = omega arith
reaches_more Level m x a b h k = k ∙ h
reaches_more Up m x a b h k = omega arith

-- a number up to d + 1 is d + 1 or up to d
up_to : (k d : ℕ) → k ≤ d + 1 → (k ≡ d + 1) ⊎ (k ≤ d)
up_to k d h = elim (leb_tells k d) [ inl a ↦ inr a.1 | inr a ↦ inl (let b = a.1 in omega arith) ]

pub run_none : (y : ℕ → ℕ) (s : Slope) (b : ℕ) → IsRun y s b b
run_none y s b k from to =
    let e : b ≡ k = omega arith in
    subst (λ j. Reaches s (j - b) (y b) (y j)) e (reaches_none s y b)

pub run_more : (y : ℕ → ℕ) (s : Slope) (b d : ℕ) → b ≤ d → IsRun y s b d → Reaches s 1 (y d) (y (d + 1)) → IsRun y s b (d + 1)
run_more y s b d le r h k from to = elim (up_to k d to) [
  | inl e ↦
      let z : d - b + 1 ≡ d + 1 - b = omega arith in
      subst (λ j. Reaches s (j - b) (y b) (y j)) (sym e) (subst (λ m. Reaches s m (y b) (y (d + 1))) z
      (reaches_more s (d - b) (y b) (y d) (y (d + 1)) (r d le (omega arith)) h))
  | inr near ↦ r k from near
]

pub run_one : (y : ℕ → ℕ) (s : Slope) (b : ℕ) → Reaches s 1 (y b) (y (b + 1)) → IsRun y s b (b + 1)
run_one y s b h = run_more y s b b (omega arith) (run_none y s b) h

-- such a run is a piece of a line
pub run_slope : (y : ℕ → ℕ) (s : Slope) (b d : ℕ) → b < d → IsRun y s b d → slope (piece (over y b) (over y d)) ≡ s
run_slope y s b d less r = slope_by_reaches s (d - b) (y b) (y d) (omega arith) (r d (omega arith) (omega arith))

is_piece_by : (s : Slope) (x z a b : ℕ) → x < z → Reaches s (z - x) a b → is_piece (piece (record { x = x; y = a }) (record { x = z; y = b })) ≡ true
is_piece_by Down x z a b less h = grind (arith, nat_tests)
is_piece_by Level x z a b less h = grind (arith, nat_tests)
is_piece_by Up x z a b less h = grind (arith, nat_tests)

pub run_piece : (y : ℕ → ℕ) (s : Slope) (b d : ℕ) → b < d → IsRun y s b d → is_piece (piece (over y b) (over y d)) ≡ true
run_piece y s b d less r = is_piece_by s b d (y b) (y d) less (r d (omega arith) (omega arith))

pub run_height : (y : ℕ → ℕ) (s : Slope) (b d k : ℕ) → b < d → IsRun y s b d → b ≤ k → k ≤ d → height_on (piece (over y b) (over y d)) k ≡ y k
run_height y s b d k less r from to = rw (run_slope y s b d less r) (reached-all s (k - b) (y b) (y k) (r k from to))
