-- Going along a track: the points so far, and those that are left.
use Rattle.std.proofs.Common.{◌≡◌, ℕ, zero, suc, ◌+◌, ◌-◌, ◌≤◌, ◌<◌, Bool, true, false, not, List, [], ◌∷◌, ◌++◌, length, refl, sym, ◌∙◌, ap, append_assoc}
use Rattle.std.proofs.Common.{length-append, arith}
use Rattle.plan_core.specs.declared.point.Point.{Point}
use Rattle.plan_core.proofs.LineLemmas.{line_length}
use Rattle.edge_shape.specs.Track.{step_slope, same_slope, over, points_behind, line_over, IsTrack}
use Rattle.edge_shape.proofs.ShapeLemmas.{rest_of, track_is_line}

-- with the points so far, the points behind column c are the line's
pub record IsTracing (y : ℕ → ℕ) (w n c : ℕ) (points : List Point) : Type 0 where
  pub left : points ++ points_behind y c (w + n - c) ≡ line_over y w n

behind_is : (y : ℕ → ℕ) (c m n : ℕ) (same : Bool) → m ≡ suc n → same_slope (step_slope y c) (step_slope y (c + 1)) ≡ same →
    points_behind y c m ≡ rest_of same y c n
behind_is y c m n same e s = ap (points_behind y c) e ∙ ap (λ b. rest_of b y c n) s

pub tracing_turn : (y : ℕ → ℕ) (w n c : ℕ) (points : List Point) → c < w + n → not (same_slope (step_slope y c) (step_slope y (c + 1))) ≡ true →
    IsTracing y w n c points → IsTracing y w n (c + 1) (points ++ over y (c + 1) ∷ [])
tracing_turn y w n c points lt turns t = record {
  left =
      append_assoc points (over y (c + 1) ∷ []) (points_behind y (c + 1) (w + n - (c + 1)))
      ∙ sym (ap (λ rest. points ++ rest) (behind_is y c (w + n - c) (w + n - (c + 1)) false (omega arith)
      (not_true (same_slope (step_slope y c) (step_slope y (c + 1))) turns)))
      ∙ t.left;
}
  where
    not_true : (b : Bool) → not b ≡ true → b ≡ false
    not_true true h = cc
    not_true false h = refl

pub tracing_straight : (y : ℕ → ℕ) (w n c : ℕ) (points : List Point) → c < w + n → not (same_slope (step_slope y c) (step_slope y (c + 1))) ≡ false →
    IsTracing y w n c points → IsTracing y w n (c + 1) points
tracing_straight y w n c points lt straight t = record {
  left = sym (ap (λ rest. points ++ rest) (behind_is y c (w + n - c) (w + n - (c + 1)) true (omega arith)
      (not_false (same_slope (step_slope y c) (step_slope y (c + 1))) straight))) ∙ t.left;
}
  where
    not_false : (b : Bool) → not b ≡ false → b ≡ true
    not_false true h = refl
    not_false false h = cc

pub tracing_last : (y : ℕ → ℕ) (w n c : ℕ) (points : List Point) → c ≡ w + n → IsTracing y w n c points → points ++ over y (c + 1) ∷ [] ≡ line_over y w n
tracing_last y w n c points is t = let z : w + n - c ≡ 0 = omega arith in sym (ap (λ k. points ++ points_behind y c k) z) ∙ t.left

some_behind : (y : ℕ → ℕ) (c n : ℕ) → 1 ≤ length (points_behind y c n)
some_behind y c zero = omega arith
some_behind y c (suc n) = elim (same_slope (step_slope y c) (step_slope y (c + 1))) as (λ (same : Bool). 1 ≤ length (rest_of same y c n))
    [ true ↦ some_behind y (c + 1) n | false ↦ omega arith ]

-- there is a place for one point more
pub tracing_room : (y : ℕ → ℕ) (w n c : ℕ) (points : List Point) → IsTrack y w n → IsTracing y w n c points → length points < 4
tracing_room y w n c points is t =
    let few = (line_length (line_over y w n) (track_is_line y w n is)).1 in
    let all = ap (λ (l : List Point). length l) t.left in
    let parts = length-append points (points_behind y c (w + n - c)) in
    let some = some_behind y c (w + n - c) in
    omega arith
