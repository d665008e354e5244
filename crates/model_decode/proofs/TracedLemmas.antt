-- Heights that are a line's at the columns of the grid are a track, and the points over it the line's.
use Rattle.std.proofs.Common.{◌≡◌, ℕ, zero, suc, ◌+◌, ◌-◌, ◌≤◌, true, cond, List, [], ◌∷◌, ◌++◌, sym, ◌∙◌, ap, subst, arith}
use Rattle.plan_core.specs.declared.point.Point.{Point}
use Rattle.plan_core.specs.declared.point.Slope.{Slope}
use Rattle.plan_core.specs.Line.{is_line, west_end, east_end, height}
use Rattle.plan_core.proofs.LineLemmas.{ends_rise}
use Rattle.edge_shape.specs.Track.{slope_by, step_slope, same_slope, over, turn, points_behind, line_over, IsTrack}
use Rattle.edge_shape.proofs.LineTrackLemmas.{line_again}
use Rattle.edge_shape.proofs.RunLemmas.{line_is_track}

-- two functions of the column that are the same at the columns from c to d
abbrev pub AreSame : (ℕ → ℕ) → (ℕ → ℕ) → ℕ → ℕ → Type 0
AreSame y u c d = (k : ℕ) → c ≤ k → k ≤ d → y k ≡ u k

step_same : (y u : ℕ → ℕ) (c d k : ℕ) → AreSame y u c d → c ≤ k → k + 1 ≤ d → step_slope y k ≡ step_slope u k
step_same y u c d k e from to = ap (λ a. slope_by a (y (k + 1))) (e k from (omega arith)) ∙ ap (slope_by (u k)) (e (k + 1) (omega arith) to)

over_same : (y u : ℕ → ℕ) (c d k : ℕ) → AreSame y u c d → c ≤ k → k ≤ d → over y k ≡ over u k
over_same y u c d k e from to = ap (λ a. let p : Point = record { x = k; y = a } in p) (e k from to)

track_same : (y u : ℕ → ℕ) (w n : ℕ) → AreSame y u w (w + n + 1) → IsTrack u w n → IsTrack y w n
track_same y u w n e t = record {
  rises = λ c from to.
      let a = e c from (omega arith) in
      let b = e (c + 1) (omega arith) (omega arith) in
      let r = t.rises c from to in
      omega arith;
  falls = λ c from to.
      let a = e c from (omega arith) in
      let b = e (c + 1) (omega arith) (omega arith) in
      let r = t.falls c from to in
      omega arith;
  no_peak = λ c from to up down. t.no_peak c from to (sym (st c from (omega arith)) ∙ up) (sym (st (c + 1) (omega arith) (omega arith)) ∙ down);
  no_dip = λ c from to down up. t.no_dip c from to (sym (st c from (omega arith)) ∙ down) (sym (st (c + 1) (omega arith) (omega arith)) ∙ up);
  goes_on = λ d c from le to level ne.
      st (c + 1) (omega arith) (omega arith)
      ∙ t.goes_on d c from le to (sym (st d from (omega arith)) ∙ level) (λ l. ne (st c (omega arith) (omega arith) ∙ l))
      ∙ sym (st c (omega arith) (omega arith));
}
  where
    st : (c : ℕ) → w ≤ c → c + 1 ≤ w + n + 1 → step_slope y c ≡ step_slope u c
    st c from to = step_same y u w (w + n + 1) c e from to

turn_same : (y u : ℕ → ℕ) (c d : ℕ) → AreSame y u c d → c + 1 + 1 ≤ d → turn y c ≡ turn u c
turn_same y u c d e le =
    ap (λ (s : Slope). cond (same_slope s (step_slope y (c + 1))) [] (over y (c + 1) ∷ [])) (step_same y u c d c e (omega arith) (omega arith))
    ∙ ap (λ (s : Slope). cond (same_slope (step_slope u c) s) [] (over y (c + 1) ∷ [])) (step_same y u c d (c + 1) e (omega arith) le)
    ∙ ap (λ (p : Point). cond (same_slope (step_slope u c) (step_slope u (c + 1))) [] (p ∷ [])) (over_same y u c d (c + 1) e (omega arith) (omega arith))

points_same : (y u : ℕ → ℕ) (c n d : ℕ) → AreSame y u c d → c + n + 1 ≤ d → points_behind y c n ≡ points_behind u c n
points_same y u c zero d e le = ap (λ (p : Point). p ∷ []) (over_same y u c d (c + 1) e (omega arith) (omega arith))
points_same y u c (suc n) d e le =
    ap (λ (ps : List Point). ps ++ points_behind y (c + 1) n) (turn_same y u c d e (omega arith))
    ∙ ap (λ (ps : List Point). turn u c ++ ps) (points_same y u (c + 1) n d (λ k from to. e k (omega arith) to) (omega arith))

line_same : (y u : ℕ → ℕ) (w n : ℕ) → AreSame y u w (w + n + 1) → line_over y w n ≡ line_over u w n
line_same y u w n e =
    ap (λ (p : Point). p ∷ points_behind y w n) (over_same y u w (w + n + 1) w e (omega arith) (omega arith))
    ∙ ap (λ (ps : List Point). over u w ∷ ps) (points_same y u w n (w + n + 1) e (omega arith))

-- heights that are a line's
pub record AreHeights (y : ℕ → ℕ) (width : ℕ) (line : List Point) (w z : ℕ) : Type 0 where
  pub shape : is_line line ≡ true
  pub west : w ≡ (west_end line).x
  pub east : z ≡ (east_end line).x
  pub within : z ≤ width
  pub same : (c : ℕ) → c ≤ width → y c ≡ height line c

pub heights_rise : (y : ℕ → ℕ) (width : ℕ) (line : List Point) (w z : ℕ) → AreHeights y width line w z → w + 1 ≤ z
heights_rise y width line w z h =
    let rise = ends_rise line h.shape in
    let a = h.west in
    let b = h.east in
    omega arith

pub heights_track : (y : ℕ → ℕ) (width : ℕ) (line : List Point) (w z : ℕ) → AreHeights y width line w z → IsTrack y w (z - w - 1)
heights_track y width line w z h =
    let rise = heights_rise y width line w z h in
    let a = h.west in
    let b = h.east in
    let in_width = h.within in
    let n = z - w - 1 in
    let end : (west_end line).x + n + 1 ≡ (east_end line).x = omega arith in
    track_same y (height line) w n (λ k from to. h.same k (omega arith)) (subst (λ k. IsTrack (height line) k n) (sym a) (line_is_track line n h.shape end))

pub heights_line : (y : ℕ → ℕ) (width : ℕ) (line : List Point) (w z : ℕ) → AreHeights y width line w z → line_over y w (z - w - 1) ≡ line
heights_line y width line w z h =
    let rise = heights_rise y width line w z h in
    let a = h.west in
    let b = h.east in
    let in_width = h.within in
    let n = z - w - 1 in
    let end : (west_end line).x + n + 1 ≡ (east_end line).x = omega arith in
    line_same y (height line) w n (λ k from to. h.same k (omega arith)) ∙ ap (λ k. line_over (height line) k n) a ∙ line_again line n h.shape end
