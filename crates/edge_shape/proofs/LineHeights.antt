-- The heights of a line at every column, and the columns of its inner points.
use Rattle.std.proofs.Common.{◌≡◌, ℕ, zero, suc, ◌+◌, ◌-◌, ◌≤◌, Bool, true, false, not, List, [], ◌∷◌, inl, inr, refl, sym, ◌∙◌, ap, subst, arith}
use Rattle.std.specs.Prelude.{◌&&◌, ◌||◌, nat_le, nat_lt, nat_eq}
use Rattle.std.proofs.Math.Path.{fun_ext}
use Rattle.std.proofs.lemmas.Bool.{false≢true}
use Rattle.std.proofs.lemmas.Bool.Decides.{nat_tests, leb_tells, eqb_tells}
use Rattle.plan_core.specs.declared.point.Point.{Point}
use Rattle.plan_core.specs.Line.{slope, is_line, reached, height_from, height, last_from, west_end, east_end}
use Rattle.plan_core.proofs.PieceLemmas.{piece, ArePieces, reached-none, height_from-past, height_from-first}
use Rattle.plan_core.proofs.LineLemmas.{pieces_of, last_is_east, ends_rise, height-west_end, height-east_end}
use Rattle.edge_shape.specs.Track.{step_slope, same_slope, over, points_behind, line_over, IsTrack, IsFlatOutside}
use Rattle.edge_shape.specs.Columns.{inner_of, turns_behind, steps_of}
use Rattle.edge_shape.proofs.ShapeLemmas.{rest_of, track_is_line, track_east, track_height}

-- the points of a track over a column
inner_cons : (y : ℕ → ℕ) (p : Point) (c n x : ℕ) → inner_of (p ∷ points_behind y c n) x ≡ (nat_eq p.x x || inner_of (points_behind y c n) x)
inner_cons y p c zero x = refl
inner_cons y p c (suc n) x = elim (same_slope (step_slope y c) (step_slope y (c + 1))) as
    (λ (same : Bool). inner_of (p ∷ rest_of same y c n) x ≡ (nat_eq p.x x || inner_of (rest_of same y c n) x)) [
      | true ↦ inner_cons y p (c + 1) n x
      | false ↦ refl
    ]

pub inner_before : (y : ℕ → ℕ) (c n x : ℕ) → x ≤ c → inner_of (points_behind y c n) x ≡ false
inner_before y c zero x le = refl
inner_before y c (suc n) x le = elim (same_slope (step_slope y c) (step_slope y (c + 1))) as (λ (same : Bool). inner_of (rest_of same y c n) x ≡ false) [
  | true ↦ inner_before y (c + 1) n x (omega arith)
  | false ↦ let e : nat_eq (c + 1) x ≡ false = grind (arith, nat_tests) in inner_cons y (over y (c + 1)) (c + 1) n x
      ∙ rw e (inner_before y (c + 1) n x (omega arith))
]

turns_first : (y : ℕ → ℕ) (c n : ℕ) → inner_of (points_behind y c (suc n)) (c + 1) ≡ turns_behind y c (suc n) c
turns_first y c n =
    let p : nat_le c c ≡ true = grind (arith, nat_tests) in
    let q : nat_lt c (c + suc n) ≡ true = grind (arith, nat_tests) in
    elim (same_slope (step_slope y c) (step_slope y (c + 1))) as (λ (same : Bool). inner_of (rest_of same y c n) (c + 1)
    ≡ (nat_le c c && (nat_lt c (c + suc n) && not same))) [
      | true ↦ rw (p, q) (inner_before y (c + 1) n (c + 1) (omega arith))
      | false ↦ let e : nat_eq (c + 1) (c + 1) ≡ true = grind (arith, nat_tests) in rw (p, q) (inner_cons y (over y (c + 1)) (c + 1) n (c + 1) ∙ rw e refl)
    ]

turns_later : (y : ℕ → ℕ) (c n k : ℕ) → (k ≡ c → ⊥) → turns_behind y (c + 1) n k ≡ turns_behind y c (suc n) k
turns_later y c n k ne =
    let p : nat_le (c + 1) k ≡ nat_le c k = grind (arith, nat_tests, ne) in
    let q : nat_lt k (c + 1 + n) ≡ nat_lt k (c + suc n) = grind (arith, nat_tests) in
    rw (p, q) refl

pub inner_turns : (y : ℕ → ℕ) (c n k : ℕ) → inner_of (points_behind y c n) (k + 1) ≡ turns_behind y c n k
inner_turns y c zero k = elim (leb_tells c k) [
  | inl a ↦ let le = a.1 in let t : nat_lt k (c + zero) ≡ false = grind (arith, nat_tests) in rw (a.0, t) refl
  | inr a ↦ rw a.0 refl
]
inner_turns y c (suc n) k = elim (eqb_tells k c) [
  | inl same ↦ subst (λ j. inner_of (points_behind y c (suc n)) (j + 1) ≡ turns_behind y c (suc n) j) (sym same.1) (turns_first y c n)
  | inr other ↦
      let ne = other.1 in
      let z = turns_later y c n k ne in
      elim (same_slope (step_slope y c) (step_slope y (c + 1))) as (λ (same : Bool). inner_of (rest_of same y c n) (k + 1) ≡ turns_behind y c (suc n) k) [
        | true ↦ inner_turns y (c + 1) n k ∙ z
        | false ↦
            let e : nat_eq (c + 1) (k + 1) ≡ false = grind (arith, nat_tests, ne) in
            inner_cons y (over y (c + 1)) (c + 1) n (k + 1) ∙ rw e (inner_turns y (c + 1) n k ∙ z)
      ]
]

-- a line's heights go on level outside
height_past : (a : Point) (rest : List Point) (c : ℕ) → ArePieces a rest → (last_from a rest).x ≤ c → height_from a rest c ≡ (last_from a rest).y
height_past a [] c h past = refl
height_past a (b ∷ rest) c h past = let more = last_is_east b rest h.1 in height_from-past a b rest c h (omega arith) ∙ height_past b rest c h.1 past

pub height_before : (line : List Point) (c : ℕ) → is_line line ≡ true → c ≤ (west_end line).x → height line c ≡ (west_end line).y
height_before [] c h le = absurd (false≢true h)
height_before (a ∷ []) c h le = absurd (false≢true h)
height_before (a ∷ b ∷ rest) c h le =
    let all = pieces_of a (b ∷ rest) h in
    let rising = all.0.rising in
    let none : c - a.x ≡ 0 = omega arith in
    height_from-first a b rest c (omega arith) ∙ ap (reached (slope (piece a b)) a.y) none ∙ reached-none (slope (piece a b)) a.y

pub height_behind : (line : List Point) (c : ℕ) → is_line line ≡ true → (east_end line).x ≤ c → height line c ≡ (east_end line).y
height_behind [] c h le = absurd (false≢true h)
height_behind (a ∷ rest) c h le = height_past a rest c (pieces_of a rest h) le

pub steps_are : (line : List Point) → is_line line ≡ true → (west_end line).x + steps_of line + 1 ≡ (east_end line).x
steps_are line h = let rise = ends_rise line h in omega arith

pub line_is_flat : (line : List Point) → is_line line ≡ true → IsFlatOutside (height line) (west_end line).x (steps_of line)
line_is_flat line h =
    let is = steps_are line h in
    record {
      west = λ c le. height_before line c h le ∙ sym (height-west_end line h);
      east = λ c le. height_behind line c h (omega arith) ∙ sym (ap (height line) is ∙ height-east_end line h);
    }

-- the line over a track has its heights at every column
pub heights_again : (y : ℕ → ℕ) (w n c : ℕ) → IsTrack y w n → IsFlatOutside y w n → height (line_over y w n) c ≡ y c
heights_again y w n c t f =
    let line = line_over y w n in
    let h = track_is_line y w n t in
    let last = track_east y w n in
    elim (leb_tells w c) [
      | inr x ↦ let low = x.1 in height_before line c h (omega arith) ∙ sym (f.west c (omega arith))
      | inl x ↦ elim (leb_tells c (w + n + 1)) [
        | inl z ↦ track_height y w n c t x.1 z.1
        | inr z ↦
            let high = z.1 in
            let ex : (east_end line).x ≡ w + n + 1 = ap (λ (p : Point). p.x) last in
            height_behind line c h (omega arith) ∙ ap (λ (p : Point). p.y) last ∙ sym (f.east c (omega arith))
      ]
    ]

pub heights_same : (y : ℕ → ℕ) (w n : ℕ) → IsTrack y w n → IsFlatOutside y w n → height (line_over y w n) ≡ y
heights_same y w n t f = fun_ext (λ c. heights_again y w n c t f)

pub point_is : (y : ℕ → ℕ) (c : ℕ) (p : Point) → c ≡ p.x → y c ≡ p.y → over y c ≡ p
point_is y c p e f = ap (λ k. let q : Point = record { x = k; y = y c } in q) e ∙ ap (λ k. let q : Point = record { x = p.x; y = k } in q) f
