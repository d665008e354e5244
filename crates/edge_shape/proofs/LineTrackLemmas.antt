-- A line's heights are a track, and its points are the points over them.
use Rattle.std.proofs.Common.{◌≡◌, ◌≢◌, ℕ, zero, suc, ◌+◌, ◌-◌, ◌<◌, ◌≤◌, ◌⊎◌, inl, inr, true, false, List, [], ◌∷◌, map, refl, sym, ◌∙◌, ap, arith}
use Rattle.std.specs.Prelude.{⊤}
use Rattle.std.specs.List.{list_all}
use Rattle.std.proofs.lemmas.Bool.{and_parts, false≢true}
use Rattle.plan_core.specs.declared.point.Point.{Point}
use Rattle.plan_core.specs.declared.point.Slope.{Slope}
use Rattle.plan_core.specs.declared.point.Slope.TheVariants.{Down, Level, Up}
use Rattle.plan_core.specs.Line.{pieces, is_piece, slope, is_shape, is_line, height_from, height, last_from, west_end, east_end}
use Rattle.plan_core.proofs.PieceLemmas.{piece, ArePieces, height_from-west, height_from-past, height_from-step}
use Rattle.plan_core.proofs.LineLemmas.{pieces_of, last_is_east, line_length}
use Rattle.edge_shape.specs.Track.{slope_by, step_slope, same_slope, over, points_behind, line_over}
use Rattle.edge_shape.proofs.TrackLemmas.{slope_by_reaches, same_is, same_self}

-- steps of one slope have no point between them
points_skip : (y : ℕ → ℕ) (c m n : ℕ) → ((k : ℕ) → c ≤ k → k < c + m → step_slope y (k + 1) ≡ step_slope y k) →
    points_behind y c (m + n) ≡ points_behind y (c + m) n
points_skip y c zero n h =
    let z : 0 + n ≡ n = omega arith in
    let s : c ≡ c + zero = omega arith in
    ap (points_behind y c) z ∙ ap (λ x. points_behind y x n) s
points_skip y c (suc m) n h =
    let z : suc m + n ≡ suc (m + n) = omega arith in
    let s : c + 1 + m ≡ c + suc m = omega arith in
    let same : same_slope (step_slope y c) (step_slope y (c + 1)) ≡ true = ap (same_slope (step_slope y c)) (h c (omega arith) (omega arith))
    ∙ same_self (step_slope y c) in
    ap (points_behind y c) z ∙ rw same (points_skip y (c + 1) m n (λ k from to. h k (omega arith) (omega arith)) ∙ ap (λ x. points_behind y x n) s)

differ : (s t : Slope) → s ≢ t → same_slope s t ≡ false
differ s t ne = elim (same_slope s t) as (λ b. same_slope s t ≡ b → b ≡ false) [ true ↦ λ e. absurd (ne (same_is s t e)) | false ↦ λ e. refl ] refl

point_at_turn : (y : ℕ → ℕ) (c n : ℕ) → step_slope y c ≢ step_slope y (c + 1) → points_behind y c (suc n) ≡ over y (c + 1) ∷ points_behind y (c + 1) n
point_at_turn y c n ne = rw (differ (step_slope y c) (step_slope y (c + 1)) ne) refl

-- each piece has another slope than the one before it
abbrev pub Alternate : Point → Point → List Point → Type 0
Alternate a b [] = ⊤
Alternate a b (c ∷ rest) = (slope (piece a b) ≢ slope (piece b c)) × Alternate b c rest

pub step_over : (y : ℕ → ℕ) (a b : Point) (rest : List Point) (k : ℕ) → ArePieces a (b ∷ rest) → ((j : ℕ) → a.x ≤ j → y j ≡ height_from a (b ∷ rest) j) →
    a.x ≤ k → k < b.x → step_slope y k ≡ slope (piece a b)
step_over y a b rest k h same from to =
    ap (λ z. slope_by z (y (k + 1))) (same k from)
    ∙ ap (slope_by (height_from a (b ∷ rest) k)) (same (k + 1) (omega arith))
    ∙ slope_by_reaches (slope (piece a b)) 1 (height_from a (b ∷ rest) k) (height_from a (b ∷ rest) (k + 1)) (omega arith)
    (height_from-step a b rest k h from to)

pub later_same : (y : ℕ → ℕ) (a b : Point) (rest : List Point) → ArePieces a (b ∷ rest) → ((j : ℕ) → a.x ≤ j → y j ≡ height_from a (b ∷ rest) j) → (j : ℕ) →
    b.x ≤ j → y j ≡ height_from b rest j
later_same y a b rest h same j from =
    let rising = h.0.rising in
    same j (omega arith) ∙ height_from-past a b rest j h from

over_end : (y : ℕ → ℕ) (a b : Point) (rest : List Point) → ArePieces a (b ∷ rest) → ((j : ℕ) → a.x ≤ j → y j ≡ height_from a (b ∷ rest) j) → over y b.x ≡ b
over_end y a b rest h same =
    let e : y b.x ≡ b.y = later_same y a b rest h same b.x (omega arith) ∙ height_from-west b rest h.1 in
    ap (λ z. let p : Point = record { x = b.x; y = z } in p) e

one_slope_run : (y : ℕ → ℕ) (a b : Point) (rest : List Point) (m : ℕ) → ArePieces a (b ∷ rest) → ((j : ℕ) → a.x ≤ j → y j ≡ height_from a (b ∷ rest) j) →
    a.x + m + 1 ≡ b.x → (k : ℕ) → a.x ≤ k → k < a.x + m → step_slope y (k + 1) ≡ step_slope y k
one_slope_run y a b rest m h same is k from to =
    step_over y a b rest (k + 1) h same (omega arith) (omega arith) ∙ sym (step_over y a b rest k h same from (omega arith))

pub points_again : (y : ℕ → ℕ) (a b : Point) (rest : List Point) (n : ℕ) → ArePieces a (b ∷ rest) → Alternate a b rest →
    ((j : ℕ) → a.x ≤ j → y j ≡ height_from a (b ∷ rest) j) → a.x + n + 1 ≡ (last_from b rest).x → points_behind y a.x n ≡ b ∷ rest
points_again y a b [] n h alt same is =
    let z : n ≡ n + 0 = omega arith in
    let s : a.x + n + 1 ≡ b.x = is in
    ap (points_behind y a.x) z ∙ points_skip y a.x n 0 (one_slope_run y a b [] n h same is)
    ∙ ap (λ x. over y x ∷ []) s ∙ ap (λ p. p ∷ []) (over_end y a b [] h same)
points_again y a b (c ∷ rest) n h alt same is =
    let rising = h.0.rising in
    let next = h.1.0.rising in
    let beyond = last_is_east c rest h.1.1 in
    let m = b.x - a.x - 1 in
    let left = n - m - 1 in
    let q = a.x + m in
    let there : q + 1 ≡ b.x = omega arith in
    let cut : n ≡ m + suc left = omega arith in
    let later = later_same y a b (c ∷ rest) h same in
    let s : step_slope y q ≡ slope (piece a b) = step_over y a b (c ∷ rest) q h same (omega arith) (omega arith) in
    let t : step_slope y (q + 1) ≡ slope (piece b c) = ap (step_slope y) there ∙ step_over y b c rest b.x h.1 later (omega arith) next in
    ap (points_behind y a.x) cut
    ∙ points_skip y a.x m (suc left) (one_slope_run y a b (c ∷ rest) m h same there)
    ∙ point_at_turn y q left (λ e. alt.0 (sym s ∙ e ∙ t))
    ∙ ap (λ x. over y x ∷ points_behind y x left) there
    ∙ ap (λ p. p ∷ points_behind y b.x left) (over_end y a b (c ∷ rest) h same)
    ∙ ap (λ ps. b ∷ ps) (points_again y b c rest left h.1 alt.1 later (omega arith))

-- the slopes of a shape
pub two_slopes : (s t : Slope) → is_shape (s ∷ t ∷ []) ≡ true → ((s ≡ Level) × (t ≢ Level)) ⊎ ((s ≢ Level) × (t ≡ Level))
two_slopes Level Up h = inl (refl, λ e. cc)
two_slopes Level Down h = inl (refl, λ e. cc)
two_slopes Up Level h = inr ((λ e. cc), refl)
two_slopes Down Level h = inr ((λ e. cc), refl)
two_slopes s t h = cc

pub three_slopes : (s t u : Slope) → is_shape (s ∷ t ∷ u ∷ []) ≡ true → (s ≢ Level) × (t ≡ Level) × (u ≢ Level)
three_slopes Up Level Up h = ((λ e. cc), refl, λ e. cc)
three_slopes Up Level Down h = ((λ e. cc), refl, λ e. cc)
three_slopes Down Level Up h = ((λ e. cc), refl, λ e. cc)
three_slopes Down Level Down h = ((λ e. cc), refl, λ e. cc)
three_slopes s t u h = cc

pub shape_of : (line : List Point) → is_line line ≡ true → is_shape (map slope (pieces line)) ≡ true
shape_of line h = (and_parts (list_all is_piece (pieces line)) (is_shape (map slope (pieces line))) h).1

line_alternates : (a b : Point) (rest : List Point) → is_line (a ∷ b ∷ rest) ≡ true → Alternate a b rest
line_alternates a b [] h = tt
line_alternates a b (c ∷ []) h = (
  elim (two_slopes (slope (piece a b)) (slope (piece b c)) (shape_of (a ∷ b ∷ c ∷ []) h)) [
    | inl x ↦ λ e. x.1 (sym e ∙ x.0)
    | inr x ↦ λ e. x.0 (e ∙ x.1)
  ],
  tt,
)
line_alternates a b (c ∷ d ∷ []) h =
    let x = three_slopes (slope (piece a b)) (slope (piece b c)) (slope (piece c d)) (shape_of (a ∷ b ∷ c ∷ d ∷ []) h) in
    (λ e. x.0 (e ∙ x.1), (λ e. x.2 (sym e ∙ x.1), tt))
line_alternates a b (c ∷ d ∷ e ∷ rest) h = let few = (line_length (a ∷ b ∷ c ∷ d ∷ e ∷ rest) h).1 in absurd (omega (arith, few))

-- UNIQUENESS: a line is the points over its own heights
pub line_again : (line : List Point) (n : ℕ) → is_line line ≡ true → (west_end line).x + n + 1 ≡ (east_end line).x →
    line_over (height line) (west_end line).x n ≡ line
line_again [] n h is = absurd (false≢true h)
line_again (a ∷ []) n h is = absurd (false≢true h)
line_again (a ∷ b ∷ rest) n h is =
    let all = pieces_of a (b ∷ rest) h in
    let y = height (a ∷ b ∷ rest) in
    let west : y a.x ≡ a.y = height_from-west a (b ∷ rest) all in
    ap (λ z. (let p : Point = record { x = a.x; y = z } in p) ∷ points_behind y a.x n) west
    ∙ ap (λ ps. a ∷ ps) (points_again y a b rest n all (line_alternates a b rest h) (λ j from. refl) is)
