-- The points over a track are a line, with the track's heights and slopes.
use Rattle.std.proofs.Common.{◌≡◌, ◌≢◌, ℕ, zero, suc, ◌+◌, ◌-◌, ◌<◌, ◌≤◌, inl, inr, Bool, true, false, cond, List, [], ◌∷◌, ◌++◌, map, refl, sym, ◌∙◌, ap}
use Rattle.std.proofs.Common.{subst, arith}
use Rattle.std.specs.List.{list_all}
use Rattle.std.proofs.lemmas.Bool.{le-leb}
use Rattle.std.proofs.lemmas.Bool.Decides.{leb_tells}
use Rattle.plan_core.specs.declared.point.Point.{Point}
use Rattle.plan_core.specs.declared.point.Slope.{Slope}
use Rattle.plan_core.specs.declared.point.Slope.TheVariants.{Down, Level, Up}
use Rattle.plan_core.specs.Line.{pieces_from, is_piece, slope, is_shape, is_line, height_from, height, last_from, east_end}
use Rattle.plan_core.proofs.PieceLemmas.{Reaches}
use Rattle.edge_shape.specs.Track.{step_slope, same_slope, over, points_behind, line_over, IsTrack}
use Rattle.edge_shape.proofs.TrackLemmas.{reaches_by_slope, same_is, same_self, IsRun, run_more, run_one, run_slope, run_piece, run_height}

-- the slopes of the pieces, with n steps left behind that from column c
abbrev pub slopes_from : (ℕ → ℕ) → ℕ → ℕ → List Slope
slopes_from y c zero = step_slope y c ∷ []
slopes_from y c (suc n) = cond (same_slope (step_slope y c) (step_slope y (c + 1))) [] (step_slope y c ∷ []) ++ slopes_from y (c + 1) n

-- each of n + 1 steps from c on is by one row at most
pub record AreSteps (y : ℕ → ℕ) (c n : ℕ) : Type 0 where
  pub each : (k : ℕ) → c ≤ k → k ≤ c + n → Reaches (step_slope y k) 1 (y k) (y (k + 1))

later_steps : (y : ℕ → ℕ) (c n : ℕ) → AreSteps y c (suc n) → AreSteps y (c + 1) n
later_steps y c n h = record { each = λ k from to. h.each k (omega arith) (omega arith) }

pub track_steps : (y : ℕ → ℕ) (w n : ℕ) → IsTrack y w n → AreSteps y w n
track_steps y w n t = record { each = λ k from to. reaches_by_slope (y k) (y (k + 1)) (t.rises k from to) (t.falls k from to) }

-- a run goes on over a step of the same slope
goes_further : (y : ℕ → ℕ) (b c : ℕ) → b ≤ c → IsRun y (step_slope y c) b (c + 1) → same_slope (step_slope y c) (step_slope y (c + 1)) ≡ true →
    Reaches (step_slope y (c + 1)) 1 (y (c + 1)) (y (c + 1 + 1)) → IsRun y (step_slope y (c + 1)) b (c + 1 + 1)
goes_further y b c le r same h =
    run_more y (step_slope y (c + 1)) b (c + 1) (omega arith) (subst (λ s. IsRun y s b (c + 1)) (same_is (step_slope y c) (step_slope y (c + 1)) same) r) h

abbrev pub rest_of : Bool → (ℕ → ℕ) → ℕ → ℕ → List Point
rest_of same y c n = cond same [] (over y (c + 1) ∷ []) ++ points_behind y (c + 1) n

-- each part from point to point is a piece, and these are their slopes
pub pieces_over : (y : ℕ → ℕ) (b c n : ℕ) → b ≤ c → AreSteps y c n → IsRun y (step_slope y c) b (c + 1) →
    list_all is_piece (pieces_from (over y b) (points_behind y c n)) ≡ true
pieces_over y b c zero le h r = rw (run_piece y (step_slope y c) b (c + 1) (omega arith) r) refl
pieces_over y b c (suc n) le h r =
    let later = later_steps y c n h in
    let next = later.each (c + 1) (omega arith) (omega arith) in
    elim (same_slope (step_slope y c) (step_slope y (c + 1))) as (λ same. same_slope (step_slope y c) (step_slope y (c + 1)) ≡ same → list_all is_piece
    (pieces_from (over y b) (rest_of same y c n)) ≡ true) [
      | true ↦ λ e. pieces_over y b (c + 1) n (omega arith) later (goes_further y b c le r e next)
      | false ↦ λ e. rw (run_piece y (step_slope y c) b (c + 1) (omega arith) r) (pieces_over y (c + 1) (c + 1) n (omega arith) later
          (run_one y (step_slope y (c + 1)) (c + 1) next))
    ] refl

pub slopes_over : (y : ℕ → ℕ) (b c n : ℕ) → b ≤ c → AreSteps y c n → IsRun y (step_slope y c) b (c + 1) →
    map slope (pieces_from (over y b) (points_behind y c n)) ≡ slopes_from y c n
slopes_over y b c zero le h r = ap (λ s. s ∷ []) (run_slope y (step_slope y c) b (c + 1) (omega arith) r)
slopes_over y b c (suc n) le h r =
    let later = later_steps y c n h in
    let next = later.each (c + 1) (omega arith) (omega arith) in
    elim (same_slope (step_slope y c) (step_slope y (c + 1))) as (λ same. same_slope (step_slope y c) (step_slope y (c + 1)) ≡ same → map slope
    (pieces_from (over y b) (rest_of same y c n)) ≡ cond same [] (step_slope y c ∷ []) ++ slopes_from y (c + 1) n) [
      | true ↦ λ e. slopes_over y b (c + 1) n (omega arith) later (goes_further y b c le r e next)
      | false ↦ λ e.
          let first = run_slope y (step_slope y c) b (c + 1) (omega arith) r in
          let more = slopes_over y (c + 1) (c + 1) n (omega arith) later (run_one y (step_slope y (c + 1)) (c + 1) next) in
          ap (λ s. s ∷ map slope (pieces_from (over y (c + 1)) (points_behind y (c + 1) n))) first ∙ ap (λ ss. step_slope y c ∷ ss) more
    ] refl

-- the heights are those of the track
pub height_over : (y : ℕ → ℕ) (b c n k : ℕ) → b ≤ c → AreSteps y c n → IsRun y (step_slope y c) b (c + 1) → b ≤ k → k ≤ c + n + 1 →
    height_from (over y b) (points_behind y c n) k ≡ y k
height_over y b c zero k le h r from to =
    let near : k ≤ c + 1 = omega arith in
    rw (le-leb k (c + 1) near) (run_height y (step_slope y c) b (c + 1) k (omega arith) r from near)
height_over y b c (suc n) k le h r from to =
    let later = later_steps y c n h in
    let next = later.each (c + 1) (omega arith) (omega arith) in
    elim (same_slope (step_slope y c) (step_slope y (c + 1))) as (λ same. same_slope (step_slope y c) (step_slope y (c + 1)) ≡ same → height_from (over y b)
    (rest_of same y c n) k ≡ y k) [
      | true ↦ λ e. height_over y b (c + 1) n k (omega arith) later (goes_further y b c le r e next) from (omega arith)
      | false ↦ λ e. elim (leb_tells k (c + 1)) [
        | inl near ↦ rw near.0 (run_height y (step_slope y c) b (c + 1) k (omega arith) r from near.1)
        | inr far ↦ let past = far.1 in rw far.0 (height_over y (c + 1) (c + 1) n k (omega arith) later (run_one y (step_slope y (c + 1)) (c + 1) next)
            (omega arith) (omega arith))
      ]
    ] refl

-- the line ends over the last column
pub last_over : (y : ℕ → ℕ) (b : Point) (c n : ℕ) → last_from b (points_behind y c n) ≡ over y (c + n + 1)
last_over y b c zero = let z : c + 1 ≡ c + zero + 1 = omega arith in ap (over y) z
last_over y b c (suc n) =
    let z : c + 1 + n + 1 ≡ c + suc n + 1 = omega arith in
    elim (same_slope (step_slope y c) (step_slope y (c + 1))) as (λ same. last_from b (rest_of same y c n) ≡ over y (c + suc n + 1)) [
      | true ↦ last_over y b (c + 1) n ∙ ap (over y) z
      | false ↦ last_over y (over y (c + 1)) (c + 1) n ∙ ap (over y) z
    ]

-- the shape, from east to west: a last run, a level run before it, and a run before that

-- each step from c on has the slope of the one before
pub slopes-last : (y : ℕ → ℕ) (c n : ℕ) → ((k : ℕ) → c ≤ k → k < c + n → step_slope y (k + 1) ≡ step_slope y k) → slopes_from y c n ≡ step_slope y c ∷ []
slopes-last y c zero h = refl
slopes-last y c (suc n) h =
    let e = h c (omega arith) (omega arith) in
    let s : same_slope (step_slope y c) (step_slope y (c + 1)) ≡ true = ap (same_slope (step_slope y c)) e ∙ same_self (step_slope y c) in
    rw s (slopes-last y (c + 1) n (λ k from to. h k (omega arith) (omega arith)) ∙ ap (λ t. t ∷ []) e)

abbrev pub is_tail : List Slope → Bool
is_tail (Level ∷ []) = true
is_tail (Level ∷ Up ∷ []) = true
is_tail (Level ∷ Down ∷ []) = true
is_tail other = false

-- behind a level step a diagonal one goes on to the end
pub record GoesOn (y : ℕ → ℕ) (c n : ℕ) : Type 0 where
  pub each : (k : ℕ) → c ≤ k → k < c + n → step_slope y k ≢ Level → step_slope y (k + 1) ≡ step_slope y k

same_to_end : (y : ℕ → ℕ) (c n : ℕ) → GoesOn y c n → step_slope y c ≢ Level → (m k : ℕ) → k ≡ c + m → k ≤ c + n → step_slope y k ≡ step_slope y c
same_to_end y c n g ne zero k is to = let z : k ≡ c = omega arith in ap (step_slope y) z
same_to_end y c n g ne (suc m) k is to =
    let before = same_to_end y c n g ne m (c + m) refl (omega arith) in
    let z : k ≡ c + m + 1 = omega arith in
    ap (step_slope y) z ∙ g.each (c + m) (omega arith) (omega arith) (λ e. ne (sym before ∙ e)) ∙ before

diagonal_end : (y : ℕ → ℕ) (c n : ℕ) → GoesOn y c n → step_slope y c ≢ Level → slopes_from y c n ≡ step_slope y c ∷ []
diagonal_end y c n g ne = slopes-last y c n (λ k from to.
    let m = k - c in
    same_to_end y c n g ne (m + 1) (k + 1) (omega arith) (omega arith) ∙ sym (same_to_end y c n g ne m k (omega arith) (omega arith)))

later_goes_on : (y : ℕ → ℕ) (c n : ℕ) → GoesOn y c (suc n) → GoesOn y (c + 1) n
later_goes_on y c n g = record { each = λ k from to ne. g.each k (omega arith) (omega arith) ne }

up≢level : Up ≢ Level
up≢level e = cc

down≢level : Down ≢ Level
down≢level e = cc

slopes-level : (y : ℕ → ℕ) (c n : ℕ) → GoesOn y c n → step_slope y c ≡ Level → is_tail (slopes_from y c n) ≡ true
slopes-level y c zero g level = rw level refl
slopes-level y c (suc n) g level =
    let later = later_goes_on y c n g in
    elim (step_slope y (c + 1)) as (λ s. step_slope y (c + 1) ≡ s → is_tail (cond (same_slope (step_slope y c) s) [] (step_slope y c ∷ []) ++ slopes_from y
    (c + 1) n) ≡ true) [
      | Down ↦ λ e. rw (level, diagonal_end y (c + 1) n later (λ l. down≢level (sym e ∙ l)), e) refl
      | Level ↦ λ e. rw level (slopes-level y (c + 1) n later e)
      | Up ↦ λ e. rw (level, diagonal_end y (c + 1) n later (λ l. up≢level (sym e ∙ l)), e) refl
    ] refl

shape_of_tail : (s : Slope) (ss : List Slope) → s ≢ Level → is_tail ss ≡ true → is_shape (s ∷ ss) ≡ true
shape_of_tail Up (Level ∷ []) ne h = refl
shape_of_tail Up (Level ∷ Up ∷ []) ne h = refl
shape_of_tail Up (Level ∷ Down ∷ []) ne h = refl
shape_of_tail Down (Level ∷ []) ne h = refl
shape_of_tail Down (Level ∷ Up ∷ []) ne h = refl
shape_of_tail Down (Level ∷ Down ∷ []) ne h = refl
shape_of_tail Level ss ne h = absurd (ne refl)
shape_of_tail s ss ne h = cc

shape_is_tail : (ss : List Slope) → is_tail ss ≡ true → is_shape ss ≡ true
shape_is_tail (Level ∷ []) h = refl
shape_is_tail (Level ∷ Up ∷ []) h = refl
shape_is_tail (Level ∷ Down ∷ []) h = refl
shape_is_tail ss h = cc

-- what is left of a track behind its first step
later_track : (y : ℕ → ℕ) (c n : ℕ) → IsTrack y c (suc n) → IsTrack y (c + 1) n
later_track y c n t = record {
  rises = λ k from to. t.rises k (omega arith) (omega arith);
  falls = λ k from to. t.falls k (omega arith) (omega arith);
  no_peak = λ k from to. t.no_peak k (omega arith) (omega arith);
  no_dip = λ k from to. t.no_dip k (omega arith) (omega arith);
  goes_on = λ d k low from to. t.goes_on d k (omega arith) from (omega arith);
}

level_goes_on : (y : ℕ → ℕ) (c n : ℕ) → IsTrack y c n → step_slope y c ≡ Level → GoesOn y c n
level_goes_on y c n t level = record { each = λ k from to ne. t.goes_on c k (omega arith) from to level ne }

one_shape : (s : Slope) → is_shape (s ∷ []) ≡ true
one_shape Down = refl
one_shape Level = refl
one_shape Up = refl

-- the slopes of a track are one of the eleven shapes
pub track_shape : (y : ℕ → ℕ) (c n : ℕ) → IsTrack y c n → is_shape (slopes_from y c n) ≡ true
track_shape y c zero t = one_shape (step_slope y c)
track_shape y c (suc n) t =
    let later = later_track y c n t in
    let peak = t.no_peak c (omega arith) (omega arith) in
    let dip = t.no_dip c (omega arith) (omega arith) in
    elim (step_slope y c) as (λ r. step_slope y c ≡ r → is_shape (cond (same_slope r (step_slope y (c + 1))) [] (r ∷ []) ++ slopes_from y (c + 1) n) ≡ true) [
      | Level ↦ λ e. subst (λ r. is_shape (cond (same_slope r (step_slope y (c + 1))) [] (r ∷ []) ++ slopes_from y (c + 1) n) ≡ true) e
          (shape_is_tail (slopes_from y c (suc n)) (slopes-level y c (suc n) (level_goes_on y c (suc n) t e) e))
      | Up ↦ λ e. elim (step_slope y (c + 1)) as (λ s. step_slope y (c + 1) ≡ s → is_shape (cond (same_slope Up s) [] (Up ∷ []) ++ slopes_from y (c + 1) n)
          ≡ true) [
            | Up ↦ λ f. track_shape y (c + 1) n later
            | Level ↦ λ f. shape_of_tail Up (slopes_from y (c + 1) n) up≢level (slopes-level y (c + 1) n (level_goes_on y (c + 1) n later f) f)
            | Down ↦ λ f. absurd (peak e f)
          ] refl
      | Down ↦ λ e. elim (step_slope y (c + 1)) as (λ s. step_slope y (c + 1) ≡ s → is_shape
          (cond (same_slope Down s) [] (Down ∷ []) ++ slopes_from y (c + 1) n) ≡ true) [
            | Down ↦ λ f. track_shape y (c + 1) n later
            | Level ↦ λ f. shape_of_tail Down (slopes_from y (c + 1) n) down≢level (slopes-level y (c + 1) n (level_goes_on y (c + 1) n later f) f)
            | Up ↦ λ f. absurd (dip e f)
          ] refl
    ] refl

first_run : (y : ℕ → ℕ) (w n : ℕ) → IsTrack y w n → IsRun y (step_slope y w) w (w + 1)
first_run y w n t = run_one y (step_slope y w) w ((track_steps y w n t).each w (omega arith) (omega arith))

-- THE FIRST DIRECTION: the points over a track are a line from end to end, with the track's heights

pub track_is_line : (y : ℕ → ℕ) (w n : ℕ) → IsTrack y w n → is_line (line_over y w n) ≡ true
track_is_line y w n t =
    let steps = track_steps y w n t in
    let run = first_run y w n t in
    rw (pieces_over y w w n (omega arith) steps run, slopes_over y w w n (omega arith) steps run) (track_shape y w n t)

pub track_east : (y : ℕ → ℕ) (w n : ℕ) → east_end (line_over y w n) ≡ over y (w + n + 1)
track_east y w n = last_over y (over y w) w n

pub track_height : (y : ℕ → ℕ) (w n k : ℕ) → IsTrack y w n → w ≤ k → k ≤ w + n + 1 → height (line_over y w n) k ≡ y k
track_height y w n k t from to = height_over y w w n k (omega arith) (track_steps y w n t) (first_run y w n t) from to
