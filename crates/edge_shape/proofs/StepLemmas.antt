-- The steps of a track: which are level, which were seen, and where the slope turns.
use Rattle.std.proofs.Common.{◌≡◌, ◌⊎◌, ℕ, ◌+◌, ◌≤◌, ◌<◌, Bool, true, false, not, inl, inr, refl, sym, ◌∙◌, ap, arith, ◌≢◌, zero, suc, ◌-◌, subst}
use Rattle.std.specs.Prelude.{◌&&◌, ◌||◌, nat_le, nat_lt}
use Rattle.std.proofs.lemmas.Bool.Decides.{nat_tests, leb_tells}
use Rattle.std.proofs.lemmas.Bool.{or_cases, and_parts}
use Rattle.plan_core.specs.declared.point.Slope.{Slope}
use Rattle.plan_core.specs.declared.point.Slope.TheVariants.{Down, Level, Up}
use Rattle.plan_core.proofs.PieceLemmas.{Reaches}
use Rattle.edge_shape.specs.Track.{step_slope, same_slope, IsTrack, IsFlatOutside}
use Rattle.edge_shape.specs.Columns.{within, is_up, is_down, is_level, is_level_step, seen_by, has_level, turns_behind}
use Rattle.edge_shape.proofs.TrackLemmas.{slope_by_reaches, reaches_by_slope}

abbrev pub Is : Bool → Type 0
Is b = b ≡ true

pub up_is : (s : Slope) → Is (is_up s) → s ≡ Up
up_is Down h = cc
up_is Level h = cc
up_is Up h = refl

pub down_is : (s : Slope) → Is (is_down s) → s ≡ Down
down_is Down h = refl
down_is Level h = cc
down_is Up h = cc

pub level_is : (s : Slope) → Is (is_level s) → s ≡ Level
level_is Down h = cc
level_is Level h = refl
level_is Up h = cc

pub is_level_by : (s : Slope) → (not (is_up s) && not (is_down s)) ≡ is_level s
is_level_by Down = refl
is_level_by Level = refl
is_level_by Up = refl

pub within_true : (w n c : ℕ) → w ≤ c → c ≤ w + n + 1 → Is (within w n c)
within_true w n c from to = grind (arith, nat_tests)

pub within_parts : (w n c : ℕ) → Is (within w n c) → (w ≤ c) × (c ≤ w + n + 1)
within_parts w n c h = (grind (arith, nat_tests, h), grind (arith, nat_tests, h))

-- the level steps of the line
pub level_by : (w n c : ℕ) (b : Bool) → (within w n c && (within w n (c + 1) && b)) ≡ (nat_le w c && (nat_le c (w + n) && b))
level_by w n c b = elim (leb_tells w c) [
  | inr x ↦ let low = x.1 in rw x.0 refl
  | inl x ↦ elim (leb_tells c (w + n)) [
    | inl z ↦
        let low = x.1 in
        let high = z.1 in
        let p : nat_le c (w + n + 1) ≡ true = grind (arith, nat_tests) in
        let q : nat_le w (c + 1) ≡ true = grind (arith, nat_tests) in
        let r : nat_le (c + 1) (w + n + 1) ≡ true = grind (arith, nat_tests) in
        rw (x.0, z.0, p, q, r) refl
    | inr z ↦
        let low = x.1 in
        let high = z.1 in
        let q : nat_le w (c + 1) ≡ true = grind (arith, nat_tests) in
        let r : nat_le (c + 1) (w + n + 1) ≡ false = grind (arith, nat_tests) in
        elim (nat_le c (w + n + 1)) as (λ (t : Bool). ((nat_le w c && t) && ((nat_le w (c + 1) && nat_le (c + 1) (w + n + 1)) && b))
        ≡ (nat_le w c && (nat_le c (w + n) && b))) [
          | true ↦ rw (x.0, z.0, q, r) refl
          | false ↦ rw (x.0, z.0) refl
        ]
  ]
]

or_right : (a b : Bool) → Is b → Is (a || b)
or_right true b h = refl
or_right false b h = h

or_left : (a b : Bool) → Is a → Is (a || b)
or_left true b h = refl
or_left false b h = cc

pub level_true : (y : ℕ → ℕ) (w n d : ℕ) → w ≤ d → d ≤ w + n → step_slope y d ≡ Level → Is (is_level_step y w n d)
level_true y w n d from to level =
    let p : nat_le w d ≡ true = grind (arith, nat_tests) in
    let q : nat_le d (w + n) ≡ true = grind (arith, nat_tests) in
    rw (p, q) (ap is_level level)

-- what was seen stays so
pub seen_true : (y : ℕ → ℕ) (w n d : ℕ) → Is (is_level_step y w n d) → (m c : ℕ) → d + m ≡ c → Is (seen_by y w n c)
seen_true y w n d h zero zero is = let z : d ≡ 0 = omega arith in subst (λ k. Is (is_level_step y w n k)) z h
seen_true y w n d h zero (suc c) is = let z : d ≡ suc c = omega arith in or_right (seen_by y w n c) (is_level_step y w n (suc c))
    (subst (λ k. Is (is_level_step y w n k)) z h)
seen_true y w n d h (suc m) zero is = absurd (omega arith)
seen_true y w n d h (suc m) (suc c) is = or_left (seen_by y w n c) (is_level_step y w n (suc c)) (seen_true y w n d h m c (omega arith))

-- a step outside the line is level
pub level_outside : (y : ℕ → ℕ) (w n c : ℕ) → IsFlatOutside y w n → (c < w) ⊎ (w + n < c) → step_slope y c ≡ Level
level_outside y w n c f (inl less) = slope_by_reaches Level 1 (y c) (y (c + 1)) (omega arith) (f.west (c + 1) (omega arith) ∙ sym (f.west c (omega arith)))
level_outside y w n c f (inr past) = slope_by_reaches Level 1 (y c) (y (c + 1)) (omega arith) (f.east (c + 1) (omega arith) ∙ sym (f.east c (omega arith)))

-- so a diagonal one is one of the line's
pub diagonal_inside : (y : ℕ → ℕ) (w n c : ℕ) → IsFlatOutside y w n → step_slope y c ≢ Level → (w ≤ c) × (c ≤ w + n)
diagonal_inside y w n c f ne = elim (leb_tells w c) [
  | inr x ↦ let low = x.1 in absurd (ne (level_outside y w n c f (inl (omega arith))))
  | inl x ↦ elim (leb_tells c (w + n)) [
    | inl z ↦ (x.1, z.1)
    | inr z ↦ let high = z.1 in absurd (ne (level_outside y w n c f (inr (omega arith))))
  ]
]

pub up_diagonal : (s : Slope) → Is (is_up s) → s ≢ Level
up_diagonal Down h e = cc
up_diagonal Level h e = cc
up_diagonal Up h e = cc

pub down_diagonal : (s : Slope) → Is (is_down s) → s ≢ Level
down_diagonal Down h e = cc
down_diagonal Level h e = cc
down_diagonal Up h e = cc

pub up_not_down : (s : Slope) → Is (is_up s) → Is (is_down s) → ⊥
up_not_down Down h k = cc
up_not_down Level h k = cc
up_not_down Up h k = cc

pub track_reaches : (y : ℕ → ℕ) (w n c : ℕ) → IsTrack y w n → IsFlatOutside y w n → Reaches (step_slope y c) 1 (y c) (y (c + 1))
track_reaches y w n c t f = elim (leb_tells w c) [
  | inr x ↦ let low = x.1 in let e : y (c + 1) ≡ y c = f.west (c + 1) (omega arith)
      ∙ sym (f.west c (omega arith)) in reaches_by_slope (y c) (y (c + 1)) (omega arith) (omega arith)
  | inl x ↦ elim (leb_tells c (w + n)) [
    | inl z ↦ reaches_by_slope (y c) (y (c + 1)) (t.rises c x.1 z.1) (t.falls c x.1 z.1)
    | inr z ↦ let high = z.1 in let e : y (c + 1) ≡ y c = f.east (c + 1) (omega arith)
        ∙ sym (f.east c (omega arith)) in reaches_by_slope (y c) (y (c + 1)) (omega arith) (omega arith)
  ]
]

-- what was seen is there
pub seen_some : (y : ℕ → ℕ) (w n c : ℕ) → Is (seen_by y w n c) → (d : ℕ) × (d ≤ c) × Is (is_level_step y w n d)
seen_some y w n zero h = (0, omega arith, h)
seen_some y w n (suc c) h = elim (or_cases (seen_by y w n c) (is_level_step y w n (suc c)) h) [
  | inl a ↦ let s = seen_some y w n c a in let le = s.1 in (s.0, omega arith, s.2)
  | inr a ↦ (suc c, omega arith, a)
]

pub level_parts : (y : ℕ → ℕ) (w n d : ℕ) → Is (is_level_step y w n d) → (w ≤ d) × ((d ≤ w + n) × (step_slope y d ≡ Level))
level_parts y w n d h =
    let a = and_parts (nat_le w d) (nat_le d (w + n) && is_level (step_slope y d)) h in
    let b = and_parts (nat_le d (w + n)) (is_level (step_slope y d)) a.1 in
    let p = a.0 in
    let q = b.0 in
    (grind (arith, nat_tests, p), (grind (arith, nat_tests, q), level_is (step_slope y d) b.1))

-- behind a level step a diagonal one goes on to the end
to_end : (y : ℕ → ℕ) (w n : ℕ) → IsTrack y w n → (d c m k : ℕ) → w ≤ d → d ≤ c → step_slope y d ≡ Level → step_slope y c ≢ Level → c + m ≡ k → k ≤ w + n →
    step_slope y k ≡ step_slope y c
to_end y w n t d c zero k low le level ne is to = let z : k ≡ c = omega arith in ap (step_slope y) z
to_end y w n t d c (suc m) k low le level ne is to =
    let before = to_end y w n t d c m (c + m) low le level ne refl (omega arith) in
    let z : k ≡ c + m + 1 = omega arith in
    ap (step_slope y) z ∙ t.goes_on d (c + m) low (omega arith) (omega arith) level (λ l. ne (sym before ∙ l)) ∙ before

alike : (y : ℕ → ℕ) (w n c : ℕ) → IsTrack y w n → w ≤ c → c < w + n → step_slope y c ≢ Level → step_slope y (c + 1) ≢ Level →
    step_slope y (c + 1) ≡ step_slope y c
alike y w n c t from to ne next = elim (step_slope y c) as (λ s. step_slope y c ≡ s → step_slope y (c + 1) ≡ s) [
  | Level ↦ λ e. absurd (ne e)
  | Up ↦ λ e. elim (step_slope y (c + 1)) as (λ s. step_slope y (c + 1) ≡ s → s ≡ Up)
      [ Up ↦ λ g. refl | Level ↦ λ g. absurd (next g) | Down ↦ λ g. absurd (t.no_peak c from to e g) ] refl
  | Down ↦ λ e. elim (step_slope y (c + 1)) as (λ s. step_slope y (c + 1) ≡ s → s ≡ Down)
      [ Down ↦ λ g. refl | Level ↦ λ g. absurd (next g) | Up ↦ λ g. absurd (t.no_dip c from to e g) ] refl
] refl

-- without a level step all are alike
from_west : (y : ℕ → ℕ) (w n c : ℕ) → IsTrack y w n → c ≤ w + n → ((d : ℕ) → w ≤ d → d ≤ c → step_slope y d ≢ Level) → (m k : ℕ) → w + m ≡ k → k ≤ c →
    step_slope y k ≡ step_slope y w
from_west y w n c t le none zero k is to = let z : k ≡ w = omega arith in ap (step_slope y) z
from_west y w n c t le none (suc m) k is to =
    let z : k ≡ w + m + 1 = omega arith in
    ap (step_slope y) z
    ∙ alike y w n (w + m) t (omega arith) (omega arith) (none (w + m) (omega arith) (omega arith)) (none (w + m + 1) (omega arith) (omega arith))
    ∙ from_west y w n c t le none m (w + m) refl (omega arith)

pub not_seen : (y : ℕ → ℕ) (w n c : ℕ) → c ≤ w + n → seen_by y w n c ≡ false → (d : ℕ) → w ≤ d → d ≤ c → step_slope y d ≢ Level
not_seen y w n c le h d from to level = let z : Is (seen_by y w n c) = seen_true y w n d (level_true y w n d from (omega arith) level) (c - d) c
    (omega arith) in cc

-- a diagonal step is one of the first or the last piece
pub through : (y : ℕ → ℕ) (w n c : ℕ) → IsTrack y w n → w ≤ c → c ≤ w + n → step_slope y c ≢ Level →
    (step_slope y w ≡ step_slope y c) ⊎ (step_slope y (w + n) ≡ step_slope y c)
through y w n c t from to ne = elim (seen_by y w n c) as (λ b. seen_by y w n c ≡ b → (step_slope y w ≡ step_slope y c) ⊎
    (step_slope y (w + n) ≡ step_slope y c)) [
      | true ↦ λ h.
          let d = seen_some y w n c h in
          let parts = level_parts y w n d.0 d.2 in
          inr (to_end y w n t d.0 c (w + n - c) (w + n) parts.0 d.1 parts.1.1 ne (omega arith) (omega arith))
      | false ↦ λ h. inl (sym (from_west y w n c t to (not_seen y w n c to h) (c - w) c (omega arith) (omega arith)))
    ] refl

pub one_slope_all : (y : ℕ → ℕ) (w n : ℕ) → IsTrack y w n → has_level y w n ≡ false → (step_slope y w ≢ Level) × (step_slope y (w + n) ≡ step_slope y w)
one_slope_all y w n t h =
    let none = not_seen y w n (w + n) (omega arith) h in
    (none w (omega arith) (omega arith), from_west y w n (w + n) t (omega arith) none n (w + n) refl (omega arith))

-- past the line nothing more is seen
pub seen_to_end : (y : ℕ → ℕ) (w n m c : ℕ) → w + n + m ≡ c → seen_by y w n c ≡ has_level y w n
seen_to_end y w n zero c is = let z : c ≡ w + n = omega arith in ap (seen_by y w n) z
seen_to_end y w n (suc m) zero is = absurd (omega arith)
seen_to_end y w n (suc m) (suc c) is =
    let past : nat_le (suc c) (w + n) ≡ false = grind (arith, nat_tests) in
    let none : is_level_step y w n (suc c) ≡ false = elim (nat_le w (suc c)) as (λ
    (b : Bool). (b && (nat_le (suc c) (w + n) && is_level (step_slope y (suc c)))) ≡ false) [ true ↦ rw past refl | false ↦ refl ] in
    let same : (seen_by y w n c || is_level_step y w n (suc c)) ≡ seen_by y w n c = elim (seen_by y w n c) as
    (λ (b : Bool). (b || is_level_step y w n (suc c)) ≡ b) [ true ↦ refl | false ↦ none ] in
    same ∙ seen_to_end y w n m c (omega arith)

-- a turn behind column c
pub turn_bool : (s t : Slope) → ((is_up s && not (is_up t) || is_up t && not (is_up s)) || (is_down s && not (is_down t) || is_down t && not (is_down s))) ≡ not
    (same_slope s t)
turn_bool Down Down = refl
turn_bool Down Level = refl
turn_bool Down Up = refl
turn_bool Level Down = refl
turn_bool Level Level = refl
turn_bool Level Up = refl
turn_bool Up Down = refl
turn_bool Up Level = refl
turn_bool Up Up = refl

turn_within : (w n c : ℕ) (b : Bool) → (within w n c && (within w n (c + 2) && b)) ≡ (nat_le w c && (nat_lt c (w + n) && b))
turn_within w n c b = elim (leb_tells w c) [
  | inr x ↦ rw x.0 refl
  | inl x ↦ elim (leb_tells (suc c) (w + n)) [
    | inl z ↦
        let low = x.1 in
        let high = z.1 in
        let p : nat_le c (w + n + 1) ≡ true = grind (arith, nat_tests) in
        let q : nat_le w (c + 2) ≡ true = grind (arith, nat_tests) in
        let r : nat_le (c + 2) (w + n + 1) ≡ true = grind (arith, nat_tests) in
        let s : nat_lt c (w + n) ≡ true = grind (arith, nat_tests) in
        rw (x.0, p, q, r, s) refl
    | inr z ↦
        let low = x.1 in
        let high = z.1 in
        let q : nat_le w (c + 2) ≡ true = grind (arith, nat_tests) in
        let r : nat_le (c + 2) (w + n + 1) ≡ false = grind (arith, nat_tests) in
        let s : nat_lt c (w + n) ≡ false = grind (arith, nat_tests) in
        elim (nat_le c (w + n + 1)) as (λ (t : Bool). ((nat_le w c && t) && ((nat_le w (c + 2) && nat_le (c + 2) (w + n + 1)) && b))
        ≡ (nat_le w c && (nat_lt c (w + n) && b))) [
          | true ↦ rw (x.0, q, r, s) refl
          | false ↦ rw (x.0, s) refl
        ]
  ]
]

-- with the truth values of the two steps
pub turns_are : (y : ℕ → ℕ) (w n c : ℕ) (i k u p d q : Bool) → i ≡ within w n c → k ≡ within w n (c + 2) → u ≡ is_up (step_slope y c) →
    p ≡ is_up (step_slope y (c + 1)) → d ≡ is_down (step_slope y c) → q ≡ is_down (step_slope y (c + 1))
    → (i && (k && ((u && not p || p && not u) || (d && not q || q && not d)))) ≡ turns_behind y w n c
turns_are y w n c i k u p d q ei ek eu ep ed eq =
    ap (λ x. x && (k && ((u && not p || p && not u) || (d && not q || q && not d)))) ei
    ∙ ap (λ x. within w n c && (x && ((u && not p || p && not u) || (d && not q || q && not d)))) ek
    ∙ ap (λ x. within w n c && (within w n (c + 2) && ((x && not p || p && not x) || (d && not q || q && not d)))) eu
    ∙ ap (λ x. within w n c && (within w n (c + 2) && ((is_up (step_slope y c) && not x || x && not (is_up (step_slope y c))) || (d && not q || q && not d))))
    ep
    ∙ ap (λ x. within w n c && (within w n (c + 2) && ((is_up (step_slope y c) && not (is_up (step_slope y (c + 1))) || is_up (step_slope y (c + 1)) && not
    (is_up (step_slope y c))) || (x && not q || q && not x)))) ed
    ∙ ap (λ x. within w n c && (within w n (c + 2) && ((is_up (step_slope y c) && not (is_up (step_slope y (c + 1))) || is_up (step_slope y (c + 1)) && not
    (is_up (step_slope y c))) || (is_down (step_slope y c) && not x || x && not (is_down (step_slope y c)))))) eq
    ∙ ap (λ b. within w n c && (within w n (c + 2) && b)) (turn_bool (step_slope y c) (step_slope y (c + 1)))
    ∙ turn_within w n c (not (same_slope (step_slope y c) (step_slope y (c + 1))))

pub diagonal_bool : (s : Slope) → (is_up s || is_down s) ≡ not (is_level s)
diagonal_bool Down = refl
diagonal_bool Level = refl
diagonal_bool Up = refl
