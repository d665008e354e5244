-- A line's steps: a diagonal run, a level one and a diagonal one; so its heights are a track, and its
-- bends are told by its two end slopes.
use Rattle.std.proofs.Common.{◌≡◌, ◌≢◌, ℕ, suc, ◌+◌, ◌<◌, ◌≤◌, ◌⊎◌, inl, inr, Bool, true, false, cond, List, [], ◌∷◌, refl, sym, ◌∙◌, ap, arith}
use Rattle.std.proofs.lemmas.Bool.{false≢true}
use Rattle.std.proofs.lemmas.Bool.Decides.{leb_tells}
use Rattle.plan_core.specs.declared.point.Point.{Point}
use Rattle.plan_core.specs.declared.point.Slope.{Slope}
use Rattle.plan_core.specs.declared.point.Slope.TheVariants.{Down, Level, Up}
use Rattle.plan_core.specs.Line.{slope, is_line, height_from, height, last_from, west_end, east_end, slope_west, slope_east, bends}
use Rattle.plan_core.proofs.PieceLemmas.{Reaches, piece, ArePieces, height_from-step, past_first}
use Rattle.plan_core.proofs.LineLemmas.{pieces_of, line_length, step_from_west, step_to_east}
use Rattle.edge_shape.specs.Track.{slope_by, step_slope, IsTrack}
use Rattle.edge_shape.proofs.TrackLemmas.{slope_by_reaches, reaches_by_slope}
use Rattle.edge_shape.proofs.LineTrackLemmas.{step_over, later_same, two_slopes, three_slopes, shape_of}

-- from w to e a run of a slope, a level one from column first on, and one of a slope from column last on
pub record AreRuns (y : ℕ → ℕ) (w first last e : ℕ) (s t : Slope) : Type 0 where
  pub west : w ≤ first
  pub middle : first ≤ last
  pub east : last ≤ e
  pub to_first : (k : ℕ) → w ≤ k → k < first → step_slope y k ≡ s
  pub level : (k : ℕ) → first ≤ k → k < last → step_slope y k ≡ Level
  pub from_last : (k : ℕ) → last ≤ k → k < e → step_slope y k ≡ t
  pub west_slope : s ≢ Level
  pub east_slope : t ≢ Level
  pub parted : (first < last) ⊎ (first ≡ e)

pub record HasRuns (y : ℕ → ℕ) (w e : ℕ) : Type 0 where
  pub first : ℕ
  pub last : ℕ
  pub s : Slope
  pub t : Slope
  pub runs : AreRuns y w first last e s t

-- two diagonal steps beside each other are alike
alike : (y : ℕ → ℕ) (w first last e : ℕ) (s t : Slope) → AreRuns y w first last e s t → (c : ℕ) → w ≤ c → c + 1 < e → step_slope y c ≢ Level →
    step_slope y (c + 1) ≢ Level → step_slope y (c + 1) ≡ step_slope y c
alike y w first last e s t r c from to ne next =
    elim (leb_tells (suc (c + 1)) first) [
      | inl a ↦ let h = a.1 in r.to_first (c + 1) (omega arith) (omega arith) ∙ sym (r.to_first c from (omega arith))
      | inr a ↦ let h = a.1 in elim (leb_tells last c) [
        | inl b ↦ let g = b.1 in r.from_last (c + 1) (omega arith) (omega arith) ∙ sym (r.from_last c g (omega arith))
        | inr b ↦ let g = b.1 in elim (leb_tells first c) [
          | inl d ↦ absurd (ne (r.level c d.1 (omega arith)))
          | inr d ↦ let f = d.1 in elim r.parted [
            | inl less ↦ absurd (next (r.level (c + 1) (omega arith) (omega arith)))
            | inr end ↦ absurd (omega arith)
          ]
        ]
      ]
    ]

-- behind a level step
on : (y : ℕ → ℕ) (w first last e : ℕ) (s t : Slope) → AreRuns y w first last e s t → (d c : ℕ) → w ≤ d → d ≤ c → c + 1 < e → step_slope y d ≡ Level →
    step_slope y c ≢ Level → step_slope y (c + 1) ≡ step_slope y c
on y w first last e s t r d c low from to level ne =
    elim (leb_tells first d) [
      | inl a ↦ let h = a.1 in elim (leb_tells last c) [
        | inl b ↦ let g = b.1 in r.from_last (c + 1) (omega arith) (omega arith) ∙ sym (r.from_last c g (omega arith))
        | inr b ↦ let g = b.1 in absurd (ne (r.level c (omega arith) (omega arith)))
      ]
      | inr a ↦ let h = a.1 in absurd (r.west_slope (sym (r.to_first d low (omega arith)) ∙ level))
    ]

-- each step is by a slope
pub record HasSteps (y : ℕ → ℕ) (w e : ℕ) : Type 0 where
  pub each : (k : ℕ) → w ≤ k → k < e → Reaches (step_slope y k) 1 (y k) (y (k + 1))

by_one_row : (s : Slope) (a b : ℕ) → Reaches s 1 a b → (b ≤ a + 1) × (a ≤ b + 1)
by_one_row Down a b h = (omega arith, omega arith)
by_one_row Level a b h = (omega arith, omega arith)
by_one_row Up a b h = (omega arith, omega arith)

pub runs_are_a_track : (y : ℕ → ℕ) (w n e : ℕ) → w + n + 1 ≡ e → HasSteps y w e → HasRuns y w e → IsTrack y w n
runs_are_a_track y w n e is h r = record {
  rises = λ c from to. (by_one_row (step_slope y c) (y c) (y (c + 1)) (h.each c from (omega arith))).0;
  falls = λ c from to. (by_one_row (step_slope y c) (y c) (y (c + 1)) (h.each c from (omega arith))).1;
  no_peak = λ c from to up down. let x : Down ≡ Up = sym down ∙ alike y w r.first r.last e r.s r.t r.runs c from (omega arith)
      (λ l. let z : Up ≡ Level = sym up ∙ l in cc) (λ l. let z : Down ≡ Level = sym down ∙ l in cc) ∙ up in cc;
  no_dip = λ c from to down up. let x : Up ≡ Down = sym up ∙ alike y w r.first r.last e r.s r.t r.runs c from (omega arith)
      (λ l. let z : Down ≡ Level = sym down ∙ l in cc) (λ l. let z : Up ≡ Level = sym up ∙ l in cc) ∙ down in cc;
  goes_on = λ d c low from to level ne. on y w r.first r.last e r.s r.t r.runs d c low from (omega arith) level ne;
}

-- the runs of a line
level_or_not : (s : Slope) → (s ≡ Level) ⊎ (s ≢ Level)
level_or_not Down = inr (λ e. cc)
level_or_not Level = inl refl
level_or_not Up = inr (λ e. cc)

up_is_diagonal : Up ≢ Level
up_is_diagonal e = cc

-- from first on the step of each column is that of the piece over it
abbrev pub StepsBy : (ℕ → ℕ) → Slope → ℕ → ℕ → Type 0
StepsBy y s from to = (k : ℕ) → from ≤ k → k < to → step_slope y k ≡ s

one_run : (y : ℕ → ℕ) (w e : ℕ) (s : Slope) → w ≤ e → StepsBy y s w e → HasRuns y w e
one_run y w e s le h = elim (level_or_not s) [
  | inl level ↦ record {
    first = w;
    last = e;
    s = Up;
    t = Up;
    runs = record {
      west = omega arith;
      middle = le;
      east = omega arith;
      to_first = λ k from to. absurd (omega arith);
      level = λ k from to. h k from to ∙ level;
      from_last = λ k from to. absurd (omega arith);
      west_slope = up_is_diagonal;
      east_slope = up_is_diagonal;
      parted = elim (leb_tells (suc w) e) [ inl a ↦ inl a.1 | inr a ↦ inr (let g = a.1 in omega arith) ];
    };
  }
  | inr ne ↦ record {
    first = e;
    last = e;
    s = s;
    t = s;
    runs = record {
      west = le;
      middle = omega arith;
      east = omega arith;
      to_first = h;
      level = λ k from to. absurd (omega arith);
      from_last = λ k from to. absurd (omega arith);
      west_slope = ne;
      east_slope = ne;
      parted = inr refl;
    };
  }
]

level_first : (y : ℕ → ℕ) (w b e : ℕ) (t : Slope) → w < b → b ≤ e → StepsBy y Level w b → StepsBy y t b e → t ≢ Level → HasRuns y w e
level_first y w b e t less le g h ne = record {
  first = w;
  last = b;
  s = t;
  t = t;
  runs = record {
    west = omega arith;
    middle = omega arith;
    east = le;
    to_first = λ k from to. absurd (omega arith);
    level = g;
    from_last = h;
    west_slope = ne;
    east_slope = ne;
    parted = inl less;
  };
}

level_last : (y : ℕ → ℕ) (w b e : ℕ) (s : Slope) → w ≤ b → b < e → StepsBy y s w b → StepsBy y Level b e → s ≢ Level → HasRuns y w e
level_last y w b e s le less g h ne = record {
  first = b;
  last = e;
  s = s;
  t = s;
  runs = record {
    west = le;
    middle = omega arith;
    east = omega arith;
    to_first = g;
    level = h;
    from_last = λ k from to. absurd (omega arith);
    west_slope = ne;
    east_slope = ne;
    parted = inl less;
  };
}

by_slope : (y : ℕ → ℕ) (s t : Slope) (from to : ℕ) → s ≡ t → StepsBy y s from to → StepsBy y t from to
by_slope y s t from to e h k a b = h k a b ∙ e

pub line_runs : (line : List Point) → is_line line ≡ true → HasRuns (height line) (west_end line).x (east_end line).x
line_runs [] h = absurd (false≢true h)
line_runs (a ∷ []) h = absurd (false≢true h)
line_runs (a ∷ b ∷ []) h =
    let y = height (a ∷ b ∷ []) in
    let all = pieces_of a (b ∷ []) h in
    let rising = all.0.rising in
    one_run y a.x b.x (slope (piece a b)) (omega arith) (λ k from to. step_over y a b [] k all (λ j x. refl) from to)
line_runs (a ∷ b ∷ c ∷ []) h =
    let y = height (a ∷ b ∷ c ∷ []) in
    let all = pieces_of a (b ∷ c ∷ []) h in
    let rising = all.0.rising in
    let next = all.1.0.rising in
    let first : StepsBy y (slope (piece a b)) a.x b.x = λ k from to. step_over y a b (c ∷ []) k all (λ j x. refl) from to in
    let second : StepsBy y (slope (piece b c)) b.x c.x = λ k from to. step_over y b c [] k all.1 (later_same y a b (c ∷ []) all (λ j x. refl)) from to in
    elim (two_slopes (slope (piece a b)) (slope (piece b c)) (shape_of (a ∷ b ∷ c ∷ []) h)) [
      | inl x ↦ level_first y a.x b.x c.x (slope (piece b c)) rising (omega arith) (by_slope y (slope (piece a b)) Level a.x b.x x.0 first) second x.1
      | inr x ↦ level_last y a.x b.x c.x (slope (piece a b)) (omega arith) next first (by_slope y (slope (piece b c)) Level b.x c.x x.1 second) x.0
    ]
line_runs (a ∷ b ∷ c ∷ d ∷ []) h =
    let y = height (a ∷ b ∷ c ∷ d ∷ []) in
    let all = pieces_of a (b ∷ c ∷ d ∷ []) h in
    let rising = all.0.rising in
    let next = all.1.0.rising in
    let more = all.1.1.0.rising in
    let same = later_same y a b (c ∷ d ∷ []) all (λ j x. refl) in
    let x = three_slopes (slope (piece a b)) (slope (piece b c)) (slope (piece c d)) (shape_of (a ∷ b ∷ c ∷ d ∷ []) h) in
    record {
      first = b.x;
      last = c.x;
      s = slope (piece a b);
      t = slope (piece c d);
      runs = record {
        west = omega arith;
        middle = omega arith;
        east = omega arith;
        to_first = λ k from to. step_over y a b (c ∷ d ∷ []) k all (λ j z. refl) from to;
        level = λ k from to. step_over y b c (d ∷ []) k all.1 same from to ∙ x.1;
        from_last = λ k from to. step_over y c d [] k all.1.1 (later_same y b c (d ∷ []) all.1 same) from to;
        west_slope = x.0;
        east_slope = x.2;
        parted = inl next;
      };
    }
line_runs (a ∷ b ∷ c ∷ d ∷ e ∷ rest) h = let few = (line_length (a ∷ b ∷ c ∷ d ∷ e ∷ rest) h).1 in absurd (omega (arith, few))

-- each step of a line is by a slope
some_slope : (s : Slope) (a b : ℕ) → Reaches s 1 a b → Reaches (slope_by a b) 1 a b
some_slope s a b h = let r = by_one_row s a b h in reaches_by_slope a b r.0 r.1

-- the step of heights h from column k is by a slope
abbrev pub StepsAt : (ℕ → ℕ) → ℕ → Type 0
StepsAt h k = Reaches (slope_by (h k) (h (k + 1))) 1 (h k) (h (k + 1))

near_step : (a b : Point) (rest : List Point) (k : ℕ) → ArePieces a (b ∷ rest) → a.x ≤ k → k < b.x → StepsAt (height_from a (b ∷ rest)) k
near_step a b rest k h from to = some_slope (slope (piece a b)) (height_from a (b ∷ rest) k) (height_from a (b ∷ rest) (k + 1))
    (height_from-step a b rest k h from to)

far_step : (a b : Point) (rest : List Point) (k : ℕ) → ArePieces a (b ∷ rest) → b.x ≤ k → StepsAt (height_from b rest) k → StepsAt (height_from a (b ∷ rest)) k
far_step a b rest k h past s =
    let H = height_from b rest in
    some_slope (slope_by (H k) (H (k + 1))) (height_from a (b ∷ rest) k) (height_from a (b ∷ rest) (k + 1))
    (past_first a b rest (slope_by (H k) (H (k + 1))) k h past s)

pub steps_along : (a b : Point) (rest : List Point) (k : ℕ) → ArePieces a (b ∷ rest) → a.x ≤ k → k < (last_from b rest).x → StepsAt (height_from a (b ∷ rest)) k
steps_along a b [] k h from to = near_step a b [] k h from to
steps_along a b (c ∷ rest) k h from to = elim (leb_tells (suc k) b.x) [
  | inl near ↦ near_step a b (c ∷ rest) k h from near.1
  | inr far ↦ let past = far.1 in far_step a b (c ∷ rest) k h (omega arith) (steps_along b c rest k h.1 (omega arith) to)
]

pub line_steps : (line : List Point) → is_line line ≡ true → HasSteps (height line) (west_end line).x (east_end line).x
line_steps [] h = absurd (false≢true h)
line_steps (a ∷ []) h = absurd (false≢true h)
line_steps (a ∷ b ∷ rest) h = record { each = λ k from to. steps_along a b rest k (pieces_of a (b ∷ rest) h) from to }

-- THE SECOND DIRECTION: a line's heights are a track
pub line_is_track : (line : List Point) (n : ℕ) → is_line line ≡ true → (west_end line).x + n + 1 ≡ (east_end line).x →
    IsTrack (height line) (west_end line).x n
line_is_track line n h is = runs_are_a_track (height line) (west_end line).x n (east_end line).x is (line_steps line h) (line_runs line h)

-- the slopes of a line at its ends are those of its first and last step
pub line_west_slope : (line : List Point) → is_line line ≡ true → step_slope (height line) (west_end line).x ≡ slope_west line
line_west_slope line h =
    let x = (west_end line).x in
    slope_by_reaches (slope_west line) 1 (height line x) (height line (x + 1)) (omega arith) (step_from_west line h)

pub line_east_slope : (line : List Point) (x : ℕ) → is_line line ≡ true → x + 1 ≡ (east_end line).x → step_slope (height line) x ≡ slope_east line
line_east_slope line x h is = slope_by_reaches (slope_east line) 1 (height line x) (height line (x + 1)) (omega arith) (step_to_east line x h is)

-- the bends of a line, where some step is level, and where none is
abbrev pub is_diagonal : Slope → Bool
is_diagonal Down = true
is_diagonal Level = false
is_diagonal Up = true

abbrev pub one_if : Bool → ℕ
one_if b = cond b 1 0

diagonal_one : (s : Slope) → s ≢ Level → one_if (is_diagonal s) ≡ 1
diagonal_one Down ne = refl
diagonal_one Level ne = absurd (ne refl)
diagonal_one Up ne = refl

level_none : (s : Slope) → s ≡ Level → one_if (is_diagonal s) ≡ 0
level_none s e = ap (λ t. one_if (is_diagonal t)) e

pub bends_by_slopes : (line : List Point) (d : ℕ) → is_line line ≡ true → (west_end line).x ≤ d → d < (east_end line).x → step_slope (height line) d ≡ Level →
    bends line ≡ one_if (is_diagonal (slope_west line)) + one_if (is_diagonal (slope_east line))
bends_by_slopes [] d h from to level = absurd (false≢true h)
bends_by_slopes (a ∷ []) d h from to level = absurd (false≢true h)
bends_by_slopes (a ∷ b ∷ []) d h from to level =
    let all = pieces_of a (b ∷ []) h in
    let s : slope (piece a b) ≡ Level = sym (step_over (height (a ∷ b ∷ [])) a b [] d all (λ j x. refl) from to) ∙ level in
    let n = level_none (slope (piece a b)) s in
    omega arith
bends_by_slopes (a ∷ b ∷ c ∷ []) d h from to level =
    elim (two_slopes (slope (piece a b)) (slope (piece b c)) (shape_of (a ∷ b ∷ c ∷ []) h)) [
      | inl x ↦ let m = level_none (slope (piece a b)) x.0 in let n = diagonal_one (slope (piece b c)) x.1 in omega arith
      | inr x ↦ let m = diagonal_one (slope (piece a b)) x.0 in let n = level_none (slope (piece b c)) x.1 in omega arith
    ]
bends_by_slopes (a ∷ b ∷ c ∷ d1 ∷ []) d h from to level =
    let x = three_slopes (slope (piece a b)) (slope (piece b c)) (slope (piece c d1)) (shape_of (a ∷ b ∷ c ∷ d1 ∷ []) h) in
    let m = diagonal_one (slope (piece a b)) x.0 in
    let n = diagonal_one (slope (piece c d1)) x.2 in
    omega arith
bends_by_slopes (a ∷ b ∷ c ∷ d1 ∷ e ∷ rest) d h from to level = let few = (line_length (a ∷ b ∷ c ∷ d1 ∷ e ∷ rest) h).1 in absurd (omega (arith, few))

pub no_bends : (line : List Point) → is_line line ≡ true → ((d : ℕ) → (west_end line).x ≤ d → d < (east_end line).x → step_slope (height line) d ≢ Level) →
    bends line ≡ 0
no_bends [] h none = absurd (false≢true h)
no_bends (a ∷ []) h none = absurd (false≢true h)
no_bends (a ∷ b ∷ []) h none = refl
no_bends (a ∷ b ∷ c ∷ []) h none =
    let y = height (a ∷ b ∷ c ∷ []) in
    let all = pieces_of a (b ∷ c ∷ []) h in
    let rising = all.0.rising in
    let next = all.1.0.rising in
    elim (two_slopes (slope (piece a b)) (slope (piece b c)) (shape_of (a ∷ b ∷ c ∷ []) h)) [
      | inl x ↦ absurd (none a.x (omega arith) (omega arith) (step_over y a b (c ∷ []) a.x all (λ j z. refl) (omega arith) rising ∙ x.0))
      | inr x ↦ absurd (none b.x (omega arith) (omega arith) (step_over y b c [] b.x all.1 (later_same y a b (c ∷ []) all (λ j z. refl)) (omega arith) next
          ∙ x.1))
    ]
no_bends (a ∷ b ∷ c ∷ d ∷ []) h none =
    let y = height (a ∷ b ∷ c ∷ d ∷ []) in
    let all = pieces_of a (b ∷ c ∷ d ∷ []) h in
    let rising = all.0.rising in
    let next = all.1.0.rising in
    let more = all.1.1.0.rising in
    let x = three_slopes (slope (piece a b)) (slope (piece b c)) (slope (piece c d)) (shape_of (a ∷ b ∷ c ∷ d ∷ []) h) in
    absurd (none b.x (omega arith) (omega arith) (step_over y b c (d ∷ []) b.x all.1 (later_same y a b (c ∷ d ∷ []) all (λ j z. refl)) (omega arith) next
    ∙ x.1))
no_bends (a ∷ b ∷ c ∷ d ∷ e ∷ rest) h none = let few = (line_length (a ∷ b ∷ c ∷ d ∷ e ∷ rest) h).1 in absurd (omega (arith, few))
