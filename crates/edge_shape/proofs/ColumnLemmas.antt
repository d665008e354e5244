-- From the truth values of all columns to a track.
use Rattle.std.proofs.Common.{◌≡◌, ◌≢◌, ℕ, zero, suc, ◌+◌, ◌-◌, ◌≤◌, ◌<◌, Bool, true, false, not, refl, sym, ◌∙◌, ap, arith}
use Rattle.std.specs.Prelude.{◌&&◌, ◌||◌}
use Rattle.plan_core.specs.declared.point.Slope.TheVariants.{Down, Level, Up}
use Rattle.cnf_core.specs.Assignment.{Assignment}
use Rattle.cnf_core.specs.LitOrTruth.{value}
use Rattle.edge_shape.specs.Track.{slope_by, step_slope, IsTrack}
use Rattle.edge_shape.specs.EdgeVars.{EdgeLits, before}
use Rattle.edge_shape.specs.Columns.{within, is_up, is_down, is_level, is_level_step, seen_by}
use Rattle.edge_shape.proofs.TrackLemmas.{slope_by_reaches}
use Rattle.edge_shape.proofs.StepLemmas.{Is, up_is, down_is, is_level_by, within_true, within_parts, level_by, level_true, seen_true}
use Rattle.edge_shape.proofs.FamilyLemmas.{StepFacts, ShapeFacts}
use Rattle.edge_shape.proofs.HeightLemmas.{GoesBy, is_false, by_bools}

-- what the clauses of all columns say
pub record AreColumns (v : Assignment) (e : EdgeLits) (width : ℕ) (y : ℕ → ℕ) (w n : ℕ) : Type 0 where
  pub inside : (c : ℕ) → c ≤ width → v (e.inside c) ≡ within w n c
  pub steps : (c : ℕ) → c < width → StepFacts (v (e.inside c)) (v (e.inside (c + 1))) (v (e.up c)) (v (e.down c))
  pub goes : (c : ℕ) → c < width → GoesBy (v (e.up c)) (v (e.down c)) (y c) (y (c + 1))
  pub seen : (c : ℕ) → c < width → v (e.seen c) ≡ (value v (before e.seen c) || (v (e.inside c) &&
      (v (e.inside (c + 1)) && (not (v (e.up c)) && not (v (e.down c))))))
  pub shape : (c : ℕ) → c < width → ShapeFacts (value v (before e.up c)) (value v (before e.down c)) (value v (before e.seen c)) (v (e.inside (c + 1)))
      (v (e.up c)) (v (e.down c))

pub before-next : (v : Assignment) (x : ℕ → ℕ) (c : ℕ) → value v (before x (c + 1)) ≡ v (x c)
before-next v x c = let z : c + 1 ≡ suc c = omega arith in ap (λ k. value v (before x k)) z

-- slopes by their two truth values
slope_of : (u d : Bool) (m n : ℕ) → (Is u → Is d → ⊥) → GoesBy u d m n → (u ≡ is_up (slope_by m n)) × (d ≡ is_down (slope_by m n))
slope_of true true m n one g = absurd (one refl refl)
slope_of true false m n one g = let s : slope_by m n ≡ Up = slope_by_reaches Up 1 m n (omega arith) (g.up refl) in rw s (refl, refl)
slope_of false true m n one g = let s : slope_by m n ≡ Down = slope_by_reaches Down 1 m n (omega arith) (sym (g.down refl)) in rw s (refl, refl)
slope_of false false m n one g = let s : slope_by m n ≡ Level = slope_by_reaches Level 1 m n (omega arith) (g.level refl refl) in rw s (refl, refl)

-- the truth values of a step are those of its slope
pub columns-up : (v : Assignment) (e : EdgeLits) (width : ℕ) (y : ℕ → ℕ) (w n : ℕ) → AreColumns v e width y w n → (c : ℕ) → c < width →
    v (e.up c) ≡ is_up (step_slope y c)
columns-up v e width y w n a c lt = (slope_of (v (e.up c)) (v (e.down c)) (y c) (y (c + 1)) (a.steps c lt).one (a.goes c lt)).0

pub columns-down : (v : Assignment) (e : EdgeLits) (width : ℕ) (y : ℕ → ℕ) (w n : ℕ) → AreColumns v e width y w n → (c : ℕ) → c < width →
    v (e.down c) ≡ is_down (step_slope y c)
columns-down v e width y w n a c lt = (slope_of (v (e.up c)) (v (e.down c)) (y c) (y (c + 1)) (a.steps c lt).one (a.goes c lt)).1

-- seen from the first level step on
seen_step : (v : Assignment) (e : EdgeLits) (width : ℕ) (y : ℕ → ℕ) (w n : ℕ) → AreColumns v e width y w n → (c : ℕ) → c < width →
    v (e.seen c) ≡ (value v (before e.seen c) || is_level_step y w n c)
seen_step v e width y w n a c lt =
    a.seen c lt
    ∙ ap (λ i. value v (before e.seen c) || (i && (v (e.inside (c + 1)) && (not (v (e.up c)) && not (v (e.down c)))))) (a.inside c (omega arith))
    ∙ ap (λ j. value v (before e.seen c) || (within w n c && (j && (not (v (e.up c)) && not (v (e.down c)))))) (a.inside (c + 1) (omega arith))
    ∙ ap (λ u. value v (before e.seen c) || (within w n c && (within w n (c + 1) && (not u && not (v (e.down c)))))) (columns-up v e width y w n a c lt)
    ∙ ap (λ d. value v (before e.seen c) || (within w n c && (within w n (c + 1) && (not (is_up (step_slope y c)) && not d))))
    (columns-down v e width y w n a c lt)
    ∙ ap (λ l. value v (before e.seen c) || (within w n c && (within w n (c + 1) && l))) (is_level_by (step_slope y c))
    ∙ ap (λ l. value v (before e.seen c) || l) (level_by w n c (is_level (step_slope y c)))

pub columns-seen : (v : Assignment) (e : EdgeLits) (width : ℕ) (y : ℕ → ℕ) (w n : ℕ) → AreColumns v e width y w n → (c : ℕ) → c < width →
    v (e.seen c) ≡ seen_by y w n c
columns-seen v e width y w n a zero lt = seen_step v e width y w n a zero lt
columns-seen v e width y w n a (suc c) lt = seen_step v e width y w n a (suc c) lt
    ∙ ap (λ b. b || is_level_step y w n (suc c)) (columns-seen v e width y w n a c (omega arith))

goes_on_up : (v : Assignment) (e : EdgeLits) (width : ℕ) (y : ℕ → ℕ) (w n : ℕ) → w + n + 1 ≤ width → AreColumns v e width y w n → (d c : ℕ) → w ≤ d → d ≤ c →
    c < w + n → step_slope y d ≡ Level → step_slope y c ≢ Level → step_slope y (c + 1) ≡ step_slope y c
goes_on_up v e width y w n size a d c low from to level ne =
    let s = a.shape (c + 1) (omega arith) in
    let seen : Is (v (e.seen c)) = columns-seen v e width y w n a c (omega arith)
    ∙ seen_true y w n d (level_true y w n d low (omega arith) level) (c - d) c (omega arith) in
    let seen_before : Is (value v (before e.seen (c + 1))) = before-next v e.seen c ∙ seen in
    let there : Is (v (e.inside (c + 1 + 1))) = a.inside (c + 1 + 1) (omega arith) ∙ within_true w n (c + 1 + 1) (omega arith) (omega arith) in
    elim (step_slope y c) as (λ t. step_slope y c ≡ t → step_slope y (c + 1) ≡ t) [
      | Level ↦ λ is. absurd (ne is)
      | Up ↦ λ is.
          let up : Is (value v (before e.up (c + 1))) = before-next v e.up c ∙ columns-up v e width y w n a c (omega arith) ∙ ap is_up is in
          up_is (step_slope y (c + 1)) (sym (columns-up v e width y w n a (c + 1) (omega arith)) ∙ s.rises_on seen_before up there)
      | Down ↦ λ is.
          let down : Is (value v (before e.down (c + 1))) = before-next v e.down c ∙ columns-down v e width y w n a c (omega arith) ∙ ap is_down is in
          down_is (step_slope y (c + 1)) (sym (columns-down v e width y w n a (c + 1) (omega arith)) ∙ s.falls_on seen_before down there)
    ] refl

-- the columns are a track
pub columns_track : (v : Assignment) (e : EdgeLits) (width : ℕ) (y : ℕ → ℕ) (w n : ℕ) → w + n + 1 ≤ width → AreColumns v e width y w n → IsTrack y w n
columns_track v e width y w n size a = record {
  rises = λ c from to. (by_bools (v (e.up c)) (v (e.down c)) (y c) (y (c + 1)) (a.goes c (omega arith))).1.1.0;
  falls = λ c from to. (by_bools (v (e.up c)) (v (e.down c)) (y c) (y (c + 1)) (a.goes c (omega arith))).1.1.1;
  no_peak = λ c from to up down. (a.shape (c + 1) (omega arith)).no_peak
      (before-next v e.up c ∙ columns-up v e width y w n a c (omega arith) ∙ ap is_up up)
      (columns-down v e width y w n a (c + 1) (omega arith) ∙ ap is_down down);
  no_dip = λ c from to down up. (a.shape (c + 1) (omega arith)).no_dip
      (before-next v e.down c ∙ columns-down v e width y w n a c (omega arith) ∙ ap is_down down)
      (columns-up v e width y w n a (c + 1) (omega arith) ∙ ap is_up up);
  goes_on = goes_on_up v e width y w n size a;
}

-- outside the range the height stays
stays : (v : Assignment) (e : EdgeLits) (width : ℕ) (y : ℕ → ℕ) (w n : ℕ) → AreColumns v e width y w n → (c : ℕ) → c < width →
    (Is (v (e.inside c)) → Is (v (e.inside (c + 1))) → ⊥) → y (c + 1) ≡ y c
stays v e width y w n a c lt out =
    let s = a.steps c lt in
    (a.goes c lt).level (is_false (v (e.up c)) (λ u. out (s.up_west u) (s.up_east u))) (is_false (v (e.down c)) (λ d. out (s.down_west d) (s.down_east d)))

pub flat_west : (v : Assignment) (e : EdgeLits) (width : ℕ) (y : ℕ → ℕ) (w n : ℕ) → w + n + 1 ≤ width → AreColumns v e width y w n → (m c : ℕ) → c + m ≡ w →
    y c ≡ y w
flat_west v e width y w n size a zero c is = let z : c ≡ w = omega arith in ap y z
flat_west v e width y w n size a (suc m) c is =
    sym (stays v e width y w n a c (omega arith) (λ i j. let p = (within_parts w n c (sym (a.inside c (omega arith)) ∙ i)).0 in absurd (omega arith)))
    ∙ flat_west v e width y w n size a m (c + 1) (omega arith)

pub flat_east : (v : Assignment) (e : EdgeLits) (width : ℕ) (y : ℕ → ℕ) (w n : ℕ) → AreColumns v e width y w n → (m c : ℕ) → w + n + 1 + m ≡ c → c ≤ width →
    y c ≡ y (w + n + 1)
flat_east v e width y w n a zero c is le = let z : c ≡ w + n + 1 = omega arith in ap y z
flat_east v e width y w n a (suc m) c is le =
    let z : c ≡ w + n + 1 + m + 1 = omega arith in
    ap y z
    ∙ stays v e width y w n a (w + n + 1 + m) (omega arith) (λ i j. let p = (within_parts w n (w + n + 1 + m + 1)
    (sym (a.inside (w + n + 1 + m + 1) (omega arith)) ∙ j)).1 in absurd (omega arith))
    ∙ flat_east v e width y w n a m (w + n + 1 + m) refl (omega arith)
