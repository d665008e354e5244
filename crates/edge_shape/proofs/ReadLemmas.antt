-- From a track that is read to the truth values of all columns.
use Rattle.std.proofs.Common.{◌≡◌, ◌≢◌, ℕ, zero, suc, ◌+◌, ◌≤◌, ◌<◌, Bool, not, sym, ◌∙◌, ap, subst, arith}
use Rattle.std.specs.Prelude.{◌&&◌, ◌||◌}
use Rattle.plan_core.specs.declared.point.Slope.{Slope}
use Rattle.plan_core.specs.declared.point.Slope.TheVariants.{Down, Level, Up}
use Rattle.plan_core.proofs.PieceLemmas.{Reaches}
use Rattle.cnf_core.specs.Assignment.{Assignment}
use Rattle.cnf_core.specs.LitOrTruth.{value}
use Rattle.edge_shape.specs.Track.{step_slope, IsTrack, IsFlatOutside}
use Rattle.edge_shape.specs.EdgeVars.{EdgeLits, before}
use Rattle.edge_shape.specs.Columns.{within, is_up, is_down, is_level, is_level_step}
use Rattle.edge_shape.specs.Edge.{ReadsTrack}
use Rattle.edge_shape.proofs.StepLemmas.{Is, up_is, down_is, is_level_by, within_true, within_parts, level_by, diagonal_inside, up_diagonal, down_diagonal}
use Rattle.edge_shape.proofs.StepLemmas.{up_not_down, track_reaches, seen_some, level_parts}
use Rattle.edge_shape.proofs.FamilyLemmas.{StepFacts, ShapeFacts}
use Rattle.edge_shape.proofs.HeightLemmas.{GoesBy}
use Rattle.edge_shape.proofs.ColumnLemmas.{AreColumns}

goes_by : (s : Slope) (m n : ℕ) → Reaches s 1 m n → GoesBy (is_up s) (is_down s) m n
goes_by Down m n h = record { level = λ a b. cc; up = λ a. cc; down = λ a. sym h }
goes_by Level m n h = record { level = λ a b. h; up = λ a. cc; down = λ a. cc }
goes_by Up m n h = record { level = λ a b. cc; up = λ a. h; down = λ a. cc }

-- the values of a column before

seen_back : (v : Assignment) (e : EdgeLits) (width : ℕ) (y : ℕ → ℕ) (w n : ℕ) → ReadsTrack v e width y w n → (c : ℕ) → c < width →
    v (e.seen c) ≡ (value v (before e.seen c) || is_level_step y w n c)
seen_back v e width y w n r zero lt = r.seen zero lt
seen_back v e width y w n r (suc c) lt = r.seen (suc c) lt ∙ ap (λ b. b || is_level_step y w n (suc c)) (sym (r.seen c (omega arith)))

seen_rule : (v : Assignment) (e : EdgeLits) (width : ℕ) (y : ℕ → ℕ) (w n : ℕ) → ReadsTrack v e width y w n → (c : ℕ) → c < width →
    v (e.seen c) ≡ (value v (before e.seen c) || (v (e.inside c) && (v (e.inside (c + 1)) && (not (v (e.up c)) && not (v (e.down c))))))
seen_rule v e width y w n r c lt =
    seen_back v e width y w n r c lt
    ∙ ap (λ l. value v (before e.seen c) || l) (sym (level_by w n c (is_level (step_slope y c))))
    ∙ ap (λ l. value v (before e.seen c) || (within w n c && (within w n (c + 1) && l))) (sym (is_level_by (step_slope y c)))
    ∙ ap (λ d. value v (before e.seen c) || (within w n c && (within w n (c + 1) && (not (is_up (step_slope y c)) && not d)))) (sym (r.down c lt))
    ∙ ap (λ u. value v (before e.seen c) || (within w n c && (within w n (c + 1) && (not u && not (v (e.down c)))))) (sym (r.up c lt))
    ∙ ap (λ j. value v (before e.seen c) || (within w n c && (j && (not (v (e.up c)) && not (v (e.down c)))))) (sym (r.inside (c + 1) (omega arith)))
    ∙ ap (λ i. value v (before e.seen c) || (i && (v (e.inside (c + 1)) && (not (v (e.up c)) && not (v (e.down c)))))) (sym (r.inside c (omega arith)))

no_facts : (v : Assignment) (e : EdgeLits) (j u d : Bool) → ShapeFacts (value v (before e.up 0)) (value v (before e.down 0)) (value v (before e.seen 0)) j u d
no_facts v e j u d = record { no_peak = λ a b. cc; no_dip = λ a b. cc; rises_on = λ a b g. cc; falls_on = λ a b g. cc }

shape_next : (v : Assignment) (e : EdgeLits) (width : ℕ) (y : ℕ → ℕ) (w n : ℕ) → IsTrack y w n → IsFlatOutside y w n → ReadsTrack v e width y w n → (c : ℕ) →
    c + 1 < width → ShapeFacts (v (e.up c)) (v (e.down c)) (v (e.seen c)) (v (e.inside (c + 1 + 1))) (v (e.up (c + 1))) (v (e.down (c + 1)))
shape_next v e width y w n t f r c lt =
    let up : Is (v (e.up c)) → step_slope y c ≡ Up = λ a. up_is (step_slope y c) (sym (r.up c (omega arith)) ∙ a) in
    let down : Is (v (e.down c)) → step_slope y c ≡ Down = λ a. down_is (step_slope y c) (sym (r.down c (omega arith)) ∙ a) in
    let next_up : Is (v (e.up (c + 1))) → step_slope y (c + 1) ≡ Up = λ a. up_is (step_slope y (c + 1)) (sym (r.up (c + 1) lt) ∙ a) in
    let next_down : Is (v (e.down (c + 1))) → step_slope y (c + 1) ≡ Down = λ a. down_is (step_slope y (c + 1)) (sym (r.down (c + 1) lt) ∙ a) in
    let in_up : step_slope y c ≡ Up → (w ≤ c) × (c ≤ w + n) = λ a. diagonal_inside y w n c f (λ l. let z : Up ≡ Level = sym a ∙ l in cc) in
    let in_down : step_slope y c ≡ Down → (w ≤ c) × (c ≤ w + n) = λ a. diagonal_inside y w n c f (λ l. let z : Down ≡ Level = sym a ∙ l in cc) in
    let next_in_up : step_slope y (c + 1) ≡ Up → (w ≤ c + 1) × (c + 1 ≤ w + n) = λ a. diagonal_inside y w n (c + 1) f
    (λ l. let z : Up ≡ Level = sym a ∙ l in cc) in
    let next_in_down : step_slope y (c + 1) ≡ Down → (w ≤ c + 1) × (c + 1 ≤ w + n) = λ a. diagonal_inside y w n (c + 1) f
    (λ l. let z : Down ≡ Level = sym a ∙ l in cc) in
    let on : Is (v (e.seen c)) → Is (v (e.inside (c + 1 + 1))) → step_slope y c ≢ Level → step_slope y (c + 1) ≡ step_slope y c = λ s j ne.
    let d = seen_some y w n c (sym (r.seen c (omega arith)) ∙ s) in
    let parts = level_parts y w n d.0 d.2 in
    let there = (within_parts w n (c + 1 + 1) (sym (r.inside (c + 1 + 1) (omega arith)) ∙ j)).1 in
    t.goes_on d.0 c parts.0 d.1 (omega arith) parts.1.1 ne in
    record {
      no_peak = λ a b. let low = (in_up (up a)).0 in let high = (next_in_down (next_down b)).1 in t.no_peak c low (omega arith) (up a) (next_down b);
      no_dip = λ a b. let low = (in_down (down a)).0 in let high = (next_in_up (next_up b)).1 in t.no_dip c low (omega arith) (down a) (next_up b);
      rises_on = λ s a j. r.up (c + 1) lt ∙ ap is_up (on s j (λ l. let z : Up ≡ Level = sym (up a) ∙ l in cc) ∙ up a);
      falls_on = λ s a j. r.down (c + 1) lt ∙ ap is_down (on s j (λ l. let z : Down ≡ Level = sym (down a) ∙ l in cc) ∙ down a);
    }

shape_at : (v : Assignment) (e : EdgeLits) (width : ℕ) (y : ℕ → ℕ) (w n : ℕ) → IsTrack y w n → IsFlatOutside y w n → ReadsTrack v e width y w n → (c : ℕ) →
    c < width → ShapeFacts (value v (before e.up c)) (value v (before e.down c)) (value v (before e.seen c)) (v (e.inside (c + 1))) (v (e.up c)) (v (e.down c))
shape_at v e width y w n t f r zero lt = no_facts v e (v (e.inside (0 + 1))) (v (e.up 0)) (v (e.down 0))
shape_at v e width y w n t f r (suc c) lt =
    let z : c + 1 ≡ suc c = omega arith in
    subst (λ k. ShapeFacts (v (e.up c)) (v (e.down c)) (v (e.seen c)) (v (e.inside (k + 1))) (v (e.up k)) (v (e.down k))) z
    (shape_next v e width y w n t f r c (omega arith))

step_at : (v : Assignment) (e : EdgeLits) (width : ℕ) (y : ℕ → ℕ) (w n : ℕ) → IsFlatOutside y w n → ReadsTrack v e width y w n → (c : ℕ) → c < width →
    StepFacts (v (e.inside c)) (v (e.inside (c + 1))) (v (e.up c)) (v (e.down c))
step_at v e width y w n f r c lt =
    let up : Is (v (e.up c)) → (w ≤ c) × (c ≤ w + n) = λ a. diagonal_inside y w n c f (up_diagonal (step_slope y c) (sym (r.up c lt) ∙ a)) in
    let down : Is (v (e.down c)) → (w ≤ c) × (c ≤ w + n) = λ a. diagonal_inside y w n c f (down_diagonal (step_slope y c) (sym (r.down c lt) ∙ a)) in
    record {
      up_west = λ a. let p = up a in let low = p.0 in let high = p.1 in r.inside c (omega arith) ∙ within_true w n c (omega arith) (omega arith);
      up_east = λ a. let p = up a in let low = p.0 in let high = p.1 in r.inside (c + 1) (omega arith) ∙ within_true w n (c + 1) (omega arith) (omega arith);
      down_west = λ a. let p = down a in let low = p.0 in let high = p.1 in r.inside c (omega arith) ∙ within_true w n c (omega arith) (omega arith);
      down_east = λ a. let p = down a in let low = p.0 in let high = p.1 in r.inside (c + 1) (omega arith)
          ∙ within_true w n (c + 1) (omega arith) (omega arith);
      one = λ a b. up_not_down (step_slope y c) (sym (r.up c lt) ∙ a) (sym (r.down c lt) ∙ b);
    }

-- A TRACK THAT IS READ HAS THE TRUTH VALUES OF ITS COLUMNS
pub track_columns : (v : Assignment) (e : EdgeLits) (width : ℕ) (y : ℕ → ℕ) (w n : ℕ) → IsTrack y w n → IsFlatOutside y w n → ReadsTrack v e width y w n →
    AreColumns v e width y w n
track_columns v e width y w n t f r = record {
  inside = r.inside;
  steps = step_at v e width y w n f r;
  goes = λ c lt. subst (λ u. GoesBy u (v (e.down c)) (y c) (y (c + 1))) (sym (r.up c lt))
      (subst (λ d. GoesBy (is_up (step_slope y c)) d (y c) (y (c + 1))) (sym (r.down c lt))
      (goes_by (step_slope y c) (y c) (y (c + 1)) (track_reaches y w n c t f)));
  seen = seen_rule v e width y w n r;
  shape = shape_at v e width y w n t f r;
}

-- the end slopes
