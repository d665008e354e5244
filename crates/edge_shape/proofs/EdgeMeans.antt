-- An assignment that satisfies the clauses of an edge reads a track.
use Rattle.std.proofs.Common.{◌≡◌, ◌⊎◌, ℕ, ◌+◌, ◌-◌, ◌≤◌, ◌<◌, not, [], ◌++◌, inl, inr, refl, sym, ◌∙◌, ap, subst, arith}
use Rattle.std.specs.Prelude.{◌&&◌, ◌||◌, min}
use Rattle.cnf_core.specs.Assignment.{Assignment, SatisfiesAll}
use Rattle.cnf_core.specs.Formula.{each}
use Rattle.cnf_core.proofs.ClauseLemmas.{satisfies_left, satisfies_right, satisfies_at}
use Rattle.order_int.specs.IntVars.{IntVars}
use Rattle.order_int.specs.OrderInt.{int_clauses, Reads, number, le_clauses, equal_clauses}
use Rattle.order_int.proofs.IntLemmas.{int_means}
use Rattle.order_int.proofs.OrderLemmas.{le_means, equal_means}
use Rattle.edge_shape.specs.Track.{step_slope, IsTrack, IsFlatOutside}
use Rattle.edge_shape.specs.Rules.{rule_clauses, FollowsRules}
use Rattle.edge_shape.specs.EdgeVars.{NodeInts, EdgeLits}
use Rattle.edge_shape.specs.Edge.{range_rules, step_rules, height_clauses, seen_rules, shape_rules, end_rules, same_where, slope_rules, bend_rules}
use Rattle.edge_shape.specs.Edge.{inner_rules, end_piece_rules, level_rules, beside_end_rules, step_clauses, end_clauses, column_clauses, whole_clauses}
use Rattle.edge_shape.specs.Edge.{further_clauses, edge_clauses, ReadsTrack}
use Rattle.edge_shape.specs.Columns.{is_up, is_down, is_level, has_level}
use Rattle.edge_shape.proofs.RuleLemmas.{rules_say}
use Rattle.edge_shape.proofs.FamilyLemmas.{StepFacts, range_means, step_means, seen_means, shape_means, same_means, bend_means, inner_means}
use Rattle.edge_shape.proofs.HeightLemmas.{height_means}
use Rattle.edge_shape.proofs.ColumnLemmas.{AreColumns, columns-up, columns-down, columns-seen, columns_track, flat_west, flat_east}
use Rattle.edge_shape.proofs.StepLemmas.{turns_are, diagonal_bool, seen_to_end}

-- the edge's heights are integers of the grid's rows
pub record HasRows (e : EdgeLits) (high width : ℕ) : Type 0 where
  pub lowest : (c : ℕ) → c ≤ width → (e.height c).low ≡ 0
  pub highest : (c : ℕ) → c ≤ width → (e.height c).high ≡ high

-- the height over each column; behind the last one it stays
abbrev pub heights : Assignment → EdgeLits → ℕ → ℕ → ℕ
heights v e width c = number v (e.height (min c width))

heights_read : (v : Assignment) (e : EdgeLits) (high width : ℕ) → HasRows e high width → SatisfiesAll v (each (λ c. int_clauses (e.height c)) 0 (width + 1)) →
    (c : ℕ) → c ≤ width → Reads v (e.height c) (heights v e width c)
heights_read v e high width rows h c le =
    let z : c ≡ min c width = omega arith in
    let low = rows.lowest c le in
    subst (λ k. Reads v (e.height c) (number v (e.height k))) z (int_means v (e.height c) (omega arith)
    (satisfies_at v (λ k. int_clauses (e.height k)) 0 (width + 1) h c (omega arith) (omega arith)))

none : {A : Type 0} → ⊥ ⊎ A → A
none (inl x) = absurd x
none (inr a) = a

step_part : (v : Assignment) (e : EdgeLits) (high c : ℕ) → SatisfiesAll v (step_clauses e high c) →
    (FollowsRules v (step_rules e c) × SatisfiesAll v (height_clauses e high c)) × (FollowsRules v (seen_rules e c) × FollowsRules v (shape_rules e c))
step_part v e high c h =
    let A = rule_clauses (step_rules e c) in
    let B = height_clauses e high c in
    let C = rule_clauses (seen_rules e c) in
    let D = rule_clauses (shape_rules e c) in
    let l = satisfies_left v (A ++ B) (C ++ D) h in
    let r = satisfies_right v (A ++ B) (C ++ D) h in (
      (rules_say v (step_rules e c) (satisfies_left v A B l), satisfies_right v A B l),
      (rules_say v (seen_rules e c) (satisfies_left v C D r), rules_say v (shape_rules e c) (satisfies_right v C D r)),
    )

pub columns_say : (v : Assignment) (e : EdgeLits) (west east : NodeInts) (high width w n : ℕ) (y : ℕ → ℕ) → HasRows e high width → Reads v west.x w →
    Reads v east.x (w + n + 1) → ((c : ℕ) → c ≤ width → Reads v (e.height c) (y c)) → SatisfiesAll v (column_clauses e west east high width) →
    AreColumns v e width y w n
columns_say v e west east high width w n y rows rw rz ry h =
    let ranges = satisfies_left v (each (λ c. rule_clauses (range_rules e west.x east.x c)) 0 (width + 1)) (each (step_clauses e high) 0 width) h in
    let steps = satisfies_right v (each (λ c. rule_clauses (range_rules e west.x east.x c)) 0 (width + 1)) (each (step_clauses e high) 0 width) h in
    let at : (c : ℕ) → c < width → SatisfiesAll v (step_clauses e high c) = λ c lt. satisfies_at v (step_clauses e high) 0 width steps c (omega arith)
    (omega arith) in
    let facts : (c : ℕ) → c < width → StepFacts (v (e.inside c)) (v (e.inside (c + 1))) (v (e.up c)) (v (e.down c)) = λ c lt. step_means v e c
    (step_part v e high c (at c lt)).0.0 in
    record {
      inside = λ c le. range_means v e west.x east.x c w (w + n + 1) rw rz (rules_say v (range_rules e west.x east.x c)
          (satisfies_at v (λ k. rule_clauses (range_rules e west.x east.x k)) 0 (width + 1) ranges c (omega arith) (omega arith)));
      steps = facts;
      goes = λ c lt.
          let ra = ry c (omega arith) in
          let rb = ry (c + 1) (omega arith) in
          let ha = rows.highest c (omega arith) in
          let hb = rows.highest (c + 1) (omega arith) in
          let ma = ra.high in
          let mb = rb.high in
          height_means v e high c (y c) (y (c + 1)) ra rb (omega arith) (omega arith) (facts c lt).one (step_part v e high c (at c lt)).0.1;
      seen = λ c lt. seen_means v e c (step_part v e high c (at c lt)).1.0;
      shape = λ c lt. shape_means v e c (step_part v e high c (at c lt)).1.1;
    }

-- the four slopes
slope_part : (v : Assignment) (e : EdgeLits) (x z : IntVars) (c : ℕ) → FollowsRules v (slope_rules e x z c) →
    (FollowsRules v (same_where x c e.west_up (e.up c)) × FollowsRules v (same_where x c e.west_down (e.down c))) ×
    (FollowsRules v (same_where z (c + 1) e.east_up (e.up c)) × FollowsRules v (same_where z (c + 1) e.east_down (e.down c)))
slope_part v e x z c h = (((h.0, (h.1.0, tt)), (h.1.1.0, (h.1.1.1.0, tt))), ((h.1.1.1.1.0, (h.1.1.1.1.1.0, tt)), (h.1.1.1.1.1.1.0, (h.1.1.1.1.1.1.1.0, tt))))

-- the columns, the whole line and the bends
pub edge_reads : (v : Assignment) (e : EdgeLits) (west east : NodeInts) (high width w n : ℕ) (y : ℕ → ℕ) → w + n + 1 ≤ width → Reads v west.x w →
    Reads v east.x (w + n + 1) → ((c : ℕ) → c ≤ width → Reads v (e.height c) (y c)) → AreColumns v e width y w n
    → SatisfiesAll v (whole_clauses e west east width) → SatisfiesAll v (each (λ c. rule_clauses (inner_rules e c)) 0 (width - 1)) → ReadsTrack v e width y w n
edge_reads v e west east high width w n y size rx rz ry a h inner =
    let A = rule_clauses (end_rules e) in
    let B = each (λ c. rule_clauses (slope_rules e west.x east.x c)) 0 width in
    let C = rule_clauses (bend_rules e.first_bend e.west_up e.west_down (e.seen (width - 1))) in
    let D = rule_clauses (bend_rules e.second_bend e.east_up e.east_down (e.seen (width - 1))) in
    let slopes = satisfies_right v A B (satisfies_left v (A ++ B) (C ++ D) h) in
    let bends = satisfies_right v (A ++ B) (C ++ D) h in
    let at : (c : ℕ) → c < width → FollowsRules v (slope_rules e west.x east.x c) = λ c lt. rules_say v (slope_rules e west.x east.x c)
    (satisfies_at v (λ k. rule_clauses (slope_rules e west.x east.x k)) 0 width slopes c (omega arith) (omega arith)) in
    let up = columns-up v e width y w n a in
    let down = columns-down v e width y w n a in
    let first = slope_part v e west.x east.x w (at w (omega arith)) in
    let last = slope_part v e west.x east.x (w + n) (at (w + n) (omega arith)) in
    let wu : v e.west_up ≡ is_up (step_slope y w) = same_means v west.x w e.west_up (e.up w) w rx refl first.0.0 ∙ up w (omega arith) in
    let wd : v e.west_down ≡ is_down (step_slope y w) = same_means v west.x w e.west_down (e.down w) w rx refl first.0.1 ∙ down w (omega arith) in
    let eu : v e.east_up ≡ is_up (step_slope y (w + n)) = same_means v east.x (w + n + 1) e.east_up (e.up (w + n)) (w + n + 1) rz refl last.1.0
    ∙ up (w + n) (omega arith) in
    let ed : v e.east_down ≡ is_down (step_slope y (w + n)) = same_means v east.x (w + n + 1) e.east_down (e.down (w + n)) (w + n + 1) rz refl last.1.1
    ∙ down (w + n) (omega arith) in
    let level : v (e.seen (width - 1)) ≡ has_level y w n = columns-seen v e width y w n a (width - 1) (omega arith)
    ∙ seen_to_end y w n (width - 1 - (w + n)) (width - 1) (omega arith) in
    record {
      inside = a.inside;
      up = up;
      down = down;
      seen = columns-seen v e width y w n a;
      bend = λ c lt.
          inner_means v e c (a.steps c (omega arith)).one (a.steps (c + 1) (omega arith)).one
          (rules_say v (inner_rules e c) (satisfies_at v (λ k. rule_clauses (inner_rules e k)) 0 (width - 1) inner c (omega arith) (omega arith)))
          ∙ turns_are y w n c (v (e.inside c)) (v (e.inside (c + 2))) (v (e.up c)) (v (e.up (c + 1))) (v (e.down c)) (v (e.down (c + 1)))
          (a.inside c (omega arith)) (a.inside (c + 2) (omega arith)) (up c (omega arith)) (up (c + 1) lt) (down c (omega arith)) (down (c + 1) lt);
      height = ry;
      west_up = wu;
      west_down = wd;
      east_up = eu;
      east_down = ed;
      first_bend = bend_means v e.first_bend e.west_up e.west_down (e.seen (width - 1))
          (rules_say v (bend_rules e.first_bend e.west_up e.west_down (e.seen (width - 1))) (satisfies_left v C D bends))
          ∙ ap (λ b. (b || v e.west_down) && v (e.seen (width - 1))) wu ∙ ap (λ b. (is_up (step_slope y w) || b) && v (e.seen (width - 1))) wd
          ∙ ap (λ b. b && v (e.seen (width - 1))) (diagonal_bool (step_slope y w)) ∙ ap (λ b. not (is_level (step_slope y w)) && b) level;
      second_bend = bend_means v e.second_bend e.east_up e.east_down (e.seen (width - 1))
          (rules_say v (bend_rules e.second_bend e.east_up e.east_down (e.seen (width - 1))) (satisfies_right v C D bends))
          ∙ ap (λ b. (b || v e.east_down) && v (e.seen (width - 1))) eu ∙ ap (λ b. (is_up (step_slope y (w + n)) || b) && v (e.seen (width - 1))) ed
          ∙ ap (λ b. b && v (e.seen (width - 1))) (diagonal_bool (step_slope y (w + n))) ∙ ap (λ b. not (is_level (step_slope y (w + n))) && b) level;
    }

-- the two ends
pub record EndsMeet (y : ℕ → ℕ) (a b least w z width : ℕ) : Type 0 where
  pub long : w + least ≤ z
  pub west : y 0 ≡ a
  pub east : y width ≡ b

pub ends_say : (v : Assignment) (e : EdgeLits) (west east : NodeInts) (least width w z a b : ℕ) (y : ℕ → ℕ) → Reads v west.x w → Reads v west.y a →
    Reads v east.x z → Reads v east.y b → Reads v (e.height 0) (y 0) → Reads v (e.height width) (y width) →
    SatisfiesAll v (end_clauses e west east least width) → EndsMeet y a b least w z width
ends_say v e west east least width w z a b y rx ra rz rb r0 r1 h =
    let A = le_clauses west.x east.x least [] in
    let B = equal_clauses (e.height 0) west.y [] in
    let C = equal_clauses (e.height width) east.y [] in
    let rest = satisfies_right v A (B ++ C) h in
    record {
      long = none (le_means v west.x east.x w z least [] rx rz (satisfies_left v A (B ++ C) h));
      west = none (equal_means v (e.height 0) west.y (y 0) a [] r0 ra (satisfies_left v B C rest));
      east = none (equal_means v (e.height width) east.y (y width) b [] r1 rb (satisfies_right v B C rest));
    }

-- what an assignment of the edge's clauses reads: a track of n + 1 steps from column w on, from height
-- a to height b
pub record TrackIsRead (v : Assignment) (e : EdgeLits) (width least w z a b : ℕ) : Type 0 where
  pub y : ℕ → ℕ
  pub n : ℕ
  pub ends : w + n + 1 ≡ z
  pub long : least ≤ n + 1
  pub track : IsTrack y w n
  pub flat : IsFlatOutside y w n
  pub west : y w ≡ a
  pub east : y z ≡ b
  pub reads : ReadsTrack v e width y w n

edge_parts : (v : Assignment) (e : EdgeLits) (west east : NodeInts) (least high width : ℕ) → SatisfiesAll v (edge_clauses e west east least high width) →
    (SatisfiesAll v (each (λ c. int_clauses (e.height c)) 0 (width + 1)) × SatisfiesAll v (end_clauses e west east least width)) ×
    (SatisfiesAll v (column_clauses e west east high width) × (SatisfiesAll v (whole_clauses e west east width) × SatisfiesAll v
    (further_clauses e west east high width)))
edge_parts v e west east least high width h =
    let A = each (λ c. int_clauses (e.height c)) 0 (width + 1) in
    let B = end_clauses e west east least width in
    let C = column_clauses e west east high width in
    let D = whole_clauses e west east width in
    let E = further_clauses e west east high width in
    let l = satisfies_left v (A ++ B) (C ++ (D ++ E)) h in
    let r = satisfies_right v (A ++ B) (C ++ (D ++ E)) h in
    let s = satisfies_right v C (D ++ E) r in
    ((satisfies_left v A B l, satisfies_right v A B l), (satisfies_left v C (D ++ E) r, (satisfies_left v D E s, satisfies_right v D E s)))

-- the clauses mean a track
pub edge_means : (v : Assignment) (e : EdgeLits) (west east : NodeInts) (least high width w z a b : ℕ) → HasRows e high width → 1 ≤ least → z ≤ width →
    Reads v west.x w → Reads v west.y a → Reads v east.x z → Reads v east.y b → SatisfiesAll v (edge_clauses e west east least high width) →
    TrackIsRead v e width least w z a b
edge_means v e west east least high width w z a b rows some size rx ra rz rb h =
    let parts = edge_parts v e west east least high width h in
    let y = heights v e width in
    let ry = heights_read v e high width rows parts.0.0 in
    let meet = ends_say v e west east least width w z a b y rx ra rz rb (ry 0 (omega arith)) (ry width (omega arith)) parts.0.1 in
    let long = meet.long in
    let n = z - w - 1 in
    let is : w + n + 1 ≡ z = omega arith in
    let rz' = subst (λ k. Reads v east.x k) (sym is) rz in
    let columns = columns_say v e west east high width w n y rows rx rz' ry parts.1.0 in
    let fits : w + n + 1 ≤ width = omega arith in
    let F = each (λ c. rule_clauses (inner_rules e c)) 0 (width - 1) in
    let G = each (λ c. rule_clauses (end_piece_rules e c)) 0 width in
    let H = rule_clauses (level_rules e (e.seen (width - 1))) ++ rule_clauses (beside_end_rules e west.y east.y high) in
    let inner = satisfies_left v F G (satisfies_left v (F ++ G) H parts.1.1.1) in
    let behind : y width ≡ y (w + n + 1) = flat_east v e width y w n columns (width - (w + n + 1)) width (omega arith) (omega arith) in
    record {
      y = y;
      n = n;
      ends = is;
      long = omega arith;
      track = columns_track v e width y w n fits columns;
      flat = record {
        west = λ c le. flat_west v e width y w n fits columns (w - c) c (omega arith);
        east = λ c le. past_east c fits columns le behind;
      };
      west = sym (flat_west v e width y w n fits columns w 0 (omega arith)) ∙ meet.west;
      east = sym (ap y is) ∙ sym behind ∙ meet.east;
      reads = edge_reads v e west east high width w n y fits rx rz' ry columns parts.1.1.0 inner;
    }
  where
    past_east : (c : ℕ) → w + (z - w - 1) + 1 ≤ width → AreColumns v e width (heights v e width) w (z - w - 1) → w + (z - w - 1) + 1 ≤ c →
        heights v e width width ≡ heights v e width (w + (z - w - 1) + 1) → heights v e width c ≡ heights v e width (w + (z - w - 1) + 1)
    past_east c fits columns le behind =
        let k = min c width in
        let same : min c width ≡ min k width = omega arith in
        ap (λ j. number v (e.height j)) same ∙ flat_east v e width (heights v e width) w (z - w - 1) columns (k - (w + (z - w - 1) + 1)) k (omega arith)
        (omega arith)
