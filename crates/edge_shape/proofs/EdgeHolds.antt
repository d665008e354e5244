-- A track that an assignment reads makes it satisfy the clauses of the edge.
use Rattle.std.proofs.Common.{◌≡◌, ◌≢◌, ◌⊎◌, ℕ, ◌+◌, ◌-◌, ◌≤◌, ◌<◌, true, false, not, [], ◌++◌, inl, inr, refl, sym, ◌∙◌, ap, arith}
use Rattle.std.specs.Prelude.{◌&&◌, ◌||◌}
use Rattle.plan_core.specs.declared.point.Slope.{Slope}
use Rattle.plan_core.specs.declared.point.Slope.TheVariants.{Down, Level, Up}
use Rattle.plan_core.proofs.PieceLemmas.{Reaches}
use Rattle.cnf_core.specs.Assignment.{Assignment, SatisfiesAll}
use Rattle.cnf_core.specs.Formula.{each}
use Rattle.cnf_core.proofs.ClauseLemmas.{satisfies_append, satisfies_each}
use Rattle.order_int.specs.IntVars.{IntVars}
use Rattle.order_int.specs.OrderInt.{int_clauses, Reads, le_clauses, equal_clauses}
use Rattle.order_int.proofs.IntLemmas.{int_holds}
use Rattle.order_int.proofs.OrderLemmas.{le_holds, equal_holds}
use Rattle.edge_shape.specs.Track.{step_slope, IsTrack, IsFlatOutside}
use Rattle.edge_shape.specs.Rules.{rule_clauses, FollowsRules}
use Rattle.edge_shape.specs.EdgeVars.{NodeInts, EdgeLits}
use Rattle.edge_shape.specs.Edge.{range_rules, step_rules, height_clauses, seen_rules, shape_rules, end_rules, same_where, slope_rules, bend_rules}
use Rattle.edge_shape.specs.Edge.{inner_rules, end_piece_rules, level_rules, beside_end_rules, step_clauses, end_clauses, column_clauses, whole_clauses}
use Rattle.edge_shape.specs.Edge.{further_clauses, edge_clauses, ReadsTrack}
use Rattle.edge_shape.specs.Columns.{is_up, is_down, is_level, has_level}
use Rattle.edge_shape.proofs.RuleLemmas.{rules_hold}
use Rattle.edge_shape.proofs.StepLemmas.{Is, up_is, down_is, turns_are, diagonal_bool, seen_to_end, track_reaches, through, one_slope_all, diagonal_inside}
use Rattle.edge_shape.proofs.StepLemmas.{up_diagonal, down_diagonal, up_not_down}
use Rattle.edge_shape.proofs.FamilyLemmas.{range_holds, step_holds, seen_holds, shape_holds, end_holds, same_holds, bend_holds, inner_holds, through_holds}
use Rattle.edge_shape.proofs.FamilyLemmas.{level_holds, edge_holds}
use Rattle.edge_shape.proofs.HeightLemmas.{height_holds}
use Rattle.edge_shape.proofs.ColumnLemmas.{AreColumns}
use Rattle.edge_shape.proofs.ReadLemmas.{track_columns}
use Rattle.edge_shape.proofs.EdgeMeans.{HasRows}

ends_hold : (v : Assignment) (e : EdgeLits) (west east : NodeInts) (least width w n a b : ℕ) (y : ℕ → ℕ) → Reads v west.x w → Reads v west.y a →
    Reads v east.x (w + n + 1) → Reads v east.y b → least ≤ n + 1 → w + n + 1 ≤ width → IsFlatOutside y w n → y w ≡ a → y (w + n + 1) ≡ b →
    ReadsTrack v e width y w n → SatisfiesAll v (end_clauses e west east least width)
ends_hold v e west east least width w n a b y rx ra rz rb long size f is_a is_b r =
    satisfies_append v (le_clauses west.x east.x least []) (equal_clauses (e.height 0) west.y [] ++ equal_clauses (e.height width) east.y [])
    (le_holds v west.x east.x w (w + n + 1) least [] rx rz (inr (omega arith)))
    (satisfies_append v (equal_clauses (e.height 0) west.y []) (equal_clauses (e.height width) east.y [])
    (equal_holds v (e.height 0) west.y (y 0) a [] (r.height 0 (omega arith)) ra (inr (f.west 0 (omega arith) ∙ is_a)))
    (equal_holds v (e.height width) east.y (y width) b [] (r.height width (omega arith)) rb (inr (f.east width size ∙ is_b))))

columns_hold : (v : Assignment) (e : EdgeLits) (west east : NodeInts) (high width w n : ℕ) (y : ℕ → ℕ) → Reads v west.x w → Reads v east.x (w + n + 1) →
    ((c : ℕ) → c ≤ width → Reads v (e.height c) (y c)) → AreColumns v e width y w n → SatisfiesAll v (column_clauses e west east high width)
columns_hold v e west east high width w n y rx rz ry a =
    satisfies_append v (each (λ c. rule_clauses (range_rules e west.x east.x c)) 0 (width + 1)) (each (step_clauses e high) 0 width)
    (satisfies_each v (λ c. rule_clauses (range_rules e west.x east.x c)) 0 (width + 1)
    (λ c from to. rules_hold v (range_rules e west.x east.x c) (range_holds v e west.x east.x c w (w + n + 1) rx rz (a.inside c (omega arith)))))
    (satisfies_each v (step_clauses e high) 0 width (λ c from to.
    let A = rule_clauses (step_rules e c) in
    let B = height_clauses e high c in
    let C = rule_clauses (seen_rules e c) in
    let D = rule_clauses (shape_rules e c) in
    satisfies_append v (A ++ B) (C ++ D)
    (satisfies_append v A B (rules_hold v (step_rules e c) (step_holds v e c (a.steps c (omega arith))))
    (height_holds v e high c (y c) (y (c + 1)) (ry c (omega arith)) (ry (c + 1) (omega arith)) (a.goes c (omega arith))))
    (satisfies_append v C D (rules_hold v (seen_rules e c) (seen_holds v e c (a.seen c (omega arith))))
    (rules_hold v (shape_rules e c) (shape_holds v e c (a.shape c (omega arith)))))))

append_follows : (v : Assignment) (x z : IntVars) (e : EdgeLits) (c : ℕ) → FollowsRules v (same_where x c e.west_up (e.up c)) →
    FollowsRules v (same_where x c e.west_down (e.down c)) → FollowsRules v (same_where z (c + 1) e.east_up (e.up c)) →
    FollowsRules v (same_where z (c + 1) e.east_down (e.down c)) → FollowsRules v (slope_rules e x z c)
append_follows v x z e c f g h k = (f.0, (f.1.0, (g.0, (g.1.0, (h.0, (h.1.0, (k.0, (k.1.0, tt))))))))

whole_holds : (v : Assignment) (e : EdgeLits) (west east : NodeInts) (width w n : ℕ) (y : ℕ → ℕ) → w + n + 1 ≤ width → Reads v west.x w →
    Reads v east.x (w + n + 1) → ReadsTrack v e width y w n → SatisfiesAll v (whole_clauses e west east width)
whole_holds v e west east width w n y size rx rz r =
    let level : v (e.seen (width - 1)) ≡ has_level y w n = r.seen (width - 1) (omega arith)
    ∙ seen_to_end y w n (width - 1 - (w + n)) (width - 1) (omega arith) in
    let A = rule_clauses (end_rules e) in
    let B = each (λ c. rule_clauses (slope_rules e west.x east.x c)) 0 width in
    let C = rule_clauses (bend_rules e.first_bend e.west_up e.west_down (e.seen (width - 1))) in
    let D = rule_clauses (bend_rules e.second_bend e.east_up e.east_down (e.seen (width - 1))) in
    satisfies_append v (A ++ B) (C ++ D)
    (satisfies_append v A B
    (rules_hold v (end_rules e) (end_holds v e (λ a b. up_not_down (step_slope y w) (sym r.west_up ∙ a) (sym r.west_down ∙ b)) (λ a b. up_not_down
    (step_slope y (w + n)) (sym r.east_up ∙ a) (sym r.east_down ∙ b))))
    (satisfies_each v (λ c. rule_clauses (slope_rules e west.x east.x c)) 0 width
    (λ c from to. rules_hold v (slope_rules e west.x east.x c) (append_follows v west.x east.x e c
    (same_holds v west.x c e.west_up (e.up c) w rx (λ is. r.west_up ∙ ap (λ k. is_up (step_slope y k)) is ∙ sym (r.up c (omega arith))))
    (same_holds v west.x c e.west_down (e.down c) w rx (λ is. r.west_down ∙ ap (λ k. is_down (step_slope y k)) is ∙ sym (r.down c (omega arith))))
    (same_holds v east.x (c + 1) e.east_up (e.up c) (w + n + 1) rz (λ is. let z : w + n ≡ c = omega arith in r.east_up ∙ ap (λ k. is_up (step_slope y k)) z
    ∙ sym (r.up c (omega arith))))
    (same_holds v east.x (c + 1) e.east_down (e.down c) (w + n + 1) rz (λ is. let z : w + n ≡ c = omega arith in r.east_down
    ∙ ap (λ k. is_down (step_slope y k)) z ∙ sym (r.down c (omega arith))))))))
    (satisfies_append v C D
    (rules_hold v (bend_rules e.first_bend e.west_up e.west_down (e.seen (width - 1))) (bend_holds v e.first_bend e.west_up e.west_down (e.seen (width - 1))
    (r.first_bend ∙ sym (ap (λ b. (b || v e.west_down) && v (e.seen (width - 1))) r.west_up
    ∙ ap (λ b. (is_up (step_slope y w) || b) && v (e.seen (width - 1))) r.west_down ∙ ap (λ b. b && v (e.seen (width - 1))) (diagonal_bool (step_slope y w))
    ∙ ap (λ b. not (is_level (step_slope y w)) && b) level))))
    (rules_hold v (bend_rules e.second_bend e.east_up e.east_down (e.seen (width - 1))) (bend_holds v e.second_bend e.east_up e.east_down (e.seen (width - 1))
    (r.second_bend ∙ sym (ap (λ b. (b || v e.east_down) && v (e.seen (width - 1))) r.east_up
    ∙ ap (λ b. (is_up (step_slope y (w + n)) || b) && v (e.seen (width - 1))) r.east_down
    ∙ ap (λ b. b && v (e.seen (width - 1))) (diagonal_bool (step_slope y (w + n))) ∙ ap (λ b. not (is_level (step_slope y (w + n))) && b) level)))))

-- what the families that follow from the others need
through_up : (v : Assignment) (e : EdgeLits) (width w n c : ℕ) (y : ℕ → ℕ) → IsTrack y w n → IsFlatOutside y w n → ReadsTrack v e width y w n → c < width →
    Is (v (e.up c)) → Is (v e.west_up) ⊎ Is (v e.east_up)
through_up v e width w n c y t f r lt h =
    let up = up_is (step_slope y c) (sym (r.up c lt) ∙ h) in
    let ne : step_slope y c ≢ Level = up_diagonal (step_slope y c) (sym (r.up c lt) ∙ h) in
    let at = diagonal_inside y w n c f ne in
    elim (through y w n c t at.0 at.1 ne) [
      | inl a ↦ inl (r.west_up ∙ ap is_up (a ∙ up))
      | inr a ↦ inr (r.east_up ∙ ap is_up (a ∙ up))
    ]

through_down : (v : Assignment) (e : EdgeLits) (width w n c : ℕ) (y : ℕ → ℕ) → IsTrack y w n → IsFlatOutside y w n → ReadsTrack v e width y w n → c < width →
    Is (v (e.down c)) → Is (v e.west_down) ⊎ Is (v e.east_down)
through_down v e width w n c y t f r lt h =
    let down = down_is (step_slope y c) (sym (r.down c lt) ∙ h) in
    let ne : step_slope y c ≢ Level = down_diagonal (step_slope y c) (sym (r.down c lt) ∙ h) in
    let at = diagonal_inside y w n c f ne in
    elim (through y w n c t at.0 at.1 ne) [
      | inl a ↦ inl (r.west_down ∙ ap is_down (a ∙ down))
      | inr a ↦ inr (r.east_down ∙ ap is_down (a ∙ down))
    ]

up_or_down : (s : Slope) → s ≢ Level → Is (is_up s) ⊎ Is (is_down s)
up_or_down Down ne = inr refl
up_or_down Level ne = absurd (ne refl)
up_or_down Up ne = inl refl

level_or_one : (v : Assignment) (e : EdgeLits) (width w n : ℕ) (y : ℕ → ℕ) → w + n + 1 ≤ width → IsTrack y w n → ReadsTrack v e width y w n →
    Is (v (e.seen (width - 1))) ⊎ ((Is (v e.west_up) ⊎ Is (v e.west_down)) × ((v e.west_up ≡ v e.east_up) × (v e.west_down ≡ v e.east_down)))
level_or_one v e width w n y size t r =
    let level : v (e.seen (width - 1)) ≡ has_level y w n = r.seen (width - 1) (omega arith)
    ∙ seen_to_end y w n (width - 1 - (w + n)) (width - 1) (omega arith) in
    elim (has_level y w n) as (λ b. has_level y w n ≡ b → Is (v (e.seen (width - 1))) ⊎
    ((Is (v e.west_up) ⊎ Is (v e.west_down)) × ((v e.west_up ≡ v e.east_up) × (v e.west_down ≡ v e.east_down)))) [
      | true ↦ λ h. inl (level ∙ h)
      | false ↦ λ h.
          let one = one_slope_all y w n t h in
          inr (
            elim (up_or_down (step_slope y w) one.0) [ inl u ↦ inl (r.west_up ∙ u) | inr d ↦ inr (r.west_down ∙ d) ],
            (r.west_up ∙ sym (ap is_up one.1) ∙ sym r.east_up, r.west_down ∙ sym (ap is_down one.1) ∙ sym r.east_down),
          )
    ] refl

by_up : (s : Slope) (m n : ℕ) → Reaches s 1 m n → Is (is_up s) → n ≡ m + 1
by_up Down m n h u = cc
by_up Level m n h u = cc
by_up Up m n h u = h

by_down : (s : Slope) (m n : ℕ) → Reaches s 1 m n → Is (is_down s) → n + 1 ≡ m
by_down Down m n h u = h
by_down Level m n h u = cc
by_down Up m n h u = cc

further_holds : (v : Assignment) (e : EdgeLits) (west east : NodeInts) (high width w n a b : ℕ) (y : ℕ → ℕ) → HasRows e high width → w + n + 1 ≤ width →
    Reads v west.y a → Reads v east.y b → IsTrack y w n → IsFlatOutside y w n → y w ≡ a → y (w + n + 1) ≡ b → AreColumns v e width y w n →
    ReadsTrack v e width y w n → SatisfiesAll v (further_clauses e west east high width)
further_holds v e west east high width w n a b y rows size ra rb t f is_a is_b columns r =
    let F = each (λ c. rule_clauses (inner_rules e c)) 0 (width - 1) in
    let G = each (λ c. rule_clauses (end_piece_rules e c)) 0 width in
    let H = rule_clauses (level_rules e (e.seen (width - 1))) in
    let K = rule_clauses (beside_end_rules e west.y east.y high) in
    let bound : (c : ℕ) → c ≤ width → y c ≤ high = λ c le. let one = r.height c le in let top = one.high in let is = rows.highest c le in omega arith in
    let first = track_reaches y w n w t f in
    let last = track_reaches y w n (w + n) t f in
    satisfies_append v (F ++ G) (H ++ K)
    (satisfies_append v F G
    (satisfies_each v (λ c. rule_clauses (inner_rules e c)) 0 (width - 1) (λ c from to. rules_hold v (inner_rules e c)
    (inner_holds v e c (columns.steps c (omega arith)).one (columns.steps (c + 1) (omega arith)).one
    (r.bend c (omega arith) ∙ sym (turns_are y w n c (v (e.inside c)) (v (e.inside (c + 2))) (v (e.up c)) (v (e.up (c + 1))) (v (e.down c)) (v (e.down (c + 1)))
    (r.inside c (omega arith)) (r.inside (c + 2) (omega arith)) (r.up c (omega arith)) (r.up (c + 1) (omega arith)) (r.down c (omega arith))
    (r.down (c + 1) (omega arith)))))))
    (satisfies_each v (λ c. rule_clauses (end_piece_rules e c)) 0 width (λ c from to. rules_hold v (end_piece_rules e c)
    (through_holds v e c (through_up v e width w n c y t f r (omega arith)) (through_down v e width w n c y t f r (omega arith))))))
    (satisfies_append v H K
    (rules_hold v (level_rules e (e.seen (width - 1))) (level_holds v e (e.seen (width - 1)) (level_or_one v e width w n y size t r)))
    (rules_hold v (beside_end_rules e west.y east.y high) (edge_holds v e west.y east.y a b high ra rb
    (λ h. let k = by_down (step_slope y w) (y w) (y (w + 1)) first (sym r.west_down ∙ h) in omega arith)
    (λ h. let k = by_up (step_slope y w) (y w) (y (w + 1)) first (sym r.west_up ∙ h) in let top = bound (w + 1) (omega arith) in omega arith)
    (λ h. let k = by_up (step_slope y (w + n)) (y (w + n)) (y (w + n + 1)) last (sym r.east_up ∙ h) in omega arith)
    (λ h. let k = by_down (step_slope y (w + n)) (y (w + n)) (y (w + n + 1)) last (sym r.east_down ∙ h) in let top = bound (w + n) (omega arith) in omega
    arith))))

-- A TRACK MAKES THE CLAUSES HOLD
pub edge_clauses_hold : (v : Assignment) (e : EdgeLits) (west east : NodeInts) (least high width w n a b : ℕ) (y : ℕ → ℕ) → HasRows e high width →
    w + n + 1 ≤ width → least ≤ n + 1 → Reads v west.x w → Reads v west.y a → Reads v east.x (w + n + 1) → Reads v east.y b → IsTrack y w n →
    IsFlatOutside y w n → y w ≡ a → y (w + n + 1) ≡ b → ReadsTrack v e width y w n → SatisfiesAll v (edge_clauses e west east least high width)
edge_clauses_hold v e west east least high width w n a b y rows size long rx ra rz rb t f is_a is_b r =
    let A = each (λ c. int_clauses (e.height c)) 0 (width + 1) in
    let B = end_clauses e west east least width in
    let C = column_clauses e west east high width in
    let D = whole_clauses e west east width in
    let E = further_clauses e west east high width in
    let columns = track_columns v e width y w n t f r in
    satisfies_append v (A ++ B) (C ++ (D ++ E))
    (satisfies_append v A B
    (satisfies_each v (λ c. int_clauses (e.height c)) 0 (width + 1) (λ c from to. int_holds v (e.height c) (y c) (r.height c (omega arith))))
    (ends_hold v e west east least width w n a b y rx ra rz rb long size f is_a is_b r))
    (satisfies_append v C (D ++ E) (columns_hold v e west east high width w n y rx rz r.height columns)
    (satisfies_append v D E (whole_holds v e west east width w n y size rx rz r) (further_holds v e west east high width w n a b y rows size ra rb t f is_a is_b
    columns r)))
