-- How many words the clauses of an edge have, and variables the edge: within 2000 A and 100 A, where
-- A is the grid's columns times its rows.
use Rattle.std.proofs.Common.{◌≡◌, ℕ, ◌+◌, ◌-◌, ◌*◌, ◌≤◌, ◌<◌, [], ◌∷◌, ◌++◌, arith}
use Rattle.std.proofs.Math.Nat.{mul-le-mul_right, mul-le-mul_left}
use Rattle.cnf_core.specs.Lit.{Literal, negate, positive_of}
use Rattle.cnf_core.specs.Clause.{Clauses, words_of}
use Rattle.cnf_core.specs.Formula.{each}
use Rattle.cnf_core.specs.LitOrTruth.{flip}
use Rattle.cnf_core.proofs.ClauseLemmas.{words_append, words_each}
use Rattle.cnf_core.proofs.GatherLemmas.{clause_words}
use Rattle.order_int.specs.IntVars.{IntVars, size, IntIsThere}
use Rattle.order_int.specs.OrderInt.{int_at_least, int_clauses, le_clauses, equal_clauses}
use Rattle.order_int.proofs.IntLemmas.{chain_words}
use Rattle.order_int.proofs.OrderLemmas.{le_words, equal_words}
use Rattle.edge_shape.specs.Rules.{rule_clauses}
use Rattle.edge_shape.specs.EdgeVars.{NodeInts, edge_lits, edge_size, IsSpot}
use Rattle.edge_shape.proofs.PlaceLemmas.{StepWithin, inside_there, column_there, step_literals, whole_literals, step_within, seen_within, shape_within}
use Rattle.edge_shape.proofs.PlaceLemmas.{range_within, inner_within, through_within, end_within, slope_within, bend_within, level_within, edge_within}
use Rattle.edge_shape.proofs.SizeLemmas.{rules_words}
use Rattle.edge_shape.specs.Edge.{near_clause, near_clauses, level_clauses, diagonal_clauses, rows_clauses, rise_clauses, step_rules, seen_rules, shape_rules}
use Rattle.edge_shape.specs.Edge.{height_clauses, step_clauses, range_rules, end_rules, slope_rules, bend_rules, inner_rules, end_piece_rules, level_rules}
use Rattle.edge_shape.specs.Edge.{beside_end_rules, end_clauses, column_clauses, whole_clauses, further_clauses, edge_clauses}

near_words : (a b : IntVars) (high : ℕ) → words_of (near_clauses a b high) ≤ (high - 1) * 5
near_words a b high = words_each 5 (near_clause a b) 1 (high - 1) (λ k from to. omega
    (arith, clause_words [] (flip (int_at_least a (k + 1)) ∷ int_at_least b k ∷ [])))

both_words : (xs ys : Clauses) (m n : ℕ) → words_of xs ≤ m → words_of ys ≤ n → words_of (xs ++ ys) ≤ m + n
both_words xs ys m n a b = omega (arith, words_append xs ys)

order_words : (a b : IntVars) (plus high : ℕ) (l : Literal) → a.high - a.low ≤ high → words_of (le_clauses a b plus (l ∷ [])) ≤ 6 * high + 12
order_words a b plus high l h = let w = le_words a b plus (l ∷ []) in let one : 6 * (a.high - a.low + 2) ≤ 6 * (high + 2) = mul-le-mul_left 6 (omega arith) in
    omega arith

rise_words : (a b : IntVars) (u d : Literal) (high : ℕ) → a.high - a.low ≤ high → b.high - b.low ≤ high → words_of (rise_clauses a b u d high) ≤ 34 * high + 48
rise_words a b u d high sa sb =
    let n : words_of (near_clauses b a high) ≤ 5 * high = (let x = near_words b a high in omega arith) in
    let m : words_of (near_clauses a b high) ≤ 5 * high = (let x = near_words a b high in omega arith) in
    let level = both_words (le_clauses a b 0 (d ∷ [])) (le_clauses b a 0 (u ∷ [])) (6 * high + 12) (6 * high + 12) (order_words a b 0 high d sa)
    (order_words b a 0 high u sb) in
    let diagonal = both_words (le_clauses a b 1 (negate u ∷ [])) (le_clauses b a 1 (negate d ∷ [])) (6 * high + 12) (6 * high + 12)
    (order_words a b 1 high (negate u) sa) (order_words b a 1 high (negate d) sb) in
    let rows = both_words (near_clauses b a high) (near_clauses a b high) (5 * high) (5 * high) n m in
    let orders = both_words (level_clauses a b u d) (diagonal_clauses a b u d) (6 * high + 12 + (6 * high + 12)) (6 * high + 12 + (6 * high + 12)) level
    diagonal in
    let all = both_words (level_clauses a b u d ++ diagonal_clauses a b u d) (rows_clauses a b high)
    (6 * high + 12 + (6 * high + 12) + (6 * high + 12 + (6 * high + 12))) (5 * high + 5 * high) orders rows in
    omega arith

-- so many words for each column are so many for each place of the grid
each_area : (f : ℕ → Clauses) (first n width high k : ℕ) → n ≤ width + 1 → ((c : ℕ) → first ≤ c → c < first + n → words_of (f c) ≤ k * (high + 1)) →
    words_of (each f first n) ≤ k * ((width + 1) * (high + 1))
each_area f first n width high k le h =
    let one = words_each (k * (high + 1)) f first n h in
    let all : n * (k * (high + 1)) ≤ (width + 1) * (k * (high + 1)) = mul-le-mul_right (k * (high + 1)) le in
    let same : (width + 1) * (k * (high + 1)) ≡ k * ((width + 1) * (high + 1)) = grind arith in
    omega arith

step_words : (first high width vars c : ℕ) → IsSpot first high width → first + edge_size high width ≤ vars + 1 → c < width →
    words_of (step_clauses (edge_lits first high width) high c) ≤ 168 * (high + 1)
step_words first high width vars c p there lt =
    let e = edge_lits first high width in
    let s = step_literals first high width vars c p there lt in
    let w1 = rules_words vars (step_rules e c) (step_within vars e c s) in
    let w2 = rise_words (e.height c) (e.height (c + 1)) (positive_of (e.up c)) (positive_of (e.down c)) high (omega arith) (omega arith) in
    let w3 = rules_words vars (seen_rules e c) (seen_within vars e c s) in
    let w4 = rules_words vars (shape_rules e c) (shape_within vars e c s) in
    let front = both_words (rule_clauses (step_rules e c)) (height_clauses e high c) 40 (34 * high + 48) w1 w2 in
    let back = both_words (rule_clauses (seen_rules e c)) (rule_clauses (shape_rules e c)) 48 32 w3 w4 in
    let all = both_words (rule_clauses (step_rules e c) ++ height_clauses e high c) (rule_clauses (seen_rules e c) ++ rule_clauses (shape_rules e c))
    (40 + (34 * high + 48)) (48 + 32) front back in
    omega arith

pub edge_words : (first high width vars least : ℕ) (west east : NodeInts) → IsSpot first high width → first + edge_size high width ≤ vars + 1 →
    IntIsThere vars west.x → IntIsThere vars west.y → IntIsThere vars east.x → IntIsThere vars east.y
    → west.x.high - west.x.low ≤ width → west.y.high - west.y.low ≤ high → east.y.high - east.y.low ≤ high →
    words_of (edge_clauses (edge_lits first high width) west east least high width) ≤ 2000 * ((width + 1) * (high + 1))
edge_words first high width vars least west east p there wx wy ex ey sx sy sz =
    let e = edge_lits first high width in
    let A = (width + 1) * (high + 1) in
    let w = whole_literals first high width vars p there in
    let some = p.some_columns in
    let level = column_there first high width vars (width - 1) 3 p there (omega arith) (omega arith) in
    let at : (c : ℕ) → c < width → StepWithin vars e c = λ c lt. step_literals first high width vars c p there lt in
    let ints = each_area (λ c. int_clauses (e.height c)) 0 (width + 1) width high 5 (omega arith)
    (λ c from to. let k = chain_words (e.height c).first (size (e.height c)) in omega arith) in
    let ranges = each_area (λ c. rule_clauses (range_rules e west.x east.x c)) 0 (width + 1) width high 24 (omega arith)
    (λ c from to. let k = rules_words vars (range_rules e west.x east.x c)
    (range_within vars e west.x east.x c (inside_there first high width vars c p there (omega arith)) wx ex) in omega arith) in
    let steps = each_area (step_clauses e high) 0 width width high 168 (omega arith) (λ c from to. step_words first high width vars c p there (omega arith)) in
    let slopes = each_area (λ c. rule_clauses (slope_rules e west.x east.x c)) 0 width width high 64 (omega arith)
    (λ c from to. let k = rules_words vars (slope_rules e west.x east.x c)
    (slope_within vars e west.x east.x c w (at c (omega arith)) wx ex) in omega arith) in
    let inner = each_area (λ c. rule_clauses (inner_rules e c)) 0 (width - 1) width high 72 (omega arith) (λ c from to.
    let here = at c (omega arith) in
    let next = at (c + 1) (omega arith) in
    let k = rules_words vars (inner_rules e c) (inner_within vars e c
    (column_there first high width vars (c + 1) 4 p there (omega arith) (omega arith)) here.here
    (inside_there first high width vars (c + 2) p there (omega arith)) here.up next.up here.down next.down) in
    omega arith) in
    let through = each_area (λ c. rule_clauses (end_piece_rules e c)) 0 width width high 16 (omega arith)
    (λ c from to. let k = rules_words vars (end_piece_rules e c) (through_within vars e c w (at c (omega arith))) in omega arith) in
    let end = rules_words vars (end_rules e) (end_within vars e w) in
    let b1 = rules_words vars (bend_rules e.first_bend e.west_up e.west_down (e.seen (width - 1)))
    (bend_within vars e.first_bend e.west_up e.west_down (e.seen (width - 1)) w.first_bend w.west_up w.west_down level) in
    let b2 = rules_words vars (bend_rules e.second_bend e.east_up e.east_down (e.seen (width - 1)))
    (bend_within vars e.second_bend e.east_up e.east_down (e.seen (width - 1)) w.second_bend w.east_up w.east_down level) in
    let lv = rules_words vars (level_rules e (e.seen (width - 1))) (level_within vars e (e.seen (width - 1)) w level) in
    let ed = rules_words vars (beside_end_rules e west.y east.y high) (edge_within vars e west.y east.y high w wy ey) in
    let le = le_words west.x east.x least [] in
    let q1 = equal_words (e.height 0) west.y [] in
    let q2 = equal_words (e.height width) east.y [] in
    let area : width + high + 1 ≤ A = grind arith in
    let e1 : words_of (end_clauses e west east least width) ≤ 80 * A =
    omega (
      arith,
      le,
      q1,
      q2,
      area,
      sx,
      sy,
      sz,
      words_append (le_clauses west.x east.x least [])
          (equal_clauses (e.height 0) west.y [] ++ equal_clauses (e.height width) east.y []),
      words_append (equal_clauses (e.height 0) west.y [])
          (equal_clauses (e.height width) east.y []),
    ) in
    let front = both_words (each (λ c. int_clauses (e.height c)) 0 (width + 1)) (end_clauses e west east least width) (5 * A) (80 * A) ints e1 in
    let columns = both_words (each (λ c. rule_clauses (range_rules e west.x east.x c)) 0 (width + 1)) (each (step_clauses e high) 0 width) (24 * A) (168 * A)
    ranges steps in
    let es = both_words (rule_clauses (end_rules e)) (each (λ c. rule_clauses (slope_rules e west.x east.x c)) 0 width) 16 (64 * A) end slopes in
    let bs = both_words (rule_clauses (bend_rules e.first_bend e.west_up e.west_down (e.seen (width - 1))))
    (rule_clauses (bend_rules e.second_bend e.east_up e.east_down (e.seen (width - 1)))) 32 32 b1 b2 in
    let whole = both_words (rule_clauses (end_rules e) ++ each (λ c. rule_clauses (slope_rules e west.x east.x c)) 0 width)
    (rule_clauses (bend_rules e.first_bend e.west_up e.west_down (e.seen (width - 1))) ++ rule_clauses
    (bend_rules e.second_bend e.east_up e.east_down (e.seen (width - 1)))) (16 + 64 * A) (32 + 32) es bs in
    let it = both_words (each (λ c. rule_clauses (inner_rules e c)) 0 (width - 1)) (each (λ c. rule_clauses (end_piece_rules e c)) 0 width) (72 * A)
    (16 * A) inner through in
    let le2 = both_words (rule_clauses (level_rules e (e.seen (width - 1)))) (rule_clauses (beside_end_rules e west.y east.y high)) 48 32 lv ed in
    let further = both_words (each (λ c. rule_clauses (inner_rules e c)) 0 (width - 1) ++ each (λ c. rule_clauses (end_piece_rules e c)) 0 width)
    (rule_clauses (level_rules e (e.seen (width - 1))) ++ rule_clauses (beside_end_rules e west.y east.y high)) (72 * A + 16 * A) (48 + 32) it le2 in
    let line = both_words (whole_clauses e west east width) (further_clauses e west east high width) (16 + 64 * A + (32 + 32)) (72 * A + 16 * A + (48 + 32))
    whole further in
    let shape = both_words (column_clauses e west east high width) (whole_clauses e west east width ++ further_clauses e west east high width)
    (24 * A + 168 * A) (16 + 64 * A + (32 + 32) + (72 * A + 16 * A + (48 + 32))) columns line in
    let all = both_words (each (λ c. int_clauses (e.height c)) 0 (width + 1) ++ end_clauses e west east least width)
    (column_clauses e west east high width ++ (whole_clauses e west east width ++ further_clauses e west east high width)) (5 * A + 80 * A)
    (24 * A + 168 * A + (16 + 64 * A + (32 + 32) + (72 * A + 16 * A + (48 + 32)))) front shape in
    omega (arith, all, area)

pub edge_vars_few : (high width : ℕ) → edge_size high width ≤ 100 * ((width + 1) * (high + 1))
edge_vars_few high width = grind arith
