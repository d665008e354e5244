-- Where the variables of the clauses lie, and how many words the clauses have.
use Rattle.std.proofs.Common.{ℕ, ◌+◌, ◌-◌, ◌*◌, ◌≤◌, ◌<◌, List, [], ◌∷◌, ◌++◌, length, arith}
use Rattle.std.specs.Prelude.{map}
use Rattle.cnf_core.specs.Lit.{Literal}
use Rattle.cnf_core.specs.Clause.{IsThere, AllThere, words_of}
use Rattle.cnf_core.specs.Formula.{each}
use Rattle.cnf_core.specs.LitOrTruth.{flip}
use Rattle.cnf_core.proofs.ClauseLemmas.{all_there_append, all_there_each, words_append}
use Rattle.cnf_core.proofs.GatherLemmas.{clause_there, clause_words, flips_within, flips_length}
use Rattle.order_int.specs.IntVars.{IntVars, IntIsThere}
use Rattle.order_int.specs.OrderInt.{int_at_least, int_clauses, le_clauses, equal_clauses}
use Rattle.order_int.proofs.IntLemmas.{int_there}
use Rattle.order_int.proofs.OrderLemmas.{le_there, equal_there}
use Rattle.edge_shape.specs.Rules.{Rule, AllWithin, rule_clause, rule_clauses}
use Rattle.edge_shape.specs.EdgeVars.{NodeInts, edge_lits, edge_size, IsSpot}
use Rattle.edge_shape.specs.Edge.{near_clause, near_clauses, level_clauses, diagonal_clauses, rows_clauses, rise_clauses, step_rules, seen_rules, shape_rules}
use Rattle.edge_shape.specs.Edge.{height_clauses, step_clauses, range_rules, end_rules, slope_rules, bend_rules, inner_rules, end_piece_rules, level_rules}
use Rattle.edge_shape.specs.Edge.{beside_end_rules, end_clauses, column_clauses, whole_clauses, further_clauses, edge_clauses}
use Rattle.edge_shape.proofs.PlaceLemmas.{StepWithin, near_within, height_there, inside_there, column_there, step_literals, whole_literals, step_within}
use Rattle.edge_shape.proofs.PlaceLemmas.{seen_within, shape_within, range_within, inner_within, through_within, end_within, slope_within, bend_within}
use Rattle.edge_shape.proofs.PlaceLemmas.{level_within, edge_within}

pub rules_there : (vars : ℕ) (rs : List Rule) → AllWithin vars rs → AllThere vars (rule_clauses rs)
rules_there vars [] h = tt
rules_there vars (r ∷ rs) h = all_there_append vars (rule_clause r) (rule_clauses rs) (clause_there vars [] (map flip r.premises ++ r.conclusions) tt
    (flips_within vars r.premises r.conclusions h.0.premises h.0.conclusions)) (rules_there vars rs h.1)

-- a clause of five literals has eight words
pub rules_words : (vars : ℕ) (rs : List Rule) → AllWithin vars rs → words_of (rule_clauses rs) ≤ 8 * length rs
rules_words vars [] h = omega arith
rules_words vars (r ∷ rs) h = let few = h.0.few in omega (
  arith,
  clause_words [] (map flip r.premises ++ r.conclusions),
  flips_length r.premises r.conclusions,
  words_append (rule_clause r) (rule_clauses rs),
  rules_words vars rs h.1,
)

near_there : (vars high : ℕ) (a b : IntVars) → IntIsThere vars a → IntIsThere vars b → AllThere vars (near_clauses a b high)
near_there vars high a b ta tb = all_there_each vars (near_clause a b) 1 (high - 1)
    (λ k from to. clause_there vars [] (flip (int_at_least a (k + 1)) ∷ int_at_least b k ∷ []) tt (near_within vars a b k ta tb))

pub rise_there : (vars high : ℕ) (a b : IntVars) (u d : Literal) → IntIsThere vars a → IntIsThere vars b → IsThere vars u → IsThere vars d →
    AllThere vars (rise_clauses a b u d high)
rise_there vars high a b u d ta tb tu td =
    all_there_append vars (level_clauses a b u d ++ diagonal_clauses a b u d) (rows_clauses a b high)
    (all_there_append vars (level_clauses a b u d) (diagonal_clauses a b u d)
    (all_there_append vars _ _ (le_there vars a b 0 (d ∷ []) ta tb (td, tt)) (le_there vars b a 0 (u ∷ []) tb ta (tu, tt)))
    (all_there_append vars _ _ (le_there vars a b 1 (_ ∷ []) ta tb (tu, tt)) (le_there vars b a 1 (_ ∷ []) tb ta (td, tt))))
    (all_there_append vars (near_clauses b a high) (near_clauses a b high) (near_there vars high b a tb ta) (near_there vars high a b ta tb))

-- the clauses of all steps
pub steps_there : (first high width vars : ℕ) → IsSpot first high width → first + edge_size high width ≤ vars + 1 →
    AllThere vars (each (step_clauses (edge_lits first high width) high) 0 width)
steps_there first high width vars p there = all_there_each vars (step_clauses (edge_lits first high width) high) 0 width (λ c from to.
    let e = edge_lits first high width in
    let lt : c < width = omega arith in
    let s = step_literals first high width vars c p there lt in
    all_there_append vars (rule_clauses (step_rules e c) ++ height_clauses e high c) (rule_clauses (seen_rules e c) ++ rule_clauses (shape_rules e c))
    (all_there_append vars (rule_clauses (step_rules e c)) (height_clauses e high c)
    (rules_there vars (step_rules e c) (step_within vars e c s))
    (rise_there vars high (e.height c) (e.height (c + 1)) _ _ (height_there first high width vars c p there (omega arith))
    (height_there first high width vars (c + 1) p there (omega arith)) s.up s.down))
    (all_there_append vars (rule_clauses (seen_rules e c)) (rule_clauses (shape_rules e c))
    (rules_there vars (seen_rules e c) (seen_within vars e c s))
    (rules_there vars (shape_rules e c) (shape_within vars e c s))))

-- all clauses of an edge
heights_there : (first high width vars : ℕ) → IsSpot first high width → first + edge_size high width ≤ vars + 1 →
    AllThere vars (each (λ c. int_clauses ((edge_lits first high width).height c)) 0 (width + 1))
heights_there first high width vars p there = all_there_each vars (λ c. int_clauses ((edge_lits first high width).height c)) 0 (width + 1)
    (λ c from to. int_there vars ((edge_lits first high width).height c) (height_there first high width vars c p there (omega arith)))

pub edge_there : (first high width vars least : ℕ) (west east : NodeInts) → IsSpot first high width → first + edge_size high width ≤ vars + 1 →
    IntIsThere vars west.x → IntIsThere vars west.y → IntIsThere vars east.x → IntIsThere vars east.y →
    AllThere vars (edge_clauses (edge_lits first high width) west east least high width)
edge_there first high width vars least west east p there wx wy ex ey =
    let e = edge_lits first high width in
    let w = whole_literals first high width vars p there in
    let some = p.some_columns in
    let level = column_there first high width vars (width - 1) 3 p there (omega arith) (omega arith) in
    let at : (c : ℕ) → c < width → StepWithin vars e c = λ c lt. step_literals first high width vars c p there lt in
    let ends = all_there_append vars (le_clauses west.x east.x least []) (equal_clauses (e.height 0) west.y [] ++ equal_clauses (e.height width) east.y [])
    (le_there vars west.x east.x least [] wx ex tt)
    (all_there_append vars (equal_clauses (e.height 0) west.y []) (equal_clauses (e.height width) east.y [])
    (equal_there vars (e.height 0) west.y [] (height_there first high width vars 0 p there (omega arith)) wy tt)
    (equal_there vars (e.height width) east.y [] (height_there first high width vars width p there (omega arith)) ey tt)) in
    let ranges = all_there_each vars (λ c. rule_clauses (range_rules e west.x east.x c)) 0 (width + 1)
    (λ c from to. rules_there vars (range_rules e west.x east.x c)
    (range_within vars e west.x east.x c (inside_there first high width vars c p there (omega arith)) wx ex)) in
    let columns = all_there_append vars (each (λ c. rule_clauses (range_rules e west.x east.x c)) 0 (width + 1)) (each (step_clauses e high) 0 width) ranges
    (steps_there first high width vars p there) in
    let slopes = all_there_each vars (λ c. rule_clauses (slope_rules e west.x east.x c)) 0 width
    (λ c from to. rules_there vars (slope_rules e west.x east.x c) (slope_within vars e west.x east.x c w (at c (omega arith)) wx ex)) in
    let whole = all_there_append vars (rule_clauses (end_rules e) ++ each (λ c. rule_clauses (slope_rules e west.x east.x c)) 0 width)
    (rule_clauses (bend_rules e.first_bend e.west_up e.west_down (e.seen (width - 1))) ++ rule_clauses
    (bend_rules e.second_bend e.east_up e.east_down (e.seen (width - 1))))
    (all_there_append vars (rule_clauses (end_rules e)) (each (λ c. rule_clauses (slope_rules e west.x east.x c)) 0 width)
    (rules_there vars (end_rules e) (end_within vars e w)) slopes)
    (all_there_append vars (rule_clauses (bend_rules e.first_bend e.west_up e.west_down (e.seen (width - 1))))
    (rule_clauses (bend_rules e.second_bend e.east_up e.east_down (e.seen (width - 1))))
    (rules_there vars (bend_rules e.first_bend e.west_up e.west_down (e.seen (width - 1)))
    (bend_within vars e.first_bend e.west_up e.west_down (e.seen (width - 1)) w.first_bend w.west_up w.west_down level))
    (rules_there vars (bend_rules e.second_bend e.east_up e.east_down (e.seen (width - 1)))
    (bend_within vars e.second_bend e.east_up e.east_down (e.seen (width - 1)) w.second_bend w.east_up w.east_down level))) in
    let inner = all_there_each vars (λ c. rule_clauses (inner_rules e c)) 0 (width - 1) (λ c from to.
    let here = at c (omega arith) in
    let next = at (c + 1) (omega arith) in
    rules_there vars (inner_rules e c) (inner_within vars e c (column_there first high width vars (c + 1) 4 p there (omega arith)
    (omega arith)) here.here (inside_there first high width vars (c + 2) p there (omega arith)) here.up next.up here.down next.down)) in
    let through = all_there_each vars (λ c. rule_clauses (end_piece_rules e c)) 0 width
    (λ c from to. rules_there vars (end_piece_rules e c) (through_within vars e c w (at c (omega arith)))) in
    let further = all_there_append vars (each (λ c. rule_clauses (inner_rules e c)) 0 (width - 1) ++ each (λ c. rule_clauses (end_piece_rules e c)) 0 width)
    (rule_clauses (level_rules e (e.seen (width - 1))) ++ rule_clauses (beside_end_rules e west.y east.y high))
    (all_there_append vars (each (λ c. rule_clauses (inner_rules e c)) 0 (width - 1)) (each (λ c. rule_clauses (end_piece_rules e c)) 0 width) inner through)
    (all_there_append vars (rule_clauses (level_rules e (e.seen (width - 1)))) (rule_clauses (beside_end_rules e west.y east.y high))
    (rules_there vars (level_rules e (e.seen (width - 1))) (level_within vars e (e.seen (width - 1)) w level))
    (rules_there vars (beside_end_rules e west.y east.y high) (edge_within vars e west.y east.y high w wy ey))) in
    all_there_append vars (each (λ c. int_clauses (e.height c)) 0 (width + 1) ++ end_clauses e west east least width)
    (column_clauses e west east high width ++ (whole_clauses e west east width ++ further_clauses e west east high width))
    (all_there_append vars (each (λ c. int_clauses (e.height c)) 0 (width + 1)) (end_clauses e west east least width)
    (heights_there first high width vars p there) ends)
    (all_there_append vars (column_clauses e west east high width) (whole_clauses e west east width ++ further_clauses e west east high width) columns
    (all_there_append vars (whole_clauses e west east width) (further_clauses e west east high width) whole further))
