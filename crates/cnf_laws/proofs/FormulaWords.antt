-- How many words and variables the formula has at most.
use Rattle.std.proofs.Common.{◌≡◌, ℕ, zero, suc, ◌+◌, ◌-◌, ◌*◌, ◌≤◌, ◌<◌, Bool, true, false, cond, List, [], ◌∷◌, ◌++◌, map, length, refl, ◌∙◌, ap, arith}
use Rattle.std.specs.Prelude.{⊤, ◌||◌, not}
use Rattle.std.specs.Ordering.{int_cmp}
use Rattle.std.specs.declared.cmp.Ordering.{Ordering}
use Rattle.std.specs.declared.cmp.Ordering.TheVariants.{Less, Equal, Greater}
use Rattle.std.proofs.Math.Nat.{mul-le-mul_left, mul-le-mul_right}
use Rattle.plan_core.specs.declared.sides.Compass.{Compass}
use Rattle.plan_core.specs.declared.sides.Compass.TheVariants.{East, West}
use Rattle.plan_core.specs.declared.sides.Side.{Side}
use Rattle.plan_core.specs.declared.sides.Side.TheVariants.{Upper, Lower}
use Rattle.plan_core.specs.Grid.{GridSize, IsGrid}
use Rattle.plan_core.specs.Graph.{Graph, Ports, End, Joint, Switch, Crossing, node, edge, mileage, IsTrackGraph}
use Rattle.plan_core.specs.Lawful.{Instance, Ordered, Aligned, Apart, Over, Parted}
use Rattle.cnf_core.specs.declared.limits.TheConstants.{VARS}
use Rattle.cnf_core.specs.declared.literal.LitOrTruth.{LitOrTruth}
use Rattle.cnf_core.specs.declared.literal.LitOrTruth.TheVariants.{False}
use Rattle.cnf_core.specs.Lit.{Literal}
use Rattle.cnf_core.specs.Clause.{words_of}
use Rattle.cnf_core.specs.LitOrTruth.{yes, flip, clause_of}
use Rattle.cnf_core.specs.Formula.{each}
use Rattle.cnf_core.proofs.ClauseLemmas.{words_append, words_each}
use Rattle.cnf_core.proofs.GatherLemmas.{clause_words}
use Rattle.order_int.specs.IntVars.{IntVars, size}
use Rattle.order_int.specs.OrderInt.{int_clauses}
use Rattle.order_int.proofs.IntLemmas.{chain_words}
use Rattle.edge_shape.specs.EdgeVars.{edge_size}
use Rattle.edge_shape.specs.Rules.{Rule}
use Rattle.edge_shape.proofs.WordLemmas.{edge_words, edge_vars_few}
use Rattle.cnf_laws.specs.Guards.{pair_literals, pair_clauses, unless_rules}
use Rattle.cnf_laws.specs.Stands.{DrawingVars, SlopeVars, slope_vars}
use Rattle.cnf_laws.specs.LawClauses.{flat_rules, same_rules, one_more_rules, greater_rules, diverge_rules, ports_rules, apart_size, over_clauses, higher_of}
use Rattle.cnf_laws.specs.LawClauses.{instance_clauses, laws_size, laws_clauses}
use Rattle.cnf_laws.specs.Expected.{drawing_vars, edge_first, laws_first, instances_from, pairs_from, instance_pairs, below_by, pair_by, edge_pair, instances}
use Rattle.cnf_laws.specs.Expected.{node_clauses, edge_part, base_clauses, formula_clauses, formula_size, area, most_words, most_variables}
use Rattle.cnf_laws.proofs.LawCode.{size_append, laws_append}
use Rattle.cnf_laws.proofs.LawWords.{ordered_words, apart_words, higher_words, listed_words, all_pairs_words}
use Rattle.cnf_laws.proofs.BaseLemmas.{base_last, base_vars, edge_spot_in}

-- THE LAW ON SLOPES: eleven rules of two literals at most, unless one literal at most is true
abbrev pub AreShort : List Rule → Type 0
AreShort [] = ⊤
AreShort (r ∷ rs) = (length (pair_literals r) ≤ 2) × AreShort rs

rules_words : (unless : List Literal) (rs : List Rule) → length unless ≤ 1 → AreShort rs → words_of (unless_rules unless rs) ≤ length rs * 6
rules_words unless [] few h = omega arith
rules_words unless (r ∷ rs) few h =
    let short = h.0 in
    omega (
      arith,
      few,
      clause_words unless (pair_literals r),
      words_append (clause_of unless (pair_literals r)) (pair_clauses unless (map pair_literals rs)),
      rules_words unless rs few h.1,
    )

flat_short : (s : SlopeVars) → AreShort (flat_rules s)
flat_short s = (omega arith, (omega arith, tt))

same_short : (s t : SlopeVars) → AreShort (same_rules s t)
same_short s t = (omega arith, (omega arith, (omega arith, (omega arith, tt))))

one_more_short : (s t : SlopeVars) → AreShort (one_more_rules s t)
one_more_short s t = (omega arith, (omega arith, (omega arith, (omega arith, tt))))

greater_short : (s t : SlopeVars) → AreShort (greater_rules s t)
greater_short s t = (omega arith, (omega arith, (omega arith, tt)))

flat_words : (unless : List Literal) (s : SlopeVars) → length unless ≤ 1 → words_of (unless_rules unless (flat_rules s)) ≤ 12
flat_words unless s few = omega (arith, rules_words unless (flat_rules s) few (flat_short s))

same_words : (unless : List Literal) (s t : SlopeVars) → length unless ≤ 1 → words_of (unless_rules unless (same_rules s t)) ≤ 24
same_words unless s t few = omega (arith, rules_words unless (same_rules s t) few (same_short s t))

one_more_words : (unless : List Literal) (s t : SlopeVars) → length unless ≤ 1 → words_of (unless_rules unless (one_more_rules s t)) ≤ 24
one_more_words unless s t few = omega (arith, rules_words unless (one_more_rules s t) few (one_more_short s t))

greater_words : (unless : List Literal) (s t : SlopeVars) → length unless ≤ 1 → words_of (unless_rules unless (greater_rules s t)) ≤ 18
greater_words unless s t few = omega (arith, rules_words unless (greater_rules s t) few (greater_short s t))

diverge_words : (unless : List Literal) (legs : Compass) (branch : Side) (s t : SlopeVars) → length unless ≤ 1 →
    words_of (unless_rules unless (diverge_rules legs branch s t)) ≤ 24
diverge_words unless East Upper s t few = one_more_words unless s t few
diverge_words unless East Lower s t few = one_more_words unless t s few
diverge_words unless West Upper s t few = one_more_words unless t s few
diverge_words unless West Lower s t few = one_more_words unless s t few

both_words : (unless : List Literal) (rs ss : List Rule) → words_of (unless_rules unless (rs ++ ss)) ≡ words_of (unless_rules unless rs) + words_of
    (unless_rules unless ss)
both_words unless [] ss = omega arith
both_words unless (r ∷ rs) ss =
    let one = words_append (clause_of unless (pair_literals r)) (pair_clauses unless (map pair_literals rs)) in
    let all = words_append (clause_of unless (pair_literals r)) (pair_clauses unless (map pair_literals (rs ++ ss))) in
    omega (arith, one, all, both_words unless rs ss)

pub ports_words : (unless : List Literal) (at : ℕ → SlopeVars) (ports : Ports) → length unless ≤ 1 → words_of (unless_rules unless (ports_rules at ports)) ≤ 66
ports_words unless at (End e side) few = omega (arith, flat_words unless (at e) few)
ports_words unless at (Joint a b) few = omega (arith, same_words unless (at a) (at b) few)
ports_words unless at (Switch legs branch t s d) few =
    omega (
      arith,
      both_words unless (same_rules (at s) (at t)) (diverge_rules legs branch (at t) (at d)),
      same_words unless (at s) (at t) few,
      diverge_words
          unless legs branch (at t) (at d) few,
    )
ports_words unless at (Crossing wu wl eu el) few =
    omega (
      arith,
      both_words unless (same_rules (at wl) (at eu)) (same_rules (at wu) (at el) ++ greater_rules (at wu) (at wl)),
      both_words unless (same_rules (at wu) (at el)) (greater_rules (at wu) (at wl)),
      same_words unless (at wl) (at eu) few,
      same_words unless (at wu) (at el) few,
      greater_words unless (at wu) (at wl) few,
    )

-- EACH LAW
alone : (g : Graph) (x : DrawingVars) (width first : ℕ) (i : Instance) →
    words_of (laws_clauses g x width first (i ∷ [])) ≡ words_of (instance_clauses g x width i first [])
alone g x width first i = omega (arith, words_append (instance_clauses g x width i first []) [])

two_lists : (g : Graph) (x : DrawingVars) (width first : ℕ) (xs ys : List Instance) →
    words_of (laws_clauses g x width first (xs ++ ys)) ≡ words_of (laws_clauses g x width first xs) + words_of
    (laws_clauses g x width (first + laws_size g xs) ys)
two_lists g x width first xs ys = ap words_of (laws_append g x width first xs ys)
    ∙ words_append (laws_clauses g x width first xs) (laws_clauses g x width (first + laws_size g xs) ys)

ordered_few : (g : Graph) (grid : GridSize) (u v first : ℕ) → words_of (laws_clauses g (drawing_vars g grid) grid.width first (Ordered u v ∷ [])) ≤ 22 * area
    grid
ordered_few g grid u v first =
    let x = drawing_vars g grid in
    let all = ordered_words (int_cmp (mileage g u) (mileage g v)) (x.node u).x (x.node v).x [] grid.width (omega arith) (omega arith) (omega arith) in
    omega (arith, alone g x grid.width first (Ordered u v), all)

aligned_few : (g : Graph) (grid : GridSize) (n first : ℕ) → words_of (laws_clauses g (drawing_vars g grid) grid.width first (Aligned n ∷ [])) ≤ 66 * area grid
aligned_few g grid n first =
    let x = drawing_vars g grid in
    omega (arith, alone g x grid.width first (Aligned n), ports_words [] (slope_vars g x n) (node g n).ports (omega arith))

apart_few : (g : Graph) (grid : GridSize) (u v first : ℕ) → words_of (laws_clauses g (drawing_vars g grid) grid.width first (Apart u v ∷ [])) ≤ 33 * area grid
apart_few g grid u v first =
    let x = drawing_vars g grid in
    let all = apart_words (int_cmp (mileage g u) (mileage g v)) first (x.node u) (x.node v) [] grid.width grid.height (omega arith) (omega arith) (omega arith)
    (omega arith) (omega arith) in
    omega (arith, alone g x grid.width first (Apart u v), all)

pub over_few : (g : Graph) (grid : GridSize) (e f : ℕ) (guard : LitOrTruth) (unless : List Literal) → length unless ≤ 1 →
    words_of (over_clauses g (drawing_vars g grid) grid.width e f guard unless) ≤ 11 * area grid
over_few g grid e f guard unless few =
    let x = drawing_vars g grid in
    let all = higher_words (higher_of g x e f) (x.edge f) grid.width guard unless grid.height few (λ c le. omega arith) in
    omega arith

over_where : (g : Graph) (grid : GridSize) (b : Bool) (e f first : ℕ) →
    words_of (laws_clauses g (drawing_vars g grid) grid.width first (cond b (Over e f ∷ []) [])) ≤ 11 * area grid
over_where g grid true e f first = omega (arith, alone g (drawing_vars g grid) grid.width first (Over e f), over_few g grid e f False [] (omega arith))
over_where g grid false e f first = omega arith

parted_where : (g : Graph) (grid : GridSize) (b : Bool) (e f first : ℕ) →
    words_of (laws_clauses g (drawing_vars g grid) grid.width first (cond b [] (Parted e f ∷ []))) ≤ 22 * area grid
parted_where g grid true e f first = omega arith
parted_where g grid false e f first =
    let x = drawing_vars g grid in
    omega (
      arith,
      alone g x grid.width first (Parted e f),
      words_append (over_clauses g x grid.width e f (flip (yes first)) []) (over_clauses g x grid.width f e (yes first) []),
      over_few g grid e f (flip (yes first)) [] (omega arith),
      over_few g grid f e (yes first) [] (omega arith),
    )

pair_few : (g : Graph) (grid : GridSize) (a b o : Bool) (e f first : ℕ) →
    words_of (laws_clauses g (drawing_vars g grid) grid.width first (pair_by a b o e f)) ≤ 44 * area grid
pair_few g grid a b o e f first =
    let x = drawing_vars g grid in
    let next = first + laws_size g (cond a (Over e f ∷ []) []) in
    let last = next + laws_size g (cond b (Over f e ∷ []) []) in
    omega (
      arith,
      two_lists g x grid.width first (cond a (Over e f ∷ []) []) (below_by a b o e f),
      two_lists g x grid.width next (cond b (Over f e ∷ []) []) (cond (a || (b || not o)) [] (Parted e f ∷ [])),
      over_where g grid a e f first,
      over_where g grid b f e next,
      parted_where g grid (a || (b || not o)) e f last,
    )

-- ALL LAWS
pub added : (all one two three four five six p q r s : ℕ) → all ≡ one + two → two ≡ three + four → four ≡ five + six → one ≤ p → three ≤ q → five ≤ r →
    six ≤ s → all ≤ p + (q + (r + s))
added all one two three four five six p q r s e1 e2 e3 h1 h2 h3 h4 = omega arith

laws_few : (g : Graph) (grid : GridSize) (above overlap : ℕ → ℕ → Bool) (first : ℕ) →
    words_of (laws_clauses g (drawing_vars g grid) grid.width first (instances g above overlap)) ≤ length g.nodes * (length g.nodes * (22 * area grid)) +
    (length g.nodes * (66 * area grid) + (length g.nodes * (length g.nodes * (33 * area grid)) + length g.edges * (length g.edges * (44 * area grid))))
laws_few g grid above overlap first =
    let x = drawing_vars g grid in
    let w = grid.width in
    let ordered = instance_pairs (length g.nodes) (λ u v. Ordered u v ∷ []) in
    let aligned = instances_from (λ k. Aligned k ∷ []) 0 (length g.nodes) in
    let apart = instance_pairs (length g.nodes) (λ u v. Apart u v ∷ []) in
    let edges = instance_pairs (length g.edges) (edge_pair above overlap) in
    let second = first + laws_size g ordered in
    let third = second + laws_size g aligned in
    let fourth = third + laws_size g apart in
    added (words_of (laws_clauses g x w first (instances g above overlap)))
    (words_of (laws_clauses g x w first ordered)) (words_of (laws_clauses g x w second (aligned ++ (apart ++ edges))))
    (words_of (laws_clauses g x w second aligned)) (words_of (laws_clauses g x w third (apart ++ edges)))
    (words_of (laws_clauses g x w third apart)) (words_of (laws_clauses g x w fourth edges))
    (length g.nodes * (length g.nodes * (22 * area grid))) (length g.nodes * (66 * area grid)) (length g.nodes * (length g.nodes * (33 * area grid)))
    (length g.edges * (length g.edges * (44 * area grid)))
    (two_lists g x w first ordered (aligned ++ (apart ++ edges))) (two_lists g x w second aligned (apart ++ edges)) (two_lists g x w third apart edges)
    (all_pairs_words g x w (22 * area grid) (length g.nodes) (λ u v. Ordered u v ∷ []) (λ u v k. ordered_few g grid u v k) first)
    (listed_words g x w (66 * area grid) (λ k. Aligned k ∷ []) (λ k j. aligned_few g grid k j) 0 (length g.nodes) second)
    (all_pairs_words g x w (33 * area grid) (length g.nodes) (λ u v. Apart u v ∷ []) (λ u v k. apart_few g grid u v k) third)
    (all_pairs_words g x w (44 * area grid) (length g.edges) (edge_pair above overlap) (λ e f k. pair_few g grid (above e f) (above f e) (overlap e f) e f k)
    fourth)

-- NODES AND EDGES
int_words : (i : IntVars) → words_of (int_clauses i) ≤ 5 * size i
int_words i = chain_words i.first (size i)

node_few : (g : Graph) (grid : GridSize) (n : ℕ) → words_of (node_clauses ((drawing_vars g grid).node n)) ≤ 5 * area grid
node_few g grid n =
    let i = (drawing_vars g grid).node n in
    let rows : size i.y ≡ grid.height = omega arith in
    let columns : size i.x ≡ grid.width = omega arith in
    omega (arith, words_append (int_clauses i.y) (int_clauses i.x), int_words i.y, int_words i.x)

edge_few : (g : Graph) (grid : GridSize) (e : ℕ) → IsTrackGraph g → IsGrid grid → laws_first g grid ≤ VARS + 1 → e < length g.edges →
    words_of (edge_part g (drawing_vars g grid) grid e) ≤ 2000 * area grid
edge_few g grid e is size few lt =
    let x = drawing_vars g grid in
    let ends = is.nodes e lt in
    let a = base_vars g grid size few in
    let s = edge_spot_in g grid e size few lt in
    let top = s.1 in
    edge_words (edge_first g grid e) grid.height grid.width (base_last g grid) grid.least (x.node (edge g e).west) (x.node (edge g e).east) s.0.spot
    (omega arith)
    (a.node_x (edge g e).west ends.0) (a.node_y (edge g e).west ends.0) (a.node_x (edge g e).east ends.1) (a.node_y (edge g e).east ends.1) (omega arith)
    (omega arith) (omega arith)

pub base_few : (g : Graph) (grid : GridSize) → IsTrackGraph g → IsGrid grid → laws_first g grid ≤ VARS + 1 →
    words_of (base_clauses g (drawing_vars g grid) grid) ≤ length g.nodes * (5 * area grid) + length g.edges * (2000 * area grid)
base_few g grid is size few =
    let x = drawing_vars g grid in
    let nodes = words_each (5 * area grid) (λ n. node_clauses (x.node n)) 0 (length g.nodes) (λ k from to. node_few g grid k) in
    let edges = words_each (2000 * area grid) (edge_part g x grid) 0 (length g.edges) (λ e from to. edge_few g grid e is size few (omega arith)) in
    sum_of _ _ _ _ _ (words_append (each (λ n. node_clauses (x.node n)) 0 (length g.nodes)) (each (edge_part g x grid) 0 (length g.edges))) nodes edges
  where
    sum_of : (all one two p q : ℕ) → all ≡ one + two → one ≤ p → two ≤ q → all ≤ p + q
    sum_of all one two p q e h k = omega arith

-- THE FORMULA
total_words : (n m a all base laws : ℕ) → all ≡ base + laws → base ≤ n * (5 * a) + m * (2000 * a) →
    laws ≤ n * (n * (22 * a)) + (n * (66 * a) + (n * (n * (33 * a)) + m * (m * (44 * a)))) → all ≤ 2000 * ((n + m) * a) + 100 * ((n + m) * (n + m) * a)
total_words n m a all base laws e h k = omega arith

pub formula_words : (g : Graph) (above overlap : ℕ → ℕ → Bool) (grid : GridSize) → IsTrackGraph g → IsGrid grid → laws_first g grid ≤ VARS + 1 →
    words_of (formula_clauses g above overlap grid) ≤ most_words g grid
formula_words g above overlap grid is size few =
    let x = drawing_vars g grid in
    let base = base_clauses g x grid in
    let laws = laws_clauses g x grid.width (laws_first g grid) (instances g above overlap) in
    total_words (length g.nodes) (length g.edges) (area grid) (words_of (base ++ laws)) (words_of base) (words_of laws) (words_append base laws)
    (base_few g grid is size few) (laws_few g grid above overlap (laws_first g grid))

-- VARIABLES
listed_size : (g : Graph) (most : ℕ) (f : ℕ → List Instance) → ((k : ℕ) → laws_size g (f k) ≤ most) → (a n : ℕ) → laws_size g (instances_from f a n) ≤ n * most
listed_size g most f h a zero = omega arith
listed_size g most f h a (suc n) =
    let one : suc n * most ≡ n * most + most = omega arith in
    omega (arith, size_append g (f a) (instances_from f (a + 1) n), h a, listed_size g most f h (a + 1) n)

all_pairs_size : (g : Graph) (most n : ℕ) (f : ℕ → ℕ → List Instance) → ((a b : ℕ) → laws_size g (f a b) ≤ most) →
    laws_size g (instance_pairs n f) ≤ n * (n * most)
all_pairs_size g most n f h = listed_size g (n * most) (pairs_from n f) (λ a.
    let here = listed_size g most (f a) (h a) (a + 1) (n - (a + 1)) in
    let fewer : (n - (a + 1)) * most ≤ n * most = mul-le-mul_right most (omega arith) in
    omega arith) 0 n

two_at_most : (o : Ordering) → apart_size o ≤ 2
two_at_most Less = omega arith
two_at_most Equal = omega arith
two_at_most Greater = omega arith

pair_size : (g : Graph) (a b o : Bool) (e f : ℕ) → laws_size g (pair_by a b o e f) ≤ 1
pair_size g true true true e f = omega arith
pair_size g true true false e f = omega arith
pair_size g true false true e f = omega arith
pair_size g true false false e f = omega arith
pair_size g false true true e f = omega arith
pair_size g false true false e f = omega arith
pair_size g false false true e f = omega arith
pair_size g false false false e f = omega arith

laws_size_few : (g : Graph) (above overlap : ℕ → ℕ → Bool) → laws_size g (instances g above overlap) ≤ length g.nodes * (length g.nodes * 0) +
    (length g.nodes * 0 + (length g.nodes * (length g.nodes * 2) + length g.edges * (length g.edges * 1)))
laws_size_few g above overlap =
    let n = length g.nodes in
    let m = length g.edges in
    let ordered = instance_pairs n (λ u v. Ordered u v ∷ []) in
    let aligned = instances_from (λ k. Aligned k ∷ []) 0 n in
    let apart = instance_pairs n (λ u v. Apart u v ∷ []) in
    let edges = instance_pairs m (edge_pair above overlap) in
    added (laws_size g (instances g above overlap)) (laws_size g ordered) (laws_size g (aligned ++ (apart ++ edges))) (laws_size g aligned)
    (laws_size g (apart ++ edges)) (laws_size g apart) (laws_size g edges)
    (n * (n * 0)) (n * 0) (n * (n * 2)) (m * (m * 1))
    (size_append g ordered (aligned ++ (apart ++ edges))) (size_append g aligned (apart ++ edges)) (size_append g apart edges)
    (all_pairs_size g 0 n (λ u v. Ordered u v ∷ []) (λ u v. omega arith))
    (listed_size g 0 (λ k. Aligned k ∷ []) (λ k. omega arith) 0 n)
    (all_pairs_size g 2 n (λ u v. Apart u v ∷ []) (λ u v. omega (arith, two_at_most (int_cmp (mileage g u) (mileage g v)))))
    (all_pairs_size g 1 m (edge_pair above overlap) (λ e f. pair_size g (above e f) (above f e) (overlap e f) e f))

total_variables : (n m a w step size all laws : ℕ) → step ≤ a → size ≤ 100 * a → all ≡ 1 + n * step + m * size + laws - 1 →
    laws ≤ n * (n * 0) + (n * 0 + (n * (n * 2) + m * (m * 1))) → all ≤ 100 * ((n + m) * a) + 10 * ((n + m) * (n + m) * (w + 1))
total_variables n m a w step size all laws h k e l =
    let nodes : n * step ≤ n * a = mul-le-mul_left n h in
    let edges : m * size ≤ m * (100 * a) = mul-le-mul_left m k in
    omega arith

pub formula_variables : (g : Graph) (above overlap : ℕ → ℕ → Bool) (grid : GridSize) → formula_size g above overlap grid ≤ most_variables g grid
formula_variables g above overlap grid =
    total_variables (length g.nodes) (length g.edges) (area grid) grid.width (grid.height + grid.width) (edge_size grid.height grid.width)
    (formula_size g above overlap grid) (laws_size g (instances g above overlap))
    (omega arith) (edge_vars_few grid.height grid.width) refl (laws_size_few g above overlap)
