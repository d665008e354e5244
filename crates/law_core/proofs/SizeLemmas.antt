-- How many words and variables the formula has at most.
use Rattle.std.proofs.Common.{◌≡◌, ℕ, zero, suc, ◌+◌, ◌-◌, ◌*◌, ◌≤◌, Bool, true, false, not, cond, List, [], ◌∷◌, ◌++◌, length, refl, ap, arith}
use Rattle.std.specs.Prelude.{◌||◌}
use Rattle.std.specs.Ordering.{int_cmp}
use Rattle.std.proofs.Math.Nat.{mul-le-mul_left, mul-le-mul_right}
use Rattle.plan_core.specs.Grid.{GridSize, IsGrid}
use Rattle.plan_core.specs.Graph.{Graph, node, mileage, IsTrackGraph}
use Rattle.plan_core.specs.Lawful.{Instance, NodeOnGrid, LineOnGrid, Ordered, Joined, Aligned, Apart, Over, Parted}
use Rattle.cnf_core.specs.declared.limits.TheConstants.{VARS}
use Rattle.cnf_core.specs.declared.literal.LitOrTruth.TheVariants.{False}
use Rattle.cnf_core.specs.Lit.{Literal, negative_of}
use Rattle.cnf_core.specs.Clause.{words_of}
use Rattle.cnf_core.specs.LitOrTruth.{yes, flip}
use Rattle.cnf_core.proofs.ClauseLemmas.{words_append}
use Rattle.edge_shape.specs.EdgeVars.{edge_size}
use Rattle.edge_shape.proofs.WordLemmas.{edge_vars_few}
use Rattle.drawing_cnf.specs.Stands.{slope_vars}
use Rattle.drawing_cnf.specs.LawClauses.{apart_rows_clauses, over_clauses}
use Rattle.drawing_cnf.specs.Expected.{drawing_vars, laws_first, base_clauses, instances_from, pairs_from, instance_pairs, edge_pair, instances, area}
use Rattle.drawing_cnf.specs.Expected.{most_words, most_variables}
use Rattle.drawing_cnf.proofs.LawWords.{ordered_words, rows_words}
use Rattle.drawing_cnf.proofs.FormulaWords.{ports_words, over_few, base_few, added}
use Rattle.law_core.specs.Choices.{law_clauses, choice_size, choice_clauses, choices_size, choices_clauses, why_clauses, why_size}

abbrev total : (Instance → ℕ) → List Instance → ℕ
total s [] = 0
total s (i ∷ rest) = s i + total s rest

-- ---- one law to choose: at most so many words, where the grid has a points

abbrev pub choice_most : ℕ → Instance → ℕ
choice_most a (Ordered u v) = 27 * a
choice_most a (Aligned n) = 71 * a
choice_most a (Apart u v) = 49 * a
choice_most a (Over e f) = 16 * a
choice_most a (Parted e f) = 27 * a
choice_most a other = 5 * a

law_few : (g : Graph) (grid : GridSize) (i : Instance) (first : ℕ) (s : Literal) →
    words_of (law_clauses g (drawing_vars g grid) grid.width i first (s ∷ [])) + 5 ≤ choice_most (area grid) i
law_few g grid (NodeOnGrid n) first s = omega arith
law_few g grid (LineOnGrid e) first s = omega arith
law_few g grid (Joined e) first s = omega arith
law_few g grid (Ordered u v) first s =
    let x = drawing_vars g grid in
    let all = ordered_words (int_cmp (mileage g u) (mileage g v)) (x.node u).x (x.node v).x (s ∷ []) grid.width (omega arith) (omega arith) (omega arith) in
    omega arith
law_few g grid (Aligned n) first s =
    let x = drawing_vars g grid in
    omega (arith, ports_words (s ∷ []) (slope_vars g x n) (node g n).ports (omega arith))
law_few g grid (Apart u v) first s =
    let x = drawing_vars g grid in
    let columns = rows_words (first + 1) (yes first) (x.node u).x (x.node v).x (s ∷ []) grid.width (omega arith) (omega arith) (omega arith) in
    let rows = rows_words (first + 1) (flip (yes first)) (x.node u).y (x.node v).y (s ∷ []) grid.height (omega arith) (omega arith) (omega arith) in
    let both = words_append (apart_rows_clauses (first + 1) (yes first) (x.node u).x (x.node v).x (s ∷ []))
    (apart_rows_clauses (first + 1) (flip (yes first)) (x.node u).y (x.node v).y (s ∷ [])) in
    omega arith
law_few g grid (Over e f) first s = let few = over_few g grid e f False (s ∷ []) (omega arith) in omega arith
law_few g grid (Parted e f) first s =
    let x = drawing_vars g grid in
    let one = over_few g grid e f (flip (yes first)) (s ∷ []) (omega arith) in
    let two = over_few g grid f e (yes first) (s ∷ []) (omega arith) in
    let both = words_append (over_clauses g x grid.width e f (flip (yes first)) (s ∷ [])) (over_clauses g x grid.width f e (yes first) (s ∷ [])) in
    omega arith

choices_words : (g : Graph) (grid : GridSize) (first : ℕ) (laws : List Instance) →
    words_of (choices_clauses g (drawing_vars g grid) grid.width first laws) ≤ total (choice_most (area grid)) laws
choices_words g grid first [] = omega arith
choices_words g grid first (i ∷ rest) =
    let x = drawing_vars g grid in
    let here : words_of (choice_clauses g x grid.width i first) ≡ 5 + words_of (law_clauses g x grid.width i (first + 2) (negative_of first ∷ [])) = omega
    arith in
    let both = words_append (choice_clauses g x grid.width i first) (choices_clauses g x grid.width (first + choice_size i) rest) in
    let one = law_few g grid i (first + 2) (negative_of first) in
    let more = choices_words g grid (first + choice_size i) rest in
    omega arith

choices_sum : (laws : List Instance) → choices_size laws ≡ total choice_size laws
choices_sum [] = refl
choices_sum (i ∷ rest) = ap (λ k. choice_size i + k) (choices_sum rest)

-- ---- all laws of a graph

sum_append : (s : Instance → ℕ) (xs ys : List Instance) → total s (xs ++ ys) ≡ total s xs + total s ys
sum_append s [] ys = omega arith
sum_append s (i ∷ xs) ys = omega (arith, sum_append s xs ys)

listed_sum : (s : Instance → ℕ) (most : ℕ) (f : ℕ → List Instance) → ((k : ℕ) → total s (f k) ≤ most) → (a n : ℕ) → total s (instances_from f a n) ≤ n * most
listed_sum s most f h a zero = omega arith
listed_sum s most f h a (suc n) =
    let one : suc n * most ≡ n * most + most = omega arith in
    omega (arith, sum_append s (f a) (instances_from f (a + 1) n), h a, listed_sum s most f h (a + 1) n)

pairs_sum : (s : Instance → ℕ) (most n : ℕ) (f : ℕ → ℕ → List Instance) → ((a b : ℕ) → total s (f a b) ≤ most) → total s (instance_pairs n f) ≤ n * (n * most)
pairs_sum s most n f h = listed_sum s (n * most) (pairs_from n f) (λ a.
    let here = listed_sum s most (f a) (h a) (a + 1) (n - (a + 1)) in
    let fewer : (n - (a + 1)) * most ≤ n * most = mul-le-mul_right most (omega arith) in
    omega arith) 0 n

all_sum : (s : Instance → ℕ) (g : Graph) (above overlap : ℕ → ℕ → Bool) (p q r t : ℕ) → ((u v : ℕ) → total s (Ordered u v ∷ []) ≤ p) →
    ((n : ℕ) → total s (Aligned n ∷ []) ≤ q) → ((u v : ℕ) → total s (Apart u v ∷ []) ≤ r) → ((e f : ℕ) → total s (edge_pair above overlap e f) ≤ t) →
    total s (instances g above overlap) ≤ length g.nodes * (length g.nodes * p) +
    (length g.nodes * q + (length g.nodes * (length g.nodes * r) + length g.edges * (length g.edges * t)))
all_sum s g above overlap p q r t ho hl ha he =
    let n = length g.nodes in
    let m = length g.edges in
    let ordered = instance_pairs n (λ u v. Ordered u v ∷ []) in
    let aligned = instances_from (λ k. Aligned k ∷ []) 0 n in
    let apart = instance_pairs n (λ u v. Apart u v ∷ []) in
    let edges = instance_pairs m (edge_pair above overlap) in
    added (total s (instances g above overlap)) (total s ordered) (total s (aligned ++ (apart ++ edges))) (total s aligned) (total s (apart ++ edges))
    (total s apart) (total s edges)
    (n * (n * p)) (n * q) (n * (n * r)) (m * (m * t))
    (sum_append s ordered (aligned ++ (apart ++ edges))) (sum_append s aligned (apart ++ edges)) (sum_append s apart edges)
    (pairs_sum s p n (λ u v. Ordered u v ∷ []) ho) (listed_sum s q (λ k. Aligned k ∷ []) hl 0 n) (pairs_sum s r n (λ u v. Apart u v ∷ []) ha)
    (pairs_sum s t m (edge_pair above overlap) he)

pair_words : (k : ℕ) (a b o : Bool) (e f : ℕ) → total (choice_most k) (cond a (Over e f ∷ []) []
    ++ (cond b (Over f e ∷ []) [] ++ cond (a || (b || not o)) [] (Parted e f ∷ []))) ≤ 32 * k
pair_words k true true o e f = omega arith
pair_words k true false o e f = omega arith
pair_words k false true o e f = omega arith
pair_words k false false true e f = omega arith
pair_words k false false false e f = omega arith

pair_size : (a b o : Bool) (e f : ℕ) → total choice_size (cond a (Over e f ∷ []) []
    ++ (cond b (Over f e ∷ []) [] ++ cond (a || (b || not o)) [] (Parted e f ∷ []))) ≤ 4
pair_size true true o e f = omega arith
pair_size true false o e f = omega arith
pair_size false true o e f = omega arith
pair_size false false true e f = omega arith
pair_size false false false e f = omega arith

total_words : (n m a all base laws : ℕ) → all ≡ base + laws → base ≤ n * (5 * a) + m * (2000 * a) →
    laws ≤ n * (n * (27 * a)) + (n * (71 * a) + (n * (n * (49 * a)) + m * (m * (32 * a)))) → all ≤ 2000 * ((n + m) * a) + 100 * ((n + m) * (n + m) * a)
total_words n m a all base laws e h k = omega arith

pub why_words : (g : Graph) (above overlap : ℕ → ℕ → Bool) (grid : GridSize) → IsTrackGraph g → IsGrid grid → laws_first g grid ≤ VARS + 1 →
    words_of (why_clauses g above overlap grid) ≤ most_words g grid
why_words g above overlap grid is size few =
    let x = drawing_vars g grid in
    let base = base_clauses g x grid in
    let laws = choices_clauses g x grid.width (laws_first g grid) (instances g above overlap) in
    let a = area grid in
    let sum = choices_words g grid (laws_first g grid) (instances g above overlap) in
    let most = all_sum (choice_most a) g above overlap (27 * a) (71 * a) (49 * a) (32 * a) (λ u v. omega arith) (λ k. omega arith) (λ u v. omega arith)
    (λ e f. pair_words a (above e f) (above f e) (overlap e f) e f) in
    total_words (length g.nodes) (length g.edges) a (words_of (base ++ laws)) (words_of base) (words_of laws) (words_append base laws)
    (base_few g grid is size few) (omega (arith, sum, most))

squared : (n : ℕ) → n ≤ n * n
squared zero = omega arith
squared (suc k) = let h : suc k * 1 ≤ suc k * suc k = mul-le-mul_left (suc k) (omega arith) in omega arith

total_variables : (n m a w step size all laws : ℕ) → step ≤ a → size ≤ 100 * a → all ≡ 1 + n * step + m * size + laws - 1 →
    laws ≤ n * (n * 2) + (n * 2 + (n * (n * 4) + m * (m * 4))) → all ≤ 100 * ((n + m) * a) + 10 * ((n + m) * (n + m) * (w + 1))
total_variables n m a w step size all laws h k e l =
    let square = squared n in
    let nodes : n * step ≤ n * a = mul-le-mul_left n h in
    let edges : m * size ≤ m * (100 * a) = mul-le-mul_left m k in
    omega arith

pub why_variables : (g : Graph) (above overlap : ℕ → ℕ → Bool) (grid : GridSize) → why_size g above overlap grid ≤ most_variables g grid
why_variables g above overlap grid =
    let sum = choices_sum (instances g above overlap) in
    let most = all_sum choice_size g above overlap 2 2 4 4 (λ u v. omega arith) (λ k. omega arith) (λ u v. omega arith)
    (λ e f. pair_size (above e f) (above f e) (overlap e f) e f) in
    total_variables (length g.nodes) (length g.edges) (area grid) grid.width (grid.height + grid.width) (edge_size grid.height grid.width)
    (why_size g above overlap grid) (choices_size (instances g above overlap))
    (omega arith) (edge_vars_few grid.height grid.width) refl (omega (arith, sum, most))
