-- How many words and variables a criterion's bound has at most.
use Rattle.std.proofs.Common.{◌≡◌, ℕ, zero, suc, ◌+◌, ◌-◌, ◌*◌, ◌≤◌, Bool, true, false, List, [], ◌∷◌, ◌++◌, length, refl, subst, arith, length-append}
use Rattle.std.proofs.Common.{length-take}
use Rattle.std.specs.Prelude.{nat_le, cond}
use Rattle.std.proofs.Math.Nat.{mul-le-mul_left, mul-le-mul_right}
use Rattle.plan_core.specs.declared.criterion.Criterion.{Criterion}
use Rattle.plan_core.specs.declared.criterion.Criterion.TheVariants.{Height, Bends, Diagonal, Width}
use Rattle.plan_core.specs.Grid.{GridSize}
use Rattle.plan_core.specs.Graph.{Graph, edge}
use Rattle.cnf_core.specs.declared.literal.LitOrTruth.{LitOrTruth}
use Rattle.cnf_core.specs.Clause.{words_of}
use Rattle.cnf_core.specs.LitOrTruth.{yes, flip, clause_of}
use Rattle.cnf_core.specs.Formula.{each}
use Rattle.cnf_core.proofs.ClauseLemmas.{words_append, words_each}
use Rattle.cnf_core.proofs.GatherLemmas.{clause_words}
use Rattle.order_int.specs.IntVars.{IntVars}
use Rattle.order_int.specs.OrderInt.{int_at_least}
use Rattle.unary_sum.specs.Part.{part_outputs}
use Rattle.unary_sum.specs.Sum.{SumVars, sum_count, sum_clauses, sum_outputs, sum_at_least, sum_tree, tree_top}
use Rattle.unary_sum.proofs.SizeLemmas.{size_bound, sum_words, sum_count as count_few}
use Rattle.unary_sum.proofs.SumLemmas.{part_size-top}
use Rattle.unary_sum.proofs.OutputLemmas.{length-outputs}
use Rattle.edge_shape.specs.EdgeVars.{EdgeLits}
use Rattle.cnf_laws.specs.Stands.{DrawingVars}
use Rattle.cnf_laws.specs.Expected.{parts}
use Rattle.drawing_cnf.specs.Bounds.{same_as, sum_bound, west_first, bend_lits, bends_sum, column_heights, all_heights, some_height_clause, gives_bound}
use Rattle.drawing_cnf.specs.Bounds.{height_gives, beside_clause, height_beside, edge_height_gives, height_at, height_bound, node_columns, some_column_clause}
use Rattle.drawing_cnf.specs.Bounds.{column_gives, width_at, width_bound, step_lits, steps_sum, gives_output, slope_outputs, end_outputs, steps_beside}
use Rattle.drawing_cnf.specs.Bounds.{edge_steps, edges_steps, edges_outputs, edges_count, edge_most, diagonal_sum, bound_clauses, bound_size}
use Rattle.drawing_cnf.proofs.BoundLemmas.{bound_outputs, edges_length}

-- SUMS
same_words : (b : ℕ) (t : LitOrTruth) → words_of (same_as b t) ≤ 10
same_words b t =
    let one = clause_of [] (flip (yes b) ∷ t ∷ []) in
    let two = clause_of [] (flip t ∷ yes b ∷ []) in
    omega (arith, words_append one two, clause_words [] (flip (yes b) ∷ t ∷ []), clause_words [] (flip t ∷ yes b ∷ []))

pub sum_bound_words : (s : SumVars) (last : ℕ) → words_of (sum_bound s last) ≤ 100 * (length s.inputs + 1) * (s.most + 2) + s.most * 10
sum_bound_words s last =
    omega (
      arith,
      words_append (sum_clauses s) (each (bound_outputs s last) 1 s.most),
      sum_words s.most s.vars s.inputs,
      words_each 10 (bound_outputs s last) 1 s.most (λ k from to. same_words (last + k) (sum_at_least s k)),
    )

pub bends_inputs_length : (x : DrawingVars) (es : List ℕ) → length (bend_lits x es) ≡ 2 * length es
bends_inputs_length x [] = refl
bends_inputs_length x (e ∷ es) = omega (arith, bends_inputs_length x es)

-- AN EDGE'S SUM, AND THOSE OF ALL EDGES
pub steps_inputs_length : (e : EdgeLits) (c n : ℕ) → length (step_lits e c n) ≡ 2 * n
steps_inputs_length e c zero = refl
steps_inputs_length e c (suc n) = omega (arith, steps_inputs_length e (c + 1) n)

gives_words : (s : SumVars) (ts : List LitOrTruth) (k : ℕ) → words_of (gives_output s ts k) ≤ length ts + 4
gives_words s ts k = cases (nat_le k s.most)
  where
    cases : (b : Bool) → words_of (cond b (clause_of [] (ts ++ sum_at_least s k ∷ [])) []) ≤ length ts + 4
    cases true = omega (arith, clause_words [] (ts ++ sum_at_least s k ∷ []), length-append ts (sum_at_least s k ∷ []))
    cases false = omega arith

slope_words : (s : SumVars) (rises falls : ℕ) → words_of (slope_outputs s rises falls) ≤ 10
slope_words s rises falls =
    omega (
      arith,
      words_append (gives_output s (flip (yes rises) ∷ []) 1) (gives_output s (flip (yes falls) ∷ []) 1),
      gives_words s (flip (yes rises) ∷ []) 1,
      gives_words s (flip (yes falls) ∷ []) 1,
    )

beside_words : (e : EdgeLits) (s : SumVars) → words_of (steps_beside e s) ≤ 26
beside_words e s =
    omega (
      arith,
      words_append (end_outputs e s) (gives_output s (flip (yes e.first_bend) ∷ flip (yes e.second_bend) ∷ []) 2),
      words_append (slope_outputs s e.west_up e.west_down) (slope_outputs s e.east_up e.east_down),
      slope_words s e.west_up e.west_down,
      slope_words s e.east_up e.east_down,
      gives_words s (flip (yes e.first_bend) ∷ flip (yes e.second_bend) ∷ []) 2,
    )

-- what an edge's sum has at most, by the columns and the cap
abbrev edge_limit : ℕ → ℕ → ℕ → ℕ
edge_limit times width cap = times * (2 * width + 1) * (cap + 2)

within_cap : (times width most cap : ℕ) → most ≤ cap → edge_limit times width most ≤ edge_limit times width cap
within_cap times width most cap le = mul-le-mul_left (times * (2 * width + 1)) (omega arith)

edge_words : (e : EdgeLits) (width most vars cap : ℕ) → most ≤ cap → words_of (edge_steps e (steps_sum e width most vars)) ≤ edge_limit 100 width cap + 26
edge_words e width most vars cap le =
    let s = steps_sum e width most vars in
    let own : words_of (sum_clauses s) ≤ edge_limit 100 width most = subst (λ n. words_of (sum_clauses s) ≤ 100 * (n + 1) * (most + 2))
    (steps_inputs_length e 0 width) (sum_words most vars s.inputs) in
    omega (arith, words_append (sum_clauses s) (steps_beside e s), own, within_cap 100 width most cap le, beside_words e s)

steps_words : (x : DrawingVars) (width most vars cap : ℕ) (es : List ℕ) → most ≤ cap →
    words_of (edges_steps x width most vars es) ≤ length es * (edge_limit 100 width cap + 26)
steps_words x width most vars cap [] le = omega arith
steps_words x width most vars cap (e ∷ es) le =
    let s = steps_sum (x.edge e) width most vars in
    let next = vars + sum_count s in
    let one : suc (length es) * (edge_limit 100 width cap + 26) ≡ edge_limit 100 width cap + 26 + length es * (edge_limit 100 width cap + 26) = omega arith in
    omega (
      arith,
      one,
      words_append (edge_steps (x.edge e) s) (edges_steps x width most next es),
      edge_words (x.edge e) width most vars cap le,
      steps_words x
          width most next cap es le,
    )

steps_count : (x : DrawingVars) (width most vars cap : ℕ) (es : List ℕ) → most ≤ cap → edges_count x width most vars es ≤ length es * edge_limit 10 width cap
steps_count x width most vars cap [] le = omega arith
steps_count x width most vars cap (e ∷ es) le =
    let s = steps_sum (x.edge e) width most vars in
    let own : sum_count s ≤ edge_limit 10 width most = subst (λ n. sum_count s ≤ 10 * (n + 1) * (most + 2)) (steps_inputs_length (x.edge e) 0 width)
    (count_few most s.inputs) in
    let one : suc (length es) * edge_limit 10 width cap ≡ edge_limit 10 width cap + length es * edge_limit 10 width cap = omega arith in
    omega (arith, one, own, within_cap 10 width most cap le, steps_count x width most (vars + sum_count s) cap es le)

-- no more outputs than inputs
outputs_length : (s : SumVars) → length (sum_outputs s) ≤ length s.inputs
outputs_length s =
    let top = tree_top s.most s.vars (sum_tree s) in
    omega (
      arith,
      length-take s.most (part_outputs top),
      length-outputs top,
      part_size-top s.most s.vars (sum_tree s),
      size_bound s.most (length s.inputs)
          s.inputs (omega arith),
    )

all_outputs_length : (x : DrawingVars) (width most vars : ℕ) (es : List ℕ) → length (edges_outputs x width most vars es) ≤ length es * (2 * width)
all_outputs_length x width most vars [] = omega arith
all_outputs_length x width most vars (e ∷ es) =
    let s = steps_sum (x.edge e) width most vars in
    let next = vars + sum_count s in
    let one : suc (length es) * (2 * width) ≡ 2 * width + length es * (2 * width) = omega arith in
    omega (
      arith,
      one,
      length-append (sum_outputs s) (edges_outputs x width most next es),
      outputs_length s,
      steps_inputs_length (x.edge e) 0 width,
      all_outputs_length x width most next es,
    )

-- PRODUCTS: m and n in p, and p at least 1
-- of the parts, the columns and the cap
abbrev whole_limit : ℕ → ℕ → ℕ → ℕ → ℕ
whole_limit times p width cap = times * (p * (width + 1) * (cap + 2))

record AreFactors (m p width cap : ℕ) : Type 0 where
  all : m * width * cap ≤ p * width * cap
  columns : m * width ≤ p * width
  caps : m * cap ≤ p * cap
  one : cap ≤ p * cap

factors : (m p width cap : ℕ) → m ≤ p → 1 ≤ p → AreFactors m p width cap
factors m p width cap le some =
    let columns : m * width ≤ p * width = mul-le-mul_right width le in
    record {
      all = mul-le-mul_right cap columns;
      columns = columns;
      caps = mul-le-mul_right cap le;
      one = let most : 1 * cap ≤ p * cap = mul-le-mul_right cap some in omega arith;
    }

-- EACH CRITERION
gives_one_words : (i : IntVars) (b k : ℕ) → words_of (gives_bound i b k) ≤ 5
gives_one_words i b k = clause_words [] (flip (int_at_least i k) ∷ yes b ∷ [])

heights_length : (x : DrawingVars) (k e c n : ℕ) → length (column_heights x k e c n) ≡ n
heights_length x k e c zero = refl
heights_length x k e c (suc n) = omega (arith, heights_length x k e (c + 1) n)

all_heights_length : (x : DrawingVars) (width k e n : ℕ) → length (all_heights x width k e n) ≡ n * (width + 1)
all_heights_length x width k e zero = omega arith
all_heights_length x width k e (suc n) =
    let one : suc n * (width + 1) ≡ n * (width + 1) + (width + 1) = omega arith in
    omega (
      arith,
      one,
      length-append (column_heights x k e 0 (width + 1)) (all_heights x width k (e + 1) n),
      heights_length x k e 0 (width + 1),
      all_heights_length x width k (e + 1) n,
    )

edge_gives_words : (g : Graph) (x : DrawingVars) (width b k e : ℕ) → words_of (edge_height_gives g x width b k e) ≤ (width + 1) * 5 + 12
edge_gives_words g x width b k e =
    let west = beside_clause (yes (x.edge e).west_up) (x.node (edge g e).west).y b k in
    let east = beside_clause (yes (x.edge e).east_down) (x.node (edge g e).east).y b k in
    omega (
      arith,
      words_append (each (height_gives x b k e) 0 (width + 1)) (height_beside g x b k e),
      words_append west east,
      words_each 5 (height_gives x b k e) 0 (width + 1) (λ c from to. gives_one_words ((x.edge e).height c) b k),
      clause_words [] (flip (yes (x.edge e).west_up) ∷ flip (int_at_least (x.node (edge g e).west).y (k - 1)) ∷ yes b ∷ []),
      clause_words [] (flip (yes (x.edge e).east_down) ∷ flip (int_at_least (x.node (edge g e).east).y (k - 1)) ∷ yes b ∷ []),
    )

height_at_words : (g : Graph) (x : DrawingVars) (width b k : ℕ) → words_of (height_at g x width b k) ≤ length g.edges * (6 * (width + 1) + 12) + 4
height_at_words g x width b k =
    let m = length g.edges in
    let long = all_heights x width k 0 m ++ flip (yes b) ∷ [] in
    omega (
      arith,
      words_append (each (edge_height_gives g x width b k) 0 m) (some_height_clause x width m b k),
      words_each ((width + 1) * 5 + 12) (edge_height_gives g x width b k) 0 m (λ e from to. edge_gives_words g x width b k e),
      clause_words [] long,
      length-append (all_heights x width k 0 m) (flip (yes b) ∷ []),
      all_heights_length x width k 0 m,
    )

pub columns_length : (x : DrawingVars) (k n rest : ℕ) → length (node_columns x k n rest) ≡ rest
columns_length x k n zero = refl
columns_length x k n (suc rest) = omega (arith, columns_length x k (n + 1) rest)

width_at_words : (g : Graph) (x : DrawingVars) (b k : ℕ) → words_of (width_at g x b k) ≤ length g.nodes * 6 + 4
width_at_words g x b k =
    let n = length g.nodes in
    let long = node_columns x k 0 n ++ flip (yes b) ∷ [] in
    omega (
      arith,
      words_append (each (column_gives x b k) 0 n) (some_column_clause x n b k),
      words_each 5 (column_gives x b k) 0 n (λ i from to. gives_one_words (x.node i).x b k),
      clause_words [] long,
      length-append (node_columns x k 0 n) (flip (yes b) ∷ []),
      columns_length x k 0 n,
    )

height_words : (g : Graph) (x : DrawingVars) (width last cap : ℕ) → 1 ≤ parts g →
    words_of (height_bound g x width last cap) ≤ whole_limit 400 (parts g) width cap
height_words g x width last cap some =
    let m = length g.edges in
    let f = factors m (parts g) width cap (omega arith) some in
    let all = f.all in
    let columns = f.columns in
    let caps = f.caps in
    let one = f.one in
    omega (
      arith,
      all,
      columns,
      caps,
      one,
      words_each (m * (6 * (width + 1) + 12) + 4) (λ k. height_at g x width (last + k) k) 1 cap
          (λ k from to. height_at_words g x width (last + k) k),
    )

width_words : (g : Graph) (x : DrawingVars) (width last cap : ℕ) → 1 ≤ parts g → words_of (width_bound g x last cap) ≤ whole_limit 400 (parts g) width cap
width_words g x width last cap some =
    let n = length g.nodes in
    let f = factors n (parts g) width cap (omega arith) some in
    let all = f.all in
    let columns = f.columns in
    let caps = f.caps in
    let one = f.one in
    omega (arith, all, columns, caps, one, words_each (n * 6 + 4) (λ k. width_at g x (last + k) k) 1 cap (λ k from to. width_at_words g x (last + k) k))

bends_words : (g : Graph) (x : DrawingVars) (width last cap : ℕ) → 1 ≤ parts g →
    words_of (sum_bound (bends_sum x (west_first g) last cap) last) ≤ whole_limit 400 (parts g) width cap
bends_words g x width last cap some =
    let m = length g.edges in
    let s = bends_sum x (west_first g) last cap in
    let f = factors m (parts g) width cap (omega arith) some in
    let all = f.all in
    let columns = f.columns in
    let caps = f.caps in
    let one = f.one in
    let inputs : length s.inputs ≡ 2 * m = omega (arith, bends_inputs_length x (west_first g), edges_length g) in
    let own : words_of (sum_bound s last) ≤ 100 * (2 * m + 1) * (cap + 2) + cap * 10 = subst
    (λ n. words_of (sum_bound s last) ≤ 100 * (n + 1) * (cap + 2) + cap * 10) inputs (sum_bound_words s last) in
    omega (arith, all, columns, caps, one, own)

-- a sum of at most n inputs
top_limit : (times k n cap : ℕ) → k ≤ n → times * (k + 1) * (cap + 2) ≤ times * (n + 1) * (cap + 2)
top_limit times k n cap le =
    let one : times * (k + 1) ≤ times * (n + 1) = mul-le-mul_left times (omega arith) in
    mul-le-mul_right (cap + 2) one

diagonal_words : (g : Graph) (x : DrawingVars) (grid : GridSize) (last cap : ℕ) → 1 ≤ parts g →
    words_of (bound_clauses g x grid last cap Diagonal) ≤ whole_limit 400 (parts g) grid.width cap
diagonal_words g x grid last cap some =
    let m = length g.edges in
    let es = west_first g in
    let most = edge_most grid cap in
    let s = diagonal_sum x grid es last cap in
    let steps = edges_steps x grid.width most (last + cap) es in
    let f = factors m (parts g) grid.width cap (omega arith) some in
    let all = f.all in
    let columns = f.columns in
    let caps = f.caps in
    let one = f.one in
    let inputs : length s.inputs ≤ m * (2 * grid.width) = subst (λ n. length s.inputs ≤ n * (2 * grid.width)) (edges_length g)
    (all_outputs_length x grid.width most (last + cap) es) in
    let edges : words_of steps ≤ m * (edge_limit 100 grid.width cap + 26) = subst (λ n. words_of steps ≤ n * (edge_limit 100 grid.width cap + 26))
    (edges_length g) (steps_words x grid.width most (last + cap) cap es (omega arith)) in
    let top = top_limit 100 (length s.inputs) (m * (2 * grid.width)) cap inputs in
    let own = sum_bound_words s last in
    omega (arith, all, columns, caps, one, words_append steps (sum_bound s last), edges, top, own)

pub bound_words : (g : Graph) (x : DrawingVars) (grid : GridSize) (last cap : ℕ) (c : Criterion) → 1 ≤ parts g →
    words_of (bound_clauses g x grid last cap c) ≤ 400 * (parts g * (grid.width + 1) * (cap + 2))
bound_words g x grid last cap Height some = height_words g x grid.width last cap some
bound_words g x grid last cap Bends some = bends_words g x grid.width last cap some
bound_words g x grid last cap Diagonal some = diagonal_words g x grid last cap some
bound_words g x grid last cap Width some = width_words g x grid.width last cap some

-- VARIABLES
bends_count : (g : Graph) (x : DrawingVars) (width last cap : ℕ) → 1 ≤ parts g →
    cap + sum_count (bends_sum x (west_first g) last cap) ≤ whole_limit 40 (parts g) width cap
bends_count g x width last cap some =
    let m = length g.edges in
    let s = bends_sum x (west_first g) last cap in
    let f = factors m (parts g) width cap (omega arith) some in
    let all = f.all in
    let columns = f.columns in
    let caps = f.caps in
    let one = f.one in
    let inputs : length s.inputs ≡ 2 * m = omega (arith, bends_inputs_length x (west_first g), edges_length g) in
    let own : sum_count s ≤ 10 * (2 * m + 1) * (cap + 2) = subst (λ n. sum_count s ≤ 10 * (n + 1) * (cap + 2)) inputs (count_few cap s.inputs) in
    omega (arith, all, columns, caps, one, own)

diagonal_count : (g : Graph) (x : DrawingVars) (grid : GridSize) (last cap : ℕ) → 1 ≤ parts g →
    bound_size g x grid last cap Diagonal ≤ whole_limit 40 (parts g) grid.width cap
diagonal_count g x grid last cap some =
    let m = length g.edges in
    let es = west_first g in
    let most = edge_most grid cap in
    let s = diagonal_sum x grid es last cap in
    let count = edges_count x grid.width most (last + cap) es in
    let f = factors m (parts g) grid.width cap (omega arith) some in
    let all = f.all in
    let columns = f.columns in
    let caps = f.caps in
    let one = f.one in
    let inputs : length s.inputs ≤ m * (2 * grid.width) = subst (λ n. length s.inputs ≤ n * (2 * grid.width)) (edges_length g)
    (all_outputs_length x grid.width most (last + cap) es) in
    let edges : count ≤ m * edge_limit 10 grid.width cap = subst (λ n. count ≤ n * edge_limit 10 grid.width cap) (edges_length g)
    (steps_count x grid.width most (last + cap) cap es (omega arith)) in
    let top = top_limit 10 (length s.inputs) (m * (2 * grid.width)) cap inputs in
    let own = count_few cap s.inputs in
    omega (arith, all, columns, caps, one, edges, top, own)

pub bound_variables : (g : Graph) (x : DrawingVars) (grid : GridSize) (last cap : ℕ) (c : Criterion) → 1 ≤ parts g →
    bound_size g x grid last cap c ≤ 40 * (parts g * (grid.width + 1) * (cap + 2))
bound_variables g x grid last cap Height some = let f = factors (length g.edges) (parts g) grid.width cap (omega arith) some in let one = f.one in omega
    (arith, one)
bound_variables g x grid last cap Bends some = bends_count g x grid.width last cap some
bound_variables g x grid last cap Diagonal some = diagonal_count g x grid last cap some
bound_variables g x grid last cap Width some = let f = factors (length g.edges) (parts g) grid.width cap (omega arith) some in let one = f.one in omega
    (arith, one)
