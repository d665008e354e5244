-- Each variable of a bound stands in one of the bound's clauses.
use Rattle.std.proofs.Common.{◌≡◌, ◌≢◌, ◌⊎◌, ℕ, zero, suc, ◌+◌, ◌-◌, ◌≤◌, ◌<◌, Bool, true, false, List, [], ◌∷◌, ◌++◌, length, take, drop, inl, inr, refl, sym}
use Rattle.std.proofs.Common.{◌∙◌, ap, subst, arith}
use Rattle.std.specs.Prelude.{⊤, Contains, nat_le, nat_lt, min, cond, All, ◌/◌}
use Rattle.std.proofs.lemmas.Bool.Decides.{nat_tests}
use Rattle.std.proofs.lemmas.List.Elements.{All-head, All-tail, Contains-append_left, Contains-append_right}
use Rattle.plan_core.specs.declared.criterion.Criterion.{Criterion}
use Rattle.plan_core.specs.declared.criterion.Criterion.TheVariants.{Height, Bends, Diagonal, Width}
use Rattle.plan_core.specs.Grid.{GridSize, IsGrid}
use Rattle.plan_core.specs.Graph.{Graph}
use Rattle.plan_core.specs.Values.{limit_of}
use Rattle.plan_core.proofs.Listing.{Contains-head, Contains-tail}
use Rattle.cnf_core.specs.declared.limits.TheConstants.{VARS}
use Rattle.cnf_core.specs.declared.literal.LitOrTruth.{LitOrTruth}
use Rattle.cnf_core.specs.declared.literal.LitOrTruth.TheVariants.{Lit as OfLit, True, False}
use Rattle.cnf_core.specs.Lit.{Literal, positive_of, negative_of}
use Rattle.cnf_core.specs.Clause.{Clauses, Avoids, AreThere, IsNamed}
use Rattle.cnf_core.specs.LitOrTruth.{yes, flip, clause_of}
use Rattle.cnf_core.specs.Formula.{each}
use Rattle.cnf_core.proofs.GatherLemmas.{clause_of_literals}
use Rattle.order_int.specs.IntVars.{IntVars, size}
use Rattle.order_int.specs.OrderInt.{int_at_least}
use Rattle.unary_sum.specs.declared.joins.Part.TheVariants.{Outputs}
use Rattle.unary_sum.specs.Part.{part_at_least, block, part_outputs}
use Rattle.unary_sum.specs.Sum.{SumVars, sum_count, sum_clauses, sum_outputs, sum_at_least, sum_tree, tree_top, tree_of, tree_count, tree_size}
use Rattle.cnf_laws.specs.Stands.{DrawingVars}
use Rattle.cnf_laws.specs.Expected.{drawing_vars, laws_first}
use Rattle.drawing_cnf.specs.Bounds.{same_as, sum_bound, west_first, bends_sum, some_height_clause, edge_height_gives, height_at, height_lits, gives_bound}
use Rattle.drawing_cnf.specs.Bounds.{some_column_clause, column_gives, width_at, step_lits, steps_sum, edges_steps, edges_outputs, edge_most, diagonal_sum}
use Rattle.drawing_cnf.specs.Bounds.{bound_clauses}
use Rattle.drawing_cnf.proofs.BoundLemmas.{bound_outputs, all_edges}
use Rattle.cnf_laws.proofs.BaseLemmas.{base_last, base_vars}
use Rattle.cnf_laws.proofs.ThereLemmas.{AreVars}
use Rattle.drawing_cnf.proofs.BendsBound.{bends_lits_there}
use Rattle.drawing_cnf.proofs.DiagonalBound.{steps_there}
use Rattle.drawing_cnf.proofs.ListCode.{long_is}

-- A CLAUSE AMONG OTHERS
pub in_front : (xs ys : Clauses) (x : ℕ) → IsNamed xs x → IsNamed (xs ++ ys) x
in_front xs ys x h = record { clause = h.clause; among = Contains-append_left xs ys h.clause h.among; lit = h.lit; inside = h.inside; var = h.var }

pub behind : (xs ys : Clauses) (x : ℕ) → IsNamed ys x → IsNamed (xs ++ ys) x
behind xs ys x h = record { clause = h.clause; among = Contains-append_right xs ys h.clause h.among; lit = h.lit; inside = h.inside; var = h.var }

pub among_each : (f : ℕ → Clauses) (first n k : ℕ) (c : List Literal) → first ≤ k → k < first + n → Contains (f k) c → Contains (each f first n) c
among_each f first zero k c from to h = absurd (omega arith)
among_each f first (suc n) k c from to h = elim (nat_cases first k) [
  | inl same ↦ Contains-append_left (f first) (each f (first + 1) n) c (subst (λ (j : ℕ). Contains (f j) c) (sym same) h)
  | inr other ↦ Contains-append_right (f first) (each f (first + 1) n) c (among_each f (first + 1) n k c (omega arith) (omega arith) h)
]
  where
    nat_cases : (i j : ℕ) → (i ≡ j) ⊎ (i ≢ j)
    nat_cases zero zero = inl refl
    nat_cases zero (suc j) = inr (λ e. cc)
    nat_cases (suc i) zero = inr (λ e. cc)
    nat_cases (suc i) (suc j) = elim (nat_cases i j) [ inl e ↦ inl (ap suc e) | inr n ↦ inr (λ e. n (omega arith)) ]

named_each : (f : ℕ → Clauses) (first n k x : ℕ) → first ≤ k → k < first + n → IsNamed (f k) x → IsNamed (each f first n) x
named_each f first n k x from to h = record {
  clause = h.clause;
  among = among_each f first n k h.clause from to h.among;
  lit = h.lit;
  inside = h.inside;
  var = h.var;
}

first_of_two : (k l : Literal) → IsNamed ((k ∷ l ∷ []) ∷ []) k.var
first_of_two k l = record { clause = k ∷ l ∷ []; among = Contains-head (k ∷ l ∷ []) []; lit = k; inside = Contains-head k (l ∷ []); var = refl }

second_of_two : (k l : Literal) → IsNamed ((k ∷ l ∷ []) ∷ []) l.var
second_of_two k l = record {
  clause = k ∷ l ∷ [];
  among = Contains-head (k ∷ l ∷ []) [];
  lit = l;
  inside = Contains-tail k (l ∷ []) l (Contains-head l []);
  var = refl;
}

alone : (l : Literal) → IsNamed ((l ∷ []) ∷ []) l.var
alone l = record { clause = l ∷ []; among = Contains-head (l ∷ []) []; lit = l; inside = Contains-head l []; var = refl }

two_is : (k l : Literal) → k.var ≢ l.var → clause_of [] (OfLit k ∷ OfLit l ∷ []) ≡ (k ∷ l ∷ []) ∷ []
two_is k l differ = clause_of_literals [] (k ∷ l ∷ []) ((differ, tt), (tt, tt))

-- A VARIABLE THAT IS AS A LITERAL OR TRUTH VALUE
-- the literal, if it is one, has another variable
abbrev pub IsOther : ℕ → LitOrTruth → Type 0
IsOther b (OfLit l) = b ≢ l.var
IsOther b True = ⊤
IsOther b False = ⊤

same_named : (b : ℕ) (t : LitOrTruth) → IsOther b t → IsNamed (same_as b t) b
same_named b True h = alone (positive_of b)
same_named b False h = alone (negative_of b)
same_named b (OfLit l) h =
    in_front (clause_of [] (flip (yes b) ∷ OfLit l ∷ [])) (clause_of [] (flip (OfLit l) ∷ yes b ∷ [])) b
    (subst (λ (cs : Clauses). IsNamed cs b) (sym (two_is (negative_of b) l h)) (first_of_two (negative_of b) l))

-- A SUM, WHOSE INPUTS HAVE OTHER VARIABLES
outputs_other : (first count b k : ℕ) → b < first → IsOther b (part_at_least (Outputs first count) k)
outputs_other first count b zero lt = tt
outputs_other first count b (suc k) lt = cases (nat_lt k count)
  where
    cases : (c : Bool) → IsOther b (cond c (yes (first + k)) False)
    cases true = λ e. omega arith
    cases false = tt

tree_other : (most vars b k depth : ℕ) (ls : List Literal) → b ≤ vars → length ls ≤ 1 + depth → Avoids b ls →
    IsOther b (part_at_least (tree_top most vars (tree_of depth ls)) k)
tree_other most vars b k depth [] le deep h = outputs_other (vars + 1) 0 b k (omega arith)
tree_other most vars b zero depth (l ∷ []) le deep h = tt
tree_other most vars b (suc zero) depth (l ∷ []) le deep h = h.0
tree_other most vars b (suc (suc k)) depth (l ∷ []) le deep h = tt
tree_other most vars b k zero (l ∷ m ∷ ls) le deep h = absurd (omega arith)
tree_other most vars b k (suc depth) (l ∷ m ∷ ls) le deep h =
    let all = l ∷ m ∷ ls in
    let left = tree_of depth (take (length all / 2) all) in
    let right = tree_of depth (drop (length all / 2) all) in
    outputs_other (vars + (tree_count most left + tree_count most right) + 1) (min (tree_size most left + tree_size most right) most) b k (omega arith)

pub sum_bound_named : (s : SumVars) (last k : ℕ) → 1 ≤ k → k ≤ s.most → last + k ≤ s.vars → Avoids (last + k) s.inputs → IsNamed (sum_bound s last) (last + k)
sum_bound_named s last k from to le h =
    behind (sum_clauses s) (each (bound_outputs s last) 1 s.most) (last + k)
    (named_each (bound_outputs s last) 1 s.most k (last + k) from (omega arith)
    (same_named (last + k) (sum_at_least s k) (tree_other s.most s.vars (last + k) k (length s.inputs) s.inputs le (omega arith) h)))

-- LISTS THAT HAVE OTHER VARIABLES
there_avoids : (vars b : ℕ) (ls : List Literal) → vars < b → AreThere vars ls → Avoids b ls
there_avoids vars b [] lt h = tt
there_avoids vars b (l ∷ ls) lt h = let to = h.0.1 in ((λ e. omega arith), there_avoids vars b ls lt h.1)

avoids_take : (b n : ℕ) (ls : List Literal) → Avoids b ls → Avoids b (take n ls)
avoids_take b zero ls h = tt
avoids_take b (suc n) [] h = tt
avoids_take b (suc n) (l ∷ ls) h = (h.0, avoids_take b n ls h.1)

avoids_append : (b : ℕ) (ks ls : List Literal) → Avoids b ks → Avoids b ls → Avoids b (ks ++ ls)
avoids_append b [] ls h g = g
avoids_append b (k ∷ ks) ls h g = (h.0, avoids_append b ks ls h.1 g)

pub block_avoids : (b first count : ℕ) → b < first → Avoids b (block first count)
block_avoids b first zero lt = tt
block_avoids b first (suc count) lt = ((λ e. omega arith), block_avoids b (first + 1) count (omega arith))

top_avoids : (most vars b depth : ℕ) (ls : List Literal) → b ≤ vars → length ls ≤ 1 + depth → Avoids b ls →
    Avoids b (part_outputs (tree_top most vars (tree_of depth ls)))
top_avoids most vars b depth [] le deep h = tt
top_avoids most vars b depth (l ∷ []) le deep h = h
top_avoids most vars b zero (l ∷ m ∷ ls) le deep h = absurd (omega arith)
top_avoids most vars b (suc depth) (l ∷ m ∷ ls) le deep h =
    let all = l ∷ m ∷ ls in
    let left = tree_of depth (take (length all / 2) all) in
    let right = tree_of depth (drop (length all / 2) all) in
    block_avoids b (vars + (tree_count most left + tree_count most right) + 1) (min (tree_size most left + tree_size most right) most) (omega arith)

outputs_avoid : (b low vars : ℕ) (g : Graph) (x : DrawingVars) (width most : ℕ) (es : List ℕ) → AreVars low g x width → low < b → b ≤ vars →
    All (λ e. e < length g.edges) es → Avoids b (edges_outputs x width most vars es)
outputs_avoid b low vars g x width most [] a lt le there = tt
outputs_avoid b low vars g x width most (e ∷ es) a lt le there =
    let s = steps_sum (x.edge e) width most vars in
    let next = vars + sum_count s in
    let own = there_avoids low b (step_lits (x.edge e) 0 width) lt (steps_there low (x.edge e) width 0 width
    (a.edge e (All-head (λ e. e < length g.edges) e es there)) (omega arith)) in
    avoids_append b (sum_outputs s) (edges_outputs x width most next es)
    (avoids_take b most (part_outputs (tree_top most vars (sum_tree s))) (top_avoids most vars b (length s.inputs) s.inputs le (omega arith) own))
    (outputs_avoid b low next g x width most es a lt (omega arith) (All-tail (λ e. e < length g.edges) e es there))

-- EACH CRITERION
long_named : (heights : List Literal) (b : ℕ) → IsNamed ((heights ++ negative_of b ∷ []) ∷ []) b
long_named heights b =
    let c = heights ++ negative_of b ∷ [] in
    record {
      clause = c;
      among = Contains-head c [];
      lit = negative_of b;
      inside = Contains-append_right heights (negative_of b ∷ []) (negative_of b)
          (Contains-head (negative_of b) []);
      var = refl;
    }

height_named : (g : Graph) (grid : GridSize) (last cap k : ℕ) → laws_first g grid ≤ last + 1 → cap ≤ grid.height → 1 ≤ k → k ≤ cap →
    IsNamed (bound_clauses g (drawing_vars g grid) grid last cap Height) (last + k)
height_named g grid last cap k there most from to =
    let x = drawing_vars g grid in
    let b = last + k in
    let m = length g.edges in
    named_each (λ j. height_at g x grid.width (last + j) j) 1 cap k b from (omega arith)
    (behind (each (edge_height_gives g x grid.width b k) 0 m) (some_height_clause x grid.width m b k) b
    (subst (λ (cs : Clauses). IsNamed cs b) (sym (long_is g grid b k from (omega arith) (omega arith))) (long_named (height_lits x grid.width k 0 m) b)))

bends_named : (g : Graph) (grid : GridSize) (last cap k : ℕ) → IsGrid grid → laws_first g grid ≤ last + 1 → last ≤ VARS → 1 ≤ k → k ≤ cap →
    IsNamed (bound_clauses g (drawing_vars g grid) grid last cap Bends) (last + k)
bends_named g grid last cap k is there limit from to =
    let x = drawing_vars g grid in
    let s = bends_sum x (west_first g) last cap in
    sum_bound_named s last k from to (omega arith)
    (there_avoids last (last + k) s.inputs (omega arith) (bends_lits_there (base_last g grid) g x grid.width (west_first g) last (omega arith) (all_edges g)
    (base_vars g grid is (omega arith))))

diagonal_named : (g : Graph) (grid : GridSize) (last cap k : ℕ) → IsGrid grid → laws_first g grid ≤ last + 1 → last ≤ VARS → 1 ≤ k → k ≤ cap →
    IsNamed (bound_clauses g (drawing_vars g grid) grid last cap Diagonal) (last + k)
diagonal_named g grid last cap k is there limit from to =
    let x = drawing_vars g grid in
    let most = edge_most grid cap in
    let s = diagonal_sum x grid (west_first g) last cap in
    behind (edges_steps x grid.width most (last + cap) (west_first g)) (sum_bound s last) (last + k)
    (sum_bound_named s last k from to (omega arith)
    (outputs_avoid (last + k) (base_last g grid) (last + cap) g x grid.width most (west_first g) (base_vars g grid is (omega arith)) (omega arith) (omega arith)
    (all_edges g).there))

-- a node's column that is at least k gives the variable
gives_named : (i : IntVars) (b k : ℕ) → i.low < k → k ≤ i.high → i.first + size i ≤ b → IsNamed (gives_bound i b k) b
gives_named i b k low high le =
    let v = i.first + (k - (i.low + 1)) in
    let one : nat_le k i.low ≡ false = grind (arith, nat_tests) in
    let two : nat_lt i.high k ≡ false = grind (arith, nat_tests) in
    let is : int_at_least i k ≡ yes v = ap (λ c. cond c True (cond (nat_lt i.high k) False (yes v))) one ∙ ap (λ c. cond c False (yes v)) two in
    subst (λ (t : LitOrTruth). IsNamed (clause_of [] (flip t ∷ yes b ∷ [])) b) (sym is)
    (subst (λ (cs : Clauses). IsNamed cs b) (sym (two_is (negative_of v) (positive_of b) (λ e. omega arith))) (second_of_two (negative_of v) (positive_of b)))

columns_named : (x : DrawingVars) (b k n : ℕ) → (0 < n → IsNamed (column_gives x b k 0) b) →
    IsNamed (each (column_gives x b k) 0 n ++ some_column_clause x n b k) b
columns_named x b k zero h = alone (negative_of b)
columns_named x b k (suc n) h =
    in_front (each (column_gives x b k) 0 (suc n)) (some_column_clause x (suc n) b k) b
    (in_front (column_gives x b k 0) (each (column_gives x b k) 1 n) b (h (omega arith)))

width_named : (g : Graph) (grid : GridSize) (last cap k : ℕ) → IsGrid grid → laws_first g grid ≤ last + 1 → last ≤ VARS → cap ≤ grid.width → 1 ≤ k → k ≤ cap →
    IsNamed (bound_clauses g (drawing_vars g grid) grid last cap Width) (last + k)
width_named g grid last cap k is there limit most from to =
    let x = drawing_vars g grid in
    let b = last + k in
    let a = base_vars g grid is (omega arith) in
    named_each (λ j. width_at g x (last + j) j) 1 cap k b from (omega arith)
    (columns_named x b k (length g.nodes) (λ some. let i = (a.node_x 0 some).to in gives_named (x.node 0).x b k (omega arith) (omega arith) (omega arith)))

pub bound_named : (g : Graph) (grid : GridSize) (last cap : ℕ) (c : Criterion) (k : ℕ) → IsGrid grid → laws_first g grid ≤ last + 1 → last ≤ VARS →
    cap ≤ limit_of g grid c → 1 ≤ k → k ≤ cap → IsNamed (bound_clauses g (drawing_vars g grid) grid last cap c) (last + k)
bound_named g grid last cap Height k is there limit most from to = height_named g grid last cap k there most from to
bound_named g grid last cap Bends k is there limit most from to = bends_named g grid last cap k is there limit from to
bound_named g grid last cap Diagonal k is there limit most from to = diagonal_named g grid last cap k is there limit from to
bound_named g grid last cap Width k is there limit most from to = width_named g grid last cap k is there limit most from to
