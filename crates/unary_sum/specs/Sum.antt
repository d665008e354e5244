-- Capped unary sums of literals: a tree over the inputs, whose joins add what their sides count.
use Rattle.std.specs.Prelude.{◌≡◌, ◌≤◌, ℕ, ◌+◌, ◌/◌, cond, min, zero, suc, List, [], ◌∷◌, ◌++◌, length, take, drop}
use Rattle.cnf_core.specs.declared.literal.LitOrTruth.{LitOrTruth}
use Rattle.cnf_core.specs.declared.limits.TheConstants.{VARS}
use Rattle.cnf_core.specs.Lit.{Literal}
use Rattle.cnf_core.specs.Clause.{Clauses, AreThere}
use Rattle.cnf_core.specs.Assignment.{Assignment, truth}
use Rattle.unary_sum.specs.declared.joins.Part.{Part}
use Rattle.unary_sum.specs.declared.joins.Part.TheVariants.{Input, Outputs}
use Rattle.unary_sum.specs.declared.joins.Join.{Join}
use Rattle.unary_sum.specs.Part.{part_at_least, part_outputs, join_clauses}

-- how many of the literals are true
abbrev pub count_true : Assignment → List Literal → ℕ
count_true v [] = 0
count_true v (l ∷ ls) = cond (truth v l) 1 0 + count_true v ls

-- a tree over inputs: none, one of them, or two sides that are joined
pub data InputTree : Type 0 where
  Empty : InputTree
  Leaf : Literal → InputTree
  Node : InputTree → InputTree → InputTree

-- a balanced tree over the literals, in their order; the depth is at least one less than their number
abbrev pub tree_of : ℕ → List Literal → InputTree
tree_of depth [] = Empty
tree_of depth (l ∷ []) = Leaf l
tree_of zero (k ∷ l ∷ ls) = Empty
tree_of (suc depth) (k ∷ l ∷ ls) = Node
    (tree_of depth (take (length (k ∷ l ∷ ls) / 2) (k ∷ l ∷ ls)))
    (tree_of depth (drop (length (k ∷ l ∷ ls) / 2) (k ∷ l ∷ ls)))

-- how many outputs tell of a tree's inputs: one for each, up to the cap
abbrev pub tree_size : ℕ → InputTree → ℕ
tree_size most Empty = 0
tree_size most (Leaf l) = 1
tree_size most (Node a b) = min (tree_size most a + tree_size most b) most

-- how many variables its joins have
abbrev pub tree_count : ℕ → InputTree → ℕ
tree_count most Empty = 0
tree_count most (Leaf l) = 0
tree_count most (Node a b) = tree_count most a + tree_count most b + min (tree_size most a + tree_size most b) most

-- what counts a tree's inputs, where its variables follow the variable of number vars:
-- those of the left side, then those of the right side, then the outputs that join them
abbrev pub tree_top : ℕ → ℕ → InputTree → Part
tree_top most vars Empty = Outputs (vars + 1) 0
tree_top most vars (Leaf l) = Input l
tree_top most vars (Node a b) =
    Outputs (vars + (tree_count most a + tree_count most b) + 1) (min (tree_size most a + tree_size most b) most)

abbrev pub sides_join : Part → Part → ℕ → ℕ → Join
sides_join left right vars count = record { left = left; right = right; first = vars + 1; count = count }

abbrev pub tree_clauses : ℕ → ℕ → InputTree → Clauses
tree_clauses most vars Empty = []
tree_clauses most vars (Leaf l) = []
tree_clauses most vars (Node a b) =
    tree_clauses most vars a ++ tree_clauses most (vars + tree_count most a) b
    ++ join_clauses (sides_join (tree_top most vars a) (tree_top most (vars + tree_count most a) b)
    (vars + (tree_count most a + tree_count most b)) (min (tree_size most a + tree_size most b) most))

-- a sum of inputs, up to a cap, whose variables follow the variable of number vars
pub record SumVars : Type 0 where
  pub inputs : List Literal
  pub most : ℕ
  pub vars : ℕ

-- the sum of these inputs up to this cap, behind the variable of number vars
abbrev pub sum_vars : List Literal → ℕ → ℕ → SumVars
sum_vars inputs most vars = record { inputs = inputs; most = most; vars = vars }

abbrev pub sum_tree : SumVars → InputTree
sum_tree s = tree_of (length s.inputs) s.inputs

-- how many variables the sum has
abbrev pub sum_count : SumVars → ℕ
sum_count s = tree_count s.most (sum_tree s)

-- the clauses of all joins of the sum
abbrev pub sum_clauses : SumVars → Clauses
sum_clauses s = tree_clauses s.most s.vars (sum_tree s)

-- "at least k inputs are true", for k up to the cap
abbrev pub sum_at_least : SumVars → ℕ → LitOrTruth
sum_at_least s k = part_at_least (tree_top s.most s.vars (sum_tree s)) k

-- "at least 1", "at least 2" and so on, up to the cap or the number of inputs; they may be the inputs of a
-- further sum
abbrev pub sum_outputs : SumVars → List Literal
sum_outputs s = take s.most (part_outputs (tree_top s.most s.vars (sum_tree s)))

-- what each sum keeps
pub record IsSum (s : SumVars) : Type 0 where
  pub inputs_small : length s.inputs ≤ 65535
  pub most_small : s.most ≤ 65535
  pub there : AreThere s.vars s.inputs
  pub limit : s.vars + sum_count s ≤ VARS

-- what each sum keeps, and that this is what counts its inputs
pub record IsBuilt (s : SumVars) (built : Part) : Type 0 where
  pub sum : IsSum s
  pub is_top : built ≡ tree_top s.most s.vars (sum_tree s)
