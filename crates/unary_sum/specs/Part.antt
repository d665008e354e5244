-- What counts inputs: one of them, or outputs that say "at least k".
use Rattle.std.specs.Prelude.{⊤, ◌≡◌, ◌≤◌, ℕ, ◌+◌, cond, nat_le, nat_lt, zero, suc, List, [], ◌∷◌, ◌++◌}
use Rattle.cnf_core.specs.declared.literal.LitOrTruth.{LitOrTruth}
use Rattle.cnf_core.specs.declared.literal.LitOrTruth.TheVariants.{Lit as OfLit, True, False}
use Rattle.cnf_core.specs.Lit.{Literal, positive_of}
use Rattle.cnf_core.specs.Clause.{Clauses, IsThere}
use Rattle.cnf_core.specs.Assignment.{Assignment}
use Rattle.cnf_core.specs.LitOrTruth.{yes, flip, value, clause_of}
use Rattle.cnf_core.specs.Formula.{each}
use Rattle.unary_sum.specs.declared.joins.Part.{Part}
use Rattle.unary_sum.specs.declared.joins.Part.TheVariants.{Input, Outputs}
use Rattle.unary_sum.specs.declared.joins.Join.{Join}

-- how many inputs it can tell
abbrev pub part_size : Part → ℕ
part_size (Input l) = 1
part_size (Outputs first count) = count

-- "at least k of its inputs are true"
abbrev pub part_at_least : Part → ℕ → LitOrTruth
part_at_least part zero = True
part_at_least (Input l) (suc zero) = OfLit l
part_at_least (Input l) (suc (suc k)) = False
part_at_least (Outputs first count) (suc k) = cond (nat_lt k count) (yes (first + k)) False

-- count variables from first on, as literals
abbrev pub block : ℕ → ℕ → List Literal
block first zero = []
block first (suc count) = positive_of first ∷ block (first + 1) count

-- the literals "at least 1", "at least 2" and so on
abbrev pub part_outputs : Part → List Literal
part_outputs (Input l) = l ∷ []
part_outputs (Outputs first count) = block first count

-- it is a literal and no truth value
abbrev pub IsLit : LitOrTruth → Type 0
IsLit (OfLit l) = ⊤
IsLit True = ⊥
IsLit False = ⊥

-- its variables are among the variables 1 to vars
abbrev pub PartIsThere : ℕ → Part → Type 0
PartIsThere vars (Input l) = IsThere vars l
PartIsThere vars (Outputs first count) = (1 ≤ first) × (first + count ≤ vars + 1)

-- up to the cap it says of the number n whether it is at least k
abbrev pub Counts : Assignment → ℕ → Part → ℕ → Type 0
Counts v cap part n = (k : ℕ) → k ≤ cap → value v (part_at_least part k) ≡ nat_le k n

abbrev pub sum_of : Join → Part
sum_of m = Outputs m.first m.count

-- where i are true on the left and j on the right, the sum is at least i + j
abbrev pub join_up : Join → ℕ → ℕ → Clauses
join_up m i j =
    cond (nat_le (i + j) m.count)
    (clause_of [] (flip (part_at_least m.left i) ∷ flip (part_at_least m.right j) ∷ part_at_least (sum_of m) (i + j)
    ∷ [])) []

-- where at most i are true on the left and at most j on the right, the sum is at most i + j
abbrev pub join_down : Join → ℕ → ℕ → Clauses
join_down m i j =
    cond (nat_lt (i + j) m.count)
    (clause_of [] (part_at_least m.left (i + 1) ∷ part_at_least m.right (j + 1)
    ∷ flip (part_at_least (sum_of m) (i + j + 1)) ∷ [])) []

abbrev pub join_cell : Join → ℕ → ℕ → Clauses
join_cell m i j = join_up m i j ++ join_down m i j

abbrev pub join_row : Join → ℕ → Clauses
join_row m i = each (join_cell m i) 0 (part_size m.right + 1)

-- the outputs of a join count what the two sides count together
abbrev pub join_clauses : Join → Clauses
join_clauses m = each (join_row m) 0 (part_size m.left + 1)

-- the variables of a join are among 1 to vars, and its sides are small
pub record JoinIsReady (vars : ℕ) (m : Join) : Type 0 where
  pub left : PartIsThere vars m.left
  pub right : PartIsThere vars m.right
  pub there : PartIsThere vars (sum_of m)
  pub left_small : part_size m.left ≤ 65535
  pub right_small : part_size m.right ≤ 65535
