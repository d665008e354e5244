-- The variables and clauses that count moved nodes.
use Rattle.std.specs.Prelude.{◌<◌, ℕ, ◌+◌, [], ◌∷◌, ◌++◌, length, Option, None, Some}
use Rattle.plan_core.specs.declared.point.Point.{Point}
use Rattle.cnf_core.specs.Clause.{Clauses}
use Rattle.cnf_core.specs.Assignment.{Assignment}
use Rattle.cnf_core.specs.LitOrTruth.{yes, flip, clause_of}
use Rattle.cnf_core.specs.Formula.{each}
use Rattle.order_int.specs.OrderInt.{int_at_least}
use Rattle.order_int.specs.IntVars.{IntVars}
use Rattle.edge_shape.specs.EdgeVars.{NodeInts}
use Rattle.unary_sum.specs.Part.{block}
use Rattle.unary_sum.specs.Sum.{SumVars, sum_vars, sum_count}
use Rattle.cnf_laws.specs.Stands.{ReadsPoint}
use Rattle.drawing_cnf.specs.Bounds.{IsExact, sum_bound}
use Rattle.drawing_cnf.specs.Moved.{Former, former_at, matched_before, matched}

-- the integers of the first n nodes give these points
abbrev pub ReadPoints : Assignment → (ℕ → NodeInts) → ℕ → (ℕ → Point) → Type 0
ReadPoints v x n place = (k : ℕ) → k < n → ReadsPoint v (x k) (place k)

-- where the node is at its former point, the variable m is false
abbrev pub kept_clause : NodeInts → Point → ℕ → Clauses
kept_clause n q m = clause_of []
    (flip (int_at_least n.x q.x) ∷ int_at_least n.x (q.x + 1) ∷ flip (int_at_least n.y q.y) ∷ int_at_least n.y (q.y + 1)
    ∷ flip (yes m) ∷ [])

-- where the integer isn't k, m is true
abbrev pub unlike_clauses : IntVars → ℕ → ℕ → Clauses
unlike_clauses i k m =
    clause_of [] (int_at_least i k ∷ yes m ∷ []) ++ clause_of [] (flip (int_at_least i (k + 1)) ∷ yes m ∷ [])

-- m is true exactly where the node isn't at its former point
abbrev pub moved_clauses : NodeInts → Point → ℕ → Clauses
moved_clauses n q m = kept_clause n q m ++ (unlike_clauses n.x q.x m ++ unlike_clauses n.y q.y m)

abbrev pub clauses_by : Option Point → NodeInts → ℕ → Clauses
clauses_by None n m = []
clauses_by (Some q) n m = moved_clauses n q m

-- those of node k, where the variables begin at first
abbrev pub clauses_at : (ℕ → NodeInts) → Former → ℕ → ℕ → Clauses
clauses_at x former first k = clauses_by (former_at former k) (x k) (first + matched_before former k)

-- those of all nodes
abbrev pub nodes_clauses : (ℕ → NodeInts) → Former → ℕ → Clauses
nodes_clauses x former first = each (clauses_at x former first) 0 (length former)

-- behind so many variables come, for each number from 1 to that of the nodes with a former point, the variable "at
-- least so many moved"; then the variables of these nodes; then those of the sum over them
abbrev pub nodes_first : Former → ℕ → ℕ
nodes_first former vars = vars + matched former + 1

abbrev pub moved_sum : Former → ℕ → SumVars
moved_sum former vars =
    sum_vars (block (nodes_first former vars) (matched former)) (matched former)
    (vars + (matched former + matched former))

-- how many variables count the moved nodes
abbrev pub count_size : Former → ℕ → ℕ
count_size former vars = matched former + matched former + sum_count (moved_sum former vars)

-- the clauses that count the moved nodes: those of each node with a former point, and of the sum over these
abbrev pub count_clauses : (ℕ → NodeInts) → Former → ℕ → Clauses
count_clauses x former vars = nodes_clauses x former (nodes_first former vars) ++ sum_bound (moved_sum former vars) vars

-- the variables "at least j moved" tell that n moved
abbrev pub TellsMoved : Assignment → Former → ℕ → ℕ → Type 0
TellsMoved v former vars n = IsExact v vars (matched former) n
