-- The Formula and Bound lines of a file's log, as one list, by how many bounds each criterion has.
use Rattle.std.specs.Prelude.{◌≡◌, ◌≢◌, ◌+◌, ℕ, zero, suc, min, Bool, true, false, cond, List, [], ◌∷◌, ◌++◌, All}
use Rattle.std.specs.Prelude.{length, map, flat_map}
use Rattle.plan_core.specs.declared.criterion.Criterion.{Criterion}
use Rattle.plan_core.specs.declared.criterion.Criterion.TheVariants.{Height, Bends, Diagonal, Width}
use Rattle.cnf_core.specs.declared.literal.Var.{Var}
use Rattle.cnf_core.specs.Clause.{Clauses}
use Rattle.refute_log.specs.declared.line.LogLine.{LogLine}
use Rattle.refute_log.specs.declared.line.LogLine.TheVariants.{Formula, Bound}
use Rattle.refute_log.specs.Told.{Lines}
use Rattle.refute_log.specs.Log.{clause_lines, BeginsLines}

-- ---- the bounds that are told

abbrev pub same_criterion : Criterion → Criterion → Bool
same_criterion Height Height = true
same_criterion Bends Bends = true
same_criterion Diagonal Diagonal = true
same_criterion Width Width = true
same_criterion a b = false

-- the variable of the line, where it is a Bound line of the criterion
abbrev pub bound_var : Criterion → LogLine → List Var
bound_var c (Bound d k x) = cond (same_criterion c d) (x ∷ []) []
bound_var c line = []

-- the variables of the criterion's Bound lines, in their order
abbrev pub bound_vars : Criterion → Lines → List Var
bound_vars c lines = flat_map (bound_var c) lines

-- how many Bound lines the criterion has, at most its greatest value
abbrev pub caps : (Criterion → ℕ) → Lines → Criterion → ℕ
caps greatest lines c = min (length (bound_vars c lines)) (greatest c)

-- ---- the lines that are expected

-- the clause lists of a file: those of its drawings, and how many variables they have; and for each criterion
-- and cap, behind so many variables, the clauses of its sum, how many variables they add, and the variables
-- that say "at least k", for k from 1 to the cap
pub record Problem : Type 0 where
  pub vars : ℕ
  pub clauses : Clauses
  pub sum : ℕ → Criterion → ℕ → Clauses
  pub sum_vars : ℕ → Criterion → ℕ → ℕ
  pub bounds : ℕ → Criterion → ℕ → List Var

-- each sum has a variable for each number from 1 to its cap
abbrev pub HasAllBounds : Problem → Type 0
HasAllBounds e = (before : ℕ) (c : Criterion) (cap : ℕ) → length (e.bounds before c cap) ≡ cap

-- a Bound line for each variable, with the numbers from k on
abbrev pub bound_lines : Criterion → ℕ → List Var → Lines
bound_lines c k [] = []
bound_lines c k (x ∷ xs) = Bound c k x ∷ bound_lines c (k + 1) xs

-- the lines of one criterion, behind so many variables: its sum's clauses and its Bound lines for 1 to the cap.
-- With cap 0 the criterion is skipped
abbrev pub sum_lines : Problem → ℕ → Criterion → ℕ → Lines
sum_lines e before c zero = []
sum_lines e before c (suc cap) = map Formula (e.sum before c (suc cap)) ++ bound_lines c 1 (e.bounds before c (suc cap))

-- how many variables they add
abbrev pub sum_vars_of : Problem → ℕ → Criterion → ℕ → ℕ
sum_vars_of e before c zero = 0
sum_vars_of e before c (suc cap) = e.sum_vars before c (suc cap)

-- the lines of the criteria, in their order, behind so many variables
abbrev pub sums : Problem → ℕ → List Criterion → (Criterion → ℕ) → Lines
sums e before [] cap = []
sums e before (c ∷ rest) cap = sum_lines e before c (cap c) ++ sums e (before + sum_vars_of e before c (cap c)) rest cap

-- how many variables there are with them
abbrev pub vars_after : Problem → ℕ → List Criterion → (Criterion → ℕ) → ℕ
vars_after e before [] cap = before
vars_after e before (c ∷ rest) cap = vars_after e (before + sum_vars_of e before c (cap c)) rest cap

-- the file's clauses as Formula lines, and then the lines of each criterion of the order whose cap is positive
abbrev pub expected_lines : Problem → List Criterion → (Criterion → ℕ) → Lines
expected_lines e order cap = map Formula e.clauses ++ sums e e.vars order cap

-- how many variables there are with them
abbrev pub expected_vars : Problem → List Criterion → (Criterion → ℕ) → ℕ
expected_vars e order cap = vars_after e e.vars order cap

-- ---- what is told, and what is expected

-- the log's Formula and Bound lines begin the list that is expected for their caps
abbrev pub IsExpected : Problem → (Criterion → ℕ) → List Criterion → Lines → Type 0
IsExpected e greatest order lines = BeginsLines (clause_lines lines) (expected_lines e order (caps greatest lines))

-- they are the whole of it
abbrev pub IsAllExpected : Problem → (Criterion → ℕ) → List Criterion → Lines → Type 0
IsAllExpected e greatest order lines = clause_lines lines ≡ expected_lines e order (caps greatest lines)

-- the caps, but n for the criterion c
abbrev pub with_cap : (Criterion → ℕ) → Criterion → ℕ → Criterion → ℕ
with_cap cap c n d = cond (same_criterion c d) n (cap d)

-- c is the next criterion to have a cap: it stands once in an order, with these before and these behind it, and
-- neither it nor one behind it has a cap
pub record IsNextToCap (before : List Criterion) (c : Criterion) (behind : List Criterion) (cap : Criterion → ℕ)
    : Type 0 where
  pub not_before : All (λ d. c ≢ d) before
  pub not_behind : All (λ d. c ≢ d) behind
  pub none : cap c ≡ 0
  pub none_behind : All (λ d. cap d ≡ 0) behind

-- c stands once in the order
pub record StandsOnce (order : List Criterion) (c : Criterion) : Type 0 where
  pub before : List Criterion
  pub behind : List Criterion
  pub is : order ≡ before ++ c ∷ behind
  pub not_before : All (λ d. c ≢ d) before
  pub not_behind : All (λ d. c ≢ d) behind

-- with n bounds for c its lines come at the end, and nothing else changes
abbrev pub EndsWithSum : Problem → List Criterion → (Criterion → ℕ) → Criterion → ℕ → Type 0
EndsWithSum e order cap c n = expected_lines e order (with_cap cap c n)
    ≡ expected_lines e order cap ++ sum_lines e (expected_vars e order cap) c n

-- and its variables come behind the others
abbrev pub EndsWithSumVars : Problem → List Criterion → (Criterion → ℕ) → Criterion → ℕ → Type 0
EndsWithSumVars e order cap c n = expected_vars e order (with_cap cap c n)
    ≡ expected_vars e order cap + sum_vars_of e (expected_vars e order cap) c n
