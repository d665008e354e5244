-- Integers in order encoding: each variable says whether the integer is at least some number.
use Rattle.std.specs.Prelude.{◌≡◌, ◌≤◌, ℕ, ◌+◌, ◌-◌, min, cond, nat_le, nat_lt, zero, suc, List, [], ◌∷◌, ◌++◌}
use Rattle.cnf_core.specs.declared.literal.LitOrTruth.{LitOrTruth}
use Rattle.cnf_core.specs.declared.literal.LitOrTruth.TheVariants.{True, False}
use Rattle.cnf_core.specs.Lit.{Literal, positive_of, negative_of}
use Rattle.cnf_core.specs.Clause.{Clauses}
use Rattle.cnf_core.specs.Assignment.{Assignment}
use Rattle.cnf_core.specs.LitOrTruth.{yes, flip, value, clause_of}
use Rattle.cnf_core.specs.Formula.{each}
use Rattle.order_int.specs.IntVars.{IntVars, size}

-- "the integer is at least k"
abbrev pub int_at_least : IntVars → ℕ → LitOrTruth
int_at_least i k = cond (nat_le k i.low) True (cond (nat_lt i.high k) False (yes (i.first + (k - (i.low + 1)))))

-- the variable behind x is true only where x is
abbrev pub link : ℕ → Clauses
link x = (negative_of (x + 1) ∷ positive_of x ∷ []) ∷ []

-- n variables from first on, each of them true only where the one before it is
abbrev pub chain : ℕ → ℕ → Clauses
chain first zero = []
chain first (suc n) = each link first n

-- the integer's own clauses
abbrev pub int_clauses : IntVars → Clauses
int_clauses i = chain i.first (size i)

-- the assignment gives the integer the number n: "at least k" is true exactly where n is at least k
pub record Reads (v : Assignment) (i : IntVars) (n : ℕ) : Type 0 where
  pub low : i.low ≤ n
  pub high : n ≤ i.high
  pub each : (k : ℕ) → value v (int_at_least i k) ≡ nat_le k n

-- how many of the n variables from first on are true before the first that is false
abbrev pub leading : Assignment → ℕ → ℕ → ℕ
leading v first zero = 0
leading v first (suc n) = cond (v first) (1 + leading v (first + 1) n) 0

-- the number of the integer in an assignment that satisfies its clauses
abbrev pub number : Assignment → IntVars → ℕ
number v i = i.low + leading v i.first (size i)

-- one of unless is true, or where a is at least k, b is at least k + plus
abbrev pub le_clause : IntVars → IntVars → ℕ → List Literal → ℕ → Clauses
le_clause a b plus unless k = clause_of unless (flip (int_at_least a k) ∷ int_at_least b (k + plus) ∷ [])

-- how many of a's numbers, from the least on, there are up to the first that with plus is above b's
-- greatest: what its clause says of it holds of all after it
abbrev pub le_count : IntVars → IntVars → ℕ → ℕ
le_count a b plus = min (size a) (b.high + 1 - (a.low + plus)) + 1

-- one of unless is true, or a + plus is at most b: a clause for each of these numbers
abbrev pub le_clauses : IntVars → IntVars → ℕ → List Literal → Clauses
le_clauses a b plus unless = each (le_clause a b plus unless) a.low (le_count a b plus)

-- one of unless is true, or a equals b
abbrev pub equal_clauses : IntVars → IntVars → List Literal → Clauses
equal_clauses a b unless = le_clauses a b 0 unless ++ le_clauses b a 0 unless
