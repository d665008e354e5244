-- Unit propagation: what follows from clauses and a set of literals, clause by clause.
use Rattle.std.specs.Prelude.{◌≡◌, ◌≤◌, ◌⊎◌, ◌↔◌, ℕ, max, Bool, true, false, List, [], ◌∷◌, All, Contains}
use Rattle.cnf_core.specs.Lit.{Literal, negate, has}
use Rattle.cnf_core.specs.Clause.{Clauses}

-- a set of literals, as a test
abbrev pub LiteralSet : Type 0
LiteralSet = Literal → Bool

-- the set has the literal
abbrev pub IsIn : LiteralSet → Literal → Type 0
IsIn set l = set l ≡ true

-- the first set has each literal of the second
abbrev pub Includes : LiteralSet → LiteralSet → Type 0
Includes set start = (l : Literal) → IsIn start l → IsIn set l

-- no literal: from this set the closure of the clauses alone starts
abbrev pub nothing : LiteralSet
nothing l = false

-- no literal beside its negation
abbrev pub IsConsistent : LiteralSet → Type 0
IsConsistent set = (l : Literal) → IsIn set l → IsIn set (negate l) → ⊥

-- l is one of the clause's literals, and the negation of each other one is in the set
pub record IsUnit (set : LiteralSet) (clause : List Literal) (l : Literal) : Type 0 where
  pub among : Contains clause l
  pub others : All (λ k. (k ≡ l) ⊎ IsIn set (negate k)) clause

-- some clause makes the literal true by itself
pub record HasReason (clauses : Clauses) (set : LiteralSet) (l : Literal) : Type 0 where
  pub reason : List Literal
  pub among : Contains clauses reason
  pub unit : IsUnit set reason l

-- the set has the negations of all literals of some clause
pub record Falsified (clauses : Clauses) (set : LiteralSet) : Type 0 where
  pub clause : List Literal
  pub among : Contains clauses clause
  pub each : All (λ k. IsIn set (negate k)) clause

-- the set has the one literal of each unit clause
abbrev pub IsClosed : Clauses → LiteralSet → Type 0
IsClosed clauses set = (clause : List Literal) → Contains clauses clause → (l : Literal) → IsUnit set clause l →
    IsIn set l

-- l is in every closed set that includes start, and so in the least one
abbrev pub Closure : Clauses → LiteralSet → Literal → Type 0
Closure clauses start l = (set : LiteralSet) → IsClosed clauses set → Includes set start → IsIn set l

-- the set is the closure of start, and falsifies no clause
pub record IsClosure (clauses : Clauses) (start set : LiteralSet) : Type 0 where
  pub closed : IsClosed clauses set
  pub includes : Includes set start
  pub within : (l : Literal) → IsIn set l → Closure clauses start l
  pub unfalsified : Falsified clauses set → ⊥

-- a clause of one literal for each of them; they add nothing where each literal follows from the clauses
-- alone
abbrev pub units : List Literal → Clauses
units [] = []
units (l ∷ ls) = (l ∷ []) ∷ units ls

-- the negations of all literals of some clause are in the closure
pub record Falsifies (clauses : Clauses) (start : LiteralSet) : Type 0 where
  pub clause : List Literal
  pub among : Contains clauses clause
  pub each : All (λ k. Closure clauses start (negate k)) clause

abbrev pub negations : List Literal → LiteralSet
negations clause l = has clause (negate l)

-- the clause follows by unit propagation: the negations of its literals falsify a clause (Goldberg and
-- Novikov 2003)
abbrev pub Rup : Clauses → List Literal → Type 0
Rup clauses clause = Falsifies clauses (negations clause)

abbrev pub greatest_in : List Literal → ℕ
greatest_in [] = 0
greatest_in (l ∷ ls) = max l.var (greatest_in ls)

-- the greatest variable of the clauses, or 0 where there is none
abbrev pub greatest_var : Clauses → ℕ
greatest_var [] = 0
greatest_var (c ∷ cs) = max (greatest_in c) (greatest_var cs)

-- the clause of first and others says more than propagation knows, and names no further variable
-- (Pipatsrisawat and Darwiche 2008)
pub record IsNew (clauses : Clauses) (first : Literal) (others : List Literal) : Type 0 where
  pub named : All (λ l. l.var ≤ greatest_var clauses) (first ∷ others)
  pub unfalsified : Falsifies clauses (negations others) → ⊥
  pub unknown : Closure clauses (negations others) first → ⊥

-- the two clauses have the same literals
abbrev pub SameLiterals : List Literal → List Literal → Type 0
SameLiterals c d = (l : Literal) → Contains c l ↔ Contains d l

-- each clause of the first list has one in the second with the same literals
abbrev pub AreAmong : Clauses → Clauses → Type 0
AreAmong clauses more = (c : List Literal) → Contains clauses c → (d : List Literal) × Contains more d
    × SameLiterals c d

-- a closed set that shows a clause to be new: it has the negations of the others and not the
-- first, and falsifies no clause
pub record IsWitness (clauses : Clauses) (first : Literal) (others : List Literal) (set : LiteralSet) : Type 0 where
  pub closed : IsClosed clauses set
  pub includes : Includes set (negations others)
  pub lacks : IsIn set first → ⊥
  pub unfalsified : Falsified clauses set → ⊥
