-- Formulas: numbered variables, a list of clauses, and room for their words.
use Rattle.std.specs.Prelude.{◌≡◌, ◌≤◌, ◌<◌, ℕ, ◌+◌, ◌-◌, List, [], ◌∷◌, ◌++◌, length, take, drop, zero, suc}
use Rattle.std.specs.Prelude.{slice_index_or}
use Rattle.cnf_core.specs.declared.limits.TheConstants.{VARS, ROOM}
use Rattle.cnf_core.specs.Lit.{Literal}
use Rattle.cnf_core.specs.Clause.{Clauses, AllThere, AllDistinct, words_of}

-- room for words, the number of variables, and the clauses
pub record Cnf : Type 0 where
  pub room : ℕ
  pub vars : ℕ
  pub clauses : Clauses

-- what each formula keeps
pub record IsFormula (f : Cnf) : Type 0 where
  pub room_limit : f.room ≤ ROOM
  pub vars_limit : f.vars ≤ VARS
  pub within_room : words_of f.clauses ≤ f.room
  pub distinct : AllDistinct f.clauses
  pub there : AllThere f.vars f.clauses

-- the clause of this number, counted from 0
abbrev pub clause_at : Cnf → ℕ → List Literal
clause_at f c = slice_index_or f.clauses c []

-- with these clauses too, the words pass the room
abbrev pub Passes : Cnf → Clauses → Type 0
Passes f clauses = f.room < words_of (f.clauses ++ clauses)

-- with one more clause of n literals, the words pass the room
abbrev pub Full : Cnf → ℕ → Type 0
Full f n = f.room < words_of f.clauses + n + 3

-- the clauses of f at first and the n - 1 numbers after it
abbrev pub each : (ℕ → Clauses) → ℕ → ℕ → Clauses
each f first zero = []
each f first (suc n) = f first ++ each f (first + 1) n

-- the sum of count at first and the n - 1 numbers after it
abbrev pub count_each : (ℕ → ℕ) → ℕ → ℕ → ℕ
count_each count first zero = 0
count_each count first (suc n) = count first + count_each count (first + 1) n

-- the literals of all clauses in one list, cut at the places where clauses end
abbrev pub cuts : List Literal → ℕ → List ℕ → Clauses
cuts lits start [] = []
cuts lits start (end ∷ rest) = take (end - start) (drop start lits) ∷ cuts lits end rest

-- the places rise from start on, and the last one is the end of all
abbrev pub AreEnds : ℕ → List ℕ → ℕ → Type 0
AreEnds start [] last = start ≡ last
AreEnds start (end ∷ rest) last = (start ≤ end) × AreEnds end rest last

-- the formula of this room and so many variables that is stored as the literals of all clauses in one list,
-- and the places where clauses end
abbrev pub cnf_of : ℕ → ℕ → List Literal → List ℕ → Cnf
cnf_of room vars lits ends = record { room = room; vars = vars; clauses = cuts lits 0 ends }

-- the places where clauses end rise up to the number of literals, and what is stored so is a formula
pub record IsStored (room vars : ℕ) (lits : List Literal) (ends : List ℕ) : Type 0 where
  pub ends_rise : AreEnds 0 ends (length lits)
  pub formula : IsFormula (cnf_of room vars lits ends)
