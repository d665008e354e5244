-- Clauses of literals among which truth values may stand.
use Rattle.std.specs.Prelude.{◌≡◌, ◌⊎◌, ⊤, ℕ, Bool, true, false, List, [], ◌∷◌, ◌++◌, cond, map}
use Rattle.cnf_core.specs.declared.literal.LitOrTruth.{LitOrTruth}
use Rattle.cnf_core.specs.declared.literal.LitOrTruth.TheVariants.{Lit as OfLit, True, False}
use Rattle.cnf_core.specs.Lit.{Literal, negate, positive_of, has}
use Rattle.cnf_core.specs.Clause.{Clauses, IsThere}
use Rattle.cnf_core.specs.Assignment.{Assignment, truth}

-- what is true where the literal or truth value isn't
abbrev pub flip : LitOrTruth → LitOrTruth
flip (OfLit l) = OfLit (negate l)
flip True = False
flip False = True

-- the variable x, made true
abbrev pub yes : ℕ → LitOrTruth
yes x = OfLit (positive_of x)

-- the truth of a literal, or of a truth value that stands in its place
abbrev pub value : Assignment → LitOrTruth → Bool
value v (OfLit l) = truth v l
value v True = true
value v False = false

-- one of them is true
abbrev pub SomeTrue : Assignment → List LitOrTruth → Type 0
SomeTrue v [] = ⊥
SomeTrue v (t ∷ ts) = (value v t ≡ true) ⊎ SomeTrue v ts

-- a truth value, or a literal of one of the variables 1 to vars
abbrev pub IsWithin : ℕ → LitOrTruth → Type 0
IsWithin vars (OfLit l) = IsThere vars l
IsWithin vars True = ⊤
IsWithin vars False = ⊤

-- each of them is a truth value, or a literal of one of the variables 1 to vars
abbrev pub AreWithin : ℕ → List LitOrTruth → Type 0
AreWithin vars [] = ⊤
AreWithin vars (t ∷ ts) = IsWithin vars t × AreWithin vars ts

-- the clause of the literals so far and those to come, each once;
-- there is none where true is among those to come, or the negation of a literal that stands already
abbrev pub gathered : List Literal → List LitOrTruth → Clauses
gathered front [] = front ∷ []
gathered front (OfLit l ∷ ts) = cond (has front l) (gathered front ts)
    (cond (has front (negate l)) [] (gathered (front ++ l ∷ []) ts))
gathered front (True ∷ ts) = []
gathered front (False ∷ ts) = gathered front ts

-- the clause "one of unless is true, or one of ts", each literal once; there is none where a literal stands
-- with its negation, or true is among them
abbrev pub clause_of : List Literal → List LitOrTruth → Clauses
clause_of unless ts = gathered [] (map OfLit unless ++ ts)
