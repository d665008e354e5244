-- Clauses: lists of literals of distinct variables, and the words that they take.
use Rattle.std.specs.Prelude.{◌≡◌, ◌≢◌, ◌≤◌, ◌<◌, ⊤, ℕ, ◌+◌, List, [], ◌∷◌, length, Contains}
use Rattle.cnf_core.specs.Lit.{Literal}

-- a list of clauses, each of which is a list of literals
abbrev pub Clauses : Type 0
Clauses = List (List Literal)

-- x is the variable of none of them
abbrev pub Avoids : ℕ → List Literal → Type 0
Avoids x [] = ⊤
Avoids x (l ∷ ls) = (x ≢ l.var) × Avoids x ls

-- no two of them have the same variable
abbrev pub AreDistinct : List Literal → Type 0
AreDistinct [] = ⊤
AreDistinct (l ∷ ls) = Avoids l.var ls × AreDistinct ls

-- their variables rise, above low and up to high
abbrev pub AreRising : ℕ → ℕ → List Literal → Type 0
AreRising low high [] = low ≤ high
AreRising low high (l ∷ ls) = (low < l.var) × AreRising l.var high ls

-- c has each literal of d
abbrev pub HasAllOf : List Literal → List Literal → Type 0
HasAllOf c d = (l : Literal) → Contains d l → Contains c l

-- the variable is one of 1 to vars
abbrev pub IsThere : ℕ → Literal → Type 0
IsThere vars l = (1 ≤ l.var) × (l.var ≤ vars)

-- the variable of each of the literals is one of 1 to vars
abbrev pub AreThere : ℕ → List Literal → Type 0
AreThere vars [] = ⊤
AreThere vars (l ∷ ls) = IsThere vars l × AreThere vars ls

-- the variables of each of the clauses are among 1 to vars
abbrev pub AllThere : ℕ → Clauses → Type 0
AllThere vars [] = ⊤
AllThere vars (c ∷ cs) = AreThere vars c × AllThere vars cs

-- each of the clauses is one of distinct variables
abbrev pub AllDistinct : Clauses → Type 0
AllDistinct [] = ⊤
AllDistinct (c ∷ cs) = AreDistinct c × AllDistinct cs

-- the variable stands in one of the clauses
pub record IsNamed (clauses : Clauses) (v : ℕ) : Type 0 where
  pub clause : List Literal
  pub among : Contains clauses clause
  pub lit : Literal
  pub inside : Contains clause lit
  pub var : lit.var ≡ v

-- a clause of n literals has n + 3 words
abbrev pub words_of : Clauses → ℕ
words_of [] = 0
words_of (c ∷ cs) = length c + 3 + words_of cs
