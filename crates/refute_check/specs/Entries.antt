-- What stands in the lists of a literal: the clauses of two and of three literals that have it, whole, and the numbers
-- of the others.
-- No public clause names this.
use Rattle.std.specs.Prelude.{◌≡◌, ◌⊎◌, ℕ, ◌+◌, Bool, true, false, cond, List, [], ◌∷◌, ◌++◌, All, Contains}
use Rattle.cnf_core.specs.Lit.{Literal, same_literal, has}
use Rattle.cnf_core.specs.Clause.{Clauses}
use Rattle.refute_check.specs.declared.places.Rest.{Rest}

-- the lists of one literal: of a clause of two or three literals the others, and the numbers of those that are counted
pub record Entries : Type 0 where
  pub shorts : List Rest
  pub counted : List ℕ

abbrev pub entries : List Rest → List ℕ → Entries
entries shorts counted = record { shorts = shorts; counted = counted }

abbrev pub no_entries : Entries
no_entries = entries [] []

-- the clause has two or three literals
abbrev pub is_short : List Literal → Bool
is_short [] = false
is_short (a ∷ []) = false
is_short (a ∷ b ∷ []) = true
is_short (a ∷ b ∷ c ∷ []) = true
is_short (a ∷ b ∷ c ∷ d ∷ rest) = false

abbrev pub beside : Literal → Literal → Rest
beside first last = record { first = first; last = last }

-- the one of the two that isn't l, where l is one of them
abbrev pub other_of : Literal → Literal → Literal → Literal
other_of a b l = cond (same_literal a l) b a

-- the literals of a clause of two or three that stand beside l
abbrev pub rest_of : List Literal → Literal → Rest
rest_of (a ∷ b ∷ []) l = beside (other_of a b l) (other_of a b l)
rest_of (a ∷ b ∷ c ∷ []) l = beside (other_of a b l) (other_of c b l)
rest_of clause l = beside l l

-- the clause's literals are l and the two others, and it has these
pub record IsRest (clause : List Literal) (l : Literal) (rest : Rest) : Type 0 where
  pub only : All (λ k. (k ≡ l) ⊎ ((k ≡ rest.first) ⊎ (k ≡ rest.last))) clause
  pub first : Contains clause rest.first
  pub last : Contains clause rest.last

-- some clause has these two, and no others but l
pub record IsShort (clauses : Clauses) (l : Literal) (rest : Rest) : Type 0 where
  pub clause : List Literal
  pub among : Contains clauses clause
  pub parts : IsRest clause l rest

-- what a clause of two or three literals has in the list of l
abbrev pub shorts_in : List Literal → Literal → List Rest
shorts_in c l = cond (has c l) (cond (is_short c) (rest_of c l ∷ []) []) []

abbrev pub shorts_from : Clauses → Literal → List Rest
shorts_from [] l = []
shorts_from (c ∷ cs) l = shorts_in c l ++ shorts_from cs l

-- the clause has the literal, and is one of those that are counted
abbrev pub is_counted : List Literal → Literal → Bool
is_counted c l = cond (is_short c) false (has c l)

-- the numbers of the other clauses that have the literal, counted from n
abbrev pub places_from : ℕ → Clauses → Literal → List ℕ
places_from n [] l = []
places_from n (c ∷ cs) l = cond (is_counted c l) (n ∷ places_from (n + 1) cs l) (places_from (n + 1) cs l)

-- the lists of l with a clause of this number that has it
abbrev pub with_entry : ℕ → List Literal → Literal → Entries → Entries
with_entry n c l old = cond (is_short c) (entries (old.shorts ++ rest_of c l ∷ []) old.counted)
    (entries old.shorts (old.counted ++ n ∷ []))
