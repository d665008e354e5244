-- Which Learnt lines stay, and what their clauses' new numbers are.
use Rattle.std.specs.Prelude.{◌≡◌, ◌≤◌, ◌⊎◌, ℕ, ◌+◌, Bool, true, false, cond, ⊤, List, [], ◌∷◌, ◌++◌, All, Contains}
use Rattle.std.specs.Prelude.{length, map, slice_index_or}
use Rattle.hint_log.specs.declared.hint_line.HintLine.TheVariants.{Learnt, Refuted}
use Rattle.hint_log.specs.HintedLines.{HintLines}

abbrev pub is_used : List Bool → ℕ → Bool
is_used used n = slice_index_or used n false

abbrev pub AllUsed : List Bool → List ℕ → Type 0
AllUsed used hints = All (λ n. is_used used n ≡ true) hints

-- some line that stays names the clause m, where n clauses stand before the lines
abbrev pub NamesLater : List Bool → ℕ → ℕ → HintLines → Type 0
NamesLater used m n [] = ⊥
NamesLater used m n (Learnt lits hints ∷ rest) = ((is_used used (n + 1) ≡ true) × Contains hints m)
    ⊎ NamesLater used m (n + 1) rest
NamesLater used m n (Refuted lits hints ∷ rest) = Contains hints m ⊎ NamesLater used m n rest

-- the hints of lines that stay are used, and a Learnt line that stays is named by a later line that stays
abbrev pub MarksUsed : List Bool → ℕ → HintLines → Type 0
MarksUsed used n [] = ⊤
MarksUsed used n (Learnt lits hints ∷ rest) = (is_used used (n + 1) ≡ true → AllUsed used hints
    × NamesLater used (n + 1) (n + 1) rest) × MarksUsed used (n + 1) rest
MarksUsed used n (Refuted lits hints ∷ rest) = AllUsed used hints × MarksUsed used n rest

-- how many of the lines are Learnt lines
abbrev pub learnt_among : HintLines → ℕ
learnt_among [] = 0
learnt_among (Learnt lits hints ∷ rest) = learnt_among rest + 1
learnt_among (Refuted lits hints ∷ rest) = learnt_among rest

-- behind n clauses, each line's hints name clauses before it
abbrev pub AreBelow : ℕ → HintLines → Type 0
AreBelow n [] = ⊤
AreBelow n (Learnt lits hints ∷ rest) = All (λ m. m ≤ n) hints × AreBelow (n + 1) rest
AreBelow n (Refuted lits hints ∷ rest) = All (λ m. m ≤ n) hints × AreBelow n rest

-- what later lines that stay name is used, and of the first n clauses nothing else is
pub record IsMarkedFrom (used : List Bool) (n : ℕ) (rest : HintLines) : Type 0 where
  pub marked : MarksUsed used n rest
  pub named : (m : ℕ) → m ≤ n → is_used used m ≡ true → NamesLater used m n rest

-- further clauses are used, those of these hints
pub record Uses (hints : List ℕ) (old new : List Bool) : Type 0 where
  pub size : length new ≡ length old
  pub keeps : (x : ℕ) → is_used old x ≡ true → is_used new x ≡ true
  pub back : (x : ℕ) → is_used new x ≡ true → (is_used old x ≡ true) ⊎ Contains hints x
  pub each : AllUsed new hints

-- the table of new numbers has a place for each clause, and one for 0
abbrev pub new_number_in : List ℕ → ℕ → ℕ
new_number_in numbers m = slice_index_or numbers m 0

abbrev pub renumbered : List ℕ → List ℕ → List ℕ
renumbered numbers hints = map (new_number_in numbers) hints

-- the lines that stay, with new numbers; so many clauses are kept before them
abbrev pub shortened : List Bool → List ℕ → ℕ → HintLines → HintLines
shortened used numbers last [] = []
shortened used numbers last (Learnt lits hints ∷ rest) =
    cond (is_used used (length numbers)) (Learnt lits (renumbered numbers hints)
    ∷ shortened used (numbers ++ (last + 1) ∷ []) (last + 1) rest) (shortened used (numbers ++ 0 ∷ []) last rest)
shortened used numbers last (Refuted lits hints ∷ rest) = Refuted lits (renumbered numbers hints)
    ∷ shortened used numbers last rest

-- the lines that stay, where clauses that are given keep their numbers
pub record AreShortened (given : ℕ) (list kept : HintLines) : Type 0 where
  pub used : List Bool
  pub numbers : List ℕ
  pub marked : MarksUsed used given list
  pub size : length numbers ≡ given + 1
  pub same : (m : ℕ) → m ≤ given → new_number_in numbers m ≡ m
  pub is : kept ≡ shortened used numbers given list
