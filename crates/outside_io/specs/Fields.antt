-- Lines of fields: a line ends with a line feed, and its fields are parted by one space each.
use Rattle.std.specs.Prelude.{◌≡◌, ◌≢◌, ◌⊎◌, ⊤, ℕ, List, [], ◌∷◌, ◌++◌, codes, flat_map}
use Rattle.std.specs.List.{AllByRecursion}

-- ---- put together

-- each field after one space
abbrev pub spaced : List (List ℕ) → List ℕ
spaced fields = flat_map (λ field. 32 ∷ field) fields

-- the fields of a line: the first, and the others each after one space
abbrev pub unended_text : List ℕ → List (List ℕ) → List ℕ
unended_text first others = first ++ spaced others

-- a line: its fields, and a line feed
abbrev pub line_text : List ℕ → List (List ℕ) → List ℕ
line_text first others = unended_text first others ++ codes "\n"

-- ---- cut

-- this byte doesn't stand in the text
abbrev pub LacksByte : ℕ → List ℕ → Type 0
LacksByte mark text = AllByRecursion (λ b. b ≢ mark) text

-- the text, cut at the first of these bytes: what stands before it and what stands behind it
pub record IsCutAt (mark : ℕ) (text front rest : List ℕ) : Type 0 where
  pub first : LacksByte mark front
  pub spelled : text ≡ front ++ mark ∷ rest

-- a space or a line feed, before which a field ends
abbrev pub EndsField : ℕ → Type 0
EndsField b = (b ≡ 32) ⊎ (b ≡ 10)

-- no byte of it ends a field
abbrev pub IsOneField : List ℕ → Type 0
IsOneField text = AllByRecursion (λ b. EndsField b → ⊥) text

-- no field goes on in this text
abbrev pub Ends : List ℕ → Type 0
Ends [] = ⊤
Ends (b ∷ rest) = EndsField b

-- the field at the front of the text, and what stands behind it
pub record IsFrontField (text field rest : List ℕ) : Type 0 where
  pub one : IsOneField field
  pub ends : Ends rest
  pub spelled : text ≡ field ++ rest
