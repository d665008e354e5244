-- References, each with the character that it stands for.
use Rattle.std.specs.Prelude.{◌≡◌, ◌≢◌, ◌⊎◌, ◌≤◌, ℕ, codes, List, [], ◌∷◌, ◌++◌, length, Contains}
use Rattle.std.specs.Char.{IsScalar}
use Rattle.std.specs.Str.Parse.{AllDigits, digits_value}

-- the five by name: `<`, `>`, `&`, `'` and `"`
abbrev pub named_references : List (List ℕ × ℕ)
named_references = (codes "&lt;", 60) ∷ (codes "&gt;", 62) ∷ (codes "&amp;", 38) ∷ (codes "&apos;", 39)
    ∷ (codes "&quot;", 34) ∷ []

-- by number: the opening, 1 to 8 digits in the base, `;`; the number is a Unicode scalar value
-- other than 0
pub record IsNumbered (base : ℕ) (opening text : List ℕ) (c : ℕ) : Type 0 where
  pub digits : List ℕ
  pub some : 1 ≤ length digits
  pub few : length digits ≤ 8
  pub each : AllDigits base digits
  pub value : digits_value base digits ≡ c
  pub scalar : IsScalar c
  pub not_zero : c ≢ 0
  pub spelled : text ≡ opening ++ digits ++ codes ";"

-- the text is a reference to this character, one of the five by name, or by a decimal or hexadecimal number
abbrev pub IsReference : List ℕ → ℕ → Type 0
IsReference text c = Contains named_references (text, c) ⊎ IsNumbered 10 (codes "&#") text c
    ⊎ IsNumbered 16 (codes "&#x") text c

-- the bytes begin with an `&` that begins no reference
pub record BeginsLoose (bytes : List ℕ) : Type 0 where
  pub rest : List ℕ
  pub ampersand : bytes ≡ codes "&" ++ rest
  pub none : (text after : List ℕ) (c : ℕ) → bytes ≡ text ++ after → IsReference text c → ⊥
