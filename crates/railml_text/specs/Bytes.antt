-- The classes of bytes that the grammar names. In UTF-8 the bytes from 128 on are those of the
-- characters from U+0080 on, and no other character has one.
use Rattle.std.specs.Prelude.{◌≡◌, ℕ, Bool, true, not, ◌&&◌, ◌||◌, ◌==◌, nat_le, if◌then◌else◌, List, [], ◌∷◌, ◌++◌}
use Rattle.std.specs.Char.{is_ascii_alphabetic, is_ascii_digit}
use Rattle.std.specs.List.{AllByRecursion}

-- white space: space, tab, line feed, carriage return
abbrev pub is_blank : ℕ → Bool
is_blank b = (b == 32) || (b == 9) || (b == 10) || (b == 13)

-- a letter of ASCII, `_`, `:`, or a character from U+0080 on
abbrev pub begins_name : ℕ → Bool
begins_name b = is_ascii_alphabetic b || (b == 95) || (b == 58) || nat_le 128 b

-- these, digits, `-` and `.`
abbrev pub goes_on_name : ℕ → Bool
goes_on_name b = begins_name b || is_ascii_digit b || (b == 45) || (b == 46)

-- what a value between two of these quotes may hold: neither the quote nor `<`
abbrev pub is_in_value : ℕ → ℕ → Bool
is_in_value quote b = not (b == quote) && not (b == 60)

-- what a text may hold: neither `<` nor `&`
abbrev pub is_in_text : ℕ → Bool
is_in_text b = not (b == 60) && not (b == 38)

-- each byte is of the class
abbrev pub AllOfClass : (ℕ → Bool) → List ℕ → Type 0
AllOfClass class bytes = AllByRecursion (λ b. class b ≡ true) bytes

-- the longest front of bytes of the class
abbrev pub front : (ℕ → Bool) → List ℕ → List ℕ
front class [] = []
front class (b ∷ bytes) = if class b then b ∷ front class bytes else []

-- what follows the longest front of bytes of the class
abbrev pub past : (ℕ → Bool) → List ℕ → List ℕ
past class [] = []
past class (b ∷ bytes) = if class b then past class bytes else b ∷ bytes

-- the bytes begin with these
abbrev pub BeginsWith : List ℕ → List ℕ → Type 0
BeginsWith bytes front = (after : List ℕ) × (bytes ≡ front ++ after)
