-- How a text is cut into the parts of a number, from left to right.
use Rattle.std.specs.Prelude.{ℕ, Bool, ◌&&◌, nat_le, nat_lt, ◌+◌, ◌==◌, if◌then◌else◌, Option, Some, None, List, []}
use Rattle.std.specs.Prelude.{◌∷◌, length}
use Rattle.std.specs.List.{list_all}
use Rattle.plan_core.specs.declared.numbers.Micro.{Micro}
use Rattle.railml_text.specs.Bytes.{is_blank, front, past}
use Rattle.std.specs.Char.{is_ascii_digit}
use Rattle.rail_mileage.specs.Metres.{Sign, unsigned, plus, minus, MetresParts, fraction_digits, mileage_told}

abbrev pub sign_at : List ℕ → Sign
sign_at [] = unsigned
sign_at (b ∷ bytes) = if b == 43 then plus else if b == 45 then minus else unsigned

abbrev pub past_sign : List ℕ → List ℕ
past_sign [] = []
past_sign (b ∷ bytes) = if b == 43 then bytes else if b == 45 then bytes else b ∷ bytes

abbrev pub fraction_at : List ℕ → Option (List ℕ)
fraction_at [] = None
fraction_at (b ∷ bytes) = if b == 46 then Some (front is_ascii_digit bytes) else None

abbrev pub past_fraction : List ℕ → List ℕ
past_fraction [] = []
past_fraction (b ∷ bytes) = if b == 46 then past is_ascii_digit bytes else b ∷ bytes

-- past the white space and the sign
abbrev pub past_start : List ℕ → List ℕ
past_start text = past_sign (past is_blank text)

abbrev pub past_whole : List ℕ → List ℕ
past_whole text = past is_ascii_digit (past_start text)

abbrev pub parts_of : List ℕ → MetresParts
parts_of text = record {
  before = front is_blank text;
  sign = sign_at (past is_blank text);
  whole = front is_ascii_digit (past_start text);
  fraction = fraction_at (past_whole text);
  after = past_fraction (past_whole text);
}

-- whether parts that were cut so are those of a number
abbrev pub are_metres : MetresParts → Bool
are_metres parts = let digits = fraction_digits parts.fraction in list_all is_blank parts.after && nat_le
    (length parts.whole) 9 && nat_le (length digits) 6 && nat_lt 0 (length parts.whole + length digits)

abbrev pub reading_of : MetresParts → Option Micro
reading_of parts = if are_metres parts then Some (mileage_told parts) else None
