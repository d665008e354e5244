-- Which texts are a number of metres, and which mileage each is.
use Rattle.std.specs.Prelude.{◌≡◌, ◌≤◌, ℕ, ◌+◌, ◌-◌, ◌*◌, ◌^◌, Bool, true, false, if◌then◌else◌, codes, Option, Some}
use Rattle.std.specs.Prelude.{None, List, [], ◌++◌, length, ℤ, pos, neg_ℤ}
use Rattle.std.specs.Char.{is_ascii_digit}
use Rattle.std.specs.Str.Parse.{digits_value}
use Rattle.plan_core.specs.declared.numbers.Micro.{Micro}
use Rattle.railml_text.specs.Bytes.{is_blank, AllOfClass}

-- the sign of a number: none, `+` or `-`
pub data Sign : Type 0 where
  unsigned : Sign
  plus : Sign
  minus : Sign

abbrev pub sign_text : Sign → List ℕ
sign_text unsigned = []
sign_text plus = codes "+"
sign_text minus = codes "-"

-- the parts of a number's text: white space, a sign, the digits before the point, the digits after
-- it where there is a point, and white space
pub record MetresParts : Type 0 where
  pub before : List ℕ
  pub sign : Sign
  pub whole : List ℕ
  pub fraction : Option (List ℕ)
  pub after : List ℕ

abbrev pub fraction_text : Option (List ℕ) → List ℕ
fraction_text None = []
fraction_text (Some digits) = codes "." ++ digits

abbrev pub fraction_digits : Option (List ℕ) → List ℕ
fraction_digits None = []
fraction_digits (Some digits) = digits

-- the text is a number of metres, and these are its parts; it is one in at most one way, proved by
-- `one_reading`
pub record IsMetres (text : List ℕ) (parts : MetresParts) : Type 0 where
  pub blank_before : AllOfClass is_blank parts.before
  pub blank_after : AllOfClass is_blank parts.after
  pub digits_before : AllOfClass is_ascii_digit parts.whole
  pub digits_after : AllOfClass is_ascii_digit (fraction_digits parts.fraction)
  pub whole_limit : length parts.whole ≤ 9
  pub fraction_limit : length (fraction_digits parts.fraction) ≤ 6
  pub some_digit : 1 ≤ length parts.whole + length (fraction_digits parts.fraction)
  pub spelled : text ≡ parts.before ++ (sign_text parts.sign
      ++ (parts.whole ++ (fraction_text parts.fraction ++ parts.after)))

-- micrometres without the sign: a metre has a million, and the last of k digits after the point
-- stands for 10 ^ (6 - k)
abbrev pub micrometres : List ℕ → List ℕ → ℕ
micrometres whole fraction = digits_value 10 whole * 1000000 + digits_value 10 fraction * 10 ^ (6 - length fraction)

abbrev pub is_minus : Sign → Bool
is_minus unsigned = false
is_minus plus = false
is_minus minus = true

abbrev pub signed : Bool → ℕ → ℤ
signed negative n = if negative then neg_ℤ (pos n) else pos n

-- the mileage that a text of these parts is
abbrev pub mileage_told : MetresParts → Micro
mileage_told parts = record {
  0 = signed (is_minus parts.sign)
      (micrometres parts.whole (fraction_digits parts.fraction));
}
