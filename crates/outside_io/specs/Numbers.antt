-- Which number a field is.
use Rattle.std.specs.Prelude.{◌≡◌, ◌≤◌, ◌<◌, ℕ, List, length, slice_index}
use Rattle.std.specs.Fmt.{decimal}

-- the field is the decimal of this number, without a sign and without a zero in front, and the number lies within the
-- limits
pub record IsNumberIn (least greatest : ℕ) (field : List ℕ) (n : ℕ) : Type 0 where
  pub written : field ≡ decimal n
  pub from : least ≤ n
  pub to : n ≤ greatest

-- the field is a number within the limits
abbrev pub IsNumberField : ℕ → ℕ → List ℕ → Type 0
IsNumberField least greatest field = (n : ℕ) × IsNumberIn least greatest field n

-- a digit is in front, and a 0 only where nothing follows it; for private contracts alone
pub record BeginsCanonical (field : List ℕ) : Type 0 where
  pub above : 48 ≤ slice_index field 0
  pub below : slice_index field 0 < 58
  pub alone : slice_index field 0 ≡ 48 → length field ≡ 1
