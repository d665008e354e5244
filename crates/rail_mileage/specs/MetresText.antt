-- The text that a mileage is written as.
use Rattle.std.specs.Prelude.{ℕ, suc, ◌+◌, ◌/◌, ◌%◌, codes, List, [], ◌∷◌, ◌++◌, ℤ, pos, negsuc}
use Rattle.std.specs.Fmt.{decimal}

-- the last digit
abbrev pub last_digit : ℕ → ℕ
last_digit n = 48 + n % 10

-- the last six digits, with zeros in front where there are fewer
abbrev pub six_digits : ℕ → List ℕ
six_digits n = last_digit (n / 100000) ∷ last_digit (n / 10000) ∷ last_digit (n / 1000) ∷ last_digit (n / 100)
    ∷ last_digit (n / 10) ∷ last_digit n ∷ []

-- the whole metres, a point and six digits of so many micrometres
abbrev pub size_text : ℕ → List ℕ
size_text n = decimal (n / 1000000) ++ codes "." ++ six_digits n

-- the text of a mileage in micrometres, with `-` in front where it is negative; zero is `0.000000`
abbrev pub metres_text : ℤ → List ℕ
metres_text (pos n) = size_text n
metres_text (negsuc n) = codes "-" ++ size_text (suc n)
