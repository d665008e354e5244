-- Digits and the numbers that they write.
use Rattle.std.proofs.Common.{◌≡◌, ℕ, suc, zero, ◌+◌, ◌-◌, ◌*◌, ◌^◌, ◌<◌, ◌≤◌, Bool, true, List, [], ◌∷◌, length, take, get_or, refl, arith, rules}
use Rattle.std.proofs.lemmas.Bool.Decides.{nat_tests}
use Rattle.std.proofs.lemmas.Str.Parse.{IsNumeralModel, IsDigitsTest, numerals_by_value, digits_value_short}
use Rattle.std.proofs.lemmas.Int.Digits.{digits_value_more}
use Rattle.std.proofs.lemmas.List.{length-take}
use Rattle.std.specs.Str.Parse.{digits_value}
use Rattle.std.specs.Char.{digit_value}
use Rattle.railml_text.specs.Bytes.{AllOfClass}
use Rattle.std.specs.Char.{is_ascii_digit}
use Rattle.rail_mileage.specs.Metres.{micrometres}

is_digits_test : IsDigitsTest (AllOfClass is_ascii_digit)
is_digits_test = search rules

pub own : IsNumeralModel (AllOfClass is_ascii_digit) (digits_value 10)
own = numerals_by_value _ is_digits_test

pub digit_value_of : (b : ℕ) → is_ascii_digit b ≡ true → digit_value b ≡ b - 48
digit_value_of b h = grind (arith, nat_tests)

pub digit_range : (b : ℕ) → is_ascii_digit b ≡ true → (48 ≤ b) × (b ≤ 57)
digit_range b h = grind (arith, nat_tests)

pub passes-take : (p : ℕ → Bool) (bytes : List ℕ) (i : ℕ) → AllOfClass p bytes → AllOfClass p (take i bytes)
passes-take p [] zero h = tt
passes-take p [] (suc i) h = tt
passes-take p (b ∷ bytes) zero h = tt
passes-take p (b ∷ bytes) (suc i) h = (h.0, passes-take p bytes i h.1)

pub passes-at : (p : ℕ → Bool) (bytes : List ℕ) (i : ℕ) → i < length bytes → AllOfClass p bytes → p (get_or bytes i 0) ≡ true
passes-at p [] i lt h = absurd (omega arith)
passes-at p (b ∷ bytes) zero lt h = h.0
passes-at p (b ∷ bytes) (suc i) lt h = passes-at p bytes i (omega arith) h.1

-- one digit more
pub record OneMore (digits : List ℕ) (number i : ℕ) : Type 0 where
  pub below : number < 10 ^ 9
  pub first : 48 ≤ get_or digits i 0
  pub last : get_or digits i 0 ≤ 57
  pub value : number * 10 + (get_or digits i 0 - 48) ≡ digits_value 10 (take (i + 1) digits)

pub one_more : (digits : List ℕ) (number i : ℕ) → AllOfClass is_ascii_digit digits → length digits ≤ 9 → i < length digits →
    number ≡ digits_value 10 (take i digits) → OneMore digits number i
one_more digits number i h few lt e =
    let at = passes-at is_ascii_digit digits i lt h in
    let range = digit_range (get_or digits i 0) at in
    record {
      below = rw e (digits_value_short own (take i digits) 9 (passes-take is_ascii_digit digits i h) (omega (arith, length-take i digits)));
      first = range.0;
      last = range.1;
      value = rw (e, digits_value_more 10 digits i lt, digit_value_of (get_or digits i 0) at) refl;
    }

-- with k digits after the point, a number below 10 ^ k times what the last of them stands for
pub scaled : (k n : ℕ) → k ≤ 6 → n < 10 ^ k → n * 10 ^ (6 - k) < 1000000
scaled zero n few small = omega arith
scaled (suc zero) n few small = omega arith
scaled (suc (suc zero)) n few small = omega arith
scaled (suc (suc (suc zero))) n few small = omega arith
scaled (suc (suc (suc (suc zero)))) n few small = omega arith
scaled (suc (suc (suc (suc (suc zero))))) n few small = omega arith
scaled (suc (suc (suc (suc (suc (suc zero)))))) n few small = omega arith
scaled (suc (suc (suc (suc (suc (suc (suc k))))))) n few small = absurd (omega arith)

pub digits_below : (digits : List ℕ) (k : ℕ) → AllOfClass is_ascii_digit digits → length digits ≤ k → digits_value 10 digits < 10 ^ k
digits_below digits k h few = digits_value_short own digits k h few

-- a size of at most nine whole digits and six after the point
pub size_below : (whole fraction : List ℕ) → AllOfClass is_ascii_digit whole → AllOfClass is_ascii_digit fraction → length whole ≤ 9 → length fraction ≤ 6 →
    micrometres whole fraction < 10 ^ 15
size_below whole fraction h k few short =
    let metres = digits_below whole 9 h few in
    let rest = scaled (length fraction) (digits_value 10 fraction) short (digits_below fraction (length fraction) k (omega arith)) in
    omega (arith, metres, rest)
