-- What is written is a number of metres, and the one that was written.
use Rattle.std.proofs.Common.{◌≡◌, ℕ, suc, ◌+◌, ◌*◌, ◌/◌, ◌%◌, ◌^◌, ◌<◌, true, Some, List, [], ◌∷◌, ◌++◌, sym, ap, ◌∙◌, append_assoc, arith}
use Rattle.std.specs.Prelude.{ℤ, pos, negsuc, neg_ℤ, unsigned_abs, decimal}
use Rattle.std.specs.Str.Parse.{digits_value}
use Rattle.std.specs.Char.{digit_value}
use Rattle.std.proofs.lemmas.Bool.Decides.{nat_tests}
use Rattle.std.proofs.lemmas.List.{append-nil}
use Rattle.std.proofs.lemmas.Fmt.{digits_decimal, digits_value-decimal, length-decimal-le}
use Rattle.railml_text.specs.Bytes.{AllOfClass}
use Rattle.plan_core.specs.declared.numbers.Micro.{Micro}
use Rattle.std.specs.Char.{is_ascii_digit, IsAsciiDigit}
use Rattle.std.specs.List.{AllByRecursion}
use Rattle.rail_mileage.specs.Metres.{Sign, unsigned, minus, MetresParts, IsMetres, mileage_told, micrometres, sign_text}
use Rattle.rail_mileage.specs.MetresText.{last_digit, six_digits, size_text, metres_text}
use Rattle.rail_mileage.specs.Reading.{parts_of, reading_of}
use Rattle.rail_mileage.proofs.Digits.{own, digit_value_of, digit_range}
use Rattle.rail_mileage.proofs.PartsLemmas.{reads}

last_digit_passes : (n : ℕ) → is_ascii_digit (last_digit n) ≡ true
last_digit_passes n = grind (arith, nat_tests)

six_pass : (n : ℕ) → AllOfClass is_ascii_digit (six_digits n)
six_pass n = (
  last_digit_passes (n / 100000),
  (
    last_digit_passes (n / 10000),
    (
      last_digit_passes (n / 1000),
      (last_digit_passes (n / 100), (last_digit_passes (n / 10), (last_digit_passes n, tt))),
    ),
  ),
)

-- the same without a test
pub six_are_digits : (n : ℕ) → AllByRecursion IsAsciiDigit (six_digits n)
six_are_digits n = all_digits (six_digits n) (six_pass n)
  where
    all_digits : (bytes : List ℕ) → AllOfClass is_ascii_digit bytes → AllByRecursion IsAsciiDigit bytes
    all_digits [] h = tt
    all_digits (b ∷ bytes) h = (digit_range b h.0, all_digits bytes h.1)

last_digit_value : (n : ℕ) → digit_value (last_digit n) ≡ n % 10
last_digit_value n = digit_value_of (last_digit n) (last_digit_passes n) ∙ omega arith

-- the last digits of a number, one more each time
last_two : (n : ℕ) → n / 10 % 10 * 10 + n % 10 ≡ n % 100
last_two n = omega arith

last_three : (n : ℕ) → n / 100 % 10 * 100 + n % 100 ≡ n % 1000
last_three n = omega arith

last_four : (n : ℕ) → n / 1000 % 10 * 1000 + n % 1000 ≡ n % 10000
last_four n = omega arith

last_five : (n : ℕ) → n / 10000 % 10 * 10000 + n % 10000 ≡ n % 100000
last_five n = omega arith

last_six : (n : ℕ) → n / 100000 % 10 * 100000 + n % 100000 ≡ n % 1000000
last_six n = omega arith

six_value : (n : ℕ) → digits_value 10 (six_digits n) ≡ n % 1000000
six_value n = rw (
  last_digit_value (n / 100000),
  last_digit_value (n / 10000),
  last_digit_value (n / 1000),
  last_digit_value (n / 100),
  last_digit_value
      (n / 10),
  last_digit_value n,
) (omega (arith, last_two n, last_three n, last_four n, last_five n, last_six n))

abbrev written_parts : Sign → ℕ → MetresParts
written_parts sign n = record { before = []; sign = sign; whole = decimal (n / 1000000); fraction = Some (six_digits n); after = [] }

size_is : (n : ℕ) → n < 10 ^ 15 → micrometres (decimal (n / 1000000)) (six_digits n) ≡ n
size_is n small =
    let whole : digits_value 10 (decimal (n / 1000000)) ≡ n / 1000000 = digits_value-decimal own (n / 1000000) (omega arith) in
    let rest = six_value n in
    omega (arith, whole, rest)

written_is_metres : (sign : Sign) (n : ℕ) → n < 10 ^ 15 → IsMetres (sign_text sign ++ size_text n) (written_parts sign n)
written_is_metres sign n small = record {
  blank_before = tt;
  blank_after = tt;
  digits_before = digits_decimal own (n / 1000000) (omega arith);
  digits_after = six_pass n;
  whole_limit = length-decimal-le 9 (n / 1000000) (omega arith) (omega arith) (omega arith);
  fraction_limit = omega arith;
  some_digit = omega arith;
  spelled = ap (λ (t : List ℕ). sign_text sign ++ t) (append_assoc (decimal (n / 1000000)) (46 ∷ []) (six_digits n)
      ∙ ap (λ (t : List ℕ). decimal (n / 1000000) ++ (46 ∷ t)) (sym (append-nil (six_digits n))));
}

pub written_is_read : (z : ℤ) → unsigned_abs z < 10 ^ 15 → (parts : MetresParts) × IsMetres (metres_text z) parts × (mileage_told parts ≡ record { 0 = z })
written_is_read (pos n) small = (written_parts unsigned n, written_is_metres unsigned n small, ap (λ (k : ℕ). record { 0 = pos k }) (size_is n small))
written_is_read (negsuc n) small = (
  written_parts minus (suc n),
  written_is_metres minus (suc n) small,
  ap (λ (k : ℕ). record {
    0 = neg_ℤ (pos k);
  }) (size_is (suc n) small),
)

pub reads_again : (text : List ℕ) (z : ℤ) → unsigned_abs z < 10 ^ 15 → text ≡ metres_text z → reading_of (parts_of text) ≡ Some (record { 0 = z })
reads_again text z small e =
    let w = written_is_read z small in
    reads text w.0 (rw e w.1) ∙ ap (λ (m : Micro). Some m) w.2
