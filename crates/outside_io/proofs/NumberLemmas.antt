-- Numbers and their canonical decimals.
use Rattle.std.proofs.Common.{◌≡◌, inl, inr, ℕ, zero, suc, ◌+◌, ◌-◌, ◌*◌, ◌<◌, ◌≤◌, ◌^◌, List, [], ◌∷◌, length, drop, get_or, refl}
use Rattle.std.proofs.Common.{sym, ◌∙◌, ap, subst, arith, lit<}
use Rattle.std.specs.Char.{digit_value}
use Rattle.std.specs.Fmt.{decimal}
use Rattle.std.specs.Int.{IsInRange}
use Rattle.std.specs.Str.Parse.{AllDigits, digits_value, digits_value_after}
use Rattle.std.proofs.lemmas.Str.{digit_value_digit}
use Rattle.std.proofs.lemmas.List.{drop_more, drop_all}
use Rattle.std.proofs.lemmas.Str.Parse.{IsNumeralModel, numerals_by_value, tells_digits, digit_from_value}
use Rattle.std.proofs.lemmas.Fmt.{decimal_is_IsNumeral, decimal-digits_value, decimal_digit, first_decimal, decimal_injective}
use Rattle.outside_io.specs.Fields.{EndsField, IsOneField}
use Rattle.outside_io.specs.Numbers.{BeginsCanonical}

-- ---- how a decimal begins

first_digit : (ds : List ℕ) → AllDigits 10 ds → 0 < length ds → get_or ds 0 0 < 58
first_digit [] h some = absurd (omega arith)
first_digit (d ∷ ds) h some = let range = digit_from_value d h.0 in omega arith

zero_begins : BeginsCanonical (decimal 0)
zero_begins =
    let same : decimal 0 ≡ 48 ∷ [] = decimal_digit 0 (lit< tt) in
    subst BeginsCanonical (sym same) (record { above = omega arith; below = omega arith; alone = λ z. refl })

pub decimal_begins : (n : ℕ) → n < 2 ^ 64 → BeginsCanonical (decimal n)
decimal_begins zero small = zero_begins
decimal_begins (suc n) small =
    let numeral = (decimal_is_IsNumeral (suc n) small).0 in
    let above : 48 < get_or (decimal (suc n)) 0 0 = first_decimal (suc n) (omega arith) small in
    record { above = omega (arith, above); below = first_digit (decimal (suc n)) numeral.1 numeral.0; alone = λ z. absurd (omega (arith, above, z)) }

pub field_begins : (field : List ℕ) (n : ℕ) → n < 2 ^ 64 → field ≡ decimal n → BeginsCanonical field
field_begins field n small e = subst BeginsCanonical (sym e) (decimal_begins n small)

-- ---- what digits write

own : IsNumeralModel (AllDigits 10) (digits_value 10)
own = numerals_by_value (AllDigits 10) tells_digits

abbrev pub IsDecimal : List ℕ → ℕ → Type 0
IsDecimal field n = (n < 2 ^ 64) × (field ≡ decimal n)

-- the digits of the field up to the rest write the number
pub record IsValueTo (field rest : List ℕ) (number : ℕ) : Type 0 where
  pub small : number < 2 ^ 64
  pub value : digits_value_after 10 number rest ≡ digits_value 10 field
  pub to_all : AllDigits 10 rest → AllDigits 10 field
  pub from_all : AllDigits 10 field → AllDigits 10 rest

after_grows : (n : ℕ) (ds : List ℕ) → n ≤ digits_value_after 10 n ds
after_grows n [] = omega arith
after_grows n (d ∷ ds) = let more = after_grows (n * 10 + digit_value d) ds in omega (arith, more)

-- a digit that is none, or with which the number doesn't fit
pub stops : (field : List ℕ) (i number digit : ℕ) → i < length field → digit ≡ get_or field i 0 → IsValueTo field (drop i field) number →
    (IsInRange 48 57 digit → 2 ^ 64 ≤ number * 10 + (digit - 48)) → (n : ℕ) → n < 2 ^ 64 → field ≡ decimal n → ⊥
stops field i number digit within at h passes n small e =
    let numeral = decimal_is_IsNumeral n small in
    let all : AllDigits 10 field = subst (AllDigits 10) (sym e) numeral.0.1 in
    let value : digits_value 10 field ≡ n = ap (digits_value 10) e ∙ numeral.1 in
    stops_at (drop_more field i 0 within) (h.from_all all) (h.value ∙ value)
  where
    stops_at : drop i field ≡ get_or field i 0 ∷ drop (i + 1) field → AllDigits 10 (drop i field) → digits_value_after 10 number (drop i field) ≡ n → ⊥
    stops_at split all value =
        let d = subst (AllDigits 10) split all in
        let range = digit_from_value (get_or field i 0) d.0 in
        let worth = digit_value_digit (get_or field i 0) range in
        let grown = after_grows (number * 10 + digit_value (get_or field i 0)) (drop (i + 1) field) in
        let known : digits_value_after 10 (number * 10 + digit_value (get_or field i 0)) (drop (i + 1) field) ≡ n =
        ap (digits_value_after 10 number) (sym split) ∙ value in
        let big = passes (subst (IsInRange 48 57) (sym at) range) in
        omega (arith, grown, known, worth, big, at)

-- all digits are read
pub is_whole : (field : List ℕ) (i number : ℕ) → length field ≤ i → BeginsCanonical field → IsValueTo field (drop i field) number →
    IsDecimal field number
is_whole field i number end begins h =
    let none : drop i field ≡ [] = drop_all i field end in
    let value : number ≡ digits_value 10 field = ap (digits_value_after 10 number) (sym none) ∙ h.value in
    let all : AllDigits 10 field = h.to_all (subst (AllDigits 10) (sym none) tt) in
    let some : 0 < length field = some_in field begins.above in
    (h.small, sym (ap decimal value ∙ decimal-digits_value own field all some begins.alone (omega (arith, value, h.small))))
  where
    some_in : (ds : List ℕ) → 48 ≤ get_or ds 0 0 → 0 < length ds
    some_in [] h = omega arith
    some_in (d ∷ ds) h = omega arith

-- ---- one number a field

pub one_number : (field : List ℕ) (m n : ℕ) → m < 2 ^ 64 → n < 2 ^ 64 → field ≡ decimal m → field ≡ decimal n → m ≡ n
one_number field m n hm hn e f = decimal_injective m n hm hn (sym e ∙ f)

digits_are_one : (ds : List ℕ) → AllDigits 10 ds → IsOneField ds
digits_are_one [] h = tt
digits_are_one (d ∷ ds) h = let range = digit_from_value d h.0 in ((λ ends. no_end_digit d range.0 range.1 ends), digits_are_one ds h.1)
  where
    no_end_digit : (d : ℕ) → 48 ≤ d → d ≤ 57 → EndsField d → ⊥
    no_end_digit d from to (inl e) = omega (arith, e)
    no_end_digit d from to (inr e) = omega (arith, e)

-- a decimal is one field
pub decimal_is_one : (n : ℕ) → n < 2 ^ 64 → IsOneField (decimal n)
decimal_is_one n small = digits_are_one (decimal n) (decimal_is_IsNumeral n small).0.1
