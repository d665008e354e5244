-- Mileages as a sheet tells them.
use Rattle.std.proofs.Common.{◌≡◌, ◌≢◌, inl, inr, ℕ, suc, ◌+◌, ◌/◌, ◌<◌, ◌≤◌, ◌^◌, Bool, true, false, List, [], ◌∷◌, ◌++◌, length, None, Some, IfSome}
use Rattle.std.proofs.Common.{MatchOption, is_some, refl, sym, ◌∙◌, ap, subst, arith, append_assoc, length-append, length-drop, take, drop, ◌-◌, ◌*◌}
use Rattle.std.specs.Prelude.{IsTrue, ◌↔◌, ℤ, pos, negsuc, neg_ℤ, ◌<ℤ◌, codes}
use Rattle.std.specs.declared.option.Option.{Option}
use Rattle.std.specs.Fmt.{decimal}
use Rattle.std.specs.List.{AllByRecursion}
use Rattle.std.proofs.lemmas.Bool.{false≢true}
use Rattle.std.proofs.lemmas.Int.{ints}
use Rattle.std.proofs.lemmas.List.{take-append-drop}
use Rattle.plan_core.specs.Topology.{IsMileage}
use Rattle.outside_io.specs.Fields.{EndsField, IsOneField}
use Rattle.outside_io.specs.Numbers.{IsNumberIn, BeginsCanonical}
use Rattle.outside_io.proofs.NumberLemmas.{field_begins, decimal_is_one}
use Rattle.rail_mileage.specs.MetresText.{six_digits, size_text, metres_text}
use Rattle.rail_mileage.proofs.WrittenLemmas.{six_are_digits}
use Rattle.plan_write.specs.declared.sheet.TheConstants.{MAX_METRES}
use Rattle.plan_write.specs.SheetLine.{AreDigits, IsWholeMetres, IsFraction, IsSize, minus_text, IsMileageText, field_told}

-- ---- a size, cut in front of its last seven bytes

pub record SameParts (whole other behind rest : List ℕ) : Type 0 where
  pub whole_is : whole ≡ other
  pub behind_is : behind ≡ rest

pub same_parts : (whole other behind rest : List ℕ) → length behind ≡ length rest → whole ++ behind ≡ other ++ rest → SameParts whole other behind rest
same_parts [] [] behind rest n e = record { whole_is = refl; behind_is = e }
same_parts [] (b ∷ other) behind rest n e = let k = ap length e in let m = length-append other rest in absurd (omega (arith, n, k, m))
same_parts (a ∷ whole) [] behind rest n e = let k = ap length e in let m = length-append whole behind in absurd (omega (arith, n, k, m))
same_parts (a ∷ whole) (b ∷ other) behind rest n e =
    let head : a ≡ b = cc in
    let tail : whole ++ behind ≡ other ++ rest = cc in
    let same = same_parts whole other behind rest n tail in
    record { whole_is = cc (head, same.whole_is); behind_is = same.behind_is }

pub size_length : (text : List ℕ) (s : IsSize text) → length text ≡ length s.whole + 7
size_length text s =
    let n = ap length s.spelled in
    let k = length-append s.whole (46 ∷ s.fraction) in
    let six = s.is_fraction.six in
    omega (arith, n, k, six)

pub size_cut : (text whole behind : List ℕ) → text ≡ whole ++ behind → length behind ≡ 7 → (s : IsSize text) → SameParts whole s.whole behind (46 ∷ s.fraction)
size_cut text whole behind cut seven s =
    let six = s.is_fraction.six in
    same_parts whole s.whole behind (46 ∷ s.fraction) (omega (arith, seven, six)) (sym cut ∙ s.spelled)

-- ---- a mileage is one field

no_end_at : (b : ℕ) → 33 ≤ b → EndsField b → ⊥
no_end_at b large (inl e) = omega (arith, large, e)
no_end_at b large (inr e) = omega (arith, large, e)

one_by : (a b : List ℕ) → b ≡ a → IsOneField a → IsOneField b
one_by a b e h = rw e h

digits_are_one : (digits : List ℕ) → AreDigits digits → IsOneField digits
digits_are_one [] h = tt
digits_are_one (d ∷ digits) h = ((λ ends. no_end_at d (omega (arith, h.0)) ends), digits_are_one digits h.1)

-- whole metres are the decimal of a number of 64 bits
whole_small : (n : ℕ) → n ≤ MAX_METRES → n < 2 ^ 64
whole_small n to = omega arith

whole_is_one : (whole : List ℕ) → IsWholeMetres whole → IsOneField whole
whole_is_one whole w = one_by (decimal w.0) whole w.1.written (decimal_is_one w.0 (whole_small w.0 w.1.to))

joined : (a b : List ℕ) → IsOneField a → IsOneField b → IsOneField (a ++ b)
joined [] b h k = k
joined (x ∷ a) b h k = (h.0, joined a b h.1 k)

size_is_one : (text : List ℕ) → IsSize text → IsOneField text
size_is_one text s =
    one_by (s.whole ++ 46 ∷ s.fraction) text s.spelled
    (joined s.whole (46 ∷ s.fraction) (whole_is_one s.whole s.is_whole) (
      (λ e. no_end_at 46 (omega arith) e),
      digits_are_one s.fraction
          s.is_fraction.are_digits,
    ))

sign_is_one : (is_negative : Bool) → IsOneField (minus_text is_negative)
sign_is_one true = ((λ e. no_end_at 45 (omega arith) e), tt)
sign_is_one false = tt

pub mileage_is_one : (text : List ℕ) → IsMileageText text → IsOneField text
mileage_is_one text m = one_by (minus_text m.is_negative ++ m.size) text m.spelled
    (joined (minus_text m.is_negative) m.size (sign_is_one m.is_negative) (size_is_one m.size m.is_size))

pub told_is_one : (mileage : Option (List ℕ)) → IfSome mileage IsMileageText → AllByRecursion IsOneField (field_told mileage)
told_is_one None h = tt
told_is_one (Some text) h = (mileage_is_one text h, tt)

-- ---- the sign in front

-- a size begins with a digit
minus_or_digit : (size behind whole : List ℕ) → BeginsCanonical whole → 45 ∷ size ≡ whole ++ behind → ⊥
minus_or_digit size behind [] begins e = let digit = begins.above in omega (arith, digit)
minus_or_digit size behind (d ∷ whole) begins e =
    let first : 45 ≡ d = cc in
    let digit = begins.above in
    omega (arith, first, digit)

pub no_minus_in_size : (size : List ℕ) → IsSize (45 ∷ size) → ⊥
no_minus_in_size size s =
    let whole = s.is_whole.1 in
    minus_or_digit size (46 ∷ s.fraction) s.whole (field_begins s.whole s.is_whole.0 (whole_small s.is_whole.0 whole.to) whole.written) s.spelled

second_of : (x y : List ℕ) → 45 ∷ x ≡ 45 ∷ y → x ≡ y
second_of x y e = cc

-- behind a minus stands a size
pub behind_minus : (text size : List ℕ) → text ≡ 45 ∷ size → IsMileageText text → IsSize size
behind_minus text size is m = at m.is_negative m.spelled
  where
    at : (negative : Bool) → text ≡ minus_text negative ++ m.size → IsSize size
    at true e = let same : size ≡ m.size = second_of size m.size (sym is ∙ e) in rw same m.is_size
    at false e = let same : 45 ∷ size ≡ m.size = sym is ∙ e in absurd (no_minus_in_size size (rw same m.is_size))

-- where no minus stands, the whole is a size
pub without_minus : (text : List ℕ) → ((size : List ℕ) → text ≡ 45 ∷ size → ⊥) → IsMileageText text → IsSize text
without_minus text none m = at m.is_negative m.spelled
  where
    at : (negative : Bool) → text ≡ minus_text negative ++ m.size → IsSize text
    at true e = absurd (none m.size e)
    at false e = rw e m.is_size

-- ---- what is written has the form

whole_is : (k : ℕ) → k < 10 ^ 10 → IsWholeMetres (decimal k)
whole_is k small = (k, record { written = refl; from = omega arith; to = omega (arith, small) })

size_is : (n : ℕ) → n < 10 ^ 16 → IsSize (size_text n)
size_is n small = record {
  whole = decimal (n / 1000000);
  fraction = six_digits n;
  is_whole = whole_is (n / 1000000) (omega (arith, small));
  is_fraction = record { are_digits = six_are_digits n; six = refl };
  spelled = append_assoc (decimal (n / 1000000)) (46 ∷ []) (six_digits n);
}

below_pos : (n b : ℕ) → pos n <ℤ pos b → n < b
below_pos n b less = omega (arith, ints)

below_neg : (n b : ℕ) → neg_ℤ (pos b) <ℤ negsuc n → suc n < b
below_neg n b less = omega (arith, ints)

pub written_mileage : (z : ℤ) → IsMileage z → IsMileageText (metres_text z)
written_mileage (pos n) near = let small = below_pos n (3000000000 * 1000000) near.1 in record {
  is_negative = false;
  size = size_text n;
  is_size = size_is n (omega (arith, small));
  spelled = refl;
}
written_mileage (negsuc n) near = let small = below_neg n (3000000000 * 1000000) near.0 in record {
  is_negative = true;
  size = size_text (suc n);
  is_size = size_is (suc n) (omega (arith, small));
  spelled = refl;
}

-- ---- the tests

pub whole_iff : (text : List ℕ) (o : Option ℕ) (b : Bool) → MatchOption o ((n : ℕ) → IsNumberIn 0 MAX_METRES text n → ⊥) (IsNumberIn 0 MAX_METRES text) →
    b ≡ is_some o → IsTrue b ↔ IsWholeMetres text
whole_iff text None b h e = (λ t. absurd (false≢true (sym e ∙ t)), λ w. absurd (h w.0 w.1))
whole_iff text (Some n) b h e = (λ t. (n, h), λ w. e)

pub fraction_iff : (text : List ℕ) (b : Bool) → length text ≡ 6 → IsTrue b ↔ AreDigits text → IsTrue b ↔ IsFraction text
fraction_iff text b six e = (λ t. record { are_digits = e.0 t; six = six }, λ f. e.1 f.are_digits)

pub never : (b : Bool) (P : Type 0) → b ≡ false → (P → ⊥) → IsTrue b ↔ P
never b P so none = (λ t. absurd (false≢true (sym so ∙ t)), λ p. absurd (none p))

pub too_short : (text : List ℕ) → length text < 7 → IsSize text → ⊥
too_short text short s = let n = size_length text s in omega (arith, n, short)

pub record SevenBehind (text whole rest : List ℕ) : Type 0 where
  pub cut : text ≡ whole ++ rest
  pub seven : length rest ≡ 7

pub cut_seven : (text whole rest : List ℕ) → 7 ≤ length text → whole ≡ take (length text - 7) text → rest ≡ drop (length text - 7) text →
    SevenBehind text whole rest
cut_seven text whole rest long front back = record {
  cut = sym (take-append-drop (length text - 7) text) ∙ ap (λ (t : List ℕ). t ++ drop (length text - 7) text) (sym front)
      ∙ ap (λ (t : List ℕ). whole ++ t) (sym back);
  seven = let n = ap length back in let k = length-drop (length text - 7) text in omega (arith, n, k, long);
}

pub no_point : (text whole rest : List ℕ) → text ≡ whole ++ rest → length rest ≡ 7 → ((fraction : List ℕ) → rest ≢ codes "." ++ fraction) → IsSize text → ⊥
no_point text whole rest cut seven none s = none s.fraction (size_cut text whole rest cut seven s).behind_is

pub no_whole : (text whole rest : List ℕ) (b : Bool) → text ≡ whole ++ rest → length rest ≡ 7 → IsTrue b ↔ IsWholeMetres whole → b ≡ false → IsSize text → ⊥
no_whole text whole rest b cut seven tests so s =
    let same = (size_cut text whole rest cut seven s).whole_is in
    false≢true (sym so ∙ tests.1 (subst IsWholeMetres (sym same) s.is_whole))

third_of : (x y : List ℕ) → 46 ∷ x ≡ 46 ∷ y → x ≡ y
third_of x y e = cc

pub size_iff : (text whole rest fraction : List ℕ) (b c : Bool) → text ≡ whole ++ rest → length rest ≡ 7 → rest ≡ codes "." ++ fraction →
    IsTrue b ↔ IsWholeMetres whole → b ≡ true → IsTrue c ↔ IsFraction fraction → IsTrue c ↔ IsSize text
size_iff text whole rest fraction b c cut seven point tests so last = (
  λ t. record { whole = whole; fraction = fraction; is_whole = tests.0 so; is_fraction = last.0 t; spelled = cut ∙ ap (λ (r : List ℕ). whole ++ r) point },
  λ s. let parts = size_cut text whole rest cut seven s in last.1 (subst IsFraction
      (sym (third_of fraction s.fraction (sym point ∙ parts.behind_is))) s.is_fraction),
)

pub minus_iff : (field size : List ℕ) (b : Bool) → field ≡ codes "-" ++ size → IsTrue b ↔ IsSize size → IsTrue b ↔ IsMileageText field
minus_iff field size b e tests = (λ t. record { is_negative = true; size = size; is_size = tests.0 t; spelled = e }, λ m. tests.1 (behind_minus field size e m))

pub plain_iff : (field : List ℕ) (b : Bool) → ((size : List ℕ) → field ≢ codes "-" ++ size) → IsTrue b ↔ IsSize field → IsTrue b ↔ IsMileageText field
plain_iff field b none tests = (
  λ t. record {
    is_negative = false;
    size = field;
    is_size = tests.0 t;
    spelled = refl;
  },
  λ m. tests.1 (without_minus field none m),
)
