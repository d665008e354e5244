-- References.
use Rattle.std.proofs.Common.{◌≡◌, ◌≢◌, ℕ, zero, suc, ◌<◌, ◌≤◌, Bool, true, false, cond, ◌==◌, ◌&&◌, not, nat_le, nat_lt, codes, Option, Some, None, List, []}
use Rattle.std.proofs.Common.{◌∷◌, ◌++◌, length, length-take, get_or, take, ◌+◌, ◌*◌, ◌^◌, lit<, Ok, Err, refl, sym, ap, ◌∙◌, subst, append_assoc, arith, inl}
use Rattle.std.proofs.Common.{inr}
use Rattle.std.specs.Prelude.{⊤, Contains}
use Rattle.std.specs.Char.{IsScalar, is_digit, digit_value}
use Rattle.std.specs.Str.Parse.{AllDigits, digits_value}
use Rattle.std.specs.List.{AllByRecursion}
use Rattle.std.proofs.lemmas.Bool.Decides.{nat_tests}
use Rattle.std.proofs.lemmas.List.Elements.{All-contains, All-from_recursion, Contains-append_left, Contains-append_right, Contains-push}
use Rattle.std.proofs.lemmas.Int.Digits.{digits_value-lt, digits_value_more}
use Rattle.std.proofs.Math.Nat.{pow-le-pow_left, pow-le-pow_right}
use Rattle.std.proofs.lemmas.Bool.{and_parts, false_from_ne_true}
use lib.Utf8.{scalar}
use Rattle.railml_text.specs.Bytes.{AllOfClass, front, past}
use Rattle.railml_text.specs.References.{named_references, IsNumbered, IsReference}
use Rattle.railml_text.specs.Reading.{Read, word_at, named_or, find_named, character_and, ended_number, number_at, number_or, or_else, by_number_at}
use Rattle.railml_text.specs.Reading.{reference_at}
use Rattle.railml_text.proofs.RunLemmas.{same_if_eq, front-past, front_passes, front_run, past_run}
use Rattle.railml_text.proofs.ReaderLemmas.{Law-word}

-- what holds of each reference by name
named_each : (P : List ℕ × ℕ → Type 0) → AllByRecursion P named_references → (text : List ℕ) (c : ℕ) → Contains named_references (text, c) → P (text, c)
named_each P h text c k = All-contains P named_references (text, c) (All-from_recursion P named_references h) k

-- a reference begins with `&`
pub reference_first : (text : List ℕ) (c : ℕ) → IsReference text c → (rest : List ℕ) × (text ≡ 38 ∷ rest)
reference_first text c (inl n) = named_each (λ entry. (rest : List ℕ) × (entry.0 ≡ 38 ∷ rest))
    ((codes "lt;", refl), ((codes "gt;", refl), ((codes "amp;", refl), ((codes "apos;", refl), ((codes "quot;", refl), tt))))) text c n
reference_first text c (inr (inl n)) = (codes "#" ++ n.digits ++ codes ";", n.spelled)
reference_first text c (inr (inr n)) = (codes "#x" ++ n.digits ++ codes ";", n.spelled)

-- what a reading of a reference took
pub record TakesReference (bytes : List ℕ) (c : ℕ) (rest : List ℕ) : Type 0 where
  pub text : List ℕ
  pub is : IsReference text c
  pub parts : bytes ≡ text ++ rest

-- ---- by name

record TakesNamed (table : List (List ℕ × ℕ)) (bytes : List ℕ) (c : ℕ) (rest : List ℕ) : Type 0 where
  text : List ℕ
  among : Contains table (text, c)
  parts : bytes ≡ text ++ rest

abbrev pub found : {X : Type 0} → X → List ℕ → Option (X × List ℕ)
found x rest = Some (x, rest)

pub found_rest : {X : Type 0} (x y : X) (rest tail : List ℕ) → found x rest ≡ found y tail → rest ≡ tail
found_rest {X = X} x y rest tail e = ap (λ (o : Option (X × List ℕ)). rest_of o) e
  where
    rest_of : Option (X × List ℕ) → List ℕ
    rest_of (Some p) = p.1
    rest_of None = []

pub found_value : {X : Type 0} (x y : X) (rest tail : List ℕ) → found x rest ≡ found y tail → x ≡ y
found_value {X = X} x y rest tail e = ap (λ (o : Option (X × List ℕ)). value_of o) e
  where
    value_of : Option (X × List ℕ) → X
    value_of (Some p) = p.0
    value_of None = x

find_takes : (table : List (List ℕ × ℕ)) (bytes : List ℕ) (c : ℕ) (rest : List ℕ) → find_named table bytes ≡ Some (c, rest) → TakesNamed table bytes c rest
find_takes [] bytes c rest e = absurd cc
find_takes (entry ∷ table) bytes c rest e = cases (word_at entry.0 bytes) refl e (find_takes table bytes c rest)
  where
    cases : (r : Read ⊤) → word_at entry.0 bytes ≡ r → named_or r entry.1 (find_named table bytes) ≡ Some (c, rest) →
        (find_named table bytes ≡ Some (c, rest) → TakesNamed table bytes c rest) → TakesNamed (entry ∷ table) bytes c rest
    cases (Ok x) h k ih =
        let t = (Law-word entry.0).takes bytes x.0 x.1 h in
        let character : entry.1 ≡ c = found_value entry.1 c x.1 rest k in
        let last : x.1 ≡ rest = found_rest entry.1 c x.1 rest k in
        record {
          text = entry.0;
          among = subst (λ (d : ℕ). Contains (entry ∷ table) (entry.0, d)) character (Contains-append_left (entry ∷ []) table entry (Contains-push [] entry));
          parts = t.parts ∙ ap (λ (u : List ℕ). u ++ x.1) t.is ∙ ap (λ (u : List ℕ). entry.0 ++ u) last;
        }
    cases (Err m) h k ih =
        let t = ih k in
        record { text = t.text; among = Contains-append_right (entry ∷ []) table (t.text, c) t.among; parts = t.parts }

find_again : (text : List ℕ) (c : ℕ) (rest : List ℕ) → Contains named_references (text, c) → find_named named_references (text ++ rest) ≡ Some (c, rest)
find_again text c rest k = named_each (λ entry. (after : List ℕ) → find_named named_references (entry.0 ++ after) ≡ Some (entry.1, after))
    ((λ after. refl), ((λ after. refl), ((λ after. refl), ((λ after. refl), ((λ after. refl), tt))))) text c k rest

-- ---- by number

abbrev digit : ℕ → ℕ → Bool
digit base b = is_digit b base

digits_pass : (base : ℕ) (digits : List ℕ) → AllDigits base digits → AllOfClass (digit base) digits
digits_pass base [] h = tt
digits_pass base (d ∷ digits) h = (lt_true (digit_value d) base h.0, digits_pass base digits h.1)
  where
    lt_true : (a b : ℕ) → a < b → nat_lt a b ≡ true
    lt_true a b l = grind (arith, nat_tests)

all_digits : (base : ℕ) (digits : List ℕ) → AllOfClass (digit base) digits → AllDigits base digits
all_digits base [] h = tt
all_digits base (d ∷ digits) h = (true_lt (digit_value d) base h.0, all_digits base digits h.1)
  where
    true_lt : (a b : ℕ) → nat_lt a b ≡ true → a < b
    true_lt a b e = grind (arith, nat_tests)

record TakesNumber (base : ℕ) (bytes : List ℕ) (c : ℕ) (rest : List ℕ) : Type 0 where
  digits : List ℕ
  some : 1 ≤ length digits
  few : length digits ≤ 8
  each : AllDigits base digits
  value : digits_value base digits ≡ c
  scalar : IsScalar c
  not_zero : c ≢ 0
  parts : bytes ≡ digits ++ 59 ∷ rest

le_true : (a b : ℕ) → nat_le a b ≡ true → a ≤ b
le_true a b e = grind (arith, nat_tests)

true_le : (a b : ℕ) → a ≤ b → nat_le a b ≡ true
true_le a b e = grind (arith, nat_tests)

not_zero_is : (n : ℕ) → not (n == 0) ≡ true → n ≢ 0
not_zero_is n e = λ h. let k : not (0 == 0) ≡ true = ap (λ (m : ℕ). not (m == 0)) (sym h) ∙ e in absurd cc

is_not_zero : (n : ℕ) → n ≢ 0 → not (n == 0) ≡ true
is_not_zero n h = grind (arith, nat_tests)

number_takes : (base : ℕ) (bytes : List ℕ) (c : ℕ) (rest : List ℕ) → number_at base bytes ≡ Some (c, rest) → TakesNumber base bytes c rest
number_takes base bytes c rest e = counted (nat_le 1 (length digits) && nat_le (length digits) 8) refl e
  where
    digits : List ℕ
    digits = front (digit base) bytes

    n : ℕ
    n = digits_value base digits

    character : (tail : List ℕ) → past (digit base) bytes ≡ 59 ∷ tail → (v : Bool) → (scalar n && not (n == 0)) ≡ v →
        cond {A = Option (ℕ × List ℕ)} v (Some (n, tail)) None ≡ Some (c, rest)
        → (1 ≤ length digits) × (length digits ≤ 8) → TakesNumber base bytes c rest
    character tail p true q k counts =
        let b = and_parts (scalar n) (not (n == 0)) q in
        let same : n ≡ c = found_value n c tail rest k in
        let last : tail ≡ rest = found_rest n c tail rest k in
        record {
          digits = digits;
          some = counts.0;
          few = counts.1;
          each = all_digits base digits (front_passes (digit base) bytes);
          value = same;
          scalar = subst IsScalar same b.0;
          not_zero = subst (λ (m : ℕ). m ≢ 0) same (not_zero_is n b.1);
          parts = sym (front-past (digit base) bytes) ∙ ap (λ (u : List ℕ). digits ++ u) (p ∙ ap (λ (u : List ℕ). 59 ∷ u) last);
        }
    character tail p false q k counts = absurd cc

    ended : (p : List ℕ) → past (digit base) bytes ≡ p → ended_number n p ≡ Some (c, rest) → (1 ≤ length digits) × (length digits ≤ 8) →
        TakesNumber base bytes c rest
    ended [] p k counts = absurd cc
    ended (b ∷ tail) p k counts = choose (b == 59) refl k
      where
        choose : (v : Bool) → (b == 59) ≡ v → cond {A = Option (ℕ × List ℕ)} v (character_and n tail) None ≡ Some (c, rest) → TakesNumber base bytes c rest
        choose true h q = character tail (p ∙ ap (λ (d : ℕ). d ∷ tail) (same_if_eq b 59 h)) (scalar n && not (n == 0)) refl q counts
        choose false h q = absurd cc

    counted : (v : Bool) → (nat_le 1 (length digits) && nat_le (length digits) 8) ≡ v →
        cond {A = Option (ℕ × List ℕ)} v (ended_number n (past (digit base) bytes)) None ≡ Some (c, rest) → TakesNumber base bytes c rest
    counted true h k =
        let b = and_parts (nat_le 1 (length digits)) (nat_le (length digits) 8) h in
        ended (past (digit base) bytes) refl k (le_true 1 (length digits) b.0, le_true (length digits) 8 b.1)
    counted false h k = absurd cc

number_again : (base : ℕ) (digits : List ℕ) (c : ℕ) (rest : List ℕ) → digit base 59 ≡ false → 1 ≤ length digits → length digits ≤ 8 → AllDigits base digits →
    digits_value base digits ≡ c → IsScalar c → c ≢ 0
    → number_at base (digits ++ 59 ∷ rest) ≡ Some (c, rest)
number_again base digits c rest no_digit some few each value is_scalar not_zero =
    let p = digits_pass base digits each in
    rw (
      front_run (digit base) digits 59 rest p no_digit,
      past_run (digit base) digits 59 rest p no_digit,
      true_le 1 (length digits) some,
      true_le
          (length digits) 8 few,
      value,
    )
    (rw (is_scalar, is_not_zero c not_zero) refl)

numbered_again : (base : ℕ) (opening text : List ℕ) (c : ℕ) (rest : List ℕ) (t : IsNumbered base opening text c) → digit base 59 ≡ false →
    number_at base (t.digits ++ 59 ∷ rest) ≡ Some (c, rest)
numbered_again base opening text c rest t no_digit = number_again base t.digits c rest no_digit t.some t.few t.each t.value t.scalar t.not_zero

numbered_parts : (base : ℕ) (opening text : List ℕ) (c : ℕ) (rest : List ℕ) (t : IsNumbered base opening text c) →
    text ++ rest ≡ opening ++ (t.digits ++ 59 ∷ rest)
numbered_parts base opening text c rest t = ap (λ (u : List ℕ). u ++ rest) t.spelled ∙ simp append_assoc

-- no digit of the base ten is an `x`
no_x : (d : ℕ) → digit_value d < 10 → (d == 120) ≡ false
no_x d h = false_from_ne_true (d == 120) (λ e. let same : d ≡ 120 = same_if_eq d 120 e in let k : digit_value 120 < 10 = subst (λ (m : ℕ). digit_value m < 10)
    same h in absurd (omega (arith, k)))

decimal_again : (digits rest : List ℕ) (c : ℕ) → 1 ≤ length digits → AllDigits 10 digits → number_at 10 (digits ++ 59 ∷ rest) ≡ Some (c, rest) →
    by_number_at (codes "&#" ++ (digits ++ 59 ∷ rest)) ≡ Some (c, rest)
unfolding by_number_at
decimal_again [] rest c some each h = absurd (omega arith)
decimal_again (d ∷ digits) rest c some each h = rw (no_x d each.0) h

hexadecimal_again : (digits rest : List ℕ) (c : ℕ) → number_at 16 (digits ++ 59 ∷ rest) ≡ Some (c, rest) →
    by_number_at (codes "&#x" ++ (digits ++ 59 ∷ rest)) ≡ Some (c, rest)
unfolding by_number_at
hexadecimal_again digits rest c h = h

by_number_takes : (bytes : List ℕ) (c : ℕ) (rest : List ℕ) → by_number_at bytes ≡ Some (c, rest) → TakesReference bytes c rest
unfolding by_number_at
by_number_takes bytes c rest e = hexadecimal (word_at (codes "&#x") bytes) refl e
  where
    numbered : (base : ℕ) (opening tail : List ℕ) → bytes ≡ opening ++ tail → number_at base tail ≡ Some (c, rest) →
        (t : List ℕ) × IsNumbered base opening t c × (bytes ≡ t ++ rest)
    numbered base opening tail p k =
        let t = number_takes base tail c rest k in (
          opening ++ t.digits ++ codes ";",
          record { digits = t.digits; some = t.some; few = t.few; each = t.each; value = t.value; scalar = t.scalar; not_zero = t.not_zero; spelled = refl },
          p ∙ ap (λ (u : List ℕ). opening ++ u) t.parts ∙ simp append_assoc,
        )

    parts : (word : List ℕ) (x : ⊤ × List ℕ) → word_at word bytes ≡ Ok x → bytes ≡ word ++ x.1
    parts word x h = let t = (Law-word word).takes bytes x.0 x.1 h in t.parts ∙ ap (λ (u : List ℕ). u ++ x.1) t.is

    decimal : (r : Read ⊤) → word_at (codes "&#") bytes ≡ r → number_or r 10 None ≡ Some (c, rest) → TakesReference bytes c rest
    decimal (Ok x) h k = let t = numbered 10 (codes "&#") x.1 (parts (codes "&#") x h) k in record { text = t.0; is = inr (inl t.1); parts = t.2 }
    decimal (Err m) h k = absurd cc

    hexadecimal : (r : Read ⊤) → word_at (codes "&#x") bytes ≡ r → number_or r 16 (number_or (word_at (codes "&#") bytes) 10 None) ≡ Some (c, rest) →
        TakesReference bytes c rest
    hexadecimal (Ok x) h k = let t = numbered 16 (codes "&#x") x.1 (parts (codes "&#x") x h) k in record { text = t.0; is = inr (inr t.1); parts = t.2 }
    hexadecimal (Err m) h k = decimal (word_at (codes "&#") bytes) refl k

-- ---- both

pub reference_takes : (bytes : List ℕ) (c : ℕ) (rest : List ℕ) → reference_at bytes ≡ Some (c, rest) → TakesReference bytes c rest
unfolding reference_at
reference_takes bytes c rest e = cases (find_named named_references bytes) refl e
  where
    cases : (o : Option (ℕ × List ℕ)) → find_named named_references bytes ≡ o → or_else o (by_number_at bytes) ≡ Some (c, rest) → TakesReference bytes c rest
    cases (Some x) h k = let t = find_takes named_references bytes c rest (h ∙ k) in record { text = t.text; is = inl t.among; parts = t.parts }
    cases None h k = by_number_takes bytes c rest k

pub reference_again : (text : List ℕ) (c : ℕ) (rest : List ℕ) → IsReference text c → reference_at (text ++ rest) ≡ Some (c, rest)
unfolding reference_at
reference_again text c rest (inl k) = rw (find_again text c rest k) refl
reference_again text c rest (inr (inl t)) = ap reference_at (numbered_parts 10 (codes "&#") text c rest t)
    ∙ decimal_again t.digits rest c t.some t.each (numbered_again 10 (codes "&#") text c rest t refl)
reference_again text c rest (inr (inr t)) = ap reference_at (numbered_parts 16 (codes "&#x") text c rest t)
    ∙ hexadecimal_again t.digits rest c (numbered_again 16 (codes "&#x") text c rest t refl)

-- bytes begin with at most one reference
pub one_reference : (text other : List ℕ) (c d : ℕ) (rest tail : List ℕ) → IsReference text c → IsReference other d → text ++ rest ≡ other ++ tail →
    (c ≡ d) × (rest ≡ tail)
one_reference text other c d rest tail r s e =
    let both : found c rest ≡ found d tail = sym (reference_again text c rest r) ∙ ap reference_at e ∙ reference_again other d tail s in
    (found_value c d rest tail both, found_rest c d rest tail both)

-- ---- what a reference is made of

pub record HasShape (text : List ℕ) (c : ℕ) : Type 0 where
  pub inner : List ℕ
  pub spelled : text ≡ 38 ∷ (inner ++ 59 ∷ [])
  pub no_ampersand : AllOfClass (λ b. not (b == 38)) inner
  pub scalar : IsScalar c

digit_no_ampersand : (base d : ℕ) → base ≤ 16 → digit_value d < base → not (d == 38) ≡ true
digit_no_ampersand base d l h = ap not (false_from_ne_true (d == 38) (λ e. let same : d ≡ 38 = same_if_eq d 38 e in let k : digit_value 38 < base = subst
    (λ (m : ℕ). digit_value m < base) same h in absurd (omega (arith, k, l))))

digits_no_ampersand : (base : ℕ) (digits : List ℕ) → base ≤ 16 → AllDigits base digits → AllOfClass (λ b. not (b == 38)) digits
digits_no_ampersand base [] l h = tt
digits_no_ampersand base (d ∷ digits) l h = (digit_no_ampersand base d l h.0, digits_no_ampersand base digits l h.1)

pub reference_shape : (text : List ℕ) (c : ℕ) → IsReference text c → HasShape text c
reference_shape text c (inl k) = named_each (λ entry. HasShape entry.0 entry.1) (
  record { inner = codes "lt"; spelled = refl; no_ampersand = (refl, (refl, tt)); scalar = refl },
  (
    record { inner = codes "gt"; spelled = refl; no_ampersand = (refl, (refl, tt)); scalar = refl },
    (
      record { inner = codes "amp"; spelled = refl; no_ampersand = (refl, (refl, (refl, tt))); scalar = refl },
      (
        record { inner = codes "apos"; spelled = refl; no_ampersand = (refl, (refl, (refl, (refl, tt)))); scalar = refl },
        (record { inner = codes "quot"; spelled = refl; no_ampersand = (refl, (refl, (refl, (refl, tt)))); scalar = refl }, tt),
      ),
    ),
  ),
) text c k
reference_shape text c (inr (inl t)) = record {
  inner = codes "#" ++ t.digits;
  spelled = t.spelled;
  no_ampersand = (refl, digits_no_ampersand 10 t.digits (omega arith) t.each);
  scalar = t.scalar;
}
reference_shape text c (inr (inr t)) = record {
  inner = codes "#x" ++ t.digits;
  spelled = t.spelled;
  no_ampersand = (refl, (refl, digits_no_ampersand 16 t.digits (omega arith) t.each));
  scalar = t.scalar;
}

-- ---- numbers fit

AllDigits-take : (base n : ℕ) (digits : List ℕ) → AllDigits base digits → AllDigits base (take n digits)
AllDigits-take base zero digits h = tt
AllDigits-take base (suc n) [] h = tt
AllDigits-take base (suc n) (d ∷ digits) h = (h.0, AllDigits-take base n digits h.1)

-- one more digit of at most eight
pub number_room : (base : ℕ) (digits : List ℕ) (i : ℕ) → base ≤ 16 → length digits ≤ 8 → AllDigits base digits → i < length digits →
    digits_value base (take i digits) * base + digit_value (get_or digits i 0) < 2 ^ 32
number_room base digits i small few each within =
    let front = take (i + 1) digits in
    let below : digits_value base front < base ^ length front = digits_value-lt base front (AllDigits-take base (i + 1) digits each) in
    let count : length front ≤ 8 = omega (arith, length-take (i + 1) digits) in
    let by_base : base ^ length front ≤ 16 ^ length front = pow-le-pow_left small (length front) in
    let by_count : 16 ^ length front ≤ 16 ^ 8 = pow-le-pow_right {n = 16} (lit< tt) count in
    omega (arith, digits_value_more base digits i within, below, by_base, by_count)

pub front_digits : (base : ℕ) (bytes : List ℕ) → AllDigits base (front (λ b. is_digit b base) bytes)
front_digits base bytes = all_digits base (front (digit base) bytes) (front_passes (digit base) bytes)
