-- A text is cut into the parts that spell it.
use Rattle.std.proofs.Common.{◌≡◌, ℕ, ◌+◌, ◌≤◌, Bool, true, false, cond, Option, Some, None, List, [], ◌∷◌, ◌++◌, length, refl, sym, ap, ◌∙◌, arith}
use Rattle.std.specs.Prelude.{◌==◌, IfSome}
use Rattle.std.specs.List.{list_all}
use Rattle.std.proofs.lemmas.Bool.Decides.{nat_tests}
use Rattle.std.proofs.lemmas.Bool.{leb-true, le-leb, and_parts}
use Rattle.railml_text.specs.Bytes.{AllOfClass, is_blank, front, past}
use Rattle.plan_core.specs.declared.numbers.Micro.{Micro}
use Rattle.std.specs.Char.{is_ascii_digit}
use Rattle.rail_mileage.specs.Metres.{Sign, unsigned, plus, minus, sign_text, fraction_text, fraction_digits, MetresParts, IsMetres, mileage_told}
use Rattle.rail_mileage.specs.Reading.{sign_at, past_sign, fraction_at, past_fraction, past_start, past_whole, parts_of, are_metres, reading_of}
use Rattle.railml_text.proofs.RunLemmas.{front-past, front_passes, take_front, past_no_longer}

-- a run that passes stops here
abbrev pub Stops : (ℕ → Bool) → List ℕ → Type 0
Stops p [] = Unit {0}
Stops p (b ∷ bytes) = p b ≡ false

front_run : (p : ℕ → Bool) (run rest : List ℕ) → AllOfClass p run → Stops p rest → front p (run ++ rest) ≡ run
front_run p [] [] h s = refl
front_run p [] (b ∷ rest) h s = rw s refl
front_run p (b ∷ run) rest h s = rw h.0 (ap (λ (t : List ℕ). b ∷ t) (front_run p run rest h.1 s))

past_run : (p : ℕ → Bool) (run rest : List ℕ) → AllOfClass p run → Stops p rest → past p (run ++ rest) ≡ rest
past_run p [] [] h s = refl
past_run p [] (b ∷ rest) h s = rw s refl
past_run p (b ∷ run) rest h s = rw h.0 (past_run p run rest h.1 s)

digit_no_blank : (b : ℕ) → is_ascii_digit b ≡ true → is_blank b ≡ false
digit_no_blank b h = grind (arith, nat_tests)

digit_no_sign : (b : ℕ) → is_ascii_digit b ≡ true → ((b == 43) ≡ false) × ((b == 45) ≡ false)
digit_no_sign b h = (grind (arith, nat_tests), grind (arith, nat_tests))

blank_no_digit : (b : ℕ) → is_blank b ≡ true → is_ascii_digit b ≡ false
blank_no_digit b h = grind (arith, nat_tests)

blank_no_point : (b : ℕ) → is_blank b ≡ true → (b == 46) ≡ false
blank_no_point b h = grind (arith, nat_tests)

-- ---- the text behind the white space, the sign and the whole digits

abbrev pub number_text : Sign → List ℕ → Option (List ℕ) → List ℕ → List ℕ
number_text sign whole fraction after = sign_text sign ++ (whole ++ (fraction_text fraction ++ after))

no_blank : (sign : Sign) (whole : List ℕ) (fraction : Option (List ℕ)) (after : List ℕ) → AllOfClass is_ascii_digit whole →
    1 ≤ length whole + length (fraction_digits fraction) → Stops is_blank (number_text sign whole fraction after)
no_blank plus whole fraction after h some = refl
no_blank minus whole fraction after h some = refl
no_blank unsigned (d ∷ whole) fraction after h some = digit_no_blank d h.0
no_blank unsigned [] (Some digits) after h some = refl
no_blank unsigned [] None after h some = absurd (omega arith)

-- no sign stands at the front
abbrev pub NoSign : List ℕ → Type 0
NoSign [] = Unit {0}
NoSign (b ∷ bytes) = ((b == 43) ≡ false) × ((b == 45) ≡ false)

no_sign : (whole : List ℕ) (fraction : Option (List ℕ)) (after : List ℕ) → AllOfClass is_ascii_digit whole →
    1 ≤ length whole + length (fraction_digits fraction) → NoSign (whole ++ (fraction_text fraction ++ after))
no_sign (d ∷ whole) fraction after h some = digit_no_sign d h.0
no_sign [] (Some digits) after h some = (refl, refl)
no_sign [] None after h some = absurd (omega arith)

sign_again : (sign : Sign) (rest : List ℕ) → NoSign rest → (sign_at (sign_text sign ++ rest) ≡ sign) × (past_sign (sign_text sign ++ rest) ≡ rest)
sign_again plus rest h = (refl, refl)
sign_again minus rest h = (refl, refl)
sign_again unsigned [] h = (refl, refl)
sign_again unsigned (b ∷ rest) h = (rw (h.0, h.1) refl, rw (h.0, h.1) refl)

no_digit : (fraction : Option (List ℕ)) (after : List ℕ) → AllOfClass is_blank after → Stops is_ascii_digit (fraction_text fraction ++ after)
no_digit (Some digits) after h = refl
no_digit None [] h = tt
no_digit None (b ∷ after) h = blank_no_digit b h.0

fraction_again : (fraction : Option (List ℕ)) (after : List ℕ) → AllOfClass is_ascii_digit (fraction_digits fraction) → AllOfClass is_blank after →
    (fraction_at (fraction_text fraction ++ after) ≡ fraction) × (past_fraction (fraction_text fraction ++ after) ≡ after)
fraction_again (Some digits) after h k = let stop = no_digit None after k in (
  ap (λ (ds : List ℕ). Some ds) (front_run is_ascii_digit digits after h stop),
  past_run is_ascii_digit digits after h stop,
)
fraction_again None [] h k = (refl, refl)
fraction_again None (b ∷ after) h k = (rw (blank_no_point b k.0) refl, rw (blank_no_point b k.0) refl)

made : List ℕ → Sign → List ℕ → Option (List ℕ) → List ℕ → MetresParts
made before sign whole fraction after = record { before = before; sign = sign; whole = whole; fraction = fraction; after = after }

-- a text that parts spell is cut into them
pub parts_again : (text : List ℕ) (parts : MetresParts) → IsMetres text parts → parts_of text ≡ parts
unfolding made
parts_again text parts m =
    let start = number_text parts.sign parts.whole parts.fraction parts.after in
    let unsigned_start = parts.whole ++ (fraction_text parts.fraction ++ parts.after) in
    let stop = no_blank parts.sign parts.whole parts.fraction parts.after m.digits_before m.some_digit in
    let before : front is_blank text ≡ parts.before = ap (front is_blank) m.spelled ∙ front_run is_blank parts.before start m.blank_before stop in
    let behind : past is_blank text ≡ start = ap (past is_blank) m.spelled ∙ past_run is_blank parts.before start m.blank_before stop in
    let sign = sign_again parts.sign unsigned_start (no_sign parts.whole parts.fraction parts.after m.digits_before m.some_digit) in
    let behind_sign : past_start text ≡ unsigned_start = ap past_sign behind ∙ sign.1 in
    let digits_stop = no_digit parts.fraction parts.after m.blank_after in
    let whole : front is_ascii_digit (past_start text) ≡ parts.whole = ap (front is_ascii_digit) behind_sign
    ∙ front_run is_ascii_digit parts.whole _ m.digits_before digits_stop in
    let behind_whole : past_whole text ≡ fraction_text parts.fraction ++ parts.after = ap (past is_ascii_digit) behind_sign
    ∙ past_run is_ascii_digit parts.whole _ m.digits_before digits_stop in
    let fraction = fraction_again parts.fraction parts.after m.digits_after m.blank_after in
    ap (λ (x : List ℕ). made x (sign_at (past is_blank text)) (front is_ascii_digit (past_start text)) (fraction_at (past_whole text))
    (past_fraction (past_whole text))) before
    ∙ ap (λ (x : Sign). made parts.before x (front is_ascii_digit (past_start text)) (fraction_at (past_whole text)) (past_fraction (past_whole text)))
    (ap sign_at behind ∙ sign.0)
    ∙ ap (λ (x : List ℕ). made parts.before parts.sign x (fraction_at (past_whole text)) (past_fraction (past_whole text))) whole
    ∙ ap (λ (x : Option (List ℕ)). made parts.before parts.sign parts.whole x (past_fraction (past_whole text))) (ap fraction_at behind_whole ∙ fraction.0)
    ∙ ap (λ (x : List ℕ). made parts.before parts.sign parts.whole parts.fraction x) (ap past_fraction behind_whole ∙ fraction.1)

pub one_reading : (text : List ℕ) (a b : MetresParts) → IsMetres text a → IsMetres text b → a ≡ b
one_reading text a b h k = sym (parts_again text a h) ∙ parts_again text b k

-- ---- the test of the parts

all_blank : (bytes : List ℕ) → AllOfClass is_blank bytes → list_all is_blank bytes ≡ true
all_blank [] h = refl
all_blank (b ∷ bytes) h = rw h.0 (all_blank bytes h.1)

passes_all : (p : ℕ → Bool) (bytes : List ℕ) → list_all p bytes ≡ true → AllOfClass p bytes
passes_all p [] h = tt
passes_all p (b ∷ bytes) h = let k = and_parts (p b) (list_all p bytes) h in (k.0, passes_all p bytes k.1)

pub accepted : (text : List ℕ) (parts : MetresParts) → IsMetres text parts → are_metres parts ≡ true
accepted text parts m =
    let digits = fraction_digits parts.fraction in
    rw (
      all_blank parts.after m.blank_after,
      le-leb (length parts.whole) 9 m.whole_limit,
      le-leb (length digits) 6 m.fraction_limit,
      le-leb 1
          (length parts.whole + length digits) m.some_digit,
    ) refl

-- ---- the parts spell the text

sign_whole : (text : List ℕ) → sign_text (sign_at text) ++ past_sign text ≡ text
sign_whole [] = refl
sign_whole (b ∷ text) = grind (arith, nat_tests)

fraction_whole : (text : List ℕ) → fraction_text (fraction_at text) ++ past_fraction text ≡ text
fraction_whole [] = refl
fraction_whole (b ∷ text) = elim (b == 46) as (λ v. (b == 46) ≡ v → fraction_text (cond v (Some (front is_ascii_digit text)) None) ++ cond v
    (past is_ascii_digit text) (b ∷ text) ≡ b ∷ text) [
      | true ↦ λ e. let point : 46 ≡ b = grind (arith, nat_tests) in ap (λ (t : List ℕ). 46 ∷ t) (front-past is_ascii_digit text)
          ∙ ap (λ (x : ℕ). x ∷ text) point
      | false ↦ λ e. refl
    ] refl

fraction_passes : (text : List ℕ) → AllOfClass is_ascii_digit (fraction_digits (fraction_at text))
fraction_passes [] = tt
fraction_passes (b ∷ text) = elim (b == 46) as (λ v. AllOfClass is_ascii_digit (fraction_digits (cond v (Some (front is_ascii_digit text)) None))) [
  | true ↦ front_passes is_ascii_digit text
  | false ↦ tt
]

pub are_parts : (text : List ℕ) → are_metres (parts_of text) ≡ true → IsMetres text (parts_of text)
are_parts text h =
    let parts = parts_of text in
    let digits = fraction_digits parts.fraction in
    let some = and_parts _ _ h in
    let short = and_parts _ _ some.0 in
    let few = and_parts _ _ short.0 in
    record {
      blank_before = front_passes is_blank text;
      blank_after = passes_all is_blank parts.after few.0;
      digits_before = front_passes is_ascii_digit (past_start text);
      digits_after = fraction_passes (past_whole text);
      whole_limit = leb-true _ _ few.1;
      fraction_limit = leb-true _ _ short.1;
      some_digit = leb-true _ _ some.1;
      spelled = sym (front-past is_blank text) ∙ ap (λ (t : List ℕ). front is_blank text ++ t)
          (sym (sign_whole (past is_blank text)) ∙ ap (λ (t : List ℕ). sign_text (sign_at (past is_blank text)) ++ t)
          (sym (front-past is_ascii_digit (past_start text)) ∙ ap (λ (t : List ℕ). front is_ascii_digit (past_start text) ++ t)
          (sym (fraction_whole (past_whole text)))));
    }

-- ---- the two public clauses, from the private one

pub reads : (text : List ℕ) (parts : MetresParts) → IsMetres text parts → reading_of (parts_of text) ≡ Some (mileage_told parts)
reads text parts m = ap reading_of (parts_again text parts m) ∙ rw (accepted text parts m) refl

pub only : (text : List ℕ) (r : Option Micro) → r ≡ reading_of (parts_of text) →
    IfSome r (λ m. (parts : MetresParts) × IsMetres text parts × (m ≡ mileage_told parts))
only text r e = rw e (elim (are_metres (parts_of text)) as (λ v. are_metres (parts_of text) ≡ v → IfSome
    (cond {A = Option Micro} v (Some (mileage_told (parts_of text))) None) (λ m. (parts : MetresParts) × IsMetres text parts × (m ≡ mileage_told parts))) [
      | true ↦ λ h. (parts_of text, are_parts text h, refl)
      | false ↦ λ h. tt
    ] refl)

-- the run at the front of a text, and what is past it
pub ruleset front_and_past = (take_front, past_no_longer, front_passes)
