-- Two lists of lines have different texts.
-- A lemma, which is cited by the law that a log in a file has one list of lines at most.
use Rattle.std.specs.Prelude.{◌≡◌, ◌≤◌, ◌<◌, ◌^◌, ℕ, Bool, true, false, decimal, map, List, [], ◌∷◌, ◌++◌, flat_map}
use Rattle.std.specs.Prelude.{refl}
use Rattle.std.specs.Str.Parse.{IsNumeral, AllDigits}
use Rattle.std.specs.Char.{digit_value}
use Rattle.std.proofs.Common.{sym, ◌∙◌, ap, subst, arith, append_assoc, get_or}
use Rattle.std.proofs.lemmas.Fmt.{decimal_injective, decimal_is_IsNumeral}
use Rattle.std.proofs.lemmas.List.{append_cancel_left, append-nil}
use Rattle.plan_core.specs.declared.criterion.Criterion.{Criterion}
use Rattle.cnf_core.specs.Lit.{Literal}
use Rattle.cnf_core.specs.declared.literal.Var.{Var}
use Rattle.cnf_core.specs.Clause.{AreThere}
use Rattle.outside_io.specs.Criteria.{criterion_word}
use Rattle.outside_io.specs.Fields.{spaced}
use Rattle.outside_io.proofs.CriterionLemmas.{word_in_front}
use Rattle.refute_log.specs.declared.line.LogLine.{LogLine}
use Rattle.refute_log.specs.declared.line.LogLine.TheVariants.{Formula, Learnt, Bound, Query, Refuted, Model}
use Rattle.cnf_core.specs.declared.limits.TheConstants.{LAST_VAR}
use Rattle.refute_log.specs.Lines.{IsWellFormed, AreWellFormed, literal_sign, literal_text, clause_fields, ended_text}
use Rattle.refute_log.specs.Lines.{header, log_text, MayAllBeTold}
use Rattle.refute_log.specs.FieldText.{trailed, literals_text}

abbrev pub IsNoDigit : ℕ → Type 0
IsNoDigit b = digit_value b < 10 → ⊥

pub space_is_no_digit : IsNoDigit 32
space_is_no_digit h = omega arith

pub feed_is_no_digit : IsNoDigit 10
feed_is_no_digit h = omega arith

minus_is_no_digit : IsNoDigit 45
minus_is_no_digit h = omega arith

-- digits end where something else comes
pub record SameEnd (xs ys : List ℕ) (b c : ℕ) (r s : List ℕ) : Type 0 where
  pub front : xs ≡ ys
  pub next : b ≡ c
  pub rest : r ≡ s

pub split_digits : (xs ys : List ℕ) (b c : ℕ) (r s : List ℕ) → AllDigits 10 xs → AllDigits 10 ys → IsNoDigit b →
    IsNoDigit c → xs ++ b ∷ r ≡ ys ++ c ∷ s → SameEnd xs ys b c r s
split_digits [] [] b c r s h k nb nc e = record { front = refl; next = cc; rest = cc }
split_digits [] (y ∷ ys) b c r s h k nb nc e = let f : y ≡ b =
    cc in absurd (nb (subst (λ (v : ℕ). digit_value v < 10) f k.0))
split_digits (x ∷ xs) [] b c r s h k nb nc e = let f : x ≡ c =
    cc in absurd (nc (subst (λ (v : ℕ). digit_value v < 10) f h.0))
split_digits (x ∷ xs) (y ∷ ys) b c r s h k nb nc e =
    let f : x ≡ y = cc in
    let g : xs ++ b ∷ r ≡ ys ++ c ∷ s = cc in
    let more = split_digits xs ys b c r s h.1 k.1 nb nc g in
    record { front = cc (f, more.front); next = more.next; rest = more.rest }

no_minus : (ds r t : List ℕ) → IsNumeral 10 ds → ds ++ r ≡ 45 ∷ t → ⊥
no_minus [] r t h e = omega arith
no_minus (x ∷ xs) r t h e = let f : x ≡ 45 = cc in minus_is_no_digit (subst (λ (v : ℕ). digit_value v < 10) f h.1.0)

pub record SameNumber (p q : Bool) (ds es : List ℕ) (b c : ℕ) (r s : List ℕ) : Type 0 where
  pub sign : p ≡ q
  pub digits : ds ≡ es
  pub next : b ≡ c
  pub rest : r ≡ s

-- a number ends where something else than a digit comes
pub split_number : (p q : Bool) (ds es : List ℕ) (b c : ℕ) (r s : List ℕ) → IsNumeral 10 ds → IsNumeral 10 es →
    IsNoDigit b → IsNoDigit c → (literal_sign p ++ ds) ++ b ∷ r ≡ (literal_sign q ++ es) ++ c ∷ s →
    SameNumber p q ds es b c r s
split_number true true ds es b c r s h k nb nc e =
    let both = split_digits ds es b c r s h.1 k.1 nb nc e in
    record { sign = refl; digits = both.front; next = both.next; rest = both.rest }
split_number false false ds es b c r s h k nb nc e =
    let f : ds ++ b ∷ r ≡ es ++ c ∷ s = cc in
    let both = split_digits ds es b c r s h.1 k.1 nb nc f in
    record { sign = refl; digits = both.front; next = both.next; rest = both.rest }
split_number true false ds es b c r s h k nb nc e = absurd (no_minus ds (b ∷ r) (es ++ c ∷ s) h e)
split_number false true ds es b c r s h k nb nc e = absurd (no_minus es (c ∷ s) (ds ++ b ∷ r) k (sym e))

pub is_decimal : (n : ℕ) → n ≤ LAST_VAR → IsNumeral 10 (decimal n)
is_decimal n h = let small : n < 2 ^ 64 = omega arith in (decimal_is_IsNumeral n small).0

pub decimal_once : (m n : ℕ) → m ≤ LAST_VAR → n ≤ LAST_VAR → decimal m ≡ decimal n → m ≡ n
decimal_once m n h k e =
    let hm : m < 2 ^ 64 = omega arith in
    let hn : n < 2 ^ 64 = omega arith in
    decimal_injective m n hm hn e

-- how appended texts regroup
regroup : (a c r : List ℕ) (b : ℕ) → ((a ++ b ∷ []) ++ c) ++ r ≡ a ++ b ∷ (c ++ r)
regroup a c r b = append_assoc (a ++ b ∷ []) c r ∙ append_assoc a (b ∷ []) (c ++ r)

regroup_end : (a r : List ℕ) (b c : ℕ) → ((a ++ b ∷ []) ++ c ∷ []) ++ r ≡ a ++ b ∷ c ∷ r
regroup_end a r b c = append_assoc (a ++ b ∷ []) (c ∷ []) r ∙ append_assoc a (b ∷ []) (c ∷ r)

regroup_two : (a b r : List ℕ) (c d : ℕ) → ((a ++ c ∷ b) ++ d ∷ []) ++ r ≡ a ++ c ∷ (b ++ d ∷ r)
regroup_two a b r c d = append_assoc (a ++ c ∷ b) (d ∷ []) r ∙ append_assoc a (c ∷ b) (d ∷ r)

regroup_three : (a b c r : List ℕ) → ((a ++ b) ++ c) ++ r ≡ a ++ ((b ++ c) ++ r)
regroup_three a b c r = ap (λ (t : List ℕ). t ++ r) (append_assoc a b c) ∙ append_assoc a (b ++ c) r

-- fields each after one space are a space, and each but the last before one
pub spaced_with : (fields : List (List ℕ)) (last : List ℕ) → spaced (fields ++ last ∷ []) ≡ 32
    ∷ (trailed fields ++ last)
spaced_with [] last = ap (λ (t : List ℕ). 32 ∷ t) (append-nil last)
spaced_with (f ∷ fields) last = ap (λ (t : List ℕ). 32 ∷ (f ++ t)) (spaced_with fields last) ∙ ap
    (λ (t : List ℕ). 32 ∷ t) (sym (regroup f (trailed fields) last 32))

record SameTail (ls ks : List Literal) (r s : List ℕ) : Type 0 where
  literals : ls ≡ ks
  rest : r ≡ s

zero_numeral : IsNumeral 10 (48 ∷ [])
zero_numeral = (omega arith, (omega arith, tt))

one_literal : (l k : Literal) (r s : List ℕ) → l.var ≤ LAST_VAR → k.var ≤ LAST_VAR → literal_text l ++ 32 ∷ r
    ≡ literal_text k ++ 32 ∷ s → (l ≡ k) × (r ≡ s)
one_literal l k r s h i e =
    let both = split_number l.positive k.positive (decimal l.var) (decimal k.var) 32 32 r s (is_decimal l.var h)
    (is_decimal k.var i) space_is_no_digit space_is_no_digit e in
    let v : l.var ≡ k.var = decimal_once l.var k.var h i both.digits in
    let F : ℕ → Bool → Literal = λ x p. record { var = x; positive = p } in
    (ap (λ (x : ℕ). F x l.positive) v ∙ ap (λ (p : Bool). F k.var p) both.sign, both.rest)

no_end : (l : Literal) (r s : List ℕ) → l.var ≤ LAST_VAR → literal_text l ++ 32 ∷ r ≡ 48 ∷ 10 ∷ s → ⊥
no_end l r s h e =
    let both = split_number l.positive true (decimal l.var) (48 ∷ []) 32 10 r s (is_decimal l.var h) zero_numeral
    space_is_no_digit feed_is_no_digit e in
    omega (arith, both.next)

-- the literals of a clause are known by their text, which ends with `0` and a line feed
literals_once : (ls ks : List Literal) (r s : List ℕ) → AreThere LAST_VAR ls → AreThere LAST_VAR ks → literals_text ls
    ++ 48 ∷ 10 ∷ r ≡ literals_text ks ++ 48 ∷ 10 ∷ s → SameTail ls ks r s
literals_once [] [] r s h i e = record { literals = refl; rest = cc }
literals_once [] (k ∷ ks) r s h i e =
    absurd (no_end k (literals_text ks ++ 48 ∷ 10 ∷ s) r i.0.1
    (sym (regroup (literal_text k) (literals_text ks) (48 ∷ 10 ∷ s) 32) ∙ sym e))
literals_once (l ∷ ls) [] r s h i e =
    absurd (no_end l (literals_text ls ++ 48 ∷ 10 ∷ r) s h.0.1
    (sym (regroup (literal_text l) (literals_text ls) (48 ∷ 10 ∷ r) 32) ∙ e))
literals_once (l ∷ ls) (k ∷ ks) r s h i e =
    let one = one_literal l k (literals_text ls ++ 48 ∷ 10 ∷ r) (literals_text ks ++ 48 ∷ 10 ∷ s) h.0.1 i.0.1
    (sym (regroup (literal_text l) (literals_text ls) (48 ∷ 10 ∷ r) 32) ∙ e ∙ regroup (literal_text k)
    (literals_text ks) (48 ∷ 10 ∷ s) 32) in
    let more = literals_once ls ks r s h.1 i.1 one.1 in
    record { literals = cc (one.0, more.literals); rest = more.rest }

clause_once : (c d : List Literal) (r s : List ℕ) → AreThere LAST_VAR c → AreThere LAST_VAR d →
    (spaced (clause_fields c) ++ 10 ∷ []) ++ r ≡ (spaced (clause_fields d) ++ 10 ∷ []) ++ s → SameTail c d r s
clause_once c d r s h k e =
    let f : 32 ∷ (((literals_text c ++ 48 ∷ []) ++ 10 ∷ []) ++ r) ≡ 32
    ∷ (((literals_text d ++ 48 ∷ []) ++ 10 ∷ []) ++ s) =
    ap (λ (t : List ℕ). (t ++ 10 ∷ []) ++ r) (sym (spaced_with (map literal_text c) (48 ∷ []))) ∙ e ∙ ap
    (λ (t : List ℕ). (t ++ 10 ∷ []) ++ s) (spaced_with (map literal_text d) (48 ∷ [])) in
    let g : ((literals_text c ++ 48 ∷ []) ++ 10 ∷ []) ++ r ≡ ((literals_text d ++ 48 ∷ []) ++ 10 ∷ []) ++ s = cc in
    literals_once c d r s h k (sym (regroup_end (literals_text c) r 48 10) ∙ g ∙ regroup_end (literals_text d) s 48 10)

abbrev two_text : ℕ → ℕ → List ℕ → List ℕ
two_text k x r = ((decimal k ++ 32 ∷ decimal x) ++ 10 ∷ []) ++ r

record SameTwo (k m x y : ℕ) (r s : List ℕ) : Type 0 where
  bound : k ≡ m
  variable : x ≡ y
  rest : r ≡ s

two_once : (k m x y : ℕ) (r s : List ℕ) → k ≤ LAST_VAR → m ≤ LAST_VAR → x ≤ LAST_VAR → y ≤ LAST_VAR → two_text k x r
    ≡ two_text m y s → SameTwo k m x y r s
two_once k m x y r s hk hm hx hy e =
    let f : decimal k ++ 32 ∷ (decimal x ++ 10 ∷ r) ≡ decimal m ++ 32 ∷ (decimal y ++ 10 ∷ s) =
    sym (regroup_two (decimal k) (decimal x) r 32 10) ∙ e ∙ regroup_two (decimal m) (decimal y) s 32 10 in
    let one = split_digits (decimal k) (decimal m) 32 32 (decimal x ++ 10 ∷ r) (decimal y ++ 10 ∷ s) (is_decimal k hk).1
    (is_decimal m hm).1 space_is_no_digit space_is_no_digit f in
    let two = split_digits (decimal x) (decimal y) 10 10 r s (is_decimal x hx).1 (is_decimal y hy).1 feed_is_no_digit
    feed_is_no_digit one.rest in
    record { bound = decimal_once k m hk hm one.front; variable = decimal_once x y hx hy two.front; rest = two.rest }

abbrev bound_text : Criterion → ℕ → ℕ → List ℕ → List ℕ
bound_text a k x r = ((criterion_word a ++ 32 ∷ (decimal k ++ 32 ∷ decimal x)) ++ 10 ∷ []) ++ r

bound_once : (a b : Criterion) (k m : ℕ) (x y : Var) (r s : List ℕ) → IsWellFormed (Bound a k x) →
    IsWellFormed (Bound b m y) → bound_text a k x.0 r ≡ bound_text b m y.0 s → (Bound a k x ≡ Bound b m y) × (r ≡ s)
bound_once a b k m x y r s h i e =
    let f = sym (regroup_three (criterion_word a) (32 ∷ (decimal k ++ 32 ∷ decimal x.0)) (10 ∷ []) r) ∙ e ∙
    regroup_three (criterion_word b) (32 ∷ (decimal m ++ 32 ∷ decimal y.0)) (10 ∷ []) s in
    let one = word_in_front a b (32 ∷ two_text k x.0 r) (32 ∷ two_text m y.0 s) f in
    let g : two_text k x.0 r ≡ two_text m y.0 s = cc (one.1) in
    let hk : k ≤ LAST_VAR = omega (arith, h.1) in
    let hm : m ≤ LAST_VAR = omega (arith, i.1) in
    let two = two_once k m x.0 y.0 r s hk hm h.3 i.3 g in
    let F : ℕ → Var = λ v. record { 0 = v } in
    let v : x ≡ y = ap F two.variable in
    (cc (one.0, two.bound, v), two.rest)

abbrev bound_ended : Criterion → ℕ → ℕ → List ℕ → List ℕ
bound_ended a k x r = ((criterion_word a ++ 32 ∷ (decimal k ++ 32 ∷ (decimal x ++ []))) ++ 10 ∷ []) ++ r

bound_same : (a : Criterion) (k x : ℕ) (r : List ℕ) → bound_ended a k x r ≡ bound_text a k x r
bound_same a k x r = ap (λ (t : List ℕ). ((criterion_word a ++ 32 ∷ (decimal k ++ 32 ∷ t)) ++ 10 ∷ []) ++ r)
    (append-nil (decimal x))

-- the text of a line, with its line feed, is the text of no other
line_once : (a b : LogLine) (r s : List ℕ) → IsWellFormed a → IsWellFormed b → ended_text a ++ r ≡ ended_text b ++ s →
    (a ≡ b) × (r ≡ s)
line_once (Formula c) (Formula d) r s h k e = let one =
    clause_once c d r s h k cc in (ap Formula one.literals, one.rest)
line_once (Learnt c) (Learnt d) r s h k e = let one =
    clause_once c d r s h.0 k.0 cc in (ap Learnt one.literals, one.rest)
line_once (Bound a k x) (Bound b m y) r s h i e =
    let f : bound_ended a k x.0 r ≡ bound_ended b m y.0 s = cc in
    bound_once a b k m x y r s h i (sym (bound_same a k x.0 r) ∙ f ∙ bound_same b m y.0 s)
line_once (Query c) (Query d) r s h k e = let one = clause_once c d r s h k cc in (ap Query one.literals, one.rest)
line_once (Refuted c) (Refuted d) r s h k e = let one =
    clause_once c d r s h k cc in (ap Refuted one.literals, one.rest)
line_once Model Model r s h k e = (refl, cc)
line_once a b r s h k e = let z : get_or (ended_text a ++ r) 0 0 ≡ get_or (ended_text b ++ s) 0 0 =
    ap (λ (xs : List ℕ). get_or xs 0 0) e in absurd (omega arith)

some_text : (line : LogLine) (t : List ℕ) → [] ≡ ended_text line ++ t → ⊥
some_text (Formula c) t e = cc
some_text (Learnt c) t e = cc
some_text (Bound a k x) t e = cc
some_text (Query c) t e = cc
some_text (Refuted c) t e = cc
some_text Model t e = cc

lines_once : (a b : List LogLine) → AreWellFormed a → AreWellFormed b → flat_map ended_text a ≡ flat_map ended_text b →
    a ≡ b
lines_once [] [] h k e = refl
lines_once [] (y ∷ ys) h k e = absurd (some_text y (flat_map ended_text ys) e)
lines_once (x ∷ xs) [] h k e = absurd (some_text x (flat_map ended_text xs) (sym e))
lines_once (x ∷ xs) (y ∷ ys) h k e =
    let one = line_once x y (flat_map ended_text xs) (flat_map ended_text ys) h.0 k.0 e in
    let more = lines_once xs ys h.1 k.1 one.1 in
    cc (one.0, more)

pub log_text_once : (a b : List LogLine) → AreWellFormed a → AreWellFormed b → log_text a ≡ log_text b → a ≡ b
log_text_once a b h k e = lines_once a b h k (append_cancel_left header (flat_map ended_text a) (flat_map ended_text b)
    e)

pub formed_lines : (lines : List LogLine) → MayAllBeTold lines → AreWellFormed lines
formed_lines [] h = tt
formed_lines (x ∷ xs) h = let one = h.0 in (one.formed, formed_lines xs h.1)
