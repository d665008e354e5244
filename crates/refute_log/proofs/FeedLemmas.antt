-- The text of a line has no line feed before its end, and is the text of that line alone.
use Rattle.std.proofs.Common.{◌<◌, ◌≤◌, ℕ, Bool, true, false, List, [], ◌∷◌, ◌++◌, refl, subst, inr, arith}
use Rattle.std.specs.Prelude.{decimal}
use Rattle.std.specs.Char.{digit_value}
use Rattle.std.specs.Str.Parse.{AllDigits}
use Rattle.plan_core.specs.declared.criterion.Criterion.{Criterion}
use Rattle.cnf_core.specs.Lit.{Literal}
use Rattle.cnf_core.specs.Clause.{AreThere}
use Rattle.cnf_core.specs.declared.limits.TheConstants.{LAST_VAR}
use Rattle.outside_io.specs.Criteria.{criterion_word}
use Rattle.outside_io.specs.Fields.{spaced, LacksByte, IsOneField}
use Rattle.outside_io.proofs.CriterionLemmas.{word_is_one}
use Rattle.refute_log.specs.declared.line.LogLine.{LogLine}
use Rattle.refute_log.specs.declared.line.LogLine.TheVariants.{Formula, Learnt, Bound, Query, Refuted, Model}
use Rattle.refute_log.specs.Lines.{IsWellFormed, MayBeTold, literal_sign, literal_text, clause_fields, log_line_text}
use Rattle.refute_log.specs.LineText.{IsTextOf}
use Rattle.refute_log.specs.OneText.{is_decimal, feed_is_no_digit}

pub lacks_both : (xs ys : List ℕ) → LacksByte 10 xs → LacksByte 10 ys → LacksByte 10 (xs ++ ys)
lacks_both [] ys h k = k
lacks_both (x ∷ xs) ys h k = (h.0, lacks_both xs ys h.1 k)

digits_lack : (ds : List ℕ) → AllDigits 10 ds → LacksByte 10 ds
digits_lack [] h = tt
digits_lack (d ∷ ds) h = (λ e. feed_is_no_digit (subst (λ (v : ℕ). digit_value v < 10) e h.0), digits_lack ds h.1)

pub decimal_lacks : (n : ℕ) → n ≤ LAST_VAR → LacksByte 10 (decimal n)
decimal_lacks n h = digits_lack (decimal n) (is_decimal n h).1

pub field_lacks : (bs : List ℕ) → IsOneField bs → LacksByte 10 bs
field_lacks [] h = tt
field_lacks (b ∷ bs) h = (λ e. h.0 (inr e), field_lacks bs h.1)

sign_lacks : (positive : Bool) → LacksByte 10 (literal_sign positive)
sign_lacks true = tt
sign_lacks false = (λ e. omega arith, tt)

literal_lacks : (l : Literal) → l.var ≤ LAST_VAR → LacksByte 10 (literal_text l)
literal_lacks l h = lacks_both (literal_sign l.positive) (decimal l.var) (sign_lacks l.positive) (decimal_lacks l.var h)

literals_lack : (ls : List Literal) → AreThere LAST_VAR ls → LacksByte 10 (spaced (clause_fields ls))
literals_lack [] h = (λ e. omega arith, (λ e. omega arith, tt))
literals_lack (l ∷ ls) h =
    (λ e. omega arith, lacks_both (literal_text l) (spaced (clause_fields ls)) (literal_lacks l h.0.1) (literals_lack ls h.1))

number_lacks : (n : ℕ) (rest : List ℕ) → n ≤ LAST_VAR → LacksByte 10 rest → LacksByte 10 (32 ∷ (decimal n ++ rest))
number_lacks n rest h k = (λ e. omega arith, lacks_both (decimal n) rest (decimal_lacks n h) k)

word_lacks : (c : Criterion) (rest : List ℕ) → LacksByte 10 rest → LacksByte 10 (32 ∷ (criterion_word c ++ rest))
word_lacks c rest k = (λ e. omega arith, lacks_both (criterion_word c) rest (field_lacks (criterion_word c) (word_is_one c)) k)

pub line_lacks : (line : LogLine) → IsWellFormed line → LacksByte 10 (log_line_text line)
line_lacks (Formula c) h = (λ e. omega arith, literals_lack c h)
line_lacks (Learnt c) h = (λ e. omega arith, literals_lack c h.0)
line_lacks (Bound c k x) h =
    let small : k ≤ LAST_VAR = omega (arith, h.1) in
    let last : LacksByte 10 (32 ∷ (decimal x.0 ++ [])) = number_lacks x.0 [] h.3 tt in
    (λ e. omega arith, word_lacks c (32 ∷ (decimal k ++ 32 ∷ (decimal x.0 ++ []))) (number_lacks k (32 ∷ (decimal x.0 ++ [])) small last))
line_lacks (Query c) h = (λ e. omega arith, literals_lack c h)
line_lacks (Refuted c) h = (λ e. omega arith, literals_lack c h)
line_lacks Model h = (λ e. omega arith, tt)

pub told_is_read : (line : LogLine) → MayBeTold line → IsTextOf (log_line_text line) line
told_is_read line h = record { spells = record { formed = h.formed; spelled = refl }; once = h.once }
