-- A text has one form, is that of one hinted line, and has one fault, or none where it is a line's.
use Rattle.std.proofs.Common.{◌≡◌, ℕ, ◌<◌, ◌≤◌, ◌^◌, ◌⊎◌, inl, inr, Bool, true, false, List, [], ◌∷◌, ◌++◌, get_or, map, decimal, Result, Ok, Err, refl, sym}
use Rattle.std.proofs.Common.{◌∙◌, ap, subst, arith}
use Rattle.std.specs.Prelude.{IfOk, IfErr}
use Rattle.std.specs.List.{AllByRecursion}
use Rattle.std.proofs.lemmas.Fmt.{first_decimal}
use Rattle.plan_core.specs.Exactly.{AnswersExactly}
use Rattle.plan_core.proofs.ExactlyLemmas.{answers_exactly}
use Rattle.cnf_core.specs.declared.limits.TheConstants.{LAST_VAR}
use Rattle.outside_io.specs.Fields.{LacksByte, spaced}
use Rattle.outside_io.specs.Criteria.{criterion_word}
use Rattle.outside_io.specs.Numbers.{IsNumberField}
use Rattle.refute_log.specs.Lines.{NamesOnce, with_zero, literal_text, log_line_text}
use Rattle.refute_log.specs.LineForm.{Field, LineForm, form_text, IsOfForm, IsLiteral, HasRightNumbers}
use Rattle.refute_log.specs.LineForm.LineForm.{FormulaForm, LearntForm, BoundForm, QueryForm, RefutedForm, ModelForm}
use Rattle.refute_log.specs.FieldText.{fields_left}
use Rattle.refute_log.specs.OneText.{decimal_once}
use Rattle.refute_log.proofs.LawLemmas.{fields_once, form_once as line_form_once, line_once, right_form}
use Rattle.refute_log.proofs.FeedLemmas.{lacks_both, decimal_lacks, line_lacks}
use Rattle.hint_log.specs.declared.hint_line.HintLine.{HintLine}
use Rattle.hint_log.specs.declared.hint_line.HintLine.TheVariants as hints
use Rattle.hint_log.specs.Hint.{hints_of}
use Rattle.hint_log.specs.HintedLines.{line_of}
use Rattle.hint_log.specs.declared.text_fault.HintsWhat.{HintsWhat}
use Rattle.hint_log.specs.declared.text_fault.HintsWhat.TheVariants.{Header, Form, Number, Twice, Range}
use Rattle.hint_log.specs.declared.text_fault.HintTextFault.{HintTextFault}
use Rattle.hint_log.specs.declared.text_fault.HintTextFault.TheVariants.{Hints, Memory}
use Rattle.hint_log.specs.HintText.{IsClauseNumber, MayBeWritten, hint_text, number_fields}
use Rattle.hint_log.specs.HintForm.{NoneIsZero, EndsAtZero, HintForm, IsOfHintForm, HasRightHintNumbers}
use Rattle.hint_log.specs.HintFaults.{SpellsHint, IsHintOf, HasHintTextFault, IsHintWhere, IsHintTextFault}
use Rattle.hint_log.specs.Parts.{BeginsHinted}
use Rattle.hint_log.proofs.CutLemmas.{cut_once}
use Rattle.hint_log.proofs.FormLemmas.{has_cut, behind_space, other_letter, decimals_are_numbers, some_decimals}

-- ---- one form

abbrev form_with : LineForm → List Field → HintForm
form_with line numbers = record { line = line; numbers = numbers }

pub form_once : (text : List ℕ) (a b : HintForm) → IsOfHintForm text a → IsOfHintForm text b → a ≡ b
form_once text a b h k =
    let same = cut_once text (form_text a.line) (form_text b.line) (fields_left a.numbers) (fields_left b.numbers) (has_cut text a h) (has_cut text b k) in
    let line = line_form_once (form_text a.line) a.line b.line (record {
      is_form = h.is_form;
      spelled = refl;
    }) (record { is_form = k.is_form; spelled = same.front_is }) in
    let numbers = fields_once a.numbers b.numbers h.numbers k.numbers same.rest_is in
    ap (λ (l : LineForm). form_with l a.numbers) line ∙ ap (λ (ns : List Field). form_with b.line ns) numbers

-- ---- the form of a line

signed_is_not_zero : (positive : Bool) (n : ℕ) → 1 ≤ n → n ≤ LAST_VAR → literal_text (record { var = n; positive = positive }) ≡ 48 ∷ [] → ⊥
signed_is_not_zero true n from to e =
    let small : n < 2 ^ 64 = omega arith in
    let first = first_decimal n (omega arith) small in
    let z : get_or (decimal n) 0 0 ≡ 48 = ap (λ (t : List ℕ). get_or t 0 0) e in
    omega (arith, first, z)
signed_is_not_zero false n from to e = let z : get_or (45 ∷ decimal n) 0 0 ≡ get_or (48 ∷ []) 0 0 = ap (λ (t : List ℕ). get_or t 0 0) e in omega arith

none_zero : (fields : List Field) → AllByRecursion IsLiteral fields → NoneIsZero fields
none_zero [] h = tt
none_zero (f ∷ fields) h = ((λ e. signed_is_not_zero h.0.literal.positive h.0.literal.var h.0.there.0 h.0.there.1 (sym h.0.spelled ∙ e)), none_zero fields h.1)

line_begins : (line : HintLine) → BeginsHinted (log_line_text (line_of line))
line_begins (hints.Learnt lits ns) = (108, fields_left (map literal_text lits), inl refl, ap (λ (t : List ℕ). 108 ∷ t) (behind_space (map literal_text lits)))
line_begins (hints.Refuted lits ns) = (114, fields_left (map literal_text lits), inr refl, ap (λ (t : List ℕ). 114 ∷ t) (behind_space (map literal_text lits)))

right_ends : (front : List ℕ) (form : LineForm) → BeginsHinted front → IsOfForm front form → HasRightNumbers form → EndsAtZero form
right_ends front (LearntForm fields) begins h right = none_zero fields right
right_ends front (RefutedForm fields) begins h right = none_zero fields right
right_ends front (FormulaForm fields) begins h right = other_letter 102 front (spaced (with_zero fields)) begins (λ e. omega arith) (λ e. omega arith) h.spelled
right_ends front (BoundForm criterion k x) begins h right = other_letter 98 front (spaced (criterion_word criterion ∷ k ∷ x ∷ [])) begins (λ e. omega arith)
    (λ e. omega arith) h.spelled
right_ends front (QueryForm fields) begins h right = other_letter 113 front (spaced (with_zero fields)) begins (λ e. omega arith) (λ e. omega arith) h.spelled
right_ends front ModelForm begins h right = other_letter 109 front [] begins (λ e. omega arith) (λ e. omega arith) h.spelled

right_decimals : (ns : List ℕ) → AllByRecursion IsClauseNumber ns → AllByRecursion (IsNumberField 1 LAST_VAR) (map decimal ns)
right_decimals [] h = tt
right_decimals (n ∷ ns) h = ((n, record { written = refl; from = h.0.from; to = h.0.to }), right_decimals ns h.1)

-- a form that the text has, with right numbers
record RightForm (text : List ℕ) : Type 0 where
  form : HintForm
  has : IsOfHintForm text form
  right : HasRightHintNumbers form

right_form_of : (text : List ℕ) (line : HintLine) → SpellsHint text line → RightForm text
right_form_of text line h =
    let front = log_line_text (line_of line) in
    let r = (right_form front).1 (line_of line, record { formed = h.formed.formed; spelled = refl }) in
    record {
      form = form_with r.0 (map decimal (hints_of line));
      has = record {
        is_form = r.1.is_form;
        first = right_ends front r.0 (line_begins line) r.1 r.2;
        some = some_decimals (hints_of line) h.formed.some;
        numbers = decimals_are_numbers (hints_of line) h.formed.numbers;
        spelled = sym h.spelled ∙ ap (λ (t : List ℕ). t ++ spaced (number_fields (hints_of line))) r.1.spelled;
      };
      right = record { literals = r.2; hints = right_decimals (hints_of line) h.formed.numbers };
    }

-- ---- one line

decimals_once : (ms ns : List ℕ) → AllByRecursion IsClauseNumber ms → AllByRecursion IsClauseNumber ns → map decimal ms ≡ map decimal ns → ms ≡ ns
decimals_once [] [] h k e = refl
decimals_once [] (n ∷ ns) h k e = absurd (cc)
decimals_once (m ∷ ms) [] h k e = absurd (cc)
decimals_once (m ∷ ms) (n ∷ ns) h k e =
    let first : decimal m ≡ decimal n = cc in
    let more : map decimal ms ≡ map decimal ns = cc in
    let one = decimal_once m n h.0.to k.0.to first in
    let rest = decimals_once ms ns h.1 k.1 more in
    cc (one, rest)

line_joined : (a b : HintLine) → line_of a ≡ line_of b → hints_of a ≡ hints_of b → a ≡ b
line_joined (hints.Learnt c ms) (hints.Learnt d ns) line same = cc
line_joined (hints.Refuted c ms) (hints.Refuted d ns) line same = cc
line_joined (hints.Learnt c ms) (hints.Refuted d ns) line same = absurd (cc)
line_joined (hints.Refuted c ms) (hints.Learnt d ns) line same = absurd (cc)

pub hint_once : (text : List ℕ) (a b : HintLine) → SpellsHint text a → SpellsHint text b → a ≡ b
unfolding right_form_of
hint_once text a b h k =
    let fa = right_form_of text a h in
    let fb = right_form_of text b k in
    let same = cut_once text (form_text fa.form.line) (form_text fb.form.line) (fields_left fa.form.numbers) (fields_left fb.form.numbers)
    (has_cut text fa.form fa.has) (has_cut text fb.form fb.has) in
    let ra = (right_form (log_line_text (line_of a))).1 (line_of a, record { formed = h.formed.formed; spelled = refl }) in
    let rb = (right_form (log_line_text (line_of b))).1 (line_of b, record { formed = k.formed.formed; spelled = refl }) in
    let front : log_line_text (line_of a) ≡ log_line_text (line_of b) = ra.1.spelled ∙ same.front_is ∙ sym rb.1.spelled in
    let line = line_once (log_line_text (line_of b)) (line_of a) (line_of b) (record {
      formed = h.formed.formed;
      spelled = front;
    }) (record { formed = k.formed.formed; spelled = refl }) in
    let texts = fields_once (map decimal (hints_of a)) (map decimal (hints_of b)) fa.has.numbers fb.has.numbers same.rest_is in
    line_joined a b line (decimals_once (hints_of a) (hints_of b) h.formed.numbers k.formed.numbers texts)

-- ---- one fault or none

no_form_no_line : (text : List ℕ) (line : HintLine) → SpellsHint text line → HasHintTextFault text Form → ⊥
no_form_no_line text line s f = let r = right_form_of text line s in f r.form r.has

wrong_number_no_line : (text : List ℕ) (line : HintLine) → SpellsHint text line → HasHintTextFault text Number → ⊥
wrong_number_no_line text line s f = let r = right_form_of text line s in f.2 (subst HasRightHintNumbers (form_once text r.form f.0 r.has f.1) r.right)

abbrev NamesHintOnce : HintLine → Type 0
NamesHintOnce line = NamesOnce (line_of line)

pub hint_no_fault : (text : List ℕ) (line : HintLine) (what : HintsWhat) → IsHintOf text line → HasHintTextFault text what → ⊥
hint_no_fault text line Header t f = f
hint_no_fault text line Form t f = no_form_no_line text line t.spells f
hint_no_fault text line Number t f = wrong_number_no_line text line t.spells f
hint_no_fault text line Twice t f = f.2 (subst NamesHintOnce (hint_once text line f.0 t.spells f.1) t.once)
hint_no_fault text line Range t f = f

pub fault_once : (text : List ℕ) (a b : HintsWhat) → HasHintTextFault text a → HasHintTextFault text b → a ≡ b
fault_once text Form Form f g = refl
fault_once text Form Number f g = absurd (f g.0 g.1)
fault_once text Form Twice f g = absurd (no_form_no_line text g.0 g.1 f)
fault_once text Number Form f g = absurd (g f.0 f.1)
fault_once text Number Number f g = refl
fault_once text Number Twice f g = absurd (wrong_number_no_line text g.0 g.1 f)
fault_once text Twice Form f g = absurd (no_form_no_line text f.0 f.1 g)
fault_once text Twice Number f g = absurd (wrong_number_no_line text f.0 f.1 g)
fault_once text Twice Twice f g = refl
fault_once text Header b f g = absurd f
fault_once text Range b f g = absurd f
fault_once text Form Header f g = absurd g
fault_once text Form Range f g = absurd g
fault_once text Number Header f g = absurd g
fault_once text Number Range f g = absurd g
fault_once text Twice Header f g = absurd g
fault_once text Twice Range f g = absurd g

-- so an answer that is right is the only one
fault_at_once : (text : List ℕ) (number : ℕ) (e f : HintTextFault) → IsHintTextFault text number e → IsHintTextFault text number f → e ≡ f
fault_at_once text number (Hints a m) (Hints b n) h k = let same : a ≡ b = fault_once text a b h.1 k.1 in cc (same, h.0, k.0)
fault_at_once text number (Hints a m) Memory h k = absurd k
fault_at_once text number Memory f h k = absurd h

not_line_and_fault : (text : List ℕ) (number : ℕ) (line : HintLine) (f : HintTextFault) → IsHintOf text line → IsHintTextFault text number f → ⊥
not_line_and_fault text number line (Hints what n) t h = hint_no_fault text line what t h.1
not_line_and_fault text number line Memory t h = h

want_or_fault : (text : List ℕ) (number : ℕ) (r : Result HintLine HintTextFault) → IfErr r (IsHintWhere (HasHintTextFault text) number) →
    IfErr r (λ e. (e ≡ Memory) ⊎ IsHintTextFault text number e)
want_or_fault text number (Ok line) h = tt
want_or_fault text number (Err (Hints what n)) h = inr h
want_or_fault text number (Err Memory) h = inl refl

pub read_exactly : (text : List ℕ) (number : ℕ) (r : Result HintLine HintTextFault) → IfOk r (IsHintOf text) →
    IfErr r (IsHintWhere (HasHintTextFault text) number) → AnswersExactly r Memory (IsHintOf text) (IsHintTextFault text number)
read_exactly text number r line fault = answers_exactly r Memory (IsHintOf text) (IsHintTextFault text number) line (want_or_fault text number r fault)
    (λ a b h k. hint_once text a b h.spells k.spells) (fault_at_once text number) (not_line_and_fault text number)

-- ---- a line has no line feed within

numbers_lack : (ns : List ℕ) → AllByRecursion IsClauseNumber ns → LacksByte 10 (spaced (number_fields ns))
numbers_lack [] h = ((λ e. omega arith), ((λ e. omega arith), tt))
numbers_lack (n ∷ ns) h = ((λ e. omega arith), lacks_both (decimal n) (spaced (number_fields ns)) (decimal_lacks n h.0.to) (numbers_lack ns h.1))

pub hint_lacks : (line : HintLine) → MayBeWritten line → LacksByte 10 (hint_text line)
hint_lacks line h = lacks_both (log_line_text (line_of line)) (spaced (number_fields (hints_of line))) (line_lacks (line_of line) h.formed.formed)
    (numbers_lack (hints_of line) h.formed.numbers)
