-- A text has one form, is one line's, and has one fault or none where it is a line's.
use Rattle.std.proofs.Common.{◌≡◌, ℕ, ◌≤◌, ◌⊎◌, ◌↔◌, inl, inr, true, List, [], ◌∷◌, ◌++◌, length, get_or, map, decimal, Result, Ok, Err, refl, sym, ◌∙◌, ap}
use Rattle.std.proofs.Common.{subst, arith}
use Rattle.std.specs.Prelude.{IfOk, IfErr}
use Rattle.std.specs.Char.{IsAsciiDigit}
use Rattle.std.specs.List.{AllByRecursion}
use Rattle.std.specs.Str.Parse.{AllDigits}
use Rattle.std.proofs.lemmas.List.{append-nil}
use Rattle.std.proofs.lemmas.Str.Parse.{digit_from_value}
use Rattle.plan_core.specs.Exactly.{AnswersExactly}
use Rattle.plan_core.proofs.ExactlyLemmas.{answers_exactly}
use Rattle.cnf_core.specs.Lit.{Literal}
use Rattle.cnf_core.specs.Clause.{AreThere}
use Rattle.outside_io.proofs.CriterionLemmas.{word_in_front}
use Rattle.refute_log.specs.declared.line.LogLine.{LogLine}
use Rattle.refute_log.specs.declared.line.LogLine.TheVariants.{Formula, Learnt, Bound, Query, Refuted, Model}
use Rattle.refute_log.specs.declared.fault.LogWhat.{LogWhat}
use Rattle.refute_log.specs.declared.fault.LogWhat.TheVariants.{Header, Form, Number, Twice}
use Rattle.refute_log.specs.declared.fault.LineTextFault.{LineTextFault}
use Rattle.refute_log.specs.declared.fault.LineTextFault.TheVariants.{Log, Memory}
use Rattle.cnf_core.specs.declared.limits.TheConstants.{LAST_VAR}
use Rattle.refute_log.specs.Lines.{NamesOnce, literal_text, with_zero, clause_fields, log_line_text, header}
use Rattle.outside_io.specs.Fields.{spaced}
use Rattle.refute_log.specs.FieldText.{trailed, fields_left}
use Rattle.refute_log.specs.LineForm.{Field, LineForm, IsNumber, AreNumbers, IsOfForm, form_text, IsLiteral, HasRightNumbers}
use Rattle.refute_log.specs.LineForm.LineForm.{FormulaForm, LearntForm, BoundForm, QueryForm, RefutedForm, ModelForm}
use Rattle.refute_log.specs.LineText.{SpellsLine, IsTextOf, HasLineFault, IsWantOrFault, IsLineFault}
use Rattle.refute_log.specs.OneText.{is_decimal, log_text_once}
use Rattle.refute_log.proofs.ReadingLemmas.{ahead, zero_is_one, same_cut, no_cut, number_is_one, regroup}
use Rattle.refute_log.proofs.LetterLemmas.{same_behind}

-- a text has one form
pub fields_once : (fs gs : List Field) → AreNumbers fs → AreNumbers gs → fields_left fs ≡ fields_left gs → fs ≡ gs
fields_once fs gs h k e =
    let a = ahead fs gs (48 ∷ []) h k e in
    end a.more a.split a.left
  where
    end : (more : List Field) → gs ≡ fs ++ more → 48 ∷ [] ≡ fields_left more → fs ≡ gs
    end [] s z = sym (s ∙ append-nil fs)
    end (f ∷ more) s z = absurd (no_cut (48 ∷ []) f (fields_left more) zero_is_one (z ∙ regroup f (trailed more) (48 ∷ [])))

pub form_once : (text : List ℕ) (a b : LineForm) → IsOfForm text a → IsOfForm text b → a ≡ b
form_once text (FormulaForm fs) (FormulaForm gs) h k = ap FormulaForm (fields_once fs gs h.is_form k.is_form
    (same_behind 102 fs gs (sym h.spelled ∙ k.spelled)))
form_once text (LearntForm fs) (LearntForm gs) h k = ap LearntForm (fields_once fs gs h.is_form.0 k.is_form.0
    (same_behind 108 fs gs (sym h.spelled ∙ k.spelled)))
form_once text (BoundForm c k x) (BoundForm d l y) h i =
    let e = sym h.spelled ∙ i.spelled in
    let one = word_in_front c d (32 ∷ (k ++ 32 ∷ (x ++ []))) (32 ∷ (l ++ 32 ∷ (y ++ []))) cc in
    let f : k ++ 32 ∷ (x ++ []) ≡ l ++ 32 ∷ (y ++ []) = cc (one.1) in
    let two = same_cut k l (x ++ []) (y ++ []) (number_is_one k h.is_form.0) (number_is_one l i.is_form.0) f in
    let last : x ≡ y = sym (append-nil x) ∙ two.rest ∙ append-nil y in
    cc (one.0, two.field, last)
form_once text (QueryForm fs) (QueryForm gs) h k = ap QueryForm (fields_once fs gs h.is_form k.is_form (same_behind 113 fs gs (sym h.spelled ∙ k.spelled)))
form_once text (RefutedForm fs) (RefutedForm gs) h k = ap RefutedForm (fields_once fs gs h.is_form k.is_form
    (same_behind 114 fs gs (sym h.spelled ∙ k.spelled)))
form_once text ModelForm ModelForm h k = refl
form_once text a b h k = let z = ap (λ (t : List ℕ). get_or t 0 0) (sym h.spelled ∙ k.spelled) in absurd (omega arith)

-- a text is one line's
pub line_once : (text : List ℕ) (a b : LogLine) → SpellsLine text a → SpellsLine text b → a ≡ b
line_once text a b h k =
    let same : log_line_text a ≡ log_line_text b = h.spelled ∙ sym k.spelled in
    let lines = log_text_once (a ∷ []) (b ∷ []) (h.formed, tt) (k.formed, tt) (ap (λ (t : List ℕ). header ++ ((t ++ 10 ∷ []) ++ [])) same) in
    cc

-- the text of a line has a form whose numbers are right
pub digits_in : (ds : List ℕ) → AllDigits 10 ds → AllByRecursion IsAsciiDigit ds
digits_in [] h = tt
digits_in (d ∷ ds) h = (digit_from_value d h.0, digits_in ds h.1)

pub decimal_is_number : (n : ℕ) → n ≤ LAST_VAR → IsNumber (decimal n)
decimal_is_number n h =
    let numeral = is_decimal n h in
    record { positive = true; digits = decimal n; some = numeral.0; only = digits_in (decimal n) numeral.1; spelled = refl }

pub literal_is_number : (l : Literal) → l.var ≤ LAST_VAR → IsNumber (literal_text l)
literal_is_number l h =
    let numeral = is_decimal l.var h in
    record { positive = l.positive; digits = decimal l.var; some = numeral.0; only = digits_in (decimal l.var) numeral.1; spelled = refl }

literals_are_numbers : (ls : List Literal) → AreThere LAST_VAR ls → AreNumbers (map literal_text ls)
literals_are_numbers [] h = tt
literals_are_numbers (l ∷ ls) h = (literal_is_number l h.0.1, literals_are_numbers ls h.1)

literals_are_right : (ls : List Literal) → AreThere LAST_VAR ls → AllByRecursion IsLiteral (map literal_text ls)
literals_are_right [] h = tt
literals_are_right (l ∷ ls) h = (record { literal = l; there = h.0; spelled = refl }, literals_are_right ls h.1)

some_fields : (ls : List Literal) → 1 ≤ length ls → 1 ≤ length (map literal_text ls)
some_fields [] h = h
some_fields (l ∷ ls) h = omega arith

-- a form that the text has, with right numbers
record RightForm (text : List ℕ) : Type 0 where
  form : LineForm
  has : IsOfForm text form
  right : HasRightNumbers form

line_form : (text : List ℕ) (line : LogLine) → SpellsLine text line → RightForm text
line_form text (Formula c) h = record {
  form = FormulaForm (map literal_text c);
  has = record {
    is_form = literals_are_numbers c h.formed;
    spelled = sym h.spelled;
  };
  right = literals_are_right c h.formed;
}
line_form text (Learnt c) h = record {
  form = LearntForm (map literal_text c);
  has = record {
    is_form = (literals_are_numbers c h.formed.0, some_fields c h.formed.1);
    spelled = sym h.spelled;
  };
  right = literals_are_right c h.formed.0;
}
line_form text (Bound criterion k x) h =
    let small : k ≤ LAST_VAR = omega (arith, h.formed.1) in
    record {
      form = BoundForm criterion (decimal k) (decimal x.0);
      has = record { is_form = (decimal_is_number k small, decimal_is_number x.0 h.formed.3); spelled = sym h.spelled };
      right = ((k, record { written = refl; from = h.formed.0; to = h.formed.1 }), (x.0, record { written = refl; from = h.formed.2; to = h.formed.3 }));
    }
line_form text (Query c) h = record {
  form = QueryForm (map literal_text c);
  has = record {
    is_form = literals_are_numbers c h.formed;
    spelled = sym h.spelled;
  };
  right = literals_are_right c h.formed;
}
line_form text (Refuted c) h = record {
  form = RefutedForm (map literal_text c);
  has = record {
    is_form = literals_are_numbers c h.formed;
    spelled = sym h.spelled;
  };
  right = literals_are_right c h.formed;
}
line_form text Model h = record { form = ModelForm; has = record { is_form = tt; spelled = sym h.spelled }; right = tt }

-- faults exclude each other, and lines
no_form_no_line : (text : List ℕ) (line : LogLine) → SpellsLine text line → HasLineFault text Form → ⊥
no_form_no_line text line s f = let r = line_form text line s in f r.form r.has

wrong_number_no_line : (text : List ℕ) (line : LogLine) → SpellsLine text line → HasLineFault text Number → ⊥
wrong_number_no_line text line s f =
    let r = line_form text line s in
    f.2 (subst HasRightNumbers (form_once text r.form f.0 r.has f.1) r.right)

pub line_no_fault : (text : List ℕ) (line : LogLine) (what : LogWhat) → IsTextOf text line → HasLineFault text what → ⊥
line_no_fault text line Header t f = f
line_no_fault text line Form t f = no_form_no_line text line t.spells f
line_no_fault text line Number t f = wrong_number_no_line text line t.spells f
line_no_fault text line Twice t f = f.2 (subst NamesOnce (line_once text line f.0 t.spells f.1) t.once)

pub fault_once : (text : List ℕ) (a b : LogWhat) → HasLineFault text a → HasLineFault text b → a ≡ b
fault_once text Form Form f g = refl
fault_once text Form Number f g = absurd (f g.0 g.1)
fault_once text Form Twice f g = absurd (no_form_no_line text g.0 g.1 f)
fault_once text Number Form f g = absurd (g f.0 f.1)
fault_once text Number Number f g = refl
fault_once text Number Twice f g = absurd (wrong_number_no_line text g.0 g.1 f)
fault_once text Twice Form f g = absurd (no_form_no_line text f.0 f.1 g)
fault_once text Twice Number f g = absurd (wrong_number_no_line text f.0 f.1 g)
fault_once text Twice Twice f g = refl
fault_once text Header b f g = absurd f
fault_once text Form Header f g = absurd g
fault_once text Number Header f g = absurd g
fault_once text Twice Header f g = absurd g

-- so an answer that is right is the only one
fault_at_once : (text : List ℕ) (number : ℕ) (e f : LineTextFault) → IsLineFault text number e → IsLineFault text number f → e ≡ f
fault_at_once text number (Log a m) (Log b n) h k = let same : a ≡ b = fault_once text a b h.1 k.1 in cc (same, h.0, k.0)
fault_at_once text number (Log a m) Memory h k = absurd k
fault_at_once text number Memory f h k = absurd h

not_line_and_fault : (text : List ℕ) (number : ℕ) (line : LogLine) (f : LineTextFault) → IsTextOf text line → IsLineFault text number f → ⊥
not_line_and_fault text number line (Log what n) t h = line_no_fault text line what t h.1
not_line_and_fault text number line Memory t h = h

want_or_fault : (text : List ℕ) (number : ℕ) (r : Result LogLine LineTextFault) → IfErr r (IsWantOrFault text number) →
    IfErr r (λ e. (e ≡ Memory) ⊎ IsLineFault text number e)
want_or_fault text number (Ok line) h = tt
want_or_fault text number (Err (Log what n)) h = inr h
want_or_fault text number (Err Memory) h = inl refl

pub read_exactly : (text : List ℕ) (number : ℕ) (r : Result LogLine LineTextFault) → IfOk r (IsTextOf text) → IfErr r (IsWantOrFault text number) →
    AnswersExactly r Memory (IsTextOf text) (IsLineFault text number)
read_exactly text number r line fault = answers_exactly r Memory (IsTextOf text) (IsLineFault text number) line (want_or_fault text number r fault)
    (λ a b h k. line_once text a b h.spells k.spells) (fault_at_once text number) (not_line_and_fault text number)

-- a form whose numbers are right is that of a line
record OfLiterals (fields : List Field) : Type 0 where
  literals : List Literal
  there : AreThere LAST_VAR literals
  texts : fields ≡ map literal_text literals

of_literals : (fields : List Field) → AllByRecursion IsLiteral fields → OfLiterals fields
of_literals [] h = record { literals = []; there = tt; texts = refl }
of_literals (f ∷ fields) h =
    let more = of_literals fields h.1 in
    record { literals = h.0.literal ∷ more.literals; there = (h.0.there, more.there); texts = let e = h.0.spelled in let d = more.texts in cc }

spelled_by : (a : ℕ) (fields : List Field) (text : List ℕ) (r : OfLiterals fields) → text ≡ a ∷ spaced (with_zero fields) →
    a ∷ spaced (clause_fields r.literals) ≡ text
spelled_by a fields text r e = ap (λ (t : List Field). a ∷ spaced (with_zero t)) (sym r.texts) ∙ sym e

some_literals : (fields : List Field) (ls : List Literal) → fields ≡ map literal_text ls → 1 ≤ length fields → 1 ≤ length ls
some_literals fields [] e h = let z = ap length e in omega arith
some_literals fields (l ∷ ls) e h = omega arith

form_line : (text : List ℕ) (form : LineForm) → IsOfForm text form → HasRightNumbers form → (line : LogLine) × SpellsLine text line
form_line text (FormulaForm fields) h right = let r = of_literals fields right in (
  Formula r.literals,
  record {
    formed = r.there;
    spelled = spelled_by 102 fields text r h.spelled;
  },
)
form_line text (LearntForm fields) h right = let r = of_literals fields right in (
  Learnt r.literals,
  record {
    formed = (r.there, some_literals fields r.literals r.texts h.is_form.1);
    spelled = spelled_by 108 fields text r h.spelled;
  },
)
form_line text (BoundForm criterion k x) h right =
    let value = right.0.1 in
    let variable = right.1.1 in (
      Bound criterion right.0.0 (record {
        0 = right.1.0;
      }),
      record {
        formed = (value.from, value.to, variable.from, variable.to);
        spelled = ap (λ (t : Field). form_text (BoundForm criterion t (decimal right.1.0)))
            (sym value.written) ∙ ap (λ (t : Field). form_text (BoundForm criterion k t)) (sym variable.written) ∙ sym h.spelled;
      },
    )
form_line text (QueryForm fields) h right = let r = of_literals fields right in (
  Query r.literals,
  record {
    formed = r.there;
    spelled = spelled_by 113 fields text r h.spelled;
  },
)
form_line text (RefutedForm fields) h right = let r = of_literals fields right in (
  Refuted r.literals,
  record {
    formed = r.there;
    spelled = spelled_by 114 fields text r h.spelled;
  },
)
form_line text ModelForm h right = (Model, record { formed = tt; spelled = sym h.spelled })

pub right_form : (text : List ℕ) → ((form : LineForm) × IsOfForm text form × HasRightNumbers form) ↔ ((line : LogLine) × SpellsLine text line)
right_form text = (
  λ h. form_line text h.0 h.1 h.2,
  λ s. let r = line_form text s.0 s.1 in (r.form, r.has, r.right),
)
