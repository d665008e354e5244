-- What the parts of a text that is cut behind its literals say of the whole of it.
use Rattle.std.proofs.Common.{◌≡◌, ◌≢◌, ℕ, ◌≤◌, ◌⊎◌, inl, inr, Bool, true, false, List, [], ◌∷◌, ◌++◌, length, map, decimal, Option, Some, None, MatchOption}
use Rattle.std.proofs.Common.{refl, sym, ◌∙◌, ap, subst, arith, append_assoc}
use Rattle.std.specs.Prelude.{⊤, is_some}
use Rattle.std.proofs.lemmas.Bool.{true≢false}
use Rattle.std.specs.List.{AllByRecursion}
use Rattle.std.proofs.lemmas.List.{append_cancel_right}
use Rattle.plan_core.proofs.ListFacts.{same_heads}
use Rattle.outside_io.specs.Criteria.{criterion_word}
use Rattle.outside_io.specs.Fields.{spaced}
use Rattle.refute_log.specs.declared.line.LogLine.{LogLine}
use Rattle.refute_log.specs.declared.line.LogLine.TheVariants.{Formula, Learnt, Bound, Query, Refuted, Model}
use Rattle.refute_log.specs.declared.fault.LogWhat.{LogWhat}
use Rattle.refute_log.specs.declared.fault.LogWhat.TheVariants as logs
use Rattle.refute_log.specs.Lines.{NamesOnce, with_zero, clause_fields, line_fields}
use Rattle.refute_log.specs.LineForm.{Field, AreNumbers, LineForm, IsForm, form_text, IsOfForm}
use Rattle.refute_log.specs.LineForm.LineForm.{FormulaForm, LearntForm, BoundForm, QueryForm, RefutedForm, ModelForm}
use Rattle.refute_log.specs.declared.fault.LineTextFault.{LineTextFault}
use Rattle.refute_log.specs.declared.fault.LineTextFault.TheVariants.{Log, Memory as NoMemory}
use Rattle.refute_log.specs.LineText.{SpellsLine, IsTextOf, HasLineFault, IsLineFault}
use Rattle.refute_log.specs.FieldText.{fields_left}
use Rattle.refute_log.specs.OneText.{spaced_with}
use Rattle.refute_log.proofs.LogLemmas.{flat_map_last}
use Rattle.refute_log.proofs.LawLemmas.{right_form, decimal_is_number}
use Rattle.hint_log.specs.declared.hint_line.HintLine.{HintLine}
use Rattle.hint_log.specs.declared.hint_line.HintLine.TheVariants as hints
use Rattle.hint_log.specs.Hint.{hints_of}
use Rattle.hint_log.specs.HintedLines.{line_of}
use Rattle.hint_log.specs.declared.text_fault.HintsWhat.{HintsWhat}
use Rattle.hint_log.specs.declared.text_fault.HintsWhat.TheVariants.{Header, Form, Number, Twice, Range}
use Rattle.hint_log.specs.HintText.{IsClauseNumber, number_fields}
use Rattle.hint_log.specs.HintForm.{NoneIsZero, EndsAtZero, HintForm, IsOfHintForm}
use Rattle.hint_log.specs.declared.text_fault.HintTextFault.{HintTextFault}
use Rattle.hint_log.specs.declared.text_fault.HintTextFault.TheVariants.{Hints, Memory}
use Rattle.hint_log.specs.HintFaults.{SpellsHint, IsHintOf, HasHintTextFault, IsHintWhere}
use Rattle.hint_log.specs.Parts.{IsCutBehindZero, NoZeroBefore, LacksZero, BeginsHinted, HasHintNumbers, HasNumberFields, HasWrongNumbers, LacksNumbers}
use Rattle.hint_log.specs.Parts.{IsFormFor, IsUnjoined, fault_of}
use Rattle.hint_log.proofs.CutLemmas.{not_before_letter, none_is_zero, SameCuts, cut_once}

-- ---- texts of fields

-- fields behind a letter, up to the `0` that ends them, and the numbers behind that
lettered : (letter : ℕ) (fields : List Field) → letter ∷ spaced (with_zero fields) ≡ (letter ∷ spaced fields) ++ 32 ∷ 48 ∷ []
lettered letter fields = ap (λ (t : List ℕ). letter ∷ t) (flat_map_last (λ (field : Field). 32 ∷ field) fields (48 ∷ []))

pub behind_space : (fields : List Field) → spaced (with_zero fields) ≡ 32 ∷ fields_left fields
behind_space fields = spaced_with fields (48 ∷ [])

-- the whole, cut where the literals end
whole_is : (letter : ℕ) (fields numbers : List Field) → (letter ∷ spaced (with_zero fields)) ++ spaced (with_zero numbers) ≡ (letter ∷ spaced fields) ++ 32 ∷ 48
    ∷ 32 ∷ fields_left numbers
whole_is letter fields numbers =
    ap (λ (t : List ℕ). t ++ spaced (with_zero numbers)) (lettered letter fields)
    ∙ append_assoc (letter ∷ spaced fields) (32 ∷ 48 ∷ []) (spaced (with_zero numbers))
    ∙ ap (λ (t : List ℕ). (letter ∷ spaced fields) ++ 32 ∷ 48 ∷ t) (behind_space numbers)

-- ---- a form has a cut

cut_at : (text : List ℕ) (letter : ℕ) (fields numbers : List Field) → letter ≢ 32 → AreNumbers fields → NoneIsZero fields →
    text ≡ (letter ∷ spaced (with_zero fields)) ++ spaced (with_zero numbers) →
    IsCutBehindZero text (letter ∷ spaced (with_zero fields)) (fields_left numbers)
cut_at text letter fields numbers other are none spelled =
    let is : text ≡ (letter ∷ spaced fields) ++ 32 ∷ 48 ∷ 32 ∷ fields_left numbers = spelled ∙ whole_is letter fields numbers in
    record {
      before = letter ∷ spaced fields;
      front_is = lettered letter fields;
      spelled = is;
      first = λ a b e. not_before_letter letter fields a b (fields_left numbers) other are none (sym is ∙ e);
    }

form_cut : (text : List ℕ) (line : LineForm) (numbers : List Field) → IsForm line → EndsAtZero line → text ≡ form_text line ++ spaced (with_zero numbers) →
    IsCutBehindZero text (form_text line) (fields_left numbers)
form_cut text (LearntForm fields) numbers is none spelled = cut_at text 108 fields numbers (λ e. omega arith) is.0 none spelled
form_cut text (RefutedForm fields) numbers is none spelled = cut_at text 114 fields numbers (λ e. omega arith) is none spelled
form_cut text (FormulaForm fields) numbers is none spelled = absurd none
form_cut text (BoundForm criterion k x) numbers is none spelled = absurd none
form_cut text (QueryForm fields) numbers is none spelled = absurd none
form_cut text ModelForm numbers is none spelled = absurd none

pub has_cut : (text : List ℕ) (form : HintForm) → IsOfHintForm text form → IsCutBehindZero text (form_text form.line) (fields_left form.numbers)
has_cut text form h = form_cut text form.line form.numbers h.is_form h.first h.spelled

-- so without a cut there is no form, and with one the form has its parts
pub no_cut_no_form : (text : List ℕ) → LacksZero text → HasHintTextFault text Form
no_cut_no_form text none = λ form h. let cut = has_cut text form h in none cut.before (fields_left form.numbers) cut.spelled

parts_of : (text front rest : List ℕ) (form : HintForm) → IsCutBehindZero text front rest → IsOfHintForm text form →
    SameCuts front (form_text form.line) rest (fields_left form.numbers)
parts_of text front rest form cut h = cut_once text front (form_text form.line) rest (fields_left form.numbers) cut (has_cut text form h)

-- ---- a cut, and the forms of its parts

cut_spelled : (text front rest : List ℕ) → IsCutBehindZero text front rest → text ≡ front ++ 32 ∷ rest
cut_spelled text front rest cut =
    cut.spelled ∙ sym (append_assoc cut.before (32 ∷ 48 ∷ []) (32 ∷ rest)) ∙ ap (λ (t : List ℕ). t ++ 32 ∷ rest) (sym cut.front_is)

front_none : (text front rest : List ℕ) (letter : ℕ) (fields : List Field) → IsCutBehindZero text front rest → front ≡ letter ∷ spaced (with_zero fields) →
    NoneIsZero fields
front_none text front rest letter fields cut e =
    let before : cut.before ≡ letter ∷ spaced fields = append_cancel_right cut.before (letter ∷ spaced fields) (32 ∷ 48 ∷ [])
    (sym cut.front_is ∙ e ∙ lettered letter fields) in
    none_is_zero (letter ∷ []) fields rest
    (subst (λ (t : List ℕ). NoZeroBefore (t ++ 32 ∷ 48 ∷ 32 ∷ rest) (length t)) before
    (subst (λ (t : List ℕ). NoZeroBefore t (length cut.before)) cut.spelled cut.first))

pub other_letter : (letter : ℕ) (front rest : List ℕ) → BeginsHinted front → letter ≢ 108 → letter ≢ 114 → front ≡ letter ∷ rest → ⊥
other_letter letter front rest begins l r e =
    let same : begins.0 ≡ letter = same_heads begins.0 letter (32 ∷ begins.1) rest (sym begins.3 ∙ e) in
    elim begins.2 [
      | inl is ↦ l (sym same ∙ is)
      | inr is ↦ r (sym same ∙ is)
    ]

-- a Learnt or Refuted line begins with its letter, and no other does
line_ends : (text front rest : List ℕ) (line : LineForm) → IsCutBehindZero text front rest → BeginsHinted front → IsOfForm front line → EndsAtZero line
line_ends text front rest (LearntForm fields) cut begins h = front_none text front rest 108 fields cut h.spelled
line_ends text front rest (RefutedForm fields) cut begins h = front_none text front rest 114 fields cut h.spelled
line_ends text front rest (FormulaForm fields) cut begins h = other_letter 102 front (spaced (with_zero fields)) begins (λ e. omega arith) (λ e. omega arith)
    h.spelled
line_ends text front rest (BoundForm criterion k x) cut begins h = other_letter 98 front (spaced (criterion_word criterion ∷ k ∷ x ∷ [])) begins
    (λ e. omega arith) (λ e. omega arith) h.spelled
line_ends text front rest (QueryForm fields) cut begins h = other_letter 113 front (spaced (with_zero fields)) begins (λ e. omega arith) (λ e. omega arith)
    h.spelled
line_ends text front rest ModelForm cut begins h = other_letter 109 front [] begins (λ e. omega arith) (λ e. omega arith) h.spelled

pub whole_form : (text front rest : List ℕ) (line : LineForm) (fields : List Field) → IsCutBehindZero text front rest → BeginsHinted front →
    IsOfForm front line → HasNumberFields rest fields → IsOfHintForm text (record { line = line; numbers = fields })
whole_form text front rest line fields cut begins h n = record {
  is_form = h.is_form;
  first = line_ends text front rest line cut begins h;
  some = n.some;
  numbers = n.has.numbers;
  spelled =
      cut_spelled text front rest cut ∙ ap (λ (t : List ℕ). t ++ 32 ∷ rest) h.spelled
      ∙ ap (λ (t : List ℕ). form_text line ++ t) (ap (λ (t : List ℕ). 32 ∷ t) n.has.spelled ∙ sym (behind_space fields));
}

-- the line of the whole
spells_hint : (text front rest : List ℕ) (h : HintLine) → IsCutBehindZero text front rest → SpellsLine front (line_of h) → HasHintNumbers rest (hints_of h) →
    SpellsHint text h
spells_hint text front rest h cut s n = record {
  formed = record { formed = s.formed; some = n.some; numbers = n.each };
  spelled =
      ap (λ (t : List ℕ). t ++ spaced (number_fields (hints_of h))) s.spelled
      ∙ ap (λ (t : List ℕ). front ++ t) (behind_space (map decimal (hints_of h)) ∙ ap (λ (t : List ℕ). 32 ∷ t) (sym n.spelled))
      ∙ sym (cut_spelled text front rest cut);
}

-- a line of another kind begins otherwise
abbrev IsOther : LogLine → Type 0
IsOther (Formula c) = ⊤
IsOther (Learnt c) = ⊥
IsOther (Bound d k x) = ⊤
IsOther (Query c) = ⊤
IsOther (Refuted c) = ⊥
IsOther Model = ⊤

unhinted : (front : List ℕ) (read : LogLine) → IsOther read → BeginsHinted front → SpellsLine front read → ⊥
unhinted front (Formula c) other begins s = other_letter 102 front (spaced (clause_fields c)) begins (λ e. omega arith) (λ e. omega arith) (sym s.spelled)
unhinted front (Bound d k x) other begins s = other_letter 98 front (spaced (line_fields (Bound d k x))) begins (λ e. omega arith) (λ e. omega arith)
    (sym s.spelled)
unhinted front (Query c) other begins s = other_letter 113 front (spaced (clause_fields c)) begins (λ e. omega arith) (λ e. omega arith) (sym s.spelled)
unhinted front Model other begins s = other_letter 109 front [] begins (λ e. omega arith) (λ e. omega arith) (sym s.spelled)
unhinted front (Learnt c) other begins s = other
unhinted front (Refuted c) other begins s = other

-- ---- numbers and their fields

pub decimals_are_numbers : (ns : List ℕ) → AllByRecursion IsClauseNumber ns → AreNumbers (map decimal ns)
decimals_are_numbers [] h = tt
decimals_are_numbers (n ∷ ns) h = (decimal_is_number n h.0.to, decimals_are_numbers ns h.1)

pub some_decimals : (ns : List ℕ) → 1 ≤ length ns → 1 ≤ length (map decimal ns)
some_decimals [] h = h
some_decimals (n ∷ ns) h = omega arith

number_fields_of : (rest ns : List ℕ) → HasHintNumbers rest ns → HasNumberFields rest (map decimal ns)
number_fields_of rest ns h = record { some = some_decimals ns h.some; has = record { numbers = decimals_are_numbers ns h.each; spelled = h.spelled } }

-- ---- the faults of the parts are those of the whole

pub unhinted_form : (text front rest : List ℕ) → IsCutBehindZero text front rest → (BeginsHinted front → ⊥) → HasHintTextFault text Form
unhinted_form text front rest cut not = λ form h. let p = parts_of text front rest form cut h in not (begins form.line h.first p.front_is)
  where
    begins : (line : LineForm) → EndsAtZero line → front ≡ form_text line → BeginsHinted front
    begins (LearntForm fields) none e = (108, fields_left fields, inl refl, e ∙ ap (λ (t : List ℕ). 108 ∷ t) (behind_space fields))
    begins (RefutedForm fields) none e = (114, fields_left fields, inr refl, e ∙ ap (λ (t : List ℕ). 114 ∷ t) (behind_space fields))
    begins (FormulaForm fields) none e = absurd none
    begins (BoundForm criterion k x) none e = absurd none
    begins (QueryForm fields) none e = absurd none
    begins ModelForm none e = absurd none

pub numbers_form : (text front rest : List ℕ) → IsCutBehindZero text front rest → LacksNumbers rest → HasHintTextFault text Form
numbers_form text front rest cut lacks = λ form h.
    let p = parts_of text front rest form cut h in
    lacks form.numbers (record { some = h.some; has = record { numbers = h.numbers; spelled = p.rest_is } })

line_form : (text front rest : List ℕ) → IsCutBehindZero text front rest → HasLineFault front logs.Form → HasHintTextFault text Form
line_form text front rest cut fault = λ form h. let p = parts_of text front rest form cut h in fault form.line (record {
  is_form = h.is_form;
  spelled = p.front_is;
})

line_number : (text front rest : List ℕ) (fields : List Field) → IsCutBehindZero text front rest → BeginsHinted front → HasLineFault front logs.Number →
    HasNumberFields rest fields → HasHintTextFault text Number
line_number text front rest fields cut begins fault n =
    (record { line = fault.0; numbers = fields }, whole_form text front rest fault.0 fields cut begins fault.1 n, λ right. fault.2 right.literals)

wrong_number : (text front rest : List ℕ) (read : LogLine) → IsCutBehindZero text front rest → BeginsHinted front → SpellsLine front read →
    HasWrongNumbers rest → HasHintTextFault text Number
wrong_number text front rest read cut begins s w =
    let form = (right_form front).1 (read, s) in
    (record { line = form.0; numbers = w.fields }, whole_form text front rest form.0 w.fields cut begins form.1 w.has, λ right. w.wrong right.hints)

line_twice : (text front rest ns : List ℕ) (read : LogLine) → IsCutBehindZero text front rest → BeginsHinted front → SpellsLine front read →
    (NamesOnce read → ⊥) → HasHintNumbers rest ns → HasHintTextFault text Twice
line_twice text front rest ns (Learnt c) cut begins s not n = let h : HintLine = hints.Learnt c ns in (h, spells_hint text front rest h cut s n, not)
line_twice text front rest ns (Refuted c) cut begins s not n = let h : HintLine = hints.Refuted c ns in (h, spells_hint text front rest h cut s n, not)
line_twice text front rest ns (Formula c) cut begins s not n = absurd (unhinted front (Formula c) tt begins s)
line_twice text front rest ns (Bound d k x) cut begins s not n = absurd (unhinted front (Bound d k x) tt begins s)
line_twice text front rest ns (Query c) cut begins s not n = absurd (unhinted front (Query c) tt begins s)
line_twice text front rest ns Model cut begins s not n = absurd (unhinted front Model tt begins s)

pub part_fault : (text front rest : List ℕ) (found : Option (List ℕ)) (right : Bool) (what : LogWhat) → right ≡ is_some found →
    IsCutBehindZero text front rest → BeginsHinted front → MatchOption found (HasWrongNumbers rest) (HasHintNumbers rest) → HasLineFault front what →
    HasHintTextFault text (fault_of what right)
part_fault text front rest found right logs.Header is cut begins m fault = fault
part_fault text front rest found right logs.Form is cut begins m fault = line_form text front rest cut fault
part_fault text front rest None right logs.Number is cut begins m fault = line_number text front rest m.fields cut begins fault m.has
part_fault text front rest (Some ns) right logs.Number is cut begins m fault = line_number text front rest (map decimal ns) cut begins fault
    (number_fields_of rest ns m)
part_fault text front rest None true logs.Twice is cut begins m fault = absurd (true≢false is)
part_fault text front rest None false logs.Twice is cut begins m fault = wrong_number text front rest fault.0 cut begins fault.1 m
part_fault text front rest (Some ns) true logs.Twice is cut begins m fault = line_twice text front rest ns fault.0 cut begins fault.1 fault.2 m
part_fault text front rest (Some ns) false logs.Twice is cut begins m fault = absurd (true≢false (sym is))

-- ---- both parts, joined

pub joined : (text front rest : List ℕ) (h : HintLine) (read : LogLine) (found : Option (List ℕ)) → line_of h ≡ read → found ≡ Some (hints_of h) →
    IsCutBehindZero text front rest → IsTextOf front read → MatchOption found (HasWrongNumbers rest) (HasHintNumbers rest) → IsHintOf text h
joined text front rest h read found line hints cut t m =
    let numbers : HasHintNumbers rest (hints_of h) = subst (λ (o : Option (List ℕ)). MatchOption o (HasWrongNumbers rest) (HasHintNumbers rest)) hints m in
    let is : IsTextOf front (line_of h) = subst (IsTextOf front) (sym line) t in
    record { spells = spells_hint text front rest h cut is.spells numbers; once = is.once }

pub unjoined : (text front rest : List ℕ) (read : LogLine) (found : Option (List ℕ)) (what : HintsWhat) → IsCutBehindZero text front rest → BeginsHinted front →
    IsTextOf front read → MatchOption found (HasWrongNumbers rest) (HasHintNumbers rest) → IsUnjoined read found what → HasHintTextFault text what
unjoined text front rest (Learnt c) found Form cut begins t m not = absurd (not (hints.Learnt c []) refl)
unjoined text front rest (Refuted c) found Form cut begins t m not = absurd (not (hints.Refuted c []) refl)
unjoined text front rest (Formula c) found Form cut begins t m not = absurd (unhinted front (Formula c) tt begins t.spells)
unjoined text front rest (Bound d k x) found Form cut begins t m not = absurd (unhinted front (Bound d k x) tt begins t.spells)
unjoined text front rest (Query c) found Form cut begins t m not = absurd (unhinted front (Query c) tt begins t.spells)
unjoined text front rest Model found Form cut begins t m not = absurd (unhinted front Model tt begins t.spells)
unjoined text front rest read found Number cut begins t m none = wrong_number text front rest read cut begins t.spells
    (subst (λ (o : Option (List ℕ)). MatchOption o (HasWrongNumbers rest) (HasHintNumbers rest)) none m)
unjoined text front rest read found Header cut begins t m h = h
unjoined text front rest read found Twice cut begins t m h = absurd h
unjoined text front rest read found Range cut begins t m h = h

-- ---- what is answered to the parts

-- the fault of a text that is so cut
abbrev IsCutFault : List ℕ → List ℕ → HintsWhat → Type 0
IsCutFault front rest what = (text : List ℕ) → IsCutBehindZero text front rest → HasHintTextFault text what

pub numbers_fault : (front rest : List ℕ) (line : ℕ) (fault : HintTextFault) → IsHintWhere (IsFormFor (LacksNumbers rest)) line fault →
    IsHintWhere (IsCutFault front rest) line fault
numbers_fault front rest line (Hints Form n) h = (h.0, λ text cut. numbers_form text front rest cut h.1)
numbers_fault front rest line (Hints Header n) h = absurd h.1
numbers_fault front rest line (Hints Number n) h = absurd h.1
numbers_fault front rest line (Hints Twice n) h = absurd h.1
numbers_fault front rest line (Hints Range n) h = absurd h.1
numbers_fault front rest line Memory h = tt

pub unjoined_fault : (front rest : List ℕ) (read : LogLine) (found : Option (List ℕ)) (line : ℕ) (fault : HintTextFault) → BeginsHinted front →
    IsTextOf front read → MatchOption found (HasWrongNumbers rest) (HasHintNumbers rest) →
    IsHintWhere (IsUnjoined read found) line fault → IsHintWhere (IsCutFault front rest) line fault
unjoined_fault front rest read found line (Hints what n) begins t m h = (h.0, λ text cut. unjoined text front rest read found what cut begins t m h.1)
unjoined_fault front rest read found line Memory begins t m h = tt

pub log_fault : (front : List ℕ) (line : ℕ) (e : LineTextFault) (what : LogWhat) (n : ℕ) → e ≡ Log what n → (e ≡ NoMemory) ⊎ IsLineFault front line e →
    HasLineFault front what
log_fault front line e what n is (inl none) = absurd (let z = sym is ∙ none in cc)
log_fault front line e what n is (inr h) = (subst (IsLineFault front line) is h).1
