-- What the text behind the letter says of the whole line.
use Rattle.std.proofs.Common.{◌≡◌, ◌≢◌, ℕ, ◌≤◌, ◌⊎◌, inl, inr, not, true, eqb, List, [], ◌∷◌, ◌++◌, length, get_or, map, decimal, refl, sym, ◌∙◌, ap, subst}
use Rattle.std.proofs.Common.{arith}
use Rattle.std.specs.List.{list_all}
use Rattle.std.proofs.lemmas.Bool.Decides.{eqb_tells}
use Rattle.std.proofs.lemmas.List.{append-nil}
use Rattle.plan_core.specs.declared.criterion.Criterion.{Criterion}
use Rattle.plan_core.specs.declared.criterion.Criterion.TheVariants.{Height, Bends, Diagonal, Width}
use Rattle.cnf_core.specs.Lit.{Literal}
use Rattle.cnf_core.specs.Clause.{AreDistinct}
use Rattle.outside_io.specs.Criteria.{criterion_word}
use Rattle.outside_io.specs.Fields.{LacksByte, IsCutAt}
use Rattle.refute_log.specs.declared.line.LogLine.TheVariants.{Formula, Learnt, Query, Refuted}
use Rattle.refute_log.specs.declared.fault.LogWhat.{LogWhat}
use Rattle.refute_log.specs.declared.fault.LogWhat.TheVariants.{Header, Form, Number, Twice}
use Rattle.refute_log.specs.declared.fault.LineTextFault.{LineTextFault}
use Rattle.refute_log.specs.declared.fault.LineTextFault.TheVariants.{Log, Memory}
use Rattle.cnf_core.specs.declared.limits.TheConstants.{LAST_VAR}
use Rattle.outside_io.specs.declared.numbers.TheConstants.{MAX_NUMBER}
use Rattle.outside_io.specs.Fields.{spaced}
use Rattle.outside_io.specs.Numbers.{IsNumberField}
use Rattle.refute_log.specs.Lines.{literal_text, with_zero, clause_fields}
use Rattle.refute_log.specs.LineForm.{Field, IsNumber}
use Rattle.refute_log.specs.LineForm.LineForm.{FormulaForm, LearntForm, BoundForm, QueryForm, RefutedForm, ModelForm}
use Rattle.refute_log.specs.LineText.{IsTextOf, HasLineFault, IsFaultWhere, IsWantOrFault}
use Rattle.refute_log.specs.FieldText.{trailed, fields_left, HasBound, HasFields, HasLiterals, HasFieldsFault}
use Rattle.refute_log.specs.OneText.{spaced_with}
use Rattle.refute_log.proofs.ReadingLemmas.{zero_is_one, SameCut, same_cut, no_cut, number_is_one, regroup}

-- a fault of one kind is one of another
pub fault_as : (P Q : LogWhat → Type 0) → ((what : LogWhat) → P what → Q what) → (line : ℕ) (fault : LineTextFault) → IsFaultWhere P line fault →
    IsFaultWhere Q line fault
fault_as P Q f line (Log what at) h = (h.0, f what h.1)
fault_as P Q f line Memory h = tt

-- ---- a letter, and what stands behind the space that follows it

pub behind_letter : (a : ℕ) (fields : List Field) → a ∷ spaced (with_zero fields) ≡ a ∷ 32 ∷ fields_left fields
behind_letter a fields = ap (λ (t : List ℕ). a ∷ t) (spaced_with fields (48 ∷ []))

second_tail : (a : ℕ) (xs ys : List ℕ) → a ∷ 32 ∷ xs ≡ a ∷ 32 ∷ ys → xs ≡ ys
second_tail a xs ys e = cc

-- the fields behind a letter are known
fields_behind : (a : ℕ) (text : List ℕ) (fields : List Field) → a ∷ 32 ∷ text ≡ a ∷ spaced (with_zero fields) → text ≡ fields_left fields
fields_behind a text fields e = second_tail a text (fields_left fields) (e ∙ behind_letter a fields)

pub same_behind : (a : ℕ) (fs gs : List Field) → a ∷ spaced (with_zero fs) ≡ a ∷ spaced (with_zero gs) → fields_left fs ≡ fields_left gs
same_behind a fs gs e = fields_behind a (fields_left fs) gs (sym (behind_letter a fs) ∙ e)

with_letter : (a : ℕ) (text : List ℕ) (fields : List Field) → text ≡ fields_left fields → a ∷ 32 ∷ text ≡ a ∷ spaced (with_zero fields)
with_letter a text fields e = ap (λ (t : List ℕ). a ∷ 32 ∷ t) e ∙ sym (behind_letter a fields)

clause_behind : (a : ℕ) (text : List ℕ) (c : List Literal) → HasLiterals text c → a ∷ spaced (clause_fields c) ≡ a ∷ 32 ∷ text
clause_behind a text c h = sym (with_letter a text (map literal_text c) h.spelled)

-- ---- lines of the four kinds that have literals

pub formula_is : (text : List ℕ) (c : List Literal) → HasLiterals text c → AreDistinct c → IsTextOf (102 ∷ 32 ∷ text) (Formula c)
formula_is text c h d = record { spells = record { formed = h.there; spelled = clause_behind 102 text c h }; once = d }

pub query_is : (text : List ℕ) (c : List Literal) → HasLiterals text c → AreDistinct c → IsTextOf (113 ∷ 32 ∷ text) (Query c)
query_is text c h d = record { spells = record { formed = h.there; spelled = clause_behind 113 text c h }; once = d }

pub refuted_is : (text : List ℕ) (c : List Literal) → HasLiterals text c → AreDistinct c → IsTextOf (114 ∷ 32 ∷ text) (Refuted c)
refuted_is text c h d = record { spells = record { formed = h.there; spelled = clause_behind 114 text c h }; once = d }

some_literal : (text : List ℕ) (c : List Literal) → (text ≡ 48 ∷ [] → ⊥) → HasLiterals text c → 1 ≤ length c
some_literal text [] not h = absurd (not h.spelled)
some_literal text (l ∷ c) not h = omega arith

pub learnt_is : (text : List ℕ) (c : List Literal) → (text ≡ 48 ∷ [] → ⊥) → HasLiterals text c → AreDistinct c → IsTextOf (108 ∷ 32 ∷ text) (Learnt c)
learnt_is text c not h d = record { spells = record { formed = (h.there, some_literal text c not h); spelled = clause_behind 108 text c h }; once = d }

-- and their faults
formula_form : (text : List ℕ) → HasFieldsFault text Form → HasLineFault (102 ∷ 32 ∷ text) Form
formula_form text h (FormulaForm fields) k = h fields (record { numbers = k.is_form; spelled = fields_behind 102 text fields k.spelled })
formula_form text h form k = let z = ap (λ (t : List ℕ). get_or t 0 0) k.spelled in absurd (omega arith)

formula_wrong : (text : List ℕ) (what : LogWhat) → HasFieldsFault text what → HasLineFault (102 ∷ 32 ∷ text) what
formula_wrong text Header h = h
formula_wrong text Form h = formula_form text h
formula_wrong text Number h = (FormulaForm h.0, record { is_form = h.1.numbers; spelled = with_letter 102 text h.0 h.1.spelled }, h.2)
formula_wrong text Twice h = (Formula h.0, record { formed = h.1.there; spelled = clause_behind 102 text h.0 h.1 }, h.2)

query_form : (text : List ℕ) → HasFieldsFault text Form → HasLineFault (113 ∷ 32 ∷ text) Form
query_form text h (QueryForm fields) k = h fields (record { numbers = k.is_form; spelled = fields_behind 113 text fields k.spelled })
query_form text h form k = let z = ap (λ (t : List ℕ). get_or t 0 0) k.spelled in absurd (omega arith)

query_wrong : (text : List ℕ) (what : LogWhat) → HasFieldsFault text what → HasLineFault (113 ∷ 32 ∷ text) what
query_wrong text Header h = h
query_wrong text Form h = query_form text h
query_wrong text Number h = (QueryForm h.0, record { is_form = h.1.numbers; spelled = with_letter 113 text h.0 h.1.spelled }, h.2)
query_wrong text Twice h = (Query h.0, record { formed = h.1.there; spelled = clause_behind 113 text h.0 h.1 }, h.2)

refuted_form : (text : List ℕ) → HasFieldsFault text Form → HasLineFault (114 ∷ 32 ∷ text) Form
refuted_form text h (RefutedForm fields) k = h fields (record { numbers = k.is_form; spelled = fields_behind 114 text fields k.spelled })
refuted_form text h form k = let z = ap (λ (t : List ℕ). get_or t 0 0) k.spelled in absurd (omega arith)

refuted_wrong : (text : List ℕ) (what : LogWhat) → HasFieldsFault text what → HasLineFault (114 ∷ 32 ∷ text) what
refuted_wrong text Header h = h
refuted_wrong text Form h = refuted_form text h
refuted_wrong text Number h = (RefutedForm h.0, record { is_form = h.1.numbers; spelled = with_letter 114 text h.0 h.1.spelled }, h.2)
refuted_wrong text Twice h = (Refuted h.0, record { formed = h.1.there; spelled = clause_behind 114 text h.0 h.1 }, h.2)

learnt_form : (text : List ℕ) → HasFieldsFault text Form → HasLineFault (108 ∷ 32 ∷ text) Form
learnt_form text h (LearntForm fields) k = h fields (record { numbers = k.is_form.0; spelled = fields_behind 108 text fields k.spelled })
learnt_form text h form k = let z = ap (λ (t : List ℕ). get_or t 0 0) k.spelled in absurd (omega arith)

some_field : (text : List ℕ) (fields : List Field) → (text ≡ 48 ∷ [] → ⊥) → HasFields text fields → 1 ≤ length fields
some_field text [] not h = absurd (not h.spelled)
some_field text (f ∷ fields) not h = omega arith

learnt_wrong : (text : List ℕ) → (text ≡ 48 ∷ [] → ⊥) → (what : LogWhat) → HasFieldsFault text what → HasLineFault (108 ∷ 32 ∷ text) what
learnt_wrong text not Header h = h
learnt_wrong text not Form h = learnt_form text h
learnt_wrong text not Number h = (
  LearntForm h.0,
  record {
    is_form = (h.1.numbers, some_field text h.0 not h.1);
    spelled = with_letter 108 text h.0 h.1.spelled;
  },
  h.2,
)
learnt_wrong text not Twice h = (Learnt h.0, record { formed = (h.1.there, some_literal text h.0 not h.1); spelled = clause_behind 108 text h.0 h.1 }, h.2)

pub formula_fault : (text : List ℕ) (line : ℕ) (fault : LineTextFault) → IsFaultWhere (HasFieldsFault text) line fault →
    IsWantOrFault (102 ∷ 32 ∷ text) line fault
formula_fault text line fault h = fault_as (HasFieldsFault text) (HasLineFault (102 ∷ 32 ∷ text)) (formula_wrong text) line fault h

pub query_fault : (text : List ℕ) (line : ℕ) (fault : LineTextFault) → IsFaultWhere (HasFieldsFault text) line fault →
    IsWantOrFault (113 ∷ 32 ∷ text) line fault
query_fault text line fault h = fault_as (HasFieldsFault text) (HasLineFault (113 ∷ 32 ∷ text)) (query_wrong text) line fault h

pub refuted_fault : (text : List ℕ) (line : ℕ) (fault : LineTextFault) → IsFaultWhere (HasFieldsFault text) line fault →
    IsWantOrFault (114 ∷ 32 ∷ text) line fault
refuted_fault text line fault h = fault_as (HasFieldsFault text) (HasLineFault (114 ∷ 32 ∷ text)) (refuted_wrong text) line fault h

pub learnt_fault : (text : List ℕ) → (text ≡ 48 ∷ [] → ⊥) → (line : ℕ) (fault : LineTextFault) → IsFaultWhere (HasFieldsFault text) line fault →
    IsWantOrFault (108 ∷ 32 ∷ text) line fault
learnt_fault text not line fault h = fault_as (HasFieldsFault text) (HasLineFault (108 ∷ 32 ∷ text)) (learnt_wrong text not) line fault h

-- a Learnt line has a literal
pub no_learnt : (text : List ℕ) → text ≡ 48 ∷ [] → HasLineFault (108 ∷ 32 ∷ text) Form
no_learnt text e (LearntForm []) k = omega (arith, k.is_form.1)
no_learnt text e (LearntForm (f ∷ fields)) k =
    no_cut (48 ∷ []) f (fields_left fields) zero_is_one (sym e ∙ fields_behind 108 text (f ∷ fields) k.spelled ∙ regroup f (trailed fields) (48 ∷ []))
no_learnt text e form k = let z = ap (λ (t : List ℕ). get_or t 0 0) k.spelled in absurd (omega arith)

-- no letter and space stand in front
pub no_front : (text : List ℕ) → ((letter : ℕ) (rest : List ℕ) → text ≢ letter ∷ 32 ∷ rest) → (text ≡ 109 ∷ [] → ⊥) → HasLineFault text Form
no_front text h m (FormulaForm fields) k = h 102 (fields_left fields) (k.spelled ∙ behind_letter 102 fields)
no_front text h m (LearntForm fields) k = h 108 (fields_left fields) (k.spelled ∙ behind_letter 108 fields)
no_front text h m (BoundForm criterion k x) e = h 98 (criterion_word criterion ++ 32 ∷ (k ++ 32 ∷ (x ++ []))) e.spelled
no_front text h m (QueryForm fields) k = h 113 (fields_left fields) (k.spelled ∙ behind_letter 113 fields)
no_front text h m (RefutedForm fields) k = h 114 (fields_left fields) (k.spelled ∙ behind_letter 114 fields)
no_front text h m ModelForm k = m k.spelled

-- Bound lines
one_by_test : (bs : List ℕ) → list_all (λ b. not (eqb b 32)) bs ≡ true → LacksByte 32 bs
one_by_test [] e = tt
one_by_test (b ∷ bs) e = elim (eqb_tells b 32) [
  | inl is ↦ cc (rw is.0 at e)
  | inr other ↦ (other.1, one_by_test bs (rw other.0 at e))
]

criterion_is_one : (c : Criterion) → LacksByte 32 (criterion_word c)
criterion_is_one Height = one_by_test (criterion_word Height) refl
criterion_is_one Bends = one_by_test (criterion_word Bends) refl
criterion_is_one Diagonal = one_by_test (criterion_word Diagonal) refl
criterion_is_one Width = one_by_test (criterion_word Width) refl

abbrev pub LacksBound : List ℕ → Type 0
LacksBound text = (c : Criterion) (k x : Field) → HasBound text c k x → ⊥

bound_cut : (text word rest : List ℕ) (c : Criterion) (k x : Field) → IsCutAt 32 text word rest → HasBound text c k x →
    SameCut word (criterion_word c) rest (k ++ 32 ∷ x)
bound_cut text word rest c k x cut h = same_cut word (criterion_word c) rest (k ++ 32 ∷ x) cut.first (criterion_is_one c) (sym cut.spelled ∙ h.spelled)

pub no_criterion : (text word rest : List ℕ) → IsCutAt 32 text word rest → ((c : Criterion) → word ≡ criterion_word c → ⊥) → LacksBound text
no_criterion text word rest cut not = λ c k x h. not c (bound_cut text word rest c k x cut h).field

pub no_second_field : (text word rest : List ℕ) → IsCutAt 32 text word rest → LacksByte 32 rest → LacksBound text
no_second_field text word rest cut one = λ c k x h. no_cut rest k x one (bound_cut text word rest c k x cut h).rest

pub no_numbers : (text word rest k x : List ℕ) → IsCutAt 32 text word rest → IsCutAt 32 rest k x → (IsNumber k → ⊥) ⊎ (IsNumber x → ⊥) → LacksBound text
no_numbers text word rest k x cut second either = λ c l y h.
    let same = same_cut k l x y second.first (number_is_one l h.k_number) (sym second.spelled ∙ (bound_cut text word rest c l y cut h).rest) in
    elim either [
      | inl not ↦ not (subst IsNumber (sym same.field) h.k_number)
      | inr not ↦ not (subst IsNumber (sym same.rest) h.x_number)
    ]

abbrev bound_behind : Criterion → Field → Field → List ℕ
bound_behind c k x = 98 ∷ 32 ∷ (criterion_word c ++ 32 ∷ (k ++ 32 ∷ x))

bound_ended : (c : Criterion) (k x : Field) → bound_behind c k (x ++ []) ≡ bound_behind c k x
bound_ended c k x = ap (λ (t : List ℕ). bound_behind c k t) (append-nil x)

pub wrong_bound : (text : List ℕ) (c : Criterion) (k x : Field) → HasBound text c k x → (IsNumberField 1 MAX_NUMBER k × IsNumberField 1 LAST_VAR x → ⊥) →
    HasLineFault (98 ∷ 32 ∷ text) Number
wrong_bound text c k x h not = (
  BoundForm c k x,
  record { is_form = (h.k_number, h.x_number); spelled = ap (λ (t : List ℕ). 98 ∷ 32 ∷ t) h.spelled ∙ sym (bound_ended c k x) },
  not,
)
