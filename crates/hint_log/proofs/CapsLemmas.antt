-- The line of the caps: it has one form, is that of one list of caps, and has one fault or none.
use Rattle.std.proofs.Common.{◌≡◌, ℕ, ◌≤◌, rules, List, [], ◌∷◌, ◌++◌, decimal, refl, sym, ◌∙◌, ap, subst, arith}
use Rattle.std.specs.Prelude.{codes}
use Rattle.std.specs.List.{AllByRecursion}
use Rattle.std.proofs.lemmas.List.{append-nil}
use Rattle.plan_core.specs.declared.criterion.Criterion.{Criterion}
use Rattle.plan_core.specs.declared.criterion.Criterion.TheVariants.{Height, Bends, Diagonal, Width}
use Rattle.plan_core.specs.declared.criterion.Values.{Values}
use Rattle.plan_core.specs.Values.{value_of}
use Rattle.cnf_core.specs.declared.limits.TheConstants.{LAST_VAR}
use Rattle.outside_io.specs.Fields.{LacksByte, IsCutAt, unended_text}
use Rattle.outside_io.specs.declared.numbers.TheConstants.{MAX_NUMBER}
use Rattle.refute_log.specs.LineForm.{Field, IsNumber}
use Rattle.refute_log.specs.OneText.{decimal_once}
use Rattle.refute_log.proofs.ReadingLemmas.{same_cut, no_cut, number_is_one}
use Rattle.hint_log.specs.declared.text_fault.HintsWhat.{HintsWhat}
use Rattle.hint_log.specs.declared.text_fault.HintsWhat.TheVariants.{Header, Form, Number, Twice, Range}
use Rattle.hint_log.specs.HintText.{caps_text}
use Rattle.hint_log.specs.Caps.{CapsForm, caps_fields, IsOfCapsForm, HasRightCaps, AreSmallCaps, IsCapsText, AreInRange, HasCapsFault, AreCapsOf}
use Rattle.hint_log.specs.Parts.{AreCapsIn}
use Rattle.refute_log.proofs.FeedLemmas.{lacks_both, decimal_lacks}
use Rattle.refute_log.proofs.LawLemmas.{decimal_is_number}

-- ---- the fields, one after another

abbrev behind_word : List ℕ → List ℕ
behind_word rest = 99 ∷ 97 ∷ 112 ∷ 115 ∷ 32 ∷ rest

abbrev three : Field → Field → Field → List ℕ
three bends diagonal width = bends ++ 32 ∷ (diagonal ++ 32 ∷ (width ++ []))

abbrev four : CapsForm → List ℕ
four form = form.height ++ 32 ∷ three form.bends form.diagonal form.width

word_once : (r s : List ℕ) → behind_word r ≡ behind_word s → r ≡ s
word_once r s e = cc

fields_behind : (text rest : List ℕ) (form : CapsForm) → text ≡ behind_word rest → IsOfCapsForm text form → rest ≡ four form
fields_behind text rest form is h = word_once rest (four form) (sym is ∙ h.spelled)

-- the first fields of a form, as they were cut
record IsCutSo (form : CapsForm) (height bends diagonal width : Field) : Type 0 where
  height_is : height ≡ form.height
  bends_is : bends ≡ form.bends
  diagonal_is : diagonal ≡ form.diagonal
  width_is : width ≡ form.width

first_cut : (text rest height more : List ℕ) (form : CapsForm) → text ≡ behind_word rest → IsCutAt 32 rest height more → IsOfCapsForm text form →
    (height ≡ form.height) × (more ≡ three form.bends form.diagonal form.width)
first_cut text rest height more form is cut h =
    let same = same_cut height form.height more (three form.bends form.diagonal form.width) cut.first (number_is_one form.height h.numbers.0)
    (sym cut.spelled ∙ fields_behind text rest form is h) in
    (same.field, same.rest)

second_cut : (text rest height more bends later : List ℕ) (form : CapsForm) → text ≡ behind_word rest → IsCutAt 32 rest height more →
    IsCutAt 32 more bends later → IsOfCapsForm text form → (bends ≡ form.bends) × (later ≡ form.diagonal ++ 32 ∷ (form.width ++ []))
second_cut text rest height more bends later form is cut next h =
    let one = first_cut text rest height more form is cut h in
    let same = same_cut bends form.bends later (form.diagonal ++ 32 ∷ (form.width ++ [])) next.first (number_is_one form.bends h.numbers.1.0)
    (sym next.spelled ∙ one.1) in
    (same.field, same.rest)

all_cut : (text rest height more bends later diagonal width : List ℕ) (form : CapsForm) → text ≡ behind_word rest → IsCutAt 32 rest height more →
    IsCutAt 32 more bends later → IsCutAt 32 later diagonal width → IsOfCapsForm text form →
    IsCutSo form height bends diagonal width
all_cut text rest height more bends later diagonal width form is cut next last h =
    let one = first_cut text rest height more form is cut h in
    let two = second_cut text rest height more bends later form is cut next h in
    let same = same_cut diagonal form.diagonal width (form.width ++ []) last.first (number_is_one form.diagonal h.numbers.1.1.0) (sym last.spelled ∙ two.1) in
    record { height_is = one.0; bends_is = two.0; diagonal_is = same.field; width_is = same.rest ∙ append-nil form.width }

abbrev LacksCaps : List ℕ → Type 0
LacksCaps text = (form : CapsForm) → IsOfCapsForm text form → ⊥

pub no_height : (text rest : List ℕ) → text ≡ behind_word rest → LacksByte 32 rest → LacksCaps text
no_height text rest is one = λ form h. no_cut rest form.height (three form.bends form.diagonal form.width) one (fields_behind text rest form is h)

pub no_bends : (text rest height more : List ℕ) → text ≡ behind_word rest → IsCutAt 32 rest height more → LacksByte 32 more → LacksCaps text
no_bends text rest height more is cut one = λ form h. no_cut more form.bends (form.diagonal ++ 32 ∷ (form.width ++ [])) one
    (first_cut text rest height more form is cut h).1

pub no_diagonal : (text rest height more bends later : List ℕ) → text ≡ behind_word rest → IsCutAt 32 rest height more → IsCutAt 32 more bends later →
    LacksByte 32 later → LacksCaps text
no_diagonal text rest height more bends later is cut next one = λ form h. no_cut later form.diagonal (form.width ++ []) one
    (second_cut text rest height more bends later form is cut next h).1

abbrev with_fields : Field → Field → Field → Field → CapsForm
with_fields height bends diagonal width = record { height = height; bends = bends; diagonal = diagonal; width = width }

same_form : (form : CapsForm) (height bends diagonal width : Field) → IsCutSo form height bends diagonal width → with_fields height bends diagonal width ≡ form
same_form form height bends diagonal width s =
    ap (λ (t : Field). with_fields t bends diagonal width) s.height_is
    ∙ ap (λ (t : Field). with_fields form.height t diagonal width) s.bends_is
    ∙ ap (λ (t : Field). with_fields form.height form.bends t width) s.diagonal_is
    ∙ ap (λ (t : Field). with_fields form.height form.bends form.diagonal t) s.width_is

pub no_numbers : (text rest height more bends later diagonal width : List ℕ) → text ≡ behind_word rest → IsCutAt 32 rest height more →
    IsCutAt 32 more bends later → IsCutAt 32 later diagonal width →
    (AllByRecursion IsNumber (caps_fields (with_fields height bends diagonal width)) → ⊥) → LacksCaps text
no_numbers text rest height more bends later diagonal width is cut next last not = λ form h.
    let same = same_form form height bends diagonal width (all_cut text rest height more bends later diagonal width form is cut next last h) in
    not (subst (λ (f : CapsForm). AllByRecursion IsNumber (caps_fields f)) (sym same) h.numbers)

form_once : (text : List ℕ) (a b : CapsForm) → IsOfCapsForm text a → IsOfCapsForm text b → a ≡ b
form_once text a b h k =
    let cut : (f : Field) (r : List ℕ) → IsNumber f → IsCutAt 32 (f ++ 32 ∷ r) f r = λ f r n. record { first = number_is_one f n; spelled = refl } in
    let s = all_cut text (four a) a.height (three a.bends a.diagonal a.width) a.bends (a.diagonal ++ 32 ∷ (a.width ++ [])) a.diagonal (a.width ++ []) b
    h.spelled
    (cut a.height (three a.bends a.diagonal a.width) h.numbers.0) (cut a.bends (a.diagonal ++ 32 ∷ (a.width ++ [])) h.numbers.1.0)
    (cut a.diagonal (a.width ++ []) h.numbers.1.1.0) k in
    ap (λ (t : Field). with_fields a.height a.bends a.diagonal t) (sym (append-nil a.width)) ∙ same_form b a.height a.bends a.diagonal (a.width ++ []) s

-- ---- the caps of a text

decimals_of : Values → CapsForm
decimals_of caps = with_fields (decimal caps.height) (decimal caps.bends) (decimal caps.diagonal) (decimal caps.width)

small : (n : ℕ) → n ≤ MAX_NUMBER → n ≤ LAST_VAR
small n h = omega (arith, h)

caps_form_of : (text : List ℕ) (caps : Values) → IsCapsText text caps → IsOfCapsForm text (decimals_of caps)
unfolding decimals_of
caps_form_of text caps h = record {
  numbers = (
    decimal_is_number caps.height (small caps.height (h.small Height)),
    (
      decimal_is_number caps.bends (small caps.bends (h.small Bends)),
      (decimal_is_number caps.diagonal (small caps.diagonal (h.small Diagonal)), (decimal_is_number caps.width (small caps.width (h.small Width)), tt)),
    ),
  );
  spelled = h.spelled;
}

caps_right : (text : List ℕ) (caps : Values) → IsCapsText text caps → HasRightCaps (decimals_of caps)
unfolding decimals_of
caps_right text caps h = (
  (caps.height, record { written = refl; from = omega arith; to = h.small Height }),
  (
    (caps.bends, record { written = refl; from = omega arith; to = h.small Bends }),
    (
      (
        caps.diagonal,
        record {
          written = refl;
          from = omega arith;
          to = h.small Diagonal;
        },
      ),
      ((caps.width, record { written = refl; from = omega arith; to = h.small Width }), tt),
    ),
  ),
)

pub caps_once : (text : List ℕ) (a b : Values) → IsCapsText text a → IsCapsText text b → a ≡ b
unfolding decimals_of
caps_once text a b h k =
    let same : decimals_of a ≡ decimals_of b = form_once text (decimals_of a) (decimals_of b) (caps_form_of text a h) (caps_form_of text b k) in
    let values : ℕ → ℕ → ℕ → ℕ → Values = λ x y z w. record { height = x; bends = y; diagonal = z; width = w } in
    let height = decimal_once a.height b.height (small a.height (h.small Height)) (small b.height (k.small Height)) (ap (λ (f : CapsForm). f.height) same) in
    let bends = decimal_once a.bends b.bends (small a.bends (h.small Bends)) (small b.bends (k.small Bends)) (ap (λ (f : CapsForm). f.bends) same) in
    let diagonal = decimal_once a.diagonal b.diagonal (small a.diagonal (h.small Diagonal)) (small b.diagonal (k.small Diagonal))
    (ap (λ (f : CapsForm). f.diagonal) same) in
    let width = decimal_once a.width b.width (small a.width (h.small Width)) (small b.width (k.small Width)) (ap (λ (f : CapsForm). f.width) same) in
    ap (λ x. values x a.bends a.diagonal a.width) height
    ∙ ap (λ y. values b.height y a.diagonal a.width) bends
    ∙ ap (λ z. values b.height b.bends z a.width) diagonal
    ∙ ap (λ w. values b.height b.bends b.diagonal w) width

-- caps that were read
pub caps_text_of : (text : List ℕ) (form : CapsForm) (caps : Values) → IsOfCapsForm text form → AreCapsIn form caps → IsCapsText text caps
caps_text_of text form caps h a = record {
  small = each;
  spelled =
      h.spelled
      ∙ ap (λ (t : Field). unended_text (codes "caps") (caps_fields (with_fields t form.bends form.diagonal form.width))) a.height.written
      ∙ ap (λ (t : Field). unended_text (codes "caps") (caps_fields (with_fields (decimal caps.height) t form.diagonal form.width))) a.bends.written
      ∙ ap (λ (t : Field). unended_text (codes "caps") (caps_fields (with_fields (decimal caps.height) (decimal caps.bends) t form.width))) a.diagonal.written
      ∙ ap (λ (t : Field). unended_text (codes "caps") (caps_fields (with_fields (decimal caps.height) (decimal caps.bends) (decimal caps.diagonal) t)))
      a.width.written;
}
  where
    each : (c : Criterion) → value_of caps c ≤ MAX_NUMBER
    each Height = a.height.to
    each Bends = a.bends.to
    each Diagonal = a.diagonal.to
    each Width = a.width.to

-- ---- one line

lacks_field : (n : ℕ) (t : List ℕ) → n ≤ MAX_NUMBER → LacksByte 10 t → LacksByte 10 (32 ∷ (decimal n ++ t))
lacks_field n t h k = ((λ e. omega arith), lacks_both (decimal n) t (decimal_lacks n (small n h)) k)

pub caps_lack : (caps : Values) → AreSmallCaps caps → LacksByte 10 (caps_text caps)
caps_lack caps h =
    let width = 32 ∷ (decimal caps.width ++ []) in
    let diagonal = 32 ∷ (decimal caps.diagonal ++ width) in
    let bends = 32 ∷ (decimal caps.bends ++ diagonal) in
    let height = 32 ∷ (decimal caps.height ++ bends) in
    lacks_both (codes "caps") height (search rules)
    (lacks_field caps.height bends (h Height) (lacks_field caps.bends diagonal (h Bends)
    (lacks_field caps.diagonal width (h Diagonal) (lacks_field caps.width [] (h Width) tt))))

-- ---- one fault or none

form_or_caps : (greatest : Criterion → ℕ) (order : List Criterion) (text : List ℕ) (caps : Values) → IsCapsText text caps →
    HasCapsFault greatest order text Form → ⊥
form_or_caps greatest order text caps h f = f (decimals_of caps) (caps_form_of text caps h)

number_or_caps : (greatest : Criterion → ℕ) (order : List Criterion) (text : List ℕ) (caps : Values) → IsCapsText text caps →
    HasCapsFault greatest order text Number → ⊥
number_or_caps greatest order text caps h f = f.2 (subst HasRightCaps (form_once text (decimals_of caps) f.0 (caps_form_of text caps h) f.1)
    (caps_right text caps h))

pub caps_no_fault : (greatest : Criterion → ℕ) (order : List Criterion) (text : List ℕ) (caps : Values) (what : HintsWhat) →
    AreCapsOf greatest order text caps → HasCapsFault greatest order text what → ⊥
caps_no_fault greatest order text caps Header h f = f
caps_no_fault greatest order text caps Form h f = form_or_caps greatest order text caps h.is_text f
caps_no_fault greatest order text caps Number h f = number_or_caps greatest order text caps h.is_text f
caps_no_fault greatest order text caps Twice h f = f
caps_no_fault greatest order text caps Range h f = f.2 (subst (AreInRange greatest order) (caps_once text caps f.0 h.is_text f.1) h.range)

pub caps_fault_once : (greatest : Criterion → ℕ) (order : List Criterion) (text : List ℕ) (a b : HintsWhat) → HasCapsFault greatest order text a →
    HasCapsFault greatest order text b → a ≡ b
caps_fault_once greatest order text Form Form f g = refl
caps_fault_once greatest order text Form Number f g = absurd (f g.0 g.1)
caps_fault_once greatest order text Form Range f g = absurd (form_or_caps greatest order text g.0 g.1 f)
caps_fault_once greatest order text Number Form f g = absurd (g f.0 f.1)
caps_fault_once greatest order text Number Number f g = refl
caps_fault_once greatest order text Number Range f g = absurd (number_or_caps greatest order text g.0 g.1 f)
caps_fault_once greatest order text Range Form f g = absurd (form_or_caps greatest order text f.0 f.1 g)
caps_fault_once greatest order text Range Number f g = absurd (number_or_caps greatest order text f.0 f.1 g)
caps_fault_once greatest order text Range Range f g = refl
caps_fault_once greatest order text Header b f g = absurd f
caps_fault_once greatest order text Twice b f g = absurd f
caps_fault_once greatest order text Form Header f g = absurd g
caps_fault_once greatest order text Form Twice f g = absurd g
caps_fault_once greatest order text Number Header f g = absurd g
caps_fault_once greatest order text Number Twice f g = absurd g
caps_fault_once greatest order text Range Header f g = absurd g
caps_fault_once greatest order text Range Twice f g = absurd g
