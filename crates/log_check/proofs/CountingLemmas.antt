-- The Bound lines of a text, and how many they are.
use Rattle.std.proofs.Common.{◌≡◌, ◌≢◌, ◌≤◌, ◌<◌, ℕ, ◌+◌, Bool, true, false, cond, List, [], ◌∷◌, ◌++◌, length, refl, sym, ◌∙◌, ap, subst, ◌⊎◌, inl, inr}
use Rattle.std.proofs.Common.{arith, append-nil, append_assoc, length-append}
use Rattle.std.specs.Prelude.{All, Option, Some, None, flat_map, min, codes}
use Rattle.std.proofs.lemmas.Grind.{flat_map-append}
use Rattle.std.proofs.lemmas.List.Elements.{All-nil, All-cons, All-head, All-tail}
use Rattle.plan_core.specs.declared.criterion.Criterion.{Criterion}
use Rattle.plan_core.specs.declared.criterion.Criterion.TheVariants.{Height, Bends, Diagonal, Width}
use Rattle.plan_core.specs.declared.criterion.Values.{Values}
use Rattle.plan_core.specs.Values.{value_of}
use Rattle.cnf_core.specs.declared.literal.Var.{Var}
use Rattle.outside_io.specs.Fields.{LacksByte, IsCutAt}
use Rattle.refute_log.specs.declared.line.LogLine.{LogLine}
use Rattle.refute_log.specs.declared.line.LogLine.TheVariants.{Formula, Learnt, Bound, Query, Refuted, Model}
use Rattle.refute_log.specs.declared.fault.LogWhat.{LogWhat}
use Rattle.refute_log.specs.declared.fault.LineTextFault.{LineTextFault}
use Rattle.refute_log.specs.declared.fault.LineTextFault.TheVariants.{Log, Memory}
use Rattle.refute_log.specs.LineText.{IsTextOf, HasLineFault, IsLineFault}
use Rattle.refute_log.specs.Told.{Lines}
use Rattle.refute_log.proofs.LawLemmas.{line_once, line_no_fault}
use Rattle.refute_log.specs.Expected.{bound_var, bound_vars, caps}
use Rattle.log_check.specs.TextLines.{AreToldBounds, HasToldBounds, IsBoundText, told_bound_line}
use Rattle.log_check.specs.Counted.{count_of, IsCountOf, HasCounted}

-- ---- one text

-- the text that was read, or was not, has so many Bound lines
abbrev pub AreCounted : List ℕ → Option Criterion → Type 0
AreCounted text found = (lines : Lines) × AreToldBounds (text ∷ []) lines × IsCountOf found lines

-- the text of a line that is no Bound line is that of none
pub no_other : (text : List ℕ) (line : LogLine) → told_bound_line line ≡ [] → IsTextOf text line → (other : LogLine) → IsBoundText text other → ⊥
no_other text line none is other h =
    let same : line ≡ other = line_once text line other is.spells h.1.spells in
    let e : [] ≡ other ∷ [] = sym none ∙ ap told_bound_line same ∙ h.0 in
    cc

-- of the text of a line the Bound lines are those of the line
pub told_by : (text : List ℕ) (line : LogLine) → IsTextOf text line → AreToldBounds (text ∷ []) (told_bound_line line)
told_by text (Formula c) is = inr (no_other text (Formula c) refl is, tt)
told_by text (Learnt c) is = inr (no_other text (Learnt c) refl is, tt)
told_by text (Bound c k x) is = inl (Bound c k x, [], refl, (refl, is), tt)
told_by text (Query c) is = inr (no_other text (Query c) refl is, tt)
told_by text (Refuted c) is = inr (no_other text (Refuted c) refl is, tt)
told_by text Model is = inr (no_other text Model refl is, tt)

pub counted_line : (text : List ℕ) (line : LogLine) (found : Option Criterion) → IsTextOf text line → IsCountOf found (told_bound_line line) →
    AreCounted text found
counted_line text line found is count = (told_bound_line line, told_by text line is, count)

pub count_none : IsCountOf None []
count_none = λ d. refl

no_line : (text : List ℕ) (what : LogWhat) → HasLineFault text what → AreCounted text None
no_line text what fault = ([], inr ((λ line is. line_no_fault text line what is.1 fault), tt), count_none)

pub counted_fault : (text : List ℕ) (fault : LineTextFault) (what : LogWhat) (number : ℕ) → fault ≡ Log what number →
    (fault ≡ Memory) ⊎ IsLineFault text 0 fault → AreCounted text None
counted_fault text fault what number is (inl wanting) = let e : Log what number ≡ Memory = sym is ∙ wanting in cc
counted_fault text fault what number is (inr has) = no_line text what (subst (λ (f : LineTextFault). IsLineFault text 0 f) is has).1

-- what the numbers are with one line more, or none
pub counted_more : (greatest numbers new : Criterion → ℕ) (found : Option Criterion) (lines more : Lines) →
    ((c : Criterion) → numbers c ≡ caps greatest lines c) → IsCountOf found more →
    ((d : Criterion) → new d ≡ min (numbers d + count_of found d) (greatest d)) → (c : Criterion) → new c ≡ caps greatest (lines ++ more) c
counted_more greatest numbers new found lines more old count is c =
    let all : length (bound_vars c (lines ++ more)) ≡ length (bound_vars c lines) + length (bound_vars c more) =
    ap length (flat_map-append (bound_var c) lines more) ∙ length-append (bound_vars c lines) (bound_vars c more) in
    let a = old c in
    let b = count c in
    let d = is c in
    omega arith

-- the numbers of Bound lines are those of all lines
pub bounds_alone : (c : Criterion) (lines : Lines) → bound_vars c (flat_map told_bound_line lines) ≡ bound_vars c lines
bounds_alone c [] = refl
bounds_alone c (Formula d ∷ lines) = bounds_alone c lines
bounds_alone c (Learnt d ∷ lines) = bounds_alone c lines
bounds_alone c (Bound d k x ∷ lines) = ap (λ (xs : List Var). bound_var c (Bound d k x) ++ xs) (bounds_alone c lines)
bounds_alone c (Query d ∷ lines) = bounds_alone c lines
bounds_alone c (Refuted d ∷ lines) = bounds_alone c lines
bounds_alone c (Model ∷ lines) = bounds_alone c lines

pub caps_alone : (greatest : Criterion → ℕ) (lines : Lines) (c : Criterion) → caps greatest (flat_map told_bound_line lines) c ≡ caps greatest lines c
caps_alone greatest lines c = ap (λ (xs : List Var). min (length xs) (greatest c)) (bounds_alone c lines)

-- ---- all texts

told_append : (xs ys : List (List ℕ)) (a b : Lines) → AreToldBounds xs a → AreToldBounds ys b → AreToldBounds (xs ++ ys) (a ++ b)
told_append [] ys [] b h k = k
told_append [] ys (l ∷ a) b h k = absurd h
told_append (x ∷ xs) ys a b (inl h) k =
    inl (h.0, h.1 ++ b, ap (λ (ls : Lines). ls ++ b) h.2, h.3, told_append xs ys h.1 b h.4 k)
told_append (x ∷ xs) ys a b (inr h) k = inr (h.0, told_append xs ys a b h.1 k)

all_append : (P : List ℕ → Type 0) (xs : List (List ℕ)) (y : List ℕ) → All P xs → P y → All P (xs ++ y ∷ [])
all_append P [] y h k = All-cons P y [] k (All-nil P)
all_append P (x ∷ xs) y h k = All-cons P x (xs ++ y ∷ []) (All-head P x xs h) (all_append P xs y (All-tail P x xs h) k)

abbrev ended : List ℕ → List ℕ
ended line = line ++ codes "\n"

pub counted_none : (log : List ℕ) (greatest numbers : Criterion → ℕ) → ((c : Criterion) → numbers c ≡ 0) → HasCounted log log greatest numbers
counted_none log greatest numbers none = record {
  texts = [];
  lines = [];
  each = All-nil (LacksByte 10);
  spelled = refl;
  bounds = tt;
  counts = λ c. none c ∙ (let e : 0 ≡ min 0 (greatest c) = omega arith in e);
}

pub counted_next : (log rest text after : List ℕ) (greatest numbers new : Criterion → ℕ) → IsCutAt 10 rest text after →
    (found : Option Criterion) (more : Lines) → AreToldBounds (text ∷ []) more → IsCountOf found more →
    ((d : Criterion) → new d ≡ min (numbers d + count_of found d) (greatest d)) → HasCounted log rest greatest numbers → HasCounted log after greatest new
counted_next log rest text after greatest numbers new cut found more bounds count is h =
    record {
      texts = h.texts ++ text ∷ [];
      lines = h.lines ++ more;
      each = all_append (LacksByte 10) h.texts text h.each cut.first;
      spelled =
          h.spelled ∙ ap (λ (ts : List ℕ). flat_map ended h.texts ++ ts) (cut.spelled ∙ sym (append_assoc text (10 ∷ []) after))
          ∙ sym (append_assoc (flat_map ended h.texts) (ended text) after)
          ∙ ap (λ (ts : List ℕ). ts ++ after) (ap (λ (ts : List ℕ). flat_map ended h.texts ++ ts) (sym (append-nil (ended text)))
          ∙ sym (flat_map-append ended h.texts (text ∷ [])));
      bounds = told_append h.texts (text ∷ []) h.lines more h.bounds bounds;
      counts = counted_more greatest numbers new found h.lines more h.counts count is;
    }

pub counted_all : (log rest : List ℕ) (greatest numbers : Criterion → ℕ) → LacksByte 10 rest → HasCounted log rest greatest numbers →
    (lines : Lines) × HasToldBounds log lines × ((c : Criterion) → numbers c ≡ caps greatest lines c)
counted_all log rest greatest numbers unended h = (
  h.lines,
  record { texts = h.texts; cut = record { rest = rest; each = h.each; unended = unended; spelled = h.spelled }; bounds = h.bounds },
  h.counts,
)

-- ---- the loop over the lines

abbrev pub values : ℕ → ℕ → ℕ → ℕ → Values
values h b d w = record { height = h; bends = b; diagonal = d; width = w }

pub all_zero : (c : Criterion) → value_of (values 0 0 0 0) c ≡ 0
all_zero Height = refl
all_zero Bends = refl
all_zero Diagonal = refl
all_zero Width = refl

-- what was counted is within the greatest values
pub counted_within : (log rest : List ℕ) (greatest numbers : Criterion → ℕ) → HasCounted log rest greatest numbers → (c : Criterion) → numbers c ≤ greatest c
counted_within log rest greatest numbers h c = let is = h.counts c in omega arith

-- a cut leaves less
pub cut_leaves_less : (rest text after : List ℕ) → IsCutAt 10 rest text after → length after < length rest
cut_leaves_less rest text after cut =
    let whole = ap length cut.spelled in
    let size = length-append text (10 ∷ after) in
    omega arith
