-- What a text has where a line of a form was read, or none was.
use Rattle.std.proofs.Common.{◌≡◌, ◌≢◌, inl, inr, ℕ, ◌+◌, ◌<◌, ◌≤◌, Bool, true, false, ◌==◌, List, [], ◌∷◌, ◌++◌, map, length, None, Some, MatchOption, refl}
use Rattle.std.proofs.Common.{sym, ◌∙◌, ap, subst, arith, append_assoc, length-append}
use Rattle.std.specs.Prelude.{codes, flat_map, IsTrue, ◌↔◌}
use Rattle.std.specs.declared.option.Option.{Option}
use Rattle.std.specs.Fmt.{decimal}
use Rattle.std.proofs.lemmas.Bool.{eqb-true, false≢true}
use Rattle.std.proofs.lemmas.Grind.{flat_map-append}
use Rattle.std.proofs.lemmas.List.{append_cancel_left}
use Rattle.plan_core.specs.declared.point.Point.{Point}
use Rattle.plan_core.specs.declared.criterion.Criterion.{Criterion}
use Rattle.plan_core.specs.Grid.{GridSize, grid_with}
use Rattle.outside_io.specs.Fields.{spaced, line_text, IsOneField, Ends, IsFrontField}
use Rattle.outside_io.specs.Criteria.{criterion_word}
use Rattle.plan_write.specs.declared.edition.Edition.{Edition}
use Rattle.plan_write.specs.declared.edition.Edition.TheVariants.{First, Second}
use Rattle.plan_write.specs.declared.ending.Ending.{Ending}
use Rattle.plan_write.specs.declared.ending.Ending.TheVariants.{Best, NoDrawing, Conflicts, Room}
use Rattle.plan_write.specs.SheetLine.{SheetLine, GridLine, NodeLine, EdgeLine, EndLine, text_of_line, grid_numbers, coordinates, field_told, StandsForLeast}
use Rattle.plan_write.specs.SheetLine.{IsMileageText, IsSmall, AreSmall, IsBetween, IsSmallEnding}
use Rattle.plan_text.specs.SheetFaults.{OrderDue, NodeDue, EdgeDue, IsToldIn, BeginsWithLine}
use Rattle.plan_text.specs.SheetReading.{IsFieldAt, IsNumberAt, IsNameAt, IsPointAt, IsNamedAt, IsNumberedAt, IsNodeEnd, IsLineTo}
use Rattle.plan_text.proofs.FieldLemmas.{SameField, same_field, words, words_once, of_numbers, of_criteria, any_criteria, line_front, fields_left}
use Rattle.plan_text.proofs.FieldLemmas.{decimals_are_one, name_is_one, both_one, some_there, regroup}
use Rattle.plan_text.proofs.MileageLemmas.{mileage_is_one}
use Rattle.plan_text.proofs.LineOnce.{tells_order, TellsNode, tells_node, TellsEdge, tells_edge, same_told, pairs}

pub option_both : {A : Type 0} (o : Option A) (P P' : Type 0) (Q Q' : A → Type 0) → (P → P') → ((x : A) → Q x → Q' x) → MatchOption o P Q → MatchOption o P' Q'
option_both None P P' Q Q' f h m = f m
option_both (Some x) P P' Q Q' f h m = h x m

-- ---- fields behind a front

pub fields_behind : (text front behind : List ℕ) (fields : List (List ℕ)) (rest : List ℕ) → text ≡ front ++ behind → text ≡ line_text front fields ++ rest →
    behind ≡ spaced fields ++ 10 ∷ rest
fields_behind text front behind fields rest is e =
    append_cancel_left front behind (spaced fields ++ 10 ∷ rest) (sym is ∙ e ∙ line_front front fields rest)

pub line_behind : (text front behind : List ℕ) (fields : List (List ℕ)) (rest : List ℕ) → text ≡ front ++ behind → behind ≡ spaced fields ++ 10 ∷ rest →
    text ≡ line_text front fields ++ rest
line_behind text front behind fields rest is e = is ∙ ap (λ (t : List ℕ). front ++ t) e ∙ sym (line_front front fields rest)

-- ---- the order

no_length : (n : ℕ) (b : Bool) → b ≡ (n == 0) → b ≡ true → n ≡ 0
no_length n b e h = eqb-true n 0 (sym e ∙ h)

pub no_order : (text behind rest : List ℕ) (criteria : List Criterion) (b : Bool) → text ≡ codes "order" ++ behind →
    behind ≡ words criterion_word criteria ++ 10 ∷ rest → b ≡ (length criteria == 0) → b ≡ true →
    (edition : Edition) (needs_drawing : Bool) (line : SheetLine) → BeginsWithLine (OrderDue edition needs_drawing) text line → ⊥
no_order text behind rest criteria b is told empty so edition needs_drawing line begins =
    let t = tells_order edition needs_drawing text line begins in
    let same = words_once of_criteria criteria t.order rest t.behind (any_criteria criteria) (any_criteria t.order)
    (sym told ∙ fields_behind text (codes "order") behind (map criterion_word t.order) t.behind is t.spelled) in
    let none = no_length (length criteria) b empty so in
    let n : length criteria ≡ length t.order = ap length same.values in
    let some = t.form.from in
    omega (arith, none, n, some)

-- ---- the grid

pub few_grid_numbers : (edition : Edition) (grid : GridSize) → length (grid_numbers edition grid) ≤ 11
few_grid_numbers First grid = omega arith
few_grid_numbers Second grid = omega arith

pub no_two_numbers : (edition : Edition) → edition ≡ First → (numbers : List ℕ) → ((x y : ℕ) → numbers ≢ x ∷ y ∷ []) → (grid : GridSize) →
    numbers ≢ grid_numbers edition grid
no_two_numbers edition is numbers none grid e = none grid.width grid.height (e ∙ ap (λ (o : Edition). grid_numbers o grid) is)

pub two_numbers : (edition : Edition) → edition ≡ First → (numbers : List ℕ) (x y : ℕ) → numbers ≡ x ∷ y ∷ [] →
    (numbers ≡ grid_numbers edition (grid_with x y 1)) × StandsForLeast edition (grid_with x y 1)
two_numbers edition is numbers x y e =
    let least : StandsForLeast First (grid_with x y 1) = refl in
    (e ∙ ap (λ (o : Edition). grid_numbers o (grid_with x y 1)) (sym is), subst (λ (o : Edition). StandsForLeast o (grid_with x y 1)) (sym is) least)

pub no_three_numbers : (edition : Edition) → edition ≡ Second → (numbers : List ℕ) → ((x y z : ℕ) → numbers ≢ x ∷ y ∷ z ∷ []) → (grid : GridSize) →
    numbers ≢ grid_numbers edition grid
no_three_numbers edition is numbers none grid e = none grid.width grid.height grid.least (e ∙ ap (λ (o : Edition). grid_numbers o grid) is)

pub three_numbers : (edition : Edition) → edition ≡ Second → (numbers : List ℕ) (x y z : ℕ) → numbers ≡ x ∷ y ∷ z ∷ [] →
    (numbers ≡ grid_numbers edition (grid_with x y z)) × StandsForLeast edition (grid_with x y z)
three_numbers edition is numbers x y z e =
    let least : StandsForLeast Second (grid_with x y z) = tt in
    (e ∙ ap (λ (o : Edition). grid_numbers o (grid_with x y z)) (sym is), subst (λ (o : Edition). StandsForLeast o (grid_with x y z)) (sym is) least)

pub grid_read : (edition : Edition) (text rest numbers slice : List ℕ) (grid : GridSize) → AreSmall numbers →
    text ≡ line_text (codes "grid") (map decimal numbers) ++ rest → slice ≡ numbers → slice ≡ grid_numbers edition grid → StandsForLeast edition grid →
    IsLineTo text (GridLine edition grid) rest
grid_read edition text rest numbers slice grid small told is numbers_are stands =
    let same : numbers ≡ grid_numbers edition grid = sym is ∙ numbers_are in
    record { form = (subst AreSmall same small, stands); spelled = told ∙ ap (λ (ns : List ℕ). line_text (codes "grid") (map decimal ns) ++ rest) same }

-- ---- fields one by one

second_of : (x y : List ℕ) → 32 ∷ x ≡ 32 ∷ y → x ≡ y
second_of x y e = cc

-- two fields in front of others
two_fields : (a b : List ℕ) (more : List (List ℕ)) (t : List ℕ) → spaced (a ∷ b ∷ more) ++ t ≡ 32 ∷ (a ++ 32 ∷ (b ++ (spaced more ++ t)))
two_fields a b more t = regroup a (spaced (b ∷ more)) t ∙ ap (λ (s : List ℕ). 32 ∷ (a ++ s)) (regroup b (spaced more) t)

pub field_at : (text rest field left : List ℕ) → text ≡ codes " " ++ rest → IsFrontField rest field left → IsFieldAt text field left
field_at text rest field left is cut = record { one = cut.one; ends = cut.ends; spelled = is ∙ ap (λ (t : List ℕ). 32 ∷ t) cut.spelled }

field_once : (text field left other rest : List ℕ) → IsFieldAt text field left → IsOneField other → Ends rest → text ≡ 32 ∷ (other ++ rest) →
    SameField field other left rest
field_once text field left other rest at one ends e = same_field field other left rest at.one one at.ends ends
    (second_of (field ++ left) (other ++ rest) (sym at.spelled ∙ e))

-- a number in front
pub number_at : (text field left : List ℕ) (n : ℕ) → IsFieldAt text field left → IsSmall n → field ≡ decimal n → IsNumberAt text n left
number_at text field left n at small is = (small, at.ends, at.spelled ∙ ap (λ (f : List ℕ). 32 ∷ (f ++ left)) is)

pub no_number : (text field left : List ℕ) → IsFieldAt text field left → ((n : ℕ) → IsSmall n → field ≢ decimal n) → (n : ℕ) (rest : List ℕ) →
    IsNumberAt text n rest → ⊥
no_number text field left at none n rest h = none n h.0 (field_once text field left (decimal n) rest at (of_numbers.one n h.0) h.1 h.2).field

record SameNumber (n m : ℕ) (r s : List ℕ) : Type 0 where
  number : n ≡ m
  rest : r ≡ s

number_once : (text : List ℕ) (n m : ℕ) (r s : List ℕ) → IsNumberAt text n r → IsNumberAt text m s → SameNumber n m r s
number_once text n m r s h k =
    let same = same_field (decimal n) (decimal m) r s (of_numbers.one n h.0) (of_numbers.one m k.0) h.1 k.1
    (second_of (decimal n ++ r) (decimal m ++ s) (sym h.2 ∙ k.2)) in
    record { number = of_numbers.once n m h.0 k.0 same.field; rest = same.rest }

-- a name in front
pub no_name : (text field left : List ℕ) (b : Bool) → IsFieldAt text field left → b ≡ (length field == 0) → b ≡ true → (name rest : List ℕ) →
    IsNameAt text name rest → ⊥
no_name text field left b at empty so name rest h =
    let same = (field_once text field left name rest at h.0.one h.1 h.2).field in
    let none = no_length (length field) b empty so in
    let k : length field ≡ length name = ap length same in
    let some = h.0.some in
    omega (arith, none, k, some)

pub name_at : (text field left : List ℕ) (b : Bool) → IsFieldAt text field left → b ≡ (length field == 0) → b ≡ false → IsNameAt text field left
name_at text field left b at empty so = (record { some = some_there field b empty so; one = at.one }, at.ends, at.spelled)

-- two coordinates in front
pub no_y : (text mid : List ℕ) (x : ℕ) → IsNumberAt text x mid → ((n : ℕ) (rest : List ℕ) → IsNumberAt mid n rest → ⊥) → (p : Point) (rest : List ℕ) →
    IsPointAt text p rest → ⊥
no_y text mid x read none p rest h =
    let same = number_once text x p.x mid (32 ∷ (decimal p.y ++ rest)) read (h.0, inl refl, h.3) in
    none p.y rest (h.1, h.2, same.rest)

pub no_x : (text : List ℕ) → ((n : ℕ) (rest : List ℕ) → IsNumberAt text n rest → ⊥) → (p : Point) (rest : List ℕ) → IsPointAt text p rest → ⊥
no_x text none p rest h = none p.x (32 ∷ (decimal p.y ++ rest)) (h.0, inl refl, h.3)

pub point_at : (text mid rest : List ℕ) (x y : ℕ) → IsNumberAt text x mid → IsNumberAt mid y rest → IsPointAt text (record { x = x; y = y }) rest
point_at text mid rest x y h k = (h.0, k.0, k.1, h.2 ∙ ap (λ (t : List ℕ). 32 ∷ (decimal x ++ t)) k.2)

point_once : (text : List ℕ) (p q : Point) (r s : List ℕ) → IsPointAt text p r → IsPointAt text q s → r ≡ s
point_once text p q r s h k =
    let first = number_once text p.x q.x (32 ∷ (decimal p.y ++ r)) (32 ∷ (decimal q.y ++ s)) (h.0, inl refl, h.3) (k.0, inl refl, k.3) in
    (number_once (32 ∷ (decimal p.y ++ r)) p.y q.y r s (h.1, h.2, refl) (k.1, k.2, first.rest)).rest

-- ---- a number and a name behind a word

named_front : (text word r : List ℕ) (n : ℕ) (name rest : List ℕ) → text ≡ word ++ r → IsNamedAt text word n name rest → IsNumberAt r n (32 ∷ (name ++ rest))
named_front text word r n name rest is h = (h.0, inl refl, append_cancel_left word r (32 ∷ (decimal n ++ 32 ∷ (name ++ rest))) (sym is ∙ h.3))

pub no_word : (text word : List ℕ) → ((rest : List ℕ) → text ≢ word ++ rest) → (n : ℕ) (name rest : List ℕ) → IsNamedAt text word n name rest → ⊥
no_word text word none n name rest h = none (32 ∷ (decimal n ++ 32 ∷ (name ++ rest))) h.3

pub no_number_named : (text word r : List ℕ) → text ≡ word ++ r → ((n : ℕ) (s : List ℕ) → IsNumberAt r n s → ⊥) → (n : ℕ) (name rest : List ℕ) →
    IsNamedAt text word n name rest → ⊥
no_number_named text word r is none n name rest h = none n (32 ∷ (name ++ rest)) (named_front text word r n name rest is h)

pub no_name_named : (text word r s : List ℕ) (m : ℕ) → text ≡ word ++ r → IsNumberAt r m s → ((name rest : List ℕ) → IsNameAt s name rest → ⊥) →
    (n : ℕ) (name rest : List ℕ) → IsNamedAt text word n name rest → ⊥
no_name_named text word r s m is read none n name rest h =
    none name rest (h.1, h.2, (number_once r m n s (32 ∷ (name ++ rest)) read (named_front text word r n name rest is h)).rest)

pub is_named : (text word r s : List ℕ) (n : ℕ) (name rest : List ℕ) → text ≡ word ++ r → IsNumberAt r n s → IsNameAt s name rest →
    IsNamedAt text word n name rest
is_named text word r s n name rest is h k =
    (h.0, k.0, k.1, is ∙ ap (λ (t : List ℕ). word ++ t) (h.2 ∙ ap (λ (t : List ℕ). 32 ∷ (decimal n ++ t)) k.2))

named_once : (text word : List ℕ) (n m : ℕ) (name other r s : List ℕ) → IsNamedAt text word n name r → IsNamedAt text word m other s → r ≡ s
named_once text word n m name other r s h k =
    let front = number_once (32 ∷ (decimal n ++ 32 ∷ (name ++ r))) n m (32 ∷ (name ++ r)) (32 ∷ (other ++ s)) (h.0, inl refl, refl)
    (named_front text word (32 ∷ (decimal n ++ 32 ∷ (name ++ r))) m other s h.3 k) in
    (same_field name other r s h.1.one k.1.one h.2 k.2 (second_of (name ++ r) (other ++ s) front.rest)).rest

-- ---- the end of a node's line

pub mileage_false : (text : List ℕ) (b : Bool) → IsTrue b ↔ IsMileageText text → b ≡ false → IsMileageText text → ⊥
mileage_false text b tests so is = false≢true (sym so ∙ tests.1 is)

pub no_mileage : (text field left : List ℕ) → IsFieldAt text field left → (IsMileageText field → ⊥) → (mileage rest : List ℕ) → IsMileageText mileage →
    text ≢ 32 ∷ (mileage ++ 10 ∷ rest)
no_mileage text field left at none mileage rest is e =
    let same = (field_once text field left mileage (10 ∷ rest) at (mileage_is_one mileage is) (inr refl) e).field in
    none (rw same is)

pub no_feed_behind : (text field left : List ℕ) → IsFieldAt text field left → ((rest : List ℕ) → left ≢ codes "\n" ++ rest) → (mileage rest : List ℕ) →
    IsMileageText mileage → text ≢ 32 ∷ (mileage ++ 10 ∷ rest)
no_feed_behind text field left at none mileage rest is e = none rest (field_once text field left mileage (10 ∷ rest) at (mileage_is_one mileage is) (inr refl)
    e).rest

pub mileage_at : (text field left rest : List ℕ) → IsFieldAt text field left → left ≡ codes "\n" ++ rest → text ≡ 32 ∷ (field ++ 10 ∷ rest)
mileage_at text field left rest at e = at.spelled ∙ ap (λ (t : List ℕ). 32 ∷ (field ++ t)) e

pub no_plain_end : (edition : Edition) → edition ≡ First → (text : List ℕ) → ((rest : List ℕ) → text ≢ codes "\n" ++ rest) →
    (mileage : Option (List ℕ)) (rest : List ℕ) → IsNodeEnd edition text mileage rest → ⊥
no_plain_end edition is text none mileage rest h = at mileage (subst (λ (o : Edition). IsNodeEnd o text mileage rest) is h)
  where
    at : (mileage : Option (List ℕ)) → IsNodeEnd First text mileage rest → ⊥
    at None h = none rest h.2
    at (Some field) h = h.0

last_field : (field t : List ℕ) → spaced (field ∷ []) ++ t ≡ 32 ∷ (field ++ t)
last_field field t = ap (λ (s : List ℕ). 32 ∷ s) (append_assoc field [] t)

pub no_told_end : (edition : Edition) → edition ≡ Second → (text : List ℕ) →
    ((mileage rest : List ℕ) → IsMileageText mileage → text ≢ 32 ∷ (mileage ++ 10 ∷ rest)) → (mileage : Option (List ℕ)) (rest : List ℕ) →
    IsNodeEnd edition text mileage rest → ⊥
no_told_end edition is text none mileage rest h = at mileage (subst (λ (o : Edition). IsNodeEnd o text mileage rest) is h)
  where
    at : (mileage : Option (List ℕ)) → IsNodeEnd Second text mileage rest → ⊥
    at None h = h.0
    at (Some field) h = none field rest h.1 (h.2 ∙ last_field field (10 ∷ rest))

pub told_end : (edition : Edition) → edition ≡ Second → (text mileage rest : List ℕ) → IsMileageText mileage → text ≡ 32 ∷ (mileage ++ 10 ∷ rest) →
    IsNodeEnd edition text (Some mileage) rest
told_end edition is text mileage rest form e =
    let end : IsNodeEnd Second text (Some mileage) rest = (tt, form, e ∙ sym (last_field mileage (10 ∷ rest))) in
    subst (λ (o : Edition). IsNodeEnd o text (Some mileage) rest) (sym is) end

-- ---- a node's line

told_ends : (mileage : Option (List ℕ)) (rest : List ℕ) → Ends (spaced (field_told mileage) ++ 10 ∷ rest)
told_ends None rest = inr refl
told_ends (Some field) rest = inl refl

abbrev place_text : Point → Option (List ℕ) → List ℕ → List ℕ
place_text p mileage behind = spaced (decimal p.x ∷ decimal p.y ∷ field_told mileage) ++ 10 ∷ behind

node_text : (number : ℕ) (name : List ℕ) (p : Point) (mileage : Option (List ℕ)) (behind : List ℕ) →
    text_of_line (NodeLine number name p mileage) ++ behind ≡ codes "node" ++ 32 ∷ (decimal number ++ 32 ∷ (name ++ place_text p mileage behind))
node_text number name p mileage behind =
    line_front (codes "node") (decimal number ∷ name ∷ decimal p.x ∷ decimal p.y ∷ field_told mileage) behind
    ∙ ap (λ (t : List ℕ). codes "node" ++ t) (two_fields (decimal number) name (decimal p.x ∷ decimal p.y ∷ field_told mileage) (10 ∷ behind))

tells_named : (edition : Edition) (text : List ℕ) (t : TellsNode edition text) →
    IsNamedAt text (codes "node") t.number t.name (place_text t.place t.mileage t.behind)
tells_named edition text t = (t.form.1.0, t.form.0, inl refl, t.spelled ∙ node_text t.number t.name t.place t.mileage t.behind)

tells_point : (edition : Edition) (text : List ℕ) (t : TellsNode edition text) →
    IsPointAt (place_text t.place t.mileage t.behind) t.place (spaced (field_told t.mileage) ++ 10 ∷ t.behind)
tells_point edition text t = (
  t.form.1.1.0,
  t.form.1.1.1.0,
  told_ends t.mileage t.behind,
  two_fields (decimal t.place.x) (decimal t.place.y)
      (field_told t.mileage) (10 ∷ t.behind),
)

pub no_named : (edition : Edition) (text : List ℕ) → ((n : ℕ) (name rest : List ℕ) → IsNamedAt text (codes "node") n name rest → ⊥) →
    (n : ℕ) (line : SheetLine) → BeginsWithLine (NodeDue edition n) text line → ⊥
no_named edition text none n line begins =
    let t = tells_node edition text n line begins in
    none t.number t.name (place_text t.place t.mileage t.behind) (tells_named edition text t)

pub no_place : (edition : Edition) (text : List ℕ) (number : ℕ) (name r : List ℕ) → IsNamedAt text (codes "node") number name r →
    ((p : Point) (rest : List ℕ) → IsPointAt r p rest → ⊥) → (n : ℕ) (line : SheetLine) → BeginsWithLine (NodeDue edition n) text line → ⊥
no_place edition text number name r h none n line begins =
    let t = tells_node edition text n line begins in
    let same : r ≡ place_text t.place t.mileage t.behind = named_once text (codes "node") number t.number name t.name r (place_text t.place t.mileage t.behind)
    h (tells_named edition text t) in
    let at = tells_point edition text t in
    none t.place (spaced (field_told t.mileage) ++ 10 ∷ t.behind) (at.0, at.1, at.2, same ∙ at.3)

pub no_end_of_node : (edition : Edition) (text : List ℕ) (number : ℕ) (name r s : List ℕ) (p : Point) → IsNamedAt text (codes "node") number name r →
    IsPointAt r p s → ((mileage : Option (List ℕ)) (rest : List ℕ) → IsNodeEnd edition s mileage rest → ⊥) → (n : ℕ) (line : SheetLine) →
    BeginsWithLine (NodeDue edition n) text line → ⊥
no_end_of_node edition text number name r s p h place none n line begins =
    let t = tells_node edition text n line begins in
    let same : r ≡ place_text t.place t.mileage t.behind = named_once text (codes "node") number t.number name t.name r (place_text t.place t.mileage t.behind)
    h (tells_named edition text t) in
    let at = tells_point edition text t in
    let left : s ≡ spaced (field_told t.mileage) ++ 10 ∷ t.behind = point_once r p t.place s (spaced (field_told t.mileage) ++ 10 ∷ t.behind) place
    (at.0, at.1, at.2, same ∙ at.3) in
    none t.mileage t.behind (t.told, t.form.2, left)

pub node_read : (edition : Edition) (text : List ℕ) (number : ℕ) (name r s : List ℕ) (p : Point) (mileage : Option (List ℕ)) (rest : List ℕ) →
    IsNamedAt text (codes "node") number name r → IsPointAt r p s → IsNodeEnd edition s mileage rest →
    IsToldIn edition mileage × IsLineTo text (NodeLine number name p mileage) rest
node_read edition text number name r s p mileage rest h at end = (
  end.0,
  record {
    form = (h.1, (h.0, (at.0, (at.1, tt))), end.1);
    spelled = h.3
        ∙ ap (λ (t : List ℕ). codes "node" ++ 32 ∷ (decimal number ++ 32 ∷ (name ++ t)))
        (at.3 ∙ ap (λ (t : List ℕ). 32 ∷ (decimal p.x ++ 32 ∷ (decimal p.y ++ t))) end.2
        ∙ sym (two_fields (decimal p.x) (decimal p.y) (field_told mileage) (10 ∷ rest)))
        ∙ sym (node_text number name p mileage rest);
  },
)

-- ---- points

longer : (points more : List Point) (p : Point) (ps : List Point) → ps ≡ points ++ p ∷ more → length points < length ps
longer points more p ps e = let n = ap length e in let k = length-append points (p ∷ more) in omega (arith, n, k)

pub too_many : (numbers rest left : List ℕ) (x y : ℕ) (points : List Point) (most : ℕ) → numbers ≡ flat_map coordinates points ++ rest → rest ≡ x ∷ y ∷ left →
    most ≤ length points → (ps : List Point) → length ps ≤ most → numbers ≡ flat_map coordinates ps → ⊥
too_many numbers rest left x y points most so_far is full ps few e =
    let a = pairs points ps rest (sym so_far ∙ e) in
    at a.more a.split a.left
  where
    at : (more : List Point) → ps ≡ points ++ more → rest ≡ flat_map coordinates more → ⊥
    at [] split f = none_left (sym is ∙ f)
      where
        none_left : x ∷ y ∷ left ≡ [] → ⊥
        none_left g = cc
    at (p ∷ more) split f = let n = longer points more p ps split in omega (arith, n)

pub not_in_pairs : (numbers rest : List ℕ) (points : List Point) (b : Bool) → numbers ≡ flat_map coordinates points ++ rest →
    ((x y : ℕ) (left : List ℕ) → rest ≢ x ∷ y ∷ left) → b ≡ (length rest == 0) → b ≡ false → (ps : List Point) → numbers ≡ flat_map coordinates ps → ⊥
not_in_pairs numbers rest points b so_far none empty there ps e =
    let a = pairs points ps rest (sym so_far ∙ e) in
    at a.more a.left
  where
    at : (more : List Point) → rest ≡ flat_map coordinates more → ⊥
    at [] f = false≢true (sym there ∙ empty ∙ ap (λ (t : List ℕ). length t == 0) f)
    at (p ∷ more) f = none p.x p.y (flat_map coordinates more) f

pub too_few : (numbers rest : List ℕ) (points : List Point) (b : Bool) → numbers ≡ flat_map coordinates points ++ rest → b ≡ (length rest == 0) → b ≡ true →
    length points < 2 → (ps : List Point) → 2 ≤ length ps → numbers ≡ flat_map coordinates ps → ⊥
too_few numbers rest points b so_far empty so few ps some e =
    let a = pairs points ps rest (sym so_far ∙ e) in
    at (no_length (length rest) b empty so) a.more a.split a.left
  where
    at : length rest ≡ 0 → (more : List Point) → ps ≡ points ++ more → rest ≡ flat_map coordinates more → ⊥
    at none [] split f = let n = ap length split in let k = length-append points [] in omega (arith, n, k)
    at none (p ∷ more) split f = let n : length rest ≡ length (flat_map coordinates (p ∷ more)) = ap length f in omega (arith, none, n)

-- ---- the number and the track of an edge

-- where no track is told
pub no_edge_word : (edition : Edition) (text : List ℕ) → ((rest : List ℕ) → text ≢ codes "edge" ++ rest) → (n : ℕ) (track : Option (List ℕ)) (rest : List ℕ) →
    IsNumberedAt edition text n track rest → ⊥
no_edge_word edition text none n track rest h = none (spaced (decimal n ∷ field_told track) ++ rest) h.4

coordinates_length : (ps : List Point) → length (flat_map coordinates ps) ≡ length ps + length ps
coordinates_length [] = refl
coordinates_length (p ∷ ps) = let n = coordinates_length ps in omega (arith, n)

abbrev numbers_of : ℕ → ℕ → List Point → List ℕ
numbers_of west east points = west ∷ east ∷ flat_map coordinates points

abbrev numbers_text : ℕ → ℕ → List Point → List ℕ → List ℕ
numbers_text west east points behind = spaced (map decimal (numbers_of west east points)) ++ 10 ∷ behind

-- the fields of an edge's line in two parts
edge_text : (number : ℕ) (track : Option (List ℕ)) (west east : ℕ) (points : List Point) (behind : List ℕ) →
    text_of_line (EdgeLine number track west east points) ++ behind ≡ codes "edge"
    ++ (spaced (decimal number ∷ field_told track) ++ numbers_text west east points behind)
edge_text number track west east points behind =
    let front : List (List ℕ) = decimal number ∷ field_told track in
    let others : List (List ℕ) = map decimal (numbers_of west east points) in
    line_front (codes "edge") (front ++ others) behind
    ∙ ap (λ (t : List ℕ). codes "edge" ++ t) (ap (λ (t : List ℕ). t ++ 10 ∷ behind) (flat_map-append (λ (field : List ℕ). 32 ∷ field) front others)
    ∙ append_assoc (spaced front) (spaced others) (10 ∷ behind))

tells_numbered : (edition : Edition) (text : List ℕ) (t : TellsEdge edition text) →
    IsNumberedAt edition text t.number t.track (numbers_text t.west t.east t.points t.behind)
tells_numbered edition text t = (t.told, t.form.2, t.form.1.0, inl refl, t.spelled ∙ edge_text t.number t.track t.west t.east t.points t.behind)

-- what stands behind the number and the track is known
numbered_left : (edition : Edition) (text : List ℕ) (number : ℕ) (track : Option (List ℕ)) (r : List ℕ) → IsNumberedAt edition text number track r →
    (t : TellsEdge edition text) → r ≡ numbers_text t.west t.east t.points t.behind
numbered_left edition text number track r h t =
    let read : List (List ℕ) = decimal number ∷ field_told track in
    let front : List (List ℕ) = decimal t.number ∷ field_told t.track in
    let others : List (List ℕ) = map decimal (numbers_of t.west t.east t.points) in
    let whole : spaced read ++ r ≡ spaced (front ++ others) ++ 10 ∷ t.behind =
    append_cancel_left (codes "edge") (spaced read ++ r) (spaced (front ++ others) ++ 10 ∷ t.behind)
    (sym h.4 ∙ t.spelled ∙ line_front (codes "edge") (front ++ others) t.behind) in
    let left = fields_left read (front ++ others) r t.behind (of_numbers.one number h.2, name_is_one track h.1) (
      of_numbers.one t.number t.form.1.0,
      both_one (field_told t.track) others (name_is_one t.track t.form.2)
          (decimals_are_one (numbers_of t.west t.east t.points) t.form.1.1),
    ) h.3 whole in
    let same = same_told edition t.track track t.told h.0 (decimal t.number) (decimal number) others left.more left.split in
    left.left ∙ ap (λ (fs : List (List ℕ)). spaced fs ++ 10 ∷ t.behind) (sym same.others)

pub no_numbered : (edition : Edition) (text : List ℕ) → ((n : ℕ) (track : Option (List ℕ)) (rest : List ℕ) → IsNumberedAt edition text n track rest → ⊥) →
    (e : ℕ) (line : SheetLine) → BeginsWithLine (EdgeDue edition e) text line → ⊥
no_numbered edition text none e line begins =
    let t = tells_edge edition text e line begins in
    none t.number t.track (numbers_text t.west t.east t.points t.behind) (tells_numbered edition text t)

pub no_numbers : (edition : Edition) (text : List ℕ) (number : ℕ) (track : Option (List ℕ)) (r : List ℕ) → IsNumberedAt edition text number track r →
    ((ns rest : List ℕ) → AreSmall ns → length ns ≤ 11 → r ≢ spaced (map decimal ns) ++ 10 ∷ rest) → (e : ℕ) (line : SheetLine) →
    BeginsWithLine (EdgeDue edition e) text line → ⊥
no_numbers edition text number track r h none e line begins =
    let t = tells_edge edition text e line begins in
    let n = coordinates_length t.points in
    let few = t.form.0.to in
    none (numbers_of t.west t.east t.points) t.behind t.form.1.1 (omega (arith, n, few)) (numbered_left edition text number track r h t)

edge_numbers : (edition : Edition) (text : List ℕ) (number : ℕ) (track : Option (List ℕ)) (r numbers rest : List ℕ) → IsNumberedAt edition text number track r →
    AreSmall numbers → r ≡ spaced (map decimal numbers) ++ 10 ∷ rest → (t : TellsEdge edition text) → numbers ≡ numbers_of t.west t.east t.points
edge_numbers edition text number track r numbers rest h small told t =
    (words_once of_numbers numbers (numbers_of t.west t.east t.points) rest t.behind small t.form.1.1
    (sym told ∙ numbered_left edition text number track r h t)).values

pub no_two : (edition : Edition) (text : List ℕ) (number : ℕ) (track : Option (List ℕ)) (r numbers slice rest : List ℕ) →
    IsNumberedAt edition text number track r → AreSmall numbers → r ≡ spaced (map decimal numbers) ++ 10 ∷ rest → slice ≡ numbers →
    ((x y : ℕ) (more : List ℕ) → slice ≢ x ∷ y ∷ more) → (e : ℕ) (line : SheetLine) → BeginsWithLine (EdgeDue edition e) text line → ⊥
no_two edition text number track r numbers slice rest h small told is none e line begins =
    let t = tells_edge edition text e line begins in
    none t.west t.east (flat_map coordinates t.points) (is ∙ edge_numbers edition text number track r numbers rest h small told t)

third : (a b d e : ℕ) (xs ys : List ℕ) → a ∷ b ∷ xs ≡ d ∷ e ∷ ys → xs ≡ ys
third a b d e xs ys h = cc

pub no_points : (edition : Edition) (text : List ℕ) (number : ℕ) (track : Option (List ℕ)) (r numbers slice rest left : List ℕ) (x y : ℕ) →
    IsNumberedAt edition text number track r → AreSmall numbers → r ≡ spaced (map decimal numbers) ++ 10 ∷ rest → slice ≡ numbers → slice ≡ x ∷ y ∷ left →
    ((ps : List Point) → IsBetween 2 4 (length ps) → left ≢ flat_map coordinates ps) → (e : ℕ) (line : SheetLine) →
    BeginsWithLine (EdgeDue edition e) text line → ⊥
no_points edition text number track r numbers slice rest left x y h small told is split none e line begins =
    let t = tells_edge edition text e line begins in
    none t.points t.form.0 (third x y t.west t.east left (flat_map coordinates t.points)
    (sym split ∙ is ∙ edge_numbers edition text number track r numbers rest h small told t))

pub edge_read : (edition : Edition) (text : List ℕ) (number : ℕ) (track : Option (List ℕ)) (r numbers slice rest left : List ℕ) (x y : ℕ) (points : List Point)
    → IsNumberedAt edition text number track r → AreSmall numbers → r ≡ spaced (map decimal numbers) ++ 10 ∷ rest → slice ≡ numbers → slice ≡ x ∷ y ∷ left →
    IsBetween 2 4 (length points) → left ≡ flat_map coordinates points →
    IsToldIn edition track × IsLineTo text (EdgeLine number track x y points) rest
edge_read edition text number track r numbers slice rest left x y points h small told is split between coords =
    let all : numbers ≡ numbers_of x y points = sym is ∙ split ∙ ap (λ (ns : List ℕ). x ∷ y ∷ ns) coords in (
      h.0,
      record {
        form = (between, (h.2, subst AreSmall all small), h.1);
        spelled = h.4 ∙ ap (λ (t : List ℕ). codes "edge" ++ (spaced (decimal number ∷ field_told track) ++ t))
            (told ∙ ap (λ (ns : List ℕ). spaced (map decimal ns) ++ 10 ∷ rest) all) ∙ sym (edge_text number track x y points rest);
      },
    )

-- ---- the ending

pub no_ending : (text : List ℕ) → ((rest : List ℕ) → text ≢ codes "end best\n" ++ rest) → ((rest : List ℕ) → text ≢ codes "end none\n" ++ rest) →
    ((n : ℕ) (rest : List ℕ) → IsSmall n → text ≢ line_text (codes "end conflicts") (decimal n ∷ []) ++ rest) →
    ((n : ℕ) (rest : List ℕ) → IsSmall n → text ≢ line_text (codes "end room") (decimal n ∷ []) ++ rest) →
    (e : Ending) (rest : List ℕ) → IsSmallEnding e → text ≢ text_of_line (EndLine e) ++ rest
no_ending text best none conflicts room Best rest small e = best rest e
no_ending text best none conflicts room NoDrawing rest small e = none rest e
no_ending text best none conflicts room (Conflicts n) rest small e = conflicts n rest small e
no_ending text best none conflicts room (Room n) rest small e = room n rest small e
