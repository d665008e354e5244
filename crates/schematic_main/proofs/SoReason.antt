-- The text of an explanation is read back in one way as far as it names laws: whichever laws of the station it is read as,
-- they are those that explain.
use Rattle.std.proofs.Common.{◌≡◌, ◌⊎◌, ◌≤◌, ◌<◌, ◌^◌, ℕ, zero, suc, ◌/◌, ◌%◌, ◌==◌, Bool, false, true, cond, List, [], ◌∷◌, ◌++◌, length, map, get_or}
use Rattle.std.proofs.Common.{inl, inr, Some, refl, sym, ◌∙◌, ap, subst, arith, append_assoc}
use Rattle.std.specs.Prelude.{All, flat_map, codes}
use Rattle.std.specs.Fmt.{decimal, digits, digits_onto, digit_glyph}
use Rattle.std.specs.List.{AllByRecursion}
use Rattle.std.proofs.lemmas.Fmt.{decimal_injective}
use Rattle.std.proofs.lemmas.List.{append_cancel_left, append_cancel_right}
use Rattle.std.proofs.lemmas.List.Elements.{All-head, All-tail, All-weaker}
use Rattle.outside_io.specs.Contents.{Told}
use Rattle.outside_io.specs.Fields.{line_text, IsOneField, EndsField}
use Rattle.plan_core.specs.Grid.{GridSize}
use Rattle.plan_core.specs.Graph.{Graph}
use Rattle.plan_core.specs.Drawing.{Drawing}
use Rattle.plan_core.specs.Lawful.{Instance, NodeOnGrid, LineOnGrid, Ordered, Joined, Aligned, Apart, Over, Parted, IsInstance}
use Rattle.track_order.specs.Order.{EdgeOrder, is_above}
use Rattle.lawful_check.specs.declared.law_break.LawBreak.{LawBreak}
use Rattle.lawful_check.specs.Breaks.{break_of, first_of, second_of}
use Rattle.plan_text.proofs.FieldLemmas.{fields_once}
use Rattle.search_why.specs.Explained.{IsChoiceOf}
use Rattle.run_input.specs.declared.status.Status.TheVariants.{Done}
use Rattle.run_input.specs.Input.{HasGraph, IsStationOf}
use Rattle.run_input.specs.Law.{law_fields}
use Rattle.run_explain_redraw.specs.WhyText.{law_line, without_texts, laws_text}
use Rattle.schematic_main.specs.So.{SomeLawful, IsReason, ExplainIsSo}
use Rattle.schematic_main.proofs.SoExcludes.{at_station}
use Rattle.schematic_main.proofs.SoReadBack.{no_laws_exist}

-- ---- a number is one field, however great

glyph_is_no_end : (n : ℕ) → EndsField (digit_glyph false (n % 10)) → ⊥
glyph_is_no_end n ends = grind (arith, ends)

onto_is_one : (k n : ℕ) (behind : List ℕ) → IsOneField behind → IsOneField (digits_onto k 10 false n behind)
onto_is_one zero n behind h = h
onto_is_one (suc k) n behind h =
    let one : IsOneField (digit_glyph false (n % 10) ∷ behind) = (glyph_is_no_end n, h) in
    either (n / 10 == 0) one (onto_is_one k (n / 10) (digit_glyph false (n % 10) ∷ behind) one)
  where
    either : (b : Bool) → IsOneField (digit_glyph false (n % 10) ∷ behind) →
        IsOneField (digits_onto k 10 false (n / 10) (digit_glyph false (n % 10) ∷ behind)) →
        IsOneField (cond b (digit_glyph false (n % 10) ∷ behind) (digits_onto k 10 false (n / 10) (digit_glyph false (n % 10) ∷ behind)))
    either true last more = last
    either false last more = more

number_is_one : (n : ℕ) → IsOneField (decimal n)
unfolding digits
number_is_one n = onto_is_one 64 n [] tt

-- ---- a law is known by its fields

-- its parties have small numbers
record IsSmallLaw (i : Instance) : Type 0 where
  first : first_of i < 2 ^ 64
  second : second_of i < 2 ^ 64

abbrev fields_of : Instance → List (List ℕ)
fields_of i = law_fields (break_of i)

small_number : (i : Instance) → (break_of i).law < 2 ^ 64
small_number (NodeOnGrid n) = omega arith
small_number (LineOnGrid e) = omega arith
small_number (Ordered u v) = omega arith
small_number (Joined e) = omega arith
small_number (Aligned n) = omega arith
small_number (Apart u v) = omega arith
small_number (Over e f) = omega arith
small_number (Parted e f) = omega arith

same_law : (i j : Instance) → fields_of i ≡ fields_of j → (break_of i).law ≡ (break_of j).law
same_law i j e = decimal_injective (break_of i).law (break_of j).law (small_number i) (small_number j) (ap (λ (fs : List (List ℕ)). get_or fs 0 []) e)

-- the number at place k of the fields
same_number : (k n m : ℕ) (fs gs : List (List ℕ)) → get_or fs k [] ≡ decimal n → get_or gs k [] ≡ decimal m → n < 2 ^ 64 → m < 2 ^ 64 → fs ≡ gs → n ≡ m
same_number k n m fs gs is also small too e =
    decimal_injective n m small too (sym is ∙ ap (λ (xs : List (List ℕ)). get_or xs k []) e ∙ also)

node_is_no_edge : (fs gs : List (List ℕ)) → get_or fs 1 [] ≡ codes "node" → get_or gs 1 [] ≡ codes "edge" → fs ≡ gs → ⊥
node_is_no_edge fs gs is also e =
    let same : codes "node" ≡ codes "edge" = sym is ∙ ap (λ (xs : List (List ℕ)). get_or xs 1 []) e ∙ also in
    let z : ◌≡◌ {A = ℕ} 110 101 = ap (λ (xs : List ℕ). get_or xs 0 0) same in absurd (omega arith)

law_once : (i j : Instance) → IsSmallLaw i → IsSmallLaw j → fields_of i ≡ fields_of j → i ≡ j
law_once (NodeOnGrid n) (NodeOnGrid m) h k e =
    ap (λ (x : ℕ). NodeOnGrid x) (same_number 2 n m (fields_of (NodeOnGrid n)) (fields_of (NodeOnGrid m)) refl refl h.first k.first e)
law_once (NodeOnGrid n) (LineOnGrid m) h k e = absurd (node_is_no_edge (fields_of (NodeOnGrid n)) (fields_of (LineOnGrid m)) refl refl e)
law_once (LineOnGrid n) (NodeOnGrid m) h k e = absurd (node_is_no_edge (fields_of (NodeOnGrid m)) (fields_of (LineOnGrid n)) refl refl (sym e))
law_once (LineOnGrid n) (LineOnGrid m) h k e =
    ap (λ (x : ℕ). LineOnGrid x) (same_number 2 n m (fields_of (LineOnGrid n)) (fields_of (LineOnGrid m)) refl refl h.first k.first e)
law_once (Joined n) (Joined m) h k e =
    ap (λ (x : ℕ). Joined x) (same_number 2 n m (fields_of (Joined n)) (fields_of (Joined m)) refl refl h.first k.first e)
law_once (Aligned n) (Aligned m) h k e =
    ap (λ (x : ℕ). Aligned x) (same_number 2 n m (fields_of (Aligned n)) (fields_of (Aligned m)) refl refl h.first k.first e)
law_once (Ordered u v) (Ordered n m) h k e =
    let fs = fields_of (Ordered u v) in let gs = fields_of (Ordered n m) in
    ap (λ (x : ℕ). Ordered x v) (same_number 2 u n fs gs refl refl h.first k.first e)
    ∙ ap (λ (x : ℕ). Ordered n x) (same_number 4 v m fs gs refl refl h.second k.second e)
law_once (Apart u v) (Apart n m) h k e =
    let fs = fields_of (Apart u v) in let gs = fields_of (Apart n m) in
    ap (λ (x : ℕ). Apart x v) (same_number 2 u n fs gs refl refl h.first k.first e)
    ∙ ap (λ (x : ℕ). Apart n x) (same_number 4 v m fs gs refl refl h.second k.second e)
law_once (Over u v) (Over n m) h k e =
    let fs = fields_of (Over u v) in let gs = fields_of (Over n m) in
    ap (λ (x : ℕ). Over x v) (same_number 2 u n fs gs refl refl h.first k.first e)
    ∙ ap (λ (x : ℕ). Over n x) (same_number 4 v m fs gs refl refl h.second k.second e)
law_once (Parted u v) (Parted n m) h k e =
    let fs = fields_of (Parted u v) in let gs = fields_of (Parted n m) in
    ap (λ (x : ℕ). Parted x v) (same_number 2 u n fs gs refl refl h.first k.first e)
    ∙ ap (λ (x : ℕ). Parted n x) (same_number 4 v m fs gs refl refl h.second k.second e)
law_once i j h k e = let law = same_law i j e in absurd (omega (arith, law))

-- ---- so are the lines of laws, and what stands behind them

all_are_one : (i : Instance) → AllByRecursion IsOneField (fields_of i)
all_are_one i = by i
  where
    node : IsOneField (codes "node")
    node = grind arith

    edge : IsOneField (codes "edge")
    edge = grind arith

    by : (i : Instance) → AllByRecursion IsOneField (fields_of i)
    by (NodeOnGrid n) = (number_is_one 1, (node, (number_is_one n, tt)))
    by (LineOnGrid e) = (number_is_one 1, (edge, (number_is_one e, tt)))
    by (Ordered u v) = (number_is_one 2, (node, (number_is_one u, (node, (number_is_one v, tt)))))
    by (Joined e) = (number_is_one 3, (edge, (number_is_one e, tt)))
    by (Aligned n) = (number_is_one 4, (node, (number_is_one n, tt)))
    by (Apart u v) = (number_is_one 5, (node, (number_is_one u, (node, (number_is_one v, tt)))))
    by (Over e f) = (number_is_one 6, (edge, (number_is_one e, (edge, (number_is_one f, tt)))))
    by (Parted e f) = (number_is_one 7, (edge, (number_is_one e, (edge, (number_is_one f, tt)))))

-- the text doesn't begin with the l of a law's line
abbrev BeginsOtherwise : List ℕ → Type 0
BeginsOtherwise text = get_or text 0 0 ≡ 108 → ⊥

no_law_line : (b : LawBreak) (rest text : List ℕ) → BeginsOtherwise text → text ≡ law_line b ++ rest → ⊥
no_law_line b rest text other e = other (ap (λ (xs : List ℕ). get_or xs 0 0) e)

abbrev law_lines : List Instance → List ℕ
law_lines laws = flat_map law_line (map break_of laws)

laws_once : (xs ys : List Instance) (q r : List ℕ) → All IsSmallLaw xs → All IsSmallLaw ys → BeginsOtherwise q → BeginsOtherwise r →
    law_lines xs ++ q ≡ law_lines ys ++ r → xs ≡ ys
laws_once [] [] q r h k other also e = refl
laws_once [] (y ∷ ys) q r h k other also e =
    absurd (no_law_line (break_of y) (law_lines ys ++ r) q other (e ∙ append_assoc (law_line (break_of y)) (law_lines ys) r))
laws_once (x ∷ xs) [] q r h k other also e =
    absurd (no_law_line (break_of x) (law_lines xs ++ q) r also (sym e ∙ append_assoc (law_line (break_of x)) (law_lines xs) q))
laws_once (x ∷ xs) (y ∷ ys) q r h k other also e =
    let same = fields_once (codes "law") (fields_of x) (fields_of y) (law_lines xs ++ q) (law_lines ys ++ r) (all_are_one x) (all_are_one y)
    (sym (append_assoc (law_line (break_of x)) (law_lines xs) q) ∙ e ∙ append_assoc (law_line (break_of y)) (law_lines ys) r) in
    let first = law_once x y (All-head IsSmallLaw x xs h) (All-head IsSmallLaw y ys k) same.fields_are in
    let rest = laws_once xs ys q r (All-tail IsSmallLaw x xs h) (All-tail IsSmallLaw y ys k) other also same.behind in
    ap (λ (i : Instance). i ∷ xs) first ∙ ap (λ (is : List Instance). y ∷ is) rest

behind_laws : (g : Graph) (without : List Drawing) → BeginsOtherwise (without_texts g 1 without)
behind_laws g [] e = absurd (omega (arith, e))
behind_laws g (d ∷ rest) e = let z : ◌≡◌ {A = ℕ} 119 108 = e in absurd (omega arith)

text_once : (g : Graph) (xs ys : List Instance) (without shown : List Drawing) → All IsSmallLaw xs → All IsSmallLaw ys →
    laws_text g (map break_of xs) without ≡ laws_text g (map break_of ys) shown → xs ≡ ys
text_once g xs ys without shown h k e =
    let title : List ℕ = codes "railplan-why 1\n" in
    let many : List Instance → List ℕ = λ is. line_text (codes "laws") (decimal (length (map break_of is)) ∷ []) in
    let behind : List Instance → List Drawing → List ℕ = λ is ds. law_lines is ++ without_texts g 1 ds in
    let regroup : (is : List Instance) (ds : List Drawing) → ((title ++ many is) ++ law_lines is) ++ without_texts g 1 ds ≡ title ++ (many is ++ behind is ds) =
    λ is ds. append_assoc (title ++ many is) (law_lines is) (without_texts g 1 ds) ∙ append_assoc title (many is) (behind is ds) in
    let inner = append_cancel_right (((title ++ many xs) ++ law_lines xs) ++ without_texts g 1 without)
    (((title ++ many ys) ++ law_lines ys) ++ without_texts g 1 shown) (codes "end why\n") e in
    let counted = append_cancel_left title (many xs ++ behind xs without) (many ys ++ behind ys shown)
    (sym (regroup xs without) ∙ inner ∙ regroup ys shown) in
    let same = fields_once (codes "laws") (decimal (length (map break_of xs)) ∷ []) (decimal (length (map break_of ys)) ∷ []) (behind xs without)
    (behind ys shown)
    (number_is_one (length (map break_of xs)), tt) (number_is_one (length (map break_of ys)), tt) counted in
    laws_once xs ys (without_texts g 1 without) (without_texts g 1 shown) h k (behind_laws g without) (behind_laws g shown) same.behind

-- ---- the laws of a station have small numbers

small_law : (bytes : List ℕ) (g : Graph) (above : ℕ → ℕ → Bool) (i : Instance) → HasGraph bytes g → IsInstance g above i → IsSmallLaw i
small_law bytes g above i has is = by i is
  where
    nodes : length g.nodes ≤ 128
    nodes = let few = has.built.station.few_nodes in omega (arith, few)

    edges : length g.edges ≤ 65535
    edges = let few = has.built.station.few_edges in omega (arith, few)

    by : (i : Instance) → IsInstance g above i → IsSmallLaw i
    by (NodeOnGrid n) is = record { first = omega (arith, is, nodes); second = omega arith }
    by (LineOnGrid e) is = record { first = omega (arith, is, edges); second = omega arith }
    by (Ordered u v) is = let r = is.rising in let w = is.within in record { first = omega (arith, r, w, nodes); second = omega (arith, w, nodes) }
    by (Joined e) is = record { first = omega (arith, is, edges); second = omega arith }
    by (Aligned n) is = record { first = omega (arith, is, nodes); second = omega arith }
    by (Apart u v) is = let r = is.rising in let w = is.within in record { first = omega (arith, r, w, nodes); second = omega (arith, w, nodes) }
    by (Over e f) is = let a = is.first in let b = is.second in record { first = omega (arith, a, edges); second = omega (arith, b, edges) }
    by (Parted e f) is = let r = is.pair.rising in let w = is.pair.within in record { first = omega (arith, r, w, edges); second = omega (arith, w, edges) }

-- ---- explain

pub only_reason : (told : Told) (input : List ℕ) (grid : GridSize) (g : Graph) (o : EdgeOrder) (named : List Instance) (shown : List Drawing) (text : List ℕ) →
    IsStationOf input (Some told) g o → All (IsInstance g (is_above o)) named → text ≡ laws_text g (map break_of named) shown →
    ExplainIsSo input grid (Some told) Done text → (without : List Drawing) × IsReason g o grid named without
only_reason told input grid g o named shown text (bytes, there, has) each read so =
    let P : Graph → EdgeOrder → Type 0 =
    λ h p. (SomeLawful h p grid × (text ≡ codes "drawing exists\n")) ⊎ ((laws : List Instance) × (without : List Drawing) × IsReason h p grid laws without ×
    (text ≡ laws_text h (map break_of laws) without)) in
    let small : (i : Instance) → IsInstance g (is_above o) i → IsSmallLaw i = λ i is. small_law bytes g (is_above o) i has.has_graph is in
    let found : P g o = at_station P told input g o (bytes, there, has) so in
    elim found [
      | inl (some, said) ↦ absurd (no_laws_exist g (map break_of named) shown (sym read ∙ said))
      | inr (laws, without, reason, said) ↦ (
        without,
        subst (λ (is : List Instance). IsReason g o grid is without)
            (text_once g laws named without shown
            (All-weaker (λ i. IsChoiceOf g (is_above o) i) IsSmallLaw (λ i c. small i c.is) laws reason.explains.each)
            (All-weaker (λ i. IsInstance g (is_above o) i) IsSmallLaw small named each) (sym said ∙ read)) reason,
      )
    ]
