-- The texts of front, redraw and explain are read back in one way as far as they say what is true: which pairs are on the
-- front, how many nodes moved, and whether a drawing exists.
use Rattle.std.proofs.Common.{◌≡◌, ◌⊎◌, ◌↔◌, ℕ, ◌^◌, ◌<◌, ◌≤◌, true, List, [], ◌∷◌, ◌++◌, length, map, get_or, None, Some, refl, sym, ◌∙◌, ap, subst, inl}
use Rattle.std.proofs.Common.{inr, arith}
use Rattle.std.specs.Prelude.{All, flat_map, codes}
use Rattle.std.specs.declared.option.Option.{Option}
use Rattle.std.specs.Fmt.{decimal}
use Rattle.std.specs.List.{AllByRecursion}
use Rattle.std.proofs.lemmas.Fmt.{decimal_injective}
use Rattle.std.proofs.lemmas.Bool.{cases_lt}
use Rattle.std.proofs.lemmas.List.{append_cancel_left, append_cancel_right, ext_get_or}
use Rattle.std.proofs.lemmas.List.Elements.{All-head, All-tail, All-weaker}
use Rattle.outside_io.specs.Contents.{Told}
use Rattle.outside_io.specs.Fields.{line_text, IsOneField}
use Rattle.outside_io.specs.Criteria.{criterion_word}
use Rattle.outside_io.proofs.NumberLemmas.{decimal_is_one}
use Rattle.plan_core.specs.declared.criterion.Criterion.{Criterion}
use Rattle.plan_core.specs.declared.point.Point.{Point}
use Rattle.plan_core.specs.Grid.{GridSize, IsGrid}
use Rattle.plan_core.specs.Graph.{Graph, node, no_node}
use Rattle.plan_core.specs.Drawing.{Drawing, place}
use Rattle.plan_core.specs.Lawful.{Instance, Lawful}
use Rattle.plan_core.specs.Values.{values_of, value_of}
use Rattle.plan_core.proofs.LimitLemmas.{value-le-limit}
use Rattle.track_order.specs.Order.{EdgeOrder, is_above}
use Rattle.lawful_check.specs.declared.law_break.LawBreak.{LawBreak}
use Rattle.lawful_check.specs.Breaks.{break_of}
use Rattle.plan_write.specs.declared.edition.Edition.TheVariants.{Second}
use Rattle.plan_write.specs.SheetLine.{GridLine, text_of_line, AreSmall}
use Rattle.plan_text.specs.SheetText.{Sheet, drawing_lines}
use Rattle.plan_text.proofs.FieldLemmas.{fields_once, decimals_are_one, decimals_once}
use Rattle.plan_text.proofs.SheetLaws.{one_sheet}
use Rattle.drawing_cnf.specs.Moved.{Former, former_at, moved, matched}
use Rattle.drawing_cnf.proofs.LimitLemmas.{small_limit}
use Rattle.drawing_cnf.proofs.SizeLemmas.{matched_few}
use Rattle.drawing_cnf.proofs.VariableLemmas.{moved_within}
use Rattle.search_least.specs.declared.fewest.Fewest.TheVariants as fewest
use Rattle.trade_off.specs.Front.{Pairs, IsOnFront, IsWholeFront}
use Rattle.trade_off.specs.declared.outcome.FrontEnd.TheVariants as fronts
use Rattle.run_input.specs.declared.status.Status.TheVariants.{Done, NoDrawing}
use Rattle.run_input.specs.Input.{HasGraph, IsOfFile, IsStationOf}
use Rattle.run_check.proofs.VerdictLemmas.{same_found}
use Rattle.run_draw_front.specs.FrontText.{pair_line, end_word, front_text}
use Rattle.run_explain_redraw.specs.FormerPoints.{IsPointOf, AreFormer}
use Rattle.run_explain_redraw.specs.Judged.{GivesFormer}
use Rattle.run_explain_redraw.specs.Answer.{HaveFormerIn}
use Rattle.run_explain_redraw.specs.MovedText.{moved_line, moved_text}
use Rattle.run_explain_redraw.specs.WhyText.{laws_text}
use Rattle.schematic_main.specs.So.{OfStation, NoneLawful, SomeLawful, HasFewestMoved, IsReason, FrontIsSo, RedrawIsSo, ExplainIsSo}
use Rattle.schematic_main.proofs.SoExcludes.{same_bytes, at_station}

-- ---- front

-- the numbers of the pair are small
abbrev IsSmallPair : ℕ × ℕ → Type 0
IsSmallPair x = AreSmall (x.0 ∷ x.1 ∷ [])

no_line : (y : ℕ × ℕ) (rest : List ℕ) → [] ≡ pair_line y ++ rest → ⊥
no_line y rest e = let z : ◌≡◌ {A = ℕ} 0 112 = ap (λ (xs : List ℕ). get_or xs 0 0) e in absurd (omega arith)

pairs_once : (xs ys : Pairs) → All IsSmallPair xs → All IsSmallPair ys → flat_map pair_line xs ≡ flat_map pair_line ys → xs ≡ ys
pairs_once [] [] h k e = refl
pairs_once [] (y ∷ ys) h k e = absurd (no_line y (flat_map pair_line ys) e)
pairs_once (x ∷ xs) [] h k e = absurd (no_line x (flat_map pair_line xs) (sym e))
pairs_once (x ∷ xs) (y ∷ ys) h k e =
    let small = All-head IsSmallPair x xs h in
    let also = All-head IsSmallPair y ys k in
    let same = fields_once (codes "pair") (decimal x.0 ∷ decimal x.1 ∷ []) (decimal y.0 ∷ decimal y.1 ∷ []) (flat_map pair_line xs) (flat_map pair_line ys)
    (decimals_are_one (x.0 ∷ x.1 ∷ []) small) (decimals_are_one (y.0 ∷ y.1 ∷ []) also) e in
    let numbers = decimals_once (x.0 ∷ x.1 ∷ []) (y.0 ∷ y.1 ∷ []) small also same.fields_are in
    let first : x.0 ≡ y.0 = ap (λ (ns : List ℕ). get_or ns 0 0) numbers in
    let second : x.1 ≡ y.1 = ap (λ (ns : List ℕ). get_or ns 1 0) numbers in
    let pair : x ≡ y = ap (λ (n : ℕ). (n, x.1)) first ∙ ap (λ (n : ℕ). (y.0, n)) second in
    let rest = pairs_once xs ys (All-tail IsSmallPair x xs h) (All-tail IsSmallPair y ys k) same.behind in
    ap (λ (p : ℕ × ℕ). p ∷ xs) pair ∙ ap (λ (ps : Pairs). y ∷ ps) rest

front_once : (a b : Criterion) (xs ys : Pairs) → All IsSmallPair xs → All IsSmallPair ys → front_text a b xs fronts.Whole ≡ front_text a b ys fronts.Whole →
    xs ≡ ys
front_once a b xs ys h k e =
    let head : List ℕ = codes "railplan-front 1\n" ++ line_text (codes "front") (criterion_word a ∷ criterion_word b ∷ []) in
    let tail : List ℕ = line_text (codes "end") (end_word fronts.Whole ∷ []) in
    let inner = append_cancel_right (head ++ flat_map pair_line xs) (head ++ flat_map pair_line ys) tail e in
    pairs_once xs ys h k (append_cancel_left head (flat_map pair_line xs) (flat_map pair_line ys) inner)

-- the numbers of a pair on the front are small
small_value : (bytes : List ℕ) (g : Graph) (o : EdgeOrder) (grid : GridSize) (d : Drawing) (c : Criterion) → HasGraph bytes g → IsGrid grid →
    Lawful g (is_above o) grid d → value_of (values_of d) c ≤ 10240
small_value bytes g o grid d c has is lawful =
    let most = value-le-limit g (is_above o) grid d lawful c in
    let limit = small_limit g grid c has.built.station is in
    omega (arith, most, limit)

small_on_front : (bytes : List ℕ) (g : Graph) (o : EdgeOrder) (grid : GridSize) (a b : Criterion) (x : ℕ × ℕ) → HasGraph bytes g → IsGrid grid →
    IsOnFront (Lawful g (is_above o) grid) a b x.0 x.1 → IsSmallPair x
small_on_front bytes g o grid a b x has is on =
    let found = on.attained in
    let first = small_value bytes g o grid found.drawing a has is found.is_one in
    let second = small_value bytes g o grid found.drawing b has is found.is_one in
    let one = found.first in
    let two = found.second in
    (omega (arith, first, one), (omega (arith, second, two), tt))

pub only_on_front : (told : Told) (input : List ℕ) (a b : Criterion) (grid : GridSize) (g : Graph) (o : EdgeOrder) (pairs : Pairs) (text : List ℕ) →
    IsGrid grid → IsStationOf input (Some told) g o → All (λ x. AreSmall (x.0 ∷ x.1 ∷ [])) pairs →
    text ≡ front_text a b pairs fronts.Whole → FrontIsSo input a b grid (Some told) Done text → IsWholeFront (Lawful g (is_above o) grid) a b pairs
only_on_front told input a b grid g o pairs text is (bytes, there, has) small read so =
    let P : Graph → EdgeOrder → Type 0 = λ h p. SomeLawful h p grid × (found : Pairs) × IsWholeFront (Lawful h (is_above p) grid) a b found ×
    (text ≡ front_text a b found fronts.Whole) in
    let found : P g o = at_station P told input g o (bytes, there, has) so in
    let listed : All IsSmallPair found.1 = All-weaker (λ x. IsOnFront (Lawful g (is_above o) grid) a b x.0 x.1) IsSmallPair
    (λ x on. small_on_front bytes g o grid a b x has.has_graph is on) found.1 found.2.listed.each in
    let same = front_once a b found.1 pairs listed small (sym found.3 ∙ read) in
    subst (λ (ps : Pairs). IsWholeFront (Lawful g (is_above o) grid) a b ps) same found.2

pub excludes_off_front : (told : Told) (input : List ℕ) (a b : Criterion) (grid : GridSize) (g : Graph) (o : EdgeOrder) (d : Drawing) (text : List ℕ) →
    IsStationOf input (Some told) g o → Lawful g (is_above o) grid d →
    FrontIsSo input a b grid (Some told) NoDrawing text → ⊥
excludes_off_front told input a b grid g o d text is lawful so =
    let P : Graph → EdgeOrder → Type 0 = λ h p. NoneLawful h p grid × (text ≡ front_text a b [] fronts.Empty) in
    let found : P g o = at_station P told input g o is so in
    found.0 d lawful

-- ---- redraw: the former points are one

one_point : (bytes : List ℕ) (old : Graph) (d : Drawing) (name : List ℕ) (p q : Option Point) → HasGraph bytes old → IsPointOf old d name p →
    IsPointOf old d name q → p ≡ q
one_point bytes old d name None None has is also = refl
one_point bytes old d name None (Some q) has is (m, there, named, also) = absurd (is m there named)
one_point bytes old d name (Some p) None has (m, there, named, is) also = absurd (also m there named)
one_point bytes old d name (Some p) (Some q) has (m, here, named, is) (n, there, called, also) = by (cases_lt m n) (cases_lt n m)
  where
    by : (m < n) ⊎ (n ≤ m) → (n < m) ⊎ (m ≤ n) → Some p ≡ Some q
    by (inl less) other = absurd (has.built.station.names_differ m n no_node less there (named ∙ sym called))
    by (inr from) (inl less) = absurd (has.built.station.names_differ n m no_node less here (called ∙ sym named))
    by (inr from) (inr to) = let same : m ≡ n = omega (arith, from, to) in ap (λ (x : Point). Some x) (is ∙ ap (place d) same ∙ sym also)

one_former : (bytes : List ℕ) (g old : Graph) (d : Drawing) (a b : Former) → HasGraph bytes old → AreFormer g old d a → AreFormer g old d b → a ≡ b
one_former bytes g old d a b has is also =
    ext_get_or None a b (is.same ∙ sym also.same)
    (λ n lt. let within : n < length g.nodes = subst (λ (k : ℕ). n < k) is.same lt in one_point bytes old d (node g n).name (former_at a n) (former_at b n) has
    (is.each n within) (also.each n within))

-- so are those that a sheet gives
one_given : (bytes : List ℕ) (g old : Graph) (said : List ℕ) (a b : Former) → HasGraph bytes old → GivesFormer g old said a → GivesFormer g old said b → a ≡ b
one_given bytes g old said a b has is also =
    let same = one_sheet old true said is.has.sheet also.has.sheet is.has.told also.has.told in
    let drawn : is.drawn ≡ also.drawn = same_found is.drawn also.drawn (sym is.has.found ∙ ap (λ (s : Sheet). s.found) same ∙ also.has.found) in
    one_former bytes g old also.drawn a b has (subst (λ (d : Drawing). AreFormer g old d a) drawn is.are_former) also.are_former

-- ---- redraw: how many moved

of_is_one : IsOneField (codes "of")
of_is_one = grind arith

moved_once : (g : Graph) (grid : GridSize) (points : Former) (d e : Drawing) → length points ≤ 128 →
    moved_text g grid points (fewest.Best d) ≡ moved_text g grid points (fewest.Best e) → moved points (place d) ≡ moved points (place e)
moved_once g grid points d e few same =
    let head : List ℕ = codes "railplan-moved 1\n" ++ text_of_line (GridLine Second grid) in
    let tail : List ℕ = line_text (codes "end") (codes "best" ∷ []) in
    let lines : Drawing → List ℕ = λ x. flat_map text_of_line (drawing_lines Second g x) in
    let fields : Drawing → List (List ℕ) = λ x. decimal (moved points (place x)) ∷ codes "of" ∷ decimal (matched points) ∷ [] in
    let least = matched_few points in
    let matched_small : matched points < 2 ^ 64 = omega (arith, few, least) in
    let moved_small : (x : Drawing) → moved points (place x) < 2 ^ 64 = λ x. (let less = moved_within points (place x) in omega (arith, few, least, less)) in
    let all_one : (x : Drawing) → AllByRecursion IsOneField (fields x) = λ x. (
      decimal_is_one (moved points (place x)) (moved_small x),
      (of_is_one, (decimal_is_one (matched points) matched_small, tt)),
    ) in
    let inner = append_cancel_right (head ++ (moved_line points d ++ lines d)) (head ++ (moved_line points e ++ lines e)) tail same in
    let behind = append_cancel_left head (moved_line points d ++ lines d) (moved_line points e ++ lines e) inner in
    let told = fields_once (codes "moved") (fields d) (fields e) (lines d) (lines e) (all_one d) (all_one e) behind in
    let first : decimal (moved points (place d)) ≡ decimal (moved points (place e)) = ap (λ (fs : List (List ℕ)). get_or fs 0 []) told.fields_are in
    decimal_injective (moved points (place d)) (moved points (place e)) (moved_small d) (moved_small e) first

pub excludes_fewer : (told : Told) (input former sheet : List ℕ) (grid : GridSize) (g : Graph) (o : EdgeOrder) (points : Former) (d other : Drawing)
    (text : List ℕ) → HaveFormerIn input former sheet (Some told) g o points →
    text ≡ moved_text g grid points (fewest.Best d) → Lawful g (is_above o) grid other → moved points (place other) < moved points (place d) →
    RedrawIsSo input former sheet grid (Some told) Done text → ⊥
excludes_fewer told input former sheet grid g o points d other text files read lawful fewer so =
    let have = files.have in
    let says : Graph → EdgeOrder → Former → Type 0 = λ x p given. (e : Drawing) × HasFewestMoved x p grid given e ×
    (text ≡ moved_text x grid given (fewest.Best e)) in
    let Q : Graph → EdgeOrder → Graph → EdgeOrder → Type 0 = λ x p y q. (given : Former) × IsOfFile (λ bytes. GivesFormer x y bytes given) sheet (Some told) ×
    says x p given in
    let here = at_station (λ x p. OfStation (Some told) former (Q x p)) told input g o (files.bytes, files.inputs.is_first.is_file, have.has_station) so in
    let found : Q g o have.old_graph have.old_order = at_station (Q g o) told former have.old_graph have.old_order
    (files.old, files.inputs.is_second.is_file, have.old_station) here in
    let gives : GivesFormer g have.old_graph files.said found.0 = subst (λ (xs : List ℕ). GivesFormer g have.old_graph xs found.0)
    (same_bytes told sheet files.said found.1.0 files.inputs.is_third.is_file found.1.1) found.1.2 in
    let same = one_given files.old g have.old_graph files.said found.0 points have.old_station.has_graph gives have.gives in
    let said : says g o points = subst (λ (given : Former). says g o given) same found.2 in
    let nodes = have.gives.are_former.same in
    let few = have.has_station.has_graph.built.station.few_nodes in
    let counts = moved_once g grid points d said.0 (omega (arith, nodes, few)) (sym read ∙ said.2) in
    let least = said.1.none_fewer other lawful in
    omega (arith, counts, least, fewer)

pub excludes_unmoved : (told : Told) (input former sheet : List ℕ) (grid : GridSize) (g : Graph) (o : EdgeOrder) (d : Drawing) (text : List ℕ) →
    IsStationOf input (Some told) g o → Lawful g (is_above o) grid d →
    RedrawIsSo input former sheet grid (Some told) NoDrawing text → ⊥
excludes_unmoved told input former sheet grid g o d text is lawful so =
    let Q : Graph → EdgeOrder → Graph → EdgeOrder → Type 0 = λ x p y q. (given : Former) × IsOfFile (λ bytes. GivesFormer x y bytes given) sheet (Some told) ×
    (NoneLawful x p grid × (text ≡ moved_text x grid given fewest.NoDrawing)) in
    let found : OfStation (Some told) former (Q g o) = at_station (λ x p. OfStation (Some told) former (Q x p)) told input g o is so in
    found.3.2.0 d lawful

-- ---- explain

-- laws aren't the text of a drawing that exists
pub no_laws_exist : (g : Graph) (names : List LawBreak) (without : List Drawing) → laws_text g names without ≡ codes "drawing exists\n" → ⊥
no_laws_exist g names without e = let z : ◌≡◌ {A = ℕ} 114 100 = ap (λ (xs : List ℕ). get_or xs 0 0) e in absurd (omega arith)

pub exists_said : (told : Told) (input : List ℕ) (grid : GridSize) (g : Graph) (o : EdgeOrder) (text : List ℕ) → IsStationOf input (Some told) g o →
    ExplainIsSo input grid (Some told) Done text → (text ≡ codes "drawing exists\n") ↔ SomeLawful g o grid
exists_said told input grid g o text is so =
    let P : Graph → EdgeOrder → Type 0 =
    λ h p. (SomeLawful h p grid × (text ≡ codes "drawing exists\n")) ⊎ ((laws : List Instance) × (without : List Drawing) × IsReason h p grid laws without ×
    (text ≡ laws_text h (map break_of laws) without)) in
    let found : P g o = at_station P told input g o is so in
    elim found [
      | inl (some, said) ↦ (λ e. some, λ lawful. said)
      | inr (laws, without, reason, said) ↦ (
        λ e. absurd (no_laws_exist g (map break_of laws) without (sym said ∙ e)),
        λ lawful. absurd
            (reason.none_lawful lawful.0 lawful.1),
      )
    ]
