-- The lines that were read are those of a sheet.
use Rattle.std.proofs.Common.{◌≡◌, ◌⊎◌, inl, inr, ℕ, suc, ◌+◌, ◌<◌, Bool, true, false, if◌then◌else◌, List, [], ◌∷◌, ◌++◌, None, Some, map, length, refl, sym}
use Rattle.std.proofs.Common.{◌∙◌, ap, subst, arith, append_assoc, length-append}
use Rattle.std.specs.Prelude.{flat_map, slice_index_or}
use Rattle.std.specs.List.{range_with_len}
use Rattle.std.proofs.lemmas.Grind.{flat_map-append}
use Rattle.std.proofs.lemmas.List.{append-nil}
use Rattle.std.proofs.lemmas.Bool.{le-ltb}
use Rattle.std.proofs.Math.Nat.{le_refl}
use Rattle.plan_core.specs.declared.point.Point.{Point}
use Rattle.plan_core.specs.declared.criterion.Criterion.{Criterion}
use Rattle.plan_core.specs.Grid.{GridSize}
use Rattle.plan_core.specs.Line.{origin}
use Rattle.plan_core.specs.Graph.{Graph, node, edge}
use Rattle.plan_core.specs.Drawing.{Drawing, drawing, place, line}
use Rattle.plan_core.specs.Values.{values_of}
use Rattle.plan_write.specs.declared.edition.Edition.{Edition}
use Rattle.plan_write.specs.declared.ending.Ending.{Ending}
use Rattle.plan_text.specs.declared.sheet_fault.SheetFault.{SheetFault}
use Rattle.plan_text.specs.declared.sheet_fault.SheetFault.TheVariants.{Sheet as SheetHas, Memory}
use Rattle.plan_text.specs.declared.sheet_fault.SheetWhat.{SheetWhat}
use Rattle.plan_text.specs.declared.sheet_fault.SheetWhat.TheVariants as whats
use Rattle.plan_write.specs.SheetLine.{SheetLine, NodesLine, NodeLine, EdgesLine, EdgeLine, ValuesLine, EndLine, text_of_line, IsSmallEnding, MayEnd}
use Rattle.plan_core.specs.Lawful.{HasSizeOf}
use Rattle.plan_write.specs.SheetText.{StatesSettled, mileage_field, track_field, node_line, edge_line, node_lines, edge_lines, picture_lines, drawing_lines}
use Rattle.plan_text.specs.SheetFaults.{LineDue, TitleDue, BodyDue, NodeDue, EdgesDue, EdgeDue, ValuesDue, BeginsWithLine, node_due, edge_due, due_after}
use Rattle.plan_text.specs.SheetFaults.{criteria_told, place_told, line_told, order_told, drawing_told, HasWrongLine, IsSheetText, IsSheetFault}
use Rattle.plan_text.specs.SheetReading.{IsLineTo, head_lines, placed_lines, drawn_lines, AreReadTo, IsFirstFrom, IsFaultFrom, ArePlacesTo, AreLinesTo}
use Rattle.plan_text.specs.SheetReading.{IsPictureTo, IsClosing, IsNoUndrawnEnding}
use Rattle.plan_text.proofs.ReadingLemmas.{due_append, read_append, read_one, first_later, due_places, due_lines, placed_length, drawn_length, order_kept}
use Rattle.plan_text.proofs.ReadingLemmas.{drawing_grown}

-- ---- the lines of a drawing by its points and lines

one_later : (k i : ℕ) → (k + 1) + i ≡ k + suc i
one_later k i = omega arith

nodes_from : (edition : Edition) (g : Graph) (d : Drawing) (k : ℕ) (places : List Point) →
    ((i : ℕ) → i < length places → place d (k + i) ≡ slice_index_or places i origin) →
    map (node_line edition g d) (range_with_len k (length places)) ≡ placed_lines edition g k places
nodes_from edition g d k [] h = refl
nodes_from edition g d k (p ∷ places) h =
    let here : place d k ≡ p = ap (place d) (omega arith) ∙ h 0 (omega arith) in
    let more = nodes_from edition g d (k + 1) places (λ i less. ap (place d) (one_later k i) ∙ h (suc i) (omega (arith, less))) in
    ap (λ (q : Point). NodeLine k (node g k).name q (mileage_field edition g k) ∷ map (node_line edition g d) (range_with_len (k + 1) (length places))) here
    ∙ ap (λ (lines : List SheetLine). NodeLine k (node g k).name p (mileage_field edition g k) ∷ lines) more

edges_from : (edition : Edition) (g : Graph) (d : Drawing) (k : ℕ) (lines : List (List Point)) →
    ((i : ℕ) → i < length lines → line d (k + i) ≡ slice_index_or lines i []) →
    map (edge_line edition g d) (range_with_len k (length lines)) ≡ drawn_lines edition g k lines
edges_from edition g d k [] h = refl
edges_from edition g d k (l ∷ lines) h =
    let here : line d k ≡ l = ap (line d) (omega arith) ∙ h 0 (omega arith) in
    let more = edges_from edition g d (k + 1) lines (λ i less. ap (line d) (one_later k i) ∙ h (suc i) (omega (arith, less))) in
    ap (λ (m : List Point). EdgeLine k (track_field edition g k) (edge g k).west (edge g k).east m ∷ map (edge_line edition g d)
    (range_with_len (k + 1) (length lines))) here
    ∙ ap (λ (rest : List SheetLine). EdgeLine k (track_field edition g k) (edge g k).west (edge g k).east l ∷ rest) more

pub nodes_are : (edition : Edition) (g : Graph) (d : Drawing) → length d.places ≡ length g.nodes → node_lines edition g d ≡ placed_lines edition g 0 d.places
nodes_are edition g d size =
    ap (λ (n : ℕ). map (node_line edition g d) (range_with_len 0 n)) (sym size)
    ∙ nodes_from edition g d 0 d.places (λ i less. ap (place d) (omega arith))

pub edges_are : (edition : Edition) (g : Graph) (d : Drawing) → length d.lines ≡ length g.edges → edge_lines edition g d ≡ drawn_lines edition g 0 d.lines
edges_are edition g d size =
    ap (λ (n : ℕ). map (edge_line edition g d) (range_with_len 0 n)) (sym size)
    ∙ edges_from edition g d 0 d.lines (λ i less. ap (line d) (omega arith))

-- ---- what these lines tell

abbrev pub parts_of : Edition → Graph → Drawing → List SheetLine
parts_of edition g d = NodesLine (length g.nodes) ∷ (placed_lines edition g 0 d.places ++ EdgesLine (length g.edges) ∷ drawn_lines edition g 0 d.lines)

pub parts_are : (edition : Edition) (g : Graph) (d : Drawing) → HasSizeOf g d → parts_of edition g d ≡ NodesLine (length g.nodes) ∷ picture_lines edition g d
parts_are edition g d size =
    ap (λ (lines : List SheetLine). NodesLine (length g.nodes) ∷ (lines ++ EdgesLine (length g.edges) ∷ drawn_lines edition g 0 d.lines))
    (sym (nodes_are edition g d size.places))
    ∙ ap (λ (lines : List SheetLine). NodesLine (length g.nodes) ∷ (node_lines edition g d ++ EdgesLine (length g.edges) ∷ lines))
    (sym (edges_are edition g d size.lines))

criteria_of_nodes : (edition : Edition) (g : Graph) (k : ℕ) (places : List Point) → order_told (placed_lines edition g k places) ≡ []
criteria_of_nodes edition g k [] = refl
criteria_of_nodes edition g k (p ∷ places) = criteria_of_nodes edition g (k + 1) places

criteria_of_edges : (edition : Edition) (g : Graph) (k : ℕ) (lines : List (List Point)) → order_told (drawn_lines edition g k lines) ≡ []
criteria_of_edges edition g k [] = refl
criteria_of_edges edition g k (l ∷ lines) = criteria_of_edges edition g (k + 1) lines

places_of_nodes : (edition : Edition) (g : Graph) (k : ℕ) (places : List Point) → flat_map place_told (placed_lines edition g k places) ≡ places
places_of_nodes edition g k [] = refl
places_of_nodes edition g k (p ∷ places) = ap (λ (ps : List Point). p ∷ ps) (places_of_nodes edition g (k + 1) places)

lines_of_nodes : (edition : Edition) (g : Graph) (k : ℕ) (places : List Point) → flat_map line_told (placed_lines edition g k places) ≡ []
lines_of_nodes edition g k [] = refl
lines_of_nodes edition g k (p ∷ places) = lines_of_nodes edition g (k + 1) places

places_of_edges : (edition : Edition) (g : Graph) (k : ℕ) (lines : List (List Point)) → flat_map place_told (drawn_lines edition g k lines) ≡ []
places_of_edges edition g k [] = refl
places_of_edges edition g k (l ∷ lines) = places_of_edges edition g (k + 1) lines

lines_of_edges : (edition : Edition) (g : Graph) (k : ℕ) (lines : List (List Point)) → flat_map line_told (drawn_lines edition g k lines) ≡ lines
lines_of_edges edition g k [] = refl
lines_of_edges edition g k (l ∷ lines) = ap (λ (ls : List (List Point)). l ∷ ls) (lines_of_edges edition g (k + 1) lines)

pub no_criteria : (edition : Edition) (g : Graph) (d : Drawing) → order_told (parts_of edition g d) ≡ []
no_criteria edition g d =
    flat_map-append criteria_told (placed_lines edition g 0 d.places) (EdgesLine (length g.edges) ∷ drawn_lines edition g 0 d.lines)
    ∙ ap (λ (cs : List Criterion). cs ++ order_told (drawn_lines edition g 0 d.lines)) (criteria_of_nodes edition g 0 d.places)
    ∙ criteria_of_edges edition g 0 d.lines

pub parts_tell : (edition : Edition) (g : Graph) (d : Drawing) → drawing_told (parts_of edition g d) ≡ d
parts_tell edition g d =
    let places : flat_map place_told (parts_of edition g d) ≡ d.places =
    flat_map-append place_told (placed_lines edition g 0 d.places) (EdgesLine (length g.edges) ∷ drawn_lines edition g 0 d.lines)
    ∙ ap (λ (ps : List Point). ps ++ flat_map place_told (drawn_lines edition g 0 d.lines)) (places_of_nodes edition g 0 d.places)
    ∙ ap (λ (ps : List Point). d.places ++ ps) (places_of_edges edition g 0 d.lines)
    ∙ append-nil d.places in
    let lines : flat_map line_told (parts_of edition g d) ≡ d.lines =
    flat_map-append line_told (placed_lines edition g 0 d.places) (EdgesLine (length g.edges) ∷ drawn_lines edition g 0 d.lines)
    ∙ ap (λ (ls : List (List Point)). ls ++ flat_map line_told (drawn_lines edition g 0 d.lines)) (lines_of_nodes edition g 0 d.places)
    ∙ lines_of_edges edition g 0 d.lines in
    ap (λ (ps : List Point). drawing ps (flat_map line_told (parts_of edition g d))) places ∙ ap (λ (ls : List (List Point)). drawing d.places ls) lines

-- ---- what is due behind them

pub due_nodes : (edition : Edition) (g : Graph) (places : List Point) → length places ≡ length g.nodes →
    due_after g (node_due edition g 0) (placed_lines edition g 0 places) ≡ (EdgesDue edition)
due_nodes edition g places size = let all : 0 + length places ≡ length g.nodes = omega (arith, size) in due_places edition g 0 places (omega (arith, size))
    ∙ ap (node_due edition g) all ∙ none_left
  where
    none_left : node_due edition g (length g.nodes) ≡ (EdgesDue edition)
    none_left = ap (λ (b : Bool). if b then NodeDue edition (length g.nodes) else EdgesDue edition)
        (le-ltb (length g.nodes) (length g.nodes) (le_refl (length g.nodes)))

pub due_edges : (edition : Edition) (g : Graph) (lines : List (List Point)) → length lines ≡ length g.edges →
    due_after g (edge_due edition g 0) (drawn_lines edition g 0 lines) ≡ ValuesDue
due_edges edition g lines size = let all : 0 + length lines ≡ length g.edges = omega (arith, size) in due_lines edition g 0 lines (omega (arith, size))
    ∙ ap (edge_due edition g) all ∙ none_left
  where
    none_left : edge_due edition g (length g.edges) ≡ ValuesDue
    none_left = ap (λ (b : Bool). if b then EdgeDue edition (length g.edges) else ValuesDue)
        (le-ltb (length g.edges) (length g.edges) (le_refl (length g.edges)))

pub due_parts : (edition : Edition) (g : Graph) (d : Drawing) → HasSizeOf g d → due_after g (BodyDue edition true) (parts_of edition g d) ≡ ValuesDue
due_parts edition g d size =
    due_append g (node_due edition g 0) (placed_lines edition g 0 d.places) (EdgesLine (length g.edges) ∷ drawn_lines edition g 0 d.lines)
    ∙ ap (λ (due : LineDue). due_after g due (EdgesLine (length g.edges) ∷ drawn_lines edition g 0 d.lines)) (due_nodes edition g d.places size.places)
    ∙ due_edges edition g d.lines size.lines

-- ---- the whole drawing

pub read_nodes : (edition : Edition) (g : Graph) (before : List SheetLine) (text rest : List ℕ) → IsLineTo text (NodesLine (length g.nodes)) rest →
    AreReadTo g before (BodyDue edition true) text (NodesLine (length g.nodes) ∷ []) rest
read_nodes edition g before text rest to = read_one g before (BodyDue edition true) text rest (NodesLine (length g.nodes)) tt tt refl tt tt to

pub read_edges : (edition : Edition) (g : Graph) (before : List SheetLine) (text rest : List ℕ) → IsLineTo text (EdgesLine (length g.edges)) rest →
    AreReadTo g before (EdgesDue edition) text (EdgesLine (length g.edges) ∷ []) rest
read_edges edition g before text rest to = read_one g before (EdgesDue edition) text rest (EdgesLine (length g.edges)) tt tt refl tt tt to

pub read_picture : (edition : Edition) (g : Graph) (text mid rest : List ℕ) (places some : List Point) (lines other : List (List Point)) (d : Drawing) →
    d ≡ drawing some other → some ≡ places → other ≡ lines → length places ≡ length g.nodes → length lines ≡ length g.edges →
    ArePlacesTo edition g text places mid → AreLinesTo edition g mid lines rest →
    HasSizeOf g d × ((before : List SheetLine) → AreReadTo g before (BodyDue edition true) text (NodesLine (length g.nodes) ∷ picture_lines edition g d) rest)
read_picture edition g text mid rest places some lines other d is p l nodes edges h k =
    let same : drawing places lines ≡ d = ap (λ (ps : List Point). drawing ps lines) (sym p) ∙ ap (λ (ls : List (List Point)). drawing some ls) (sym l)
    ∙ sym is in
    let size : HasSizeOf g (drawing places lines) = record { places = nodes; lines = edges } in (
      subst (HasSizeOf g) same size,
      λ before. subst (λ (e : Drawing). AreReadTo g before (BodyDue edition true) text (NodesLine (length g.nodes) ∷ picture_lines edition g e) rest) same
          (subst (λ (all : List SheetLine). AreReadTo g before (BodyDue edition true) text all rest) (parts_are edition g (drawing places lines) size)
          (read_append g before (BodyDue edition true) text mid rest (NodesLine (length g.nodes) ∷ placed_lines edition g 0 places)
          (EdgesLine (length g.edges) ∷ drawn_lines edition g 0 lines) (h before)
          (subst (λ (due : LineDue). AreReadTo g (before ++ NodesLine (length g.nodes) ∷ placed_lines edition g 0 places) due mid
          (EdgesLine (length g.edges) ∷ drawn_lines edition g 0 lines) rest) (sym (due_nodes edition g places nodes))
          (k (before ++ NodesLine (length g.nodes) ∷ placed_lines edition g 0 places))))),
    )

pub edges_fault : (edition : Edition) (g : Graph) (text mid : List ℕ) (places : List Point) (fault : SheetFault) → length places ≡ length g.nodes →
    ArePlacesTo edition g text places mid → ((before : List SheetLine) → IsFaultFrom g before (EdgesDue edition) mid (length g.nodes + 5) fault) →
    (before : List SheetLine) → IsFaultFrom g before (BodyDue edition true) text 4 fault
edges_fault edition g text mid places fault nodes h k before =
    let all : List SheetLine = NodesLine (length g.nodes) ∷ placed_lines edition g 0 places in
    let n = placed_length edition g 0 places in
    first_later g before (BodyDue edition true) text mid all 4 (length g.nodes + 5) fault (h before) (omega (arith, n, nodes))
    (subst (λ (due : LineDue). IsFaultFrom g (before ++ all) due mid (length g.nodes + 5) fault) (sym (due_nodes edition g places nodes)) (k (before ++ all)))

-- ---- the whole sheet with a drawing

parts_length : (edition : Edition) (g : Graph) (d : Drawing) → HasSizeOf g d → length (parts_of edition g d) ≡ length g.nodes + length g.edges + 2
parts_length edition g d size =
    let all = length-append (placed_lines edition g 0 d.places) (EdgesLine (length g.edges) ∷ drawn_lines edition g 0 d.lines) in
    let n = placed_length edition g 0 d.places in
    let e = drawn_length edition g 0 d.lines in
    let k = size.places in
    let l = size.lines in
    omega (arith, all, n, e, k, l)

behind_parts : (edition : Edition) (g : Graph) (before : List SheetLine) (order : List Criterion) (d : Drawing) → order_told before ≡ order →
    order_told (before ++ parts_of edition g d) ≡ order
behind_parts edition g before order d ordered = order_kept before (parts_of edition g d) order (no_criteria edition g d) ordered

pub read_body : (edition : Edition) (g : Graph) (text mid : List ℕ) (order : List Criterion) (d : Drawing) (e : Ending) → HasSizeOf g d →
    IsPictureTo edition g text d mid → IsClosing g order d mid e →
    (before : List SheetLine) → order_told before ≡ order → drawing_told before ≡ drawing [] [] →
    AreReadTo g before (BodyDue edition true) text (drawing_lines edition g d ++ EndLine e ∷ []) []
read_body edition g text mid order d e size h k before ordered none =
    let all : List SheetLine = parts_of edition g d in
    let end : List SheetLine = ValuesLine (values_of d) ∷ EndLine e ∷ [] in
    let body : AreReadTo g before (BodyDue edition true) text (all ++ end) [] =
    read_append g before (BodyDue edition true) text mid [] all end (subst (λ (lines : List SheetLine). AreReadTo g before (BodyDue edition true) text lines
    mid) (sym (parts_are edition g d size)) (h before))
    (subst (λ (due : LineDue). AreReadTo g (before ++ all) due mid end []) (sym (due_parts edition g d size))
    (k (before ++ all) (behind_parts edition g before order d ordered) (drawing_grown before all d none (parts_tell edition g d)))) in
    subst (λ (lines : List SheetLine). AreReadTo g before (BodyDue edition true) text lines [])
    (ap (λ (lines : List SheetLine). lines ++ end) (parts_are edition g d size)
    ∙ ap (λ (lines : List SheetLine). NodesLine (length g.nodes) ∷ lines) (sym (append_assoc (picture_lines edition g d) (ValuesLine (values_of d) ∷ [])
    (EndLine e ∷ [])))) body

pub end_fault_later : (edition : Edition) (g : Graph) (text mid : List ℕ) (order : List Criterion) (d : Drawing) (fault : SheetFault) → HasSizeOf g d →
    IsPictureTo edition g text d mid →
    ((before : List SheetLine) → order_told before ≡ order → drawing_told before ≡ d →
    IsFaultFrom g before ValuesDue mid (length g.nodes + length g.edges + 6) fault) →
    (before : List SheetLine) → order_told before ≡ order → drawing_told before ≡ drawing [] [] → IsFaultFrom g before (BodyDue edition true) text 4 fault
end_fault_later edition g text mid order d fault size h k before ordered none =
    let all : List SheetLine = parts_of edition g d in
    let n = parts_length edition g d size in
    first_later g before (BodyDue edition true) text mid all 4 (length g.nodes + length g.edges + 6) fault
    (subst (λ (lines : List SheetLine). AreReadTo g before (BodyDue edition true) text lines mid) (sym (parts_are edition g d size)) (h before))
    (omega (arith, n))
    (subst (λ (due : LineDue). IsFaultFrom g (before ++ all) due mid (length g.nodes + length g.edges + 6) fault) (sym (due_parts edition g d size))
    (k (before ++ all) (behind_parts edition g before order d ordered) (drawing_grown before all d none (parts_tell edition g d))))

-- ---- a text that has been read to its end

pub head_order : (edition : Edition) (grid : GridSize) (order : List Criterion) → order_told (head_lines edition grid order) ≡ order
head_order edition grid order = append-nil order

pub fault_of : (g : Graph) (needs_drawing : Bool) (text : List ℕ) (fault : SheetFault) → IsFaultFrom g [] (TitleDue needs_drawing) text 1 fault →
    (fault ≡ Memory) ⊎ IsSheetFault g needs_drawing text fault
fault_of g needs_drawing text (SheetHas what at) f = let n = f.counted in inr (record {
  before = f.lines;
  right = f.read.right;
  rest = f.rest;
  spelled = f.read.spelled;
  counted = omega (arith, n);
  fault = f.fault;
})
fault_of g needs_drawing text Memory f = inl refl

pub body_fault : (edition : Edition) (g : Graph) (needs_drawing : Bool) (text mid : List ℕ) (grid : GridSize) (order : List Criterion) (fault : SheetFault) →
    AreReadTo g [] (TitleDue needs_drawing) text (head_lines edition grid order) mid →
    IsFaultFrom g (head_lines edition grid order) (BodyDue edition needs_drawing) mid 4 fault → (fault ≡ Memory) ⊎ IsSheetFault g needs_drawing text fault
body_fault edition g needs_drawing text mid grid order fault h f = fault_of g needs_drawing text fault
    (first_later g [] (TitleDue needs_drawing) text mid (head_lines edition grid order) 1 4 fault h refl f)

whole : (edition : Edition) (g : Graph) (needs_drawing : Bool) (text mid : List ℕ) (grid : GridSize) (order : List Criterion) (lines : List SheetLine) →
    AreReadTo g [] (TitleDue needs_drawing) text (head_lines edition grid order) mid →
    AreReadTo g (head_lines edition grid order) (BodyDue edition needs_drawing) mid lines [] →
    AreReadTo g [] (TitleDue needs_drawing) text (head_lines edition grid order ++ lines) []
whole edition g needs_drawing text mid grid order lines h k = read_append g [] (TitleDue needs_drawing) text mid [] (head_lines edition grid order) lines h k

pub text_drawn : (edition : Edition) (g : Graph) (needs_drawing : Bool) (text mid : List ℕ) (grid : GridSize) (order : List Criterion) (d : Drawing)
    (e : Ending) → AreReadTo g [] (TitleDue needs_drawing) text (head_lines edition grid order) mid → HasSizeOf g d →
    AreReadTo g (head_lines edition grid order) (BodyDue edition needs_drawing) mid (drawing_lines edition g d ++ EndLine e ∷ []) [] →
    IsSheetText g needs_drawing text (record { grid = grid; order = order; found = Some d; ending = e })
text_drawn edition g needs_drawing text mid grid order d e h size k =
    let all = whole edition g needs_drawing text mid grid order (drawing_lines edition g d ++ EndLine e ∷ []) h k in
    record { edition = edition; draws_all = size; right = all.right; spelled = all.spelled ∙ append-nil _ }

pub text_undrawn : (edition : Edition) (g : Graph) (text mid : List ℕ) (grid : GridSize) (order : List Criterion) (e : Ending) →
    AreReadTo g [] (TitleDue false) text (head_lines edition grid order) mid →
    AreReadTo g (head_lines edition grid order) (BodyDue edition false) mid (EndLine e ∷ []) [] →
    IsSheetText g false text (record { grid = grid; order = order; found = None; ending = e })
text_undrawn edition g text mid grid order e h k =
    let all = whole edition g false text mid grid order (EndLine e ∷ []) h k in
    record { edition = edition; draws_all = tt; right = all.right; spelled = all.spelled ∙ append-nil _ }

-- ---- where no drawing is asked for

pub body_read : (edition : Edition) (g : Graph) (before lines : List SheetLine) (text rest : List ℕ) (count : ℕ) →
    AreReadTo g before (BodyDue edition true) text (NodesLine count ∷ lines) rest →
    AreReadTo g before (BodyDue edition false) text (NodesLine count ∷ lines) rest
body_read edition g before lines text rest count h = let first = h.right.0 in record {
  right = (record { is_due = tt; form = first.form; range = tt; of_graph = first.of_graph; shape = tt; measured = tt }, h.right.1);
  spelled = h.spelled;
}

begins_so : (edition : Edition) (text rest : List ℕ) → text ≡ rest → (line : SheetLine) → BeginsWithLine (BodyDue edition false) rest line →
    IsNoUndrawnEnding text → ((line : SheetLine) → BeginsWithLine (BodyDue edition true) rest line → ⊥) → ⊥
begins_so edition text rest same (NodesLine count) b none h = h (NodesLine count) (record {
  is_due = tt;
  form = b.form;
  behind = b.behind;
  spelled = b.spelled;
})
begins_so edition text rest same (EndLine e) b none h = none e b.behind b.form b.is_due (same ∙ b.spelled)
begins_so edition text rest same line b none h = b.is_due

no_range : (edition : Edition) (g : Graph) (before : List SheetLine) (rest : List ℕ) → HasWrongLine g before (BodyDue edition true) rest whats.Range → ⊥
no_range edition g before rest (NodesLine count, b, not) = not tt
no_range edition g before rest (line, b, not) = b.is_due

same_graph : (edition : Edition) (g : Graph) (before : List SheetLine) (rest : List ℕ) → HasWrongLine g before (BodyDue edition true) rest whats.Graph →
    HasWrongLine g before (BodyDue edition false) rest whats.Graph
same_graph edition g before rest (NodesLine count, b, not) = (
  NodesLine count,
  record {
    is_due = tt;
    form = b.form;
    behind = b.behind;
    spelled = b.spelled;
  },
  not,
)
same_graph edition g before rest (line, b, not) = absurd b.is_due

no_shape : (edition : Edition) (g : Graph) (before : List SheetLine) (rest : List ℕ) → HasWrongLine g before (BodyDue edition true) rest whats.Shape → ⊥
no_shape edition g before rest (NodesLine count, b, of, not) = not tt
no_shape edition g before rest (line, b, of, not) = b.is_due

no_values : (edition : Edition) (g : Graph) (before : List SheetLine) (rest : List ℕ) → HasWrongLine g before (BodyDue edition true) rest whats.Values → ⊥
no_values edition g before rest (NodesLine count, b, not) = not tt
no_values edition g before rest (line, b, not) = b.is_due

here_too : (edition : Edition) (g : Graph) (before : List SheetLine) (text rest : List ℕ) (what : SheetWhat) → text ≡ rest → IsNoUndrawnEnding text →
    HasWrongLine g before (BodyDue edition true) rest what → HasWrongLine g before (BodyDue edition false) rest what
here_too edition g before text rest whats.Form same none h = λ line b. begins_so edition text rest same line b none h
here_too edition g before text rest whats.Range same none h = absurd (no_range edition g before rest h)
here_too edition g before text rest whats.Graph same none h = same_graph edition g before rest h
here_too edition g before text rest whats.Shape same none h = absurd (no_shape edition g before rest h)
here_too edition g before text rest whats.Values same none h = absurd (no_values edition g before rest h)

first_too : (edition : Edition) (g : Graph) (before lines : List SheetLine) (text rest : List ℕ) (number at : ℕ) (what : SheetWhat) → IsNoUndrawnEnding text →
    AreReadTo g before (BodyDue edition true) text lines rest → at ≡ number + length lines →
    HasWrongLine g (before ++ lines) (due_after g (BodyDue edition true) lines) rest what → IsFirstFrom g before (BodyDue edition false) text number what at
first_too edition g before [] text rest number at what none h count f = record {
  lines = [];
  rest = rest;
  read = record { right = tt; spelled = h.spelled };
  counted = count;
  fault = here_too edition g (before ++ []) text rest what h.spelled none f;
}
first_too edition g before (NodesLine n ∷ lines) text rest number at what none h count f = record {
  lines = NodesLine n ∷ lines;
  rest = rest;
  read = body_read edition g before lines text rest n h;
  counted = count;
  fault = f;
}
first_too edition g before (line ∷ lines) text rest number at what none h count f = absurd h.right.0.is_due

pub fault_too : (edition : Edition) (g : Graph) (before : List SheetLine) (text : List ℕ) (number : ℕ) (fault : SheetFault) → IsNoUndrawnEnding text →
    IsFaultFrom g before (BodyDue edition true) text number fault → IsFaultFrom g before (BodyDue edition false) text number fault
fault_too edition g before text number (SheetHas what at) none f = first_too edition g before f.lines text f.rest number at what none f.read f.counted f.fault
fault_too edition g before text number Memory none f = tt

-- ---- the ending alone

end_line_to : (text rest : List ℕ) (e told : Ending) → e ≡ told → IsSmallEnding told → text ≡ text_of_line (EndLine told) ++ rest →
    IsLineTo text (EndLine e) rest
end_line_to text rest e told same small is = record {
  form = subst IsSmallEnding (sym same) small;
  spelled = is ∙ ap (λ (f : Ending). text_of_line (EndLine f) ++ rest) (sym same);
}

pub read_undrawn : (edition : Edition) (g : Graph) (before : List SheetLine) (text rest : List ℕ) (e told : Ending) → e ≡ told → IsSmallEnding told →
    MayEnd false told → text ≡ text_of_line (EndLine told) ++ rest → StatesSettled (order_told before) false e →
    AreReadTo g before (BodyDue edition false) text (EndLine e ∷ []) rest
read_undrawn edition g before text rest e told same small may is settled =
    read_one g before (BodyDue edition false) text rest (EndLine e) (subst (MayEnd false) (sym same) may) settled tt tt tt
    (end_line_to text rest e told same small is)

pub settled_fault : (edition : Edition) (g : Graph) (before : List SheetLine) (text rest : List ℕ) (told : Ending) (what : SheetWhat) → IsSmallEnding told →
    MayEnd false told → text ≡ text_of_line (EndLine told) ++ rest → what ≡ whats.Range → ((order : List Criterion) → StatesSettled order false told → ⊥) →
    HasWrongLine g before (BodyDue edition false) text what
settled_fault edition g before text rest told what small may is range out =
    subst (HasWrongLine g before (BodyDue edition false) text) (sym range) (
      EndLine told,
      record {
        is_due = may;
        form = small;
        behind = rest;
        spelled = is;
      },
      out (order_told before),
    )
