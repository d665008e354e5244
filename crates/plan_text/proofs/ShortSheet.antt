-- A sheet's text is never too long to be read: it has few lines, a line few fields, and a field few bytes.
use Rattle.std.proofs.Common.{◌≡◌, ℕ, ◌*◌, ◌<◌, ◌≤◌, Bool, true, false, List, [], ◌∷◌, ◌++◌, None, Some, IfSome, map, length, sym, ap, subst, arith}
use Rattle.std.proofs.Common.{length-append}
use Rattle.std.specs.Prelude.{⊤, All, codes, flat_map}
use Rattle.std.specs.declared.option.Option.{Option}
use Rattle.std.specs.Fmt.{decimal}
use Rattle.std.proofs.lemmas.Fmt.{length-decimal-le}
use Rattle.std.proofs.lemmas.List.{length-map}
use Rattle.std.proofs.lemmas.List.Elements.{All-nil, All-cons, All-head, All-tail, All-append, All-get_or}
use Rattle.std.proofs.lemmas.List.FromFn.{length-map-range_with_len, get_or-map-range_with_len}
use Rattle.plan_core.specs.declared.limits.TheConstants.{MAX_FILE_BYTES}
use Rattle.plan_core.specs.declared.point.Point.{Point}
use Rattle.plan_core.specs.declared.criterion.Criterion.{Criterion}
use Rattle.plan_core.specs.declared.criterion.Criterion.TheVariants.{Height, Bends, Diagonal, Width}
use Rattle.plan_core.specs.Topology.{IsId}
use Rattle.plan_core.specs.Graph.{Graph, Node, Edge, no_node, no_edge, edge}
use Rattle.plan_core.specs.Drawing.{Drawing}
use Rattle.plan_core.specs.Values.{values_of}
use Rattle.port_graph.specs.StationGraph.{IsStationGraph}
use Rattle.outside_io.specs.Fields.{spaced}
use Rattle.outside_io.specs.Criteria.{criterion_word}
use Rattle.plan_write.specs.declared.edition.Edition.{Edition}
use Rattle.plan_write.specs.declared.edition.Edition.TheVariants.{First, Second}
use Rattle.plan_write.specs.declared.ending.Ending.TheVariants.{Best, NoDrawing, Conflicts, Room}
use Rattle.plan_write.specs.SheetLine.{SheetLine, Title, GridLine, OrderLine, NodesLine, NodeLine, EdgesLine, EdgeLine, ValuesLine, EndLine, coordinates}
use Rattle.plan_write.specs.SheetLine.{first_field, other_fields, text_of_line, IsSmall, AreSmall, minus_text, IsMileageText, HasForm}
use Rattle.plan_write.specs.SheetText.{Sheet, node_line, edge_line, node_lines, edge_lines, found_lines, sheet_lines}
use Rattle.plan_text.specs.SheetFaults.{LineDue, TitleDue, due_behind, AreRightLines, IsSheetText}
use Rattle.plan_text.proofs.MileageLemmas.{size_length}

-- ---- a field

abbrev IsShortField : List ℕ → Type 0
IsShortField field = length field ≤ 64

short_number : (n : ℕ) → IsSmall n → IsShortField (decimal n)
short_number n small = let few = length-decimal-le 5 n (omega arith) (omega (arith, small)) (omega (arith, small)) in omega (arith, few)

short_numbers : (ns : List ℕ) → AreSmall ns → All IsShortField (map decimal ns)
short_numbers [] small = All-nil IsShortField
short_numbers (n ∷ ns) small = All-cons IsShortField (decimal n) (map decimal ns) (short_number n small.0) (short_numbers ns small.1)

short_word : (c : Criterion) → IsShortField (criterion_word c)
short_word Height = omega arith
short_word Bends = omega arith
short_word Diagonal = omega arith
short_word Width = omega arith

short_words : (order : List Criterion) → All IsShortField (map criterion_word order)
short_words [] = All-nil IsShortField
short_words (c ∷ order) = All-cons IsShortField (criterion_word c) (map criterion_word order) (short_word c) (short_words order)

short_sign : (is_negative : Bool) → length (minus_text is_negative) ≤ 1
short_sign true = omega arith
short_sign false = omega arith

-- a sign, ten digits, a point and six digits
short_mileage : (text : List ℕ) → IsMileageText text → IsShortField text
short_mileage text m =
    let whole = m.is_size.is_whole in
    let most = whole.1.to in
    let digits = length-decimal-le 10 whole.0 (omega arith) (omega (arith, most)) (omega (arith, most)) in
    let written = ap length whole.1.written in
    let size = size_length m.size m.is_size in
    let sign = short_sign m.is_negative in
    let all = ap length m.spelled in
    let split = length-append (minus_text m.is_negative) m.size in
    omega (arith, digits, written, size, sign, all, split)

one_field : (field : List ℕ) → IsShortField field → All IsShortField (field ∷ [])
one_field field short = All-cons IsShortField field [] short (All-nil IsShortField)

two_fields : (field other : List ℕ) → IsShortField field → IsShortField other → All IsShortField (field ∷ other ∷ [])
two_fields field other a b = All-cons IsShortField field (other ∷ []) a (one_field other b)

-- ---- a line

-- the names that a line tells are short
abbrev NamesShort : SheetLine → Type 0
NamesShort (NodeLine number name place mileage) = IsShortField name
NamesShort (EdgeLine number track west east points) = IfSome track IsShortField
NamesShort line = ⊤

node_fields : (number : ℕ) (name : List ℕ) (place : Point) (more : List (List ℕ)) → AreSmall (number ∷ coordinates place) → IsShortField name →
    All IsShortField more → All IsShortField (decimal number ∷ name ∷ decimal place.x ∷ decimal place.y ∷ more)
node_fields number name place more small short rest =
    All-cons IsShortField (decimal number) (name ∷ decimal place.x ∷ decimal place.y ∷ more) (short_number number small.0)
    (All-cons IsShortField name (decimal place.x ∷ decimal place.y ∷ more) short
    (All-cons IsShortField (decimal place.x) (decimal place.y ∷ more) (short_number place.x small.1.0)
    (All-cons IsShortField (decimal place.y) more (short_number place.y small.1.1.0) rest)))

short_fields : (line : SheetLine) → HasForm line → NamesShort line → All IsShortField (other_fields line)
short_fields (Title First) form short = one_field (codes "1") (omega arith)
short_fields (Title Second) form short = one_field (codes "2") (omega arith)
short_fields (GridLine First grid) form short = short_numbers (grid.width ∷ grid.height ∷ []) form.0
short_fields (GridLine Second grid) form short = short_numbers (grid.width ∷ grid.height ∷ grid.least ∷ []) form.0
short_fields (OrderLine order) form short = short_words order
short_fields (NodesLine count) form short = one_field (decimal count) (short_number count form)
short_fields (NodeLine number name place None) form short = node_fields number name place [] form.1 short (All-nil IsShortField)
short_fields (NodeLine number name place (Some mileage)) form short = node_fields number name place (mileage ∷ []) form.1 short
    (one_field mileage (short_mileage mileage form.2))
short_fields (EdgesLine count) form short = one_field (decimal count) (short_number count form)
short_fields (EdgeLine number None west east points) form short = short_numbers (number ∷ west ∷ east ∷ flat_map coordinates points) form.1
short_fields (EdgeLine number (Some track) west east points) form short =
    let numbers = west ∷ east ∷ flat_map coordinates points in
    All-cons IsShortField (decimal number) (track ∷ map decimal numbers) (short_number number form.1.0)
    (All-cons IsShortField track (map decimal numbers) short (short_numbers numbers form.1.1))
short_fields (ValuesLine values) form short = short_numbers (values.height ∷ values.bends ∷ values.diagonal ∷ values.width ∷ []) form
short_fields (EndLine Best) form short = one_field (codes "best") (omega arith)
short_fields (EndLine NoDrawing) form short = one_field (codes "none") (omega arith)
short_fields (EndLine (Conflicts settled)) form short = two_fields (codes "conflicts") (decimal settled) (omega arith) (short_number settled form)
short_fields (EndLine (Room settled)) form short = two_fields (codes "room") (decimal settled) (omega arith) (short_number settled form)

coordinates_length : (points : List Point) → length (flat_map coordinates points) ≡ 2 * length points
coordinates_length [] = omega arith
coordinates_length (p ∷ points) = let more = coordinates_length points in omega (arith, more)

edge_numbers : (west east : ℕ) (points : List Point) → length points ≤ 4 → length (map decimal (west ∷ east ∷ flat_map coordinates points)) ≤ 10
edge_numbers west east points to =
    let mapped = length-map (west ∷ east ∷ flat_map coordinates points) decimal in
    let told = coordinates_length points in
    omega (arith, mapped, told, to)

few_fields : (line : SheetLine) → HasForm line → length (other_fields line) ≤ 12
few_fields (Title edition) form = omega arith
few_fields (GridLine First grid) form = omega arith
few_fields (GridLine Second grid) form = omega arith
few_fields (OrderLine order) form = let mapped = length-map order criterion_word in let to = form.to in omega (arith, mapped, to)
few_fields (NodesLine count) form = omega arith
few_fields (NodeLine number name place None) form = omega arith
few_fields (NodeLine number name place (Some mileage)) form = omega arith
few_fields (EdgesLine count) form = omega arith
few_fields (EdgeLine number None west east points) form = let few = edge_numbers west east points form.0.to in omega (arith, few)
few_fields (EdgeLine number (Some track) west east points) form = let few = edge_numbers west east points form.0.to in omega (arith, few)
few_fields (ValuesLine values) form = omega arith
few_fields (EndLine Best) form = omega arith
few_fields (EndLine NoDrawing) form = omega arith
few_fields (EndLine (Conflicts settled)) form = omega arith
few_fields (EndLine (Room settled)) form = omega arith

short_first : (line : SheetLine) → length (first_field line) ≤ 8
short_first (Title edition) = omega arith
short_first (GridLine edition grid) = omega arith
short_first (OrderLine order) = omega arith
short_first (NodesLine count) = omega arith
short_first (NodeLine number name place mileage) = omega arith
short_first (EdgesLine count) = omega arith
short_first (EdgeLine number track west east points) = omega arith
short_first (ValuesLine values) = omega arith
short_first (EndLine ending) = omega arith

spaced_length : (fields : List (List ℕ)) → All IsShortField fields → length (spaced fields) ≤ 65 * length fields
spaced_length [] short = omega arith
spaced_length (field ∷ fields) short =
    let here = All-head IsShortField field fields short in
    let more = spaced_length fields (All-tail IsShortField field fields short) in
    let split = length-append field (spaced fields) in
    omega (arith, here, more, split)

short_line : (line : SheetLine) → HasForm line → NamesShort line → length (text_of_line line) ≤ 800
short_line line form short =
    let first = short_first line in
    let few = few_fields line form in
    let fields = spaced_length (other_fields line) (short_fields line form short) in
    let split = length-append (first_field line) (spaced (other_fields line)) in
    let end = length-append (first_field line ++ spaced (other_fields line)) (codes "\n") in
    omega (arith, first, few, fields, split, end)

-- ---- the lines of a sheet

texts_length : (g : Graph) (before : List SheetLine) (due : LineDue) (lines : List SheetLine) → AreRightLines g before due lines → All NamesShort lines →
    length (flat_map text_of_line lines) ≤ 800 * length lines
texts_length g before due [] right short = omega arith
texts_length g before due (line ∷ lines) right short =
    let here = short_line line right.0.form (All-head NamesShort line lines short) in
    let more = texts_length g (before ++ line ∷ []) (due_behind g due line) lines right.1 (All-tail NamesShort line lines short) in
    let split = length-append (text_of_line line) (flat_map text_of_line lines) in
    omega (arith, here, more, split)

-- a name of the graph is an id
node_names : (edition : Edition) (g : Graph) (d : Drawing) → IsStationGraph g → All NamesShort (node_lines edition g d)
node_names edition g d station i line less =
    let count = length-map-range_with_len (node_line edition g d) 0 (length g.nodes) in
    let there : i < length g.nodes = omega (arith, count, less) in
    subst NamesShort (sym (get_or-map-range_with_len (node_line edition g d) 0 (length g.nodes) i i line there (omega arith)))
    (All-get_or (λ (n : Node). IsId n.name) g.nodes i no_node there station.names).short

track_name : (edition : Edition) (g : Graph) (d : Drawing) (e : ℕ) → IsId (edge g e).track → NamesShort (edge_line edition g d e)
track_name First g d e id = tt
track_name Second g d e id = id.short

edge_names : (edition : Edition) (g : Graph) (d : Drawing) → IsStationGraph g → All NamesShort (edge_lines edition g d)
edge_names edition g d station i line less =
    let count = length-map-range_with_len (edge_line edition g d) 0 (length g.edges) in
    let there : i < length g.edges = omega (arith, count, less) in
    subst NamesShort (sym (get_or-map-range_with_len (edge_line edition g d) 0 (length g.edges) i i line there (omega arith)))
    (track_name edition g d i (All-get_or (λ (e : Edge). IsId e.track) g.edges i no_edge there station.track_names))

found_names : (edition : Edition) (g : Graph) (found : Option Drawing) → IsStationGraph g → All NamesShort (found_lines edition g found)
found_names edition g None station = All-nil NamesShort
found_names edition g (Some d) station =
    let nodes = node_lines edition g d in
    let edges = edge_lines edition g d in
    let values = ValuesLine (values_of d) ∷ [] in
    All-cons NamesShort (NodesLine (length g.nodes)) ((nodes ++ EdgesLine (length g.edges) ∷ edges) ++ values) tt
    (All-append NamesShort (nodes ++ EdgesLine (length g.edges) ∷ edges) values
    (All-append NamesShort nodes (EdgesLine (length g.edges) ∷ edges) (node_names edition g d station)
    (All-cons NamesShort (EdgesLine (length g.edges)) edges tt (edge_names edition g d station)))
    (All-cons NamesShort (ValuesLine (values_of d)) [] tt (All-nil NamesShort)))

sheet_names : (edition : Edition) (g : Graph) (s : Sheet) → IsStationGraph g → All NamesShort (sheet_lines edition g s)
sheet_names edition g s station =
    let end = EndLine s.ending ∷ [] in
    let body = found_lines edition g s.found ++ end in
    All-cons NamesShort (Title edition) (GridLine edition s.grid ∷ OrderLine s.order ∷ body) tt
    (All-cons NamesShort (GridLine edition s.grid) (OrderLine s.order ∷ body) tt
    (All-cons NamesShort (OrderLine s.order) body tt
    (All-append NamesShort (found_lines edition g s.found) end (found_names edition g s.found station)
    (All-cons NamesShort (EndLine s.ending) [] tt (All-nil NamesShort)))))

few_found : (edition : Edition) (g : Graph) (found : Option Drawing) → IsStationGraph g → length (found_lines edition g found) ≤ 300
few_found edition g None station = omega arith
few_found edition g (Some d) station =
    let nodes = node_lines edition g d in
    let edges = edge_lines edition g d in
    let few_nodes = station.few_nodes in
    let few_edges = station.few_edges in
    let n = length-map-range_with_len (node_line edition g d) 0 (length g.nodes) in
    let e = length-map-range_with_len (edge_line edition g d) 0 (length g.edges) in
    let picture = length-append nodes (EdgesLine (length g.edges) ∷ edges) in
    let all = length-append (nodes ++ EdgesLine (length g.edges) ∷ edges) (ValuesLine (values_of d) ∷ []) in
    omega (arith, few_nodes, few_edges, n, e, picture, all)

-- 305 lines of 800 bytes at most
pub short_sheet : (g : Graph) (needs_drawing : Bool) (text : List ℕ) (s : Sheet) → IsStationGraph g → IsSheetText g needs_drawing text s →
    length text ≤ MAX_FILE_BYTES
short_sheet g needs_drawing text s station h =
    let few = few_found h.edition g s.found station in
    let body = length-append (found_lines h.edition g s.found) (EndLine s.ending ∷ []) in
    let texts = texts_length g [] (TitleDue needs_drawing) (sheet_lines h.edition g s) h.right (sheet_names h.edition g s station) in
    let spelled = ap length h.spelled in
    omega (arith, few, body, texts, spelled)
