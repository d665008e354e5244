-- A sheet as it is written has no line with a fault.
use Rattle.std.proofs.Common.{◌≡◌, inl, inr, ℕ, ◌+◌, ◌<◌, ◌≤◌, Bool, true, false, List, [], ◌∷◌, ◌++◌, Option, None, Some, IfSome, map, length, get_or, refl}
use Rattle.std.proofs.Common.{sym, ap, subst, arith}
use Rattle.std.specs.Prelude.{All, flat_map}
use Rattle.std.specs.Char.{encode_utf8}
use Rattle.std.specs.Option.{is_some}
use Rattle.std.specs.Str.{IsUtf8, chars, encode_utf8_all}
use Rattle.std.proofs.lemmas.Bool.{false≢true}
use Rattle.std.proofs.lemmas.List.{append-nil}
use Rattle.std.proofs.lemmas.List.Elements.{All-nil, All-cons, All-head, All-tail, All-append, All-map, All-weaker, All-get_or, All-from_get_or}
use Rattle.std.proofs.lemmas.List.Elements.{recursion_from_All}
use Rattle.std.proofs.lemmas.List.Sums.{sum_by-le}
use Rattle.std.proofs.lemmas.Str.{inside_one, encodes-chars}
use Rattle.plan_core.specs.declared.point.Point.{Point}
use Rattle.plan_core.specs.declared.criterion.Criterion.{Criterion}
use Rattle.plan_core.specs.Topology.{IsIdCharacter, IsId, IsMileage}
use Rattle.plan_core.specs.Grid.{GridSize, IsGrid}
use Rattle.plan_core.specs.Order.{IsOrder}
use Rattle.plan_core.specs.Line.{is_line, last_from, bends, diagonal}
use Rattle.plan_core.specs.Graph.{Graph, Node, no_node, node, edge}
use Rattle.plan_core.specs.Drawing.{Drawing, all_points}
use Rattle.plan_core.specs.Laws.{IsOnGrid}
use Rattle.plan_core.specs.Values.{values_of}
use Rattle.plan_core.proofs.ListFacts.{all_front, all_back}
use Rattle.plan_core.proofs.LineLemmas.{line_length}
use Rattle.plan_core.proofs.LimitLemmas.{maximum-le, bends-le, diagonal-le}
use Rattle.plan_core.proofs.OrderLemmas.{few_criteria}
use Rattle.port_graph.specs.StationGraph.{IsStationGraph}
use Rattle.plan_write.specs.declared.edition.Edition.{Edition}
use Rattle.plan_write.specs.declared.edition.Edition.TheVariants.{First, Second}
use Rattle.plan_write.specs.declared.ending.Ending.{Ending}
use Rattle.plan_write.specs.declared.ending.Ending.TheVariants.{Best, NoDrawing, Conflicts, Room}
use Rattle.plan_write.specs.SheetLine.{SheetLine, GridLine, NodesLine, NodeLine, EdgesLine, EdgeLine, ValuesLine, EndLine, coordinates, IsName, IsMileageText}
use Rattle.plan_write.specs.SheetLine.{IsSmall, AreSmall, IsSmallEnding, StandsForLeast, HasForm, MayEnd}
use Rattle.plan_core.specs.Lawful.{HasSizeOf}
use Rattle.plan_write.specs.SheetText.{Sheet, StatesSettled, DrawsAll, DrawsOnGrid, mileage_field, track_field, drawing_lines, found_lines, text_in}
use Rattle.plan_text.specs.SheetFaults.{LineDue, TitleDue, BodyDue, EdgesDue, ValuesDue, EndDue, IsDue, node_due, edge_due, order_told, drawing_told, IsRight}
use Rattle.plan_text.specs.SheetFaults.{AreRightLines, IsSheetText}
use Rattle.plan_text.specs.SheetReading.{head_lines, placed_lines, drawn_lines}
use Rattle.plan_text.proofs.ReadingLemmas.{right_append, mileage_told, track_told, node_due_at, edge_due_at, order_kept, drawing_grown}
use Rattle.plan_text.proofs.SheetAgain.{parts_of, no_criteria, parts_tell, due_nodes, due_parts, head_order}
use Rattle.plan_text.proofs.MileageLemmas.{written_mileage}
use Rattle.plan_text.proofs.SheetLaws.{lines_are}
use Rattle.outside_io.specs.Fields.{EndsField}

-- ---- names

abbrev Within : ℕ → Type 0
Within b = EndsField b → ⊥

ascii : (b : ℕ) → EndsField b → b < 128
ascii b (inl e) = omega (arith, e)
ascii b (inr e) = omega (arith, e)

not_of_id : (b c : ℕ) → EndsField b → c ≡ b → 32 < c → ⊥
not_of_id b c (inl e) f less = omega (arith, e, f, less)
not_of_id b c (inr e) f less = omega (arith, e, f, less)

-- no byte of an id's character ends a field, and so none of an id
within_one : (c : ℕ) → IsIdCharacter c → All Within (encode_utf8 c)
within_one c is = All-from_get_or Within (encode_utf8 c) 0 (λ k less ends.
    not_of_id (get_or (encode_utf8 c) k 0) c ends (inside_one c [] (encode_utf8 c) k (sym (append-nil (encode_utf8 c))) less
    (ascii (get_or (encode_utf8 c) k 0) ends)) is.0)

within_all : (cs : List ℕ) → All IsIdCharacter cs → All Within (encode_utf8_all cs)
within_all [] h = All-nil Within
within_all (c ∷ cs) h = All-append Within (encode_utf8 c) (encode_utf8_all cs) (within_one c (All-head IsIdCharacter c cs h))
    (within_all cs (All-tail IsIdCharacter c cs h))

pub id_is_name : (name : List ℕ) → IsId name → IsUtf8 name → IsName name
id_is_name name id utf8 = record {
  some = id.some;
  one = recursion_from_All Within name (subst (All Within) (encodes-chars name utf8) (within_all (chars name) id.characters));
}

-- ---- lists

All-lists : {X : Type 0} (P : X → Type 0) (lists : List (List X)) → All P (flat_map (λ l. l) lists) → All (All P) lists
All-lists P [] h = All-nil (All P)
All-lists P (l ∷ lists) h = All-cons (All P) l lists (all_front P l (flat_map (λ l. l) lists) h) (All-lists P lists (all_back P l (flat_map (λ l. l) lists) h))

All-both : {X : Type 0} (P Q : X → Type 0) (xs : List X) → All P xs → All Q xs → All (λ x. P x × Q x) xs
All-both P Q xs h k i d less = (h i d less, k i d less)

-- ---- numbers

small_point : (grid : GridSize) (p : Point) → IsGrid grid → IsOnGrid grid p → AreSmall (coordinates p)
small_point grid p is on =
    let w = is.width_limit in
    let h = is.height_limit in
    let x = on.in_width in
    let y = on.in_height in
    (omega (arith, w, x), (omega (arith, h, y), tt))

small_points : (grid : GridSize) (points : List Point) → IsGrid grid → All (IsOnGrid grid) points → AreSmall (flat_map coordinates points)
small_points grid [] is on = tt
small_points grid (p ∷ points) is on =
    let one = small_point grid p is (All-head (IsOnGrid grid) p points on) in
    (one.0, (one.1.0, small_points grid points is (All-tail (IsOnGrid grid) p points on)))

last_on : (grid : GridSize) (a : Point) (rest : List Point) → All (IsOnGrid grid) (a ∷ rest) → IsOnGrid grid (last_from a rest)
last_on grid a [] on = All-head (IsOnGrid grid) a [] on
last_on grid a (b ∷ rest) on = last_on grid b rest (All-tail (IsOnGrid grid) a (b ∷ rest) on)

few_rows : (grid : GridSize) (l : List Point) → IsGrid grid → is_line l ≡ true → All (IsOnGrid grid) l → diagonal l ≤ 64
few_rows grid [] is line on = omega arith
few_rows grid (a ∷ rest) is line on =
    let span = diagonal-le (a ∷ rest) line in
    let far = (last_on grid a rest on).in_width in
    let w = is.width_limit in
    omega (arith, span, far, w)

small_values : (g : Graph) (grid : GridSize) (d : Drawing) → IsStationGraph g → IsGrid grid → HasSizeOf g d → All (IsOnGrid grid) (all_points d) →
    All (λ l. is_line l ≡ true) d.lines →
    AreSmall ((values_of d).height ∷ (values_of d).bends ∷ (values_of d).diagonal ∷ (values_of d).width ∷ [])
small_values g grid d station is size on lines =
    let on_lines : All (All (IsOnGrid grid)) d.lines = All-lists (IsOnGrid grid) d.lines (all_back (IsOnGrid grid) d.places (flat_map (λ l. l) d.lines) on) in
    let w = is.width_limit in
    let h = is.height_limit in
    let few = station.few_edges in
    let same = size.lines in
    let height = maximum-le (map (λ (p : Point). p.y) (all_points d)) 12 (All-map (λ x. x ≤ 12) (λ (p : Point). p.y) (all_points d)
    (All-weaker (IsOnGrid grid) (λ p. p.y ≤ 12) (λ p at. let y = at.in_height in omega (arith, y, h)) (all_points d) on)) in
    let width = maximum-le (map (λ (p : Point). p.x) (all_points d)) 64 (All-map (λ x. x ≤ 64) (λ (p : Point). p.x) (all_points d)
    (All-weaker (IsOnGrid grid) (λ p. p.x ≤ 64) (λ p at. let x = at.in_width in omega (arith, x, w)) (all_points d) on)) in
    let bent = sum_by-le bends 2 d.lines (All-weaker (λ l. is_line l ≡ true) (λ l. bends l ≤ 2) bends-le d.lines lines) in
    let rows = sum_by-le diagonal 64 d.lines (All-weaker (λ l. (is_line l ≡ true) × All (IsOnGrid grid) l) (λ l. diagonal l ≤ 64)
    (λ l both. few_rows grid l is both.0 both.1) d.lines (All-both (λ l. is_line l ≡ true) (All (IsOnGrid grid)) d.lines lines on_lines)) in
    (omega (arith, height), (omega (arith, bent, few, same), (omega (arith, rows, few, same), (omega (arith, width), tt))))

small_ending : (order : List Criterion) (is_drawn : Bool) (e : Ending) → IsOrder order → StatesSettled order is_drawn e → IsSmallEnding e
small_ending order is_drawn Best is h = tt
small_ending order is_drawn NoDrawing is h = tt
small_ending order is_drawn (Conflicts n) is h = let few = few_criteria order is.each_once in let less = h.some_left in omega (arith, few, less)
small_ending order is_drawn (Room n) is h = let few = few_criteria order is.each_once in let less = h.some_left in omega (arith, few, less)

-- ---- the lines of a drawing

abbrev HasNames : Graph → Type 0
HasNames g = (n : ℕ) → n < length g.nodes → IsName (node g n).name

abbrev HasTracks : Graph → Type 0
HasTracks g = (e : ℕ) → e < length g.edges → IsName (edge g e).track

mileage_form : (edition : Edition) (g : Graph) (n : ℕ) → IsMileage (node g n).mileage → IfSome (mileage_field edition g n) IsMileageText
mileage_form First g n near = tt
mileage_form Second g n near = written_mileage (node g n).mileage near

track_form : (edition : Edition) (g : Graph) (e : ℕ) → IsName (edge g e).track → IfSome (track_field edition g e) IsName
track_form First g e is = tt
track_form Second g e is = is

right_nodes : (edition : Edition) (g : Graph) (grid : GridSize) (before : List SheetLine) (k : ℕ) (places : List Point) → IsStationGraph g → HasNames g →
    IsGrid grid → k + length places ≤ length g.nodes → All (IsOnGrid grid) places →
    AreRightLines g before (node_due edition g k) (placed_lines edition g k places)
right_nodes edition g grid before k [] station names is fits on = tt
right_nodes edition g grid before k (p ∷ places) station names is fits on =
    let less : k < length g.nodes = omega (arith, fits) in
    let few = station.few_nodes in
    let small : IsSmall k = omega (arith, less, few) in
    let line : SheetLine = NodeLine k (node g k).name p (mileage_field edition g k) in
    subst (λ (due : LineDue). AreRightLines g before due (placed_lines edition g k (p ∷ places))) (sym (node_due_at edition g k less)) (
      record {
        is_due = mileage_told edition g k;
        form = (
          names k less,
          (small, small_point grid p is (All-head (IsOnGrid grid) p places on)),
          mileage_form edition g k
              (All-get_or (λ (n : Node). IsMileage n.mileage) g.nodes k no_node less station.mileages),
        );
        range = tt;
        of_graph = (refl, refl, refl);
        shape = tt;
        measured = tt;
      },
      right_nodes edition g grid (before ++ line ∷ []) (k + 1) places station names is (omega (arith, fits)) (All-tail (IsOnGrid grid) p places on),
    )

right_edges : (edition : Edition) (g : Graph) (grid : GridSize) (before : List SheetLine) (k : ℕ) (lines : List (List Point)) → IsStationGraph g → HasTracks g →
    IsGrid grid → k + length lines ≤ length g.edges → All (λ l. is_line l ≡ true) lines → All (All (IsOnGrid grid)) lines →
    AreRightLines g before (edge_due edition g k) (drawn_lines edition g k lines)
right_edges edition g grid before k [] station tracks is fits are on = tt
right_edges edition g grid before k (l ∷ lines) station tracks is fits are on =
    let less : k < length g.edges = omega (arith, fits) in
    let edges = station.few_edges in
    let nodes = station.few_nodes in
    let ends = station.track_graph.nodes k less in
    let small : IsSmall k = omega (arith, less, edges) in
    let west : IsSmall (edge g k).west = let there = ends.0 in omega (arith, there, nodes) in
    let east : IsSmall (edge g k).east = let there = ends.1 in omega (arith, there, nodes) in
    let shape = All-head (λ l. is_line l ≡ true) l lines are in
    let points = line_length l shape in
    let line : SheetLine = EdgeLine k (track_field edition g k) (edge g k).west (edge g k).east l in
    subst (λ (due : LineDue). AreRightLines g before due (drawn_lines edition g k (l ∷ lines))) (sym (edge_due_at edition g k less)) (
      record {
        is_due = track_told edition g k;
        form = (
          record {
            from = points.0;
            to = points.1;
          },
          (small, (west, (east, small_points grid l is (All-head (All (IsOnGrid grid)) l lines on)))),
          track_form edition g k (tracks k less),
        );
        range = tt;
        of_graph = (refl, refl, refl, refl);
        shape = shape;
        measured = tt;
      },
      right_edges edition g grid (before ++ line ∷ []) (k + 1) lines station tracks is (omega (arith, fits)) (All-tail (λ l. is_line l ≡ true) l lines are)
          (All-tail (All (IsOnGrid grid)) l lines on),
    )

count_due : (edition : Edition) (needs_drawing : Bool) (n : ℕ) → IsDue (BodyDue edition needs_drawing) (NodesLine n)
count_due edition true n = tt
count_due edition false n = tt

-- what is known of a drawing that a sheet has
record IsDrawn (g : Graph) (grid : GridSize) (d : Drawing) : Type 0 where
  station : IsStationGraph g
  names : HasNames g
  tracks : HasTracks g
  is_grid : IsGrid grid
  size : HasSizeOf g d
  on_grid : All (IsOnGrid grid) (all_points d)
  are_lines : All (λ l. is_line l ≡ true) d.lines

right_parts : (edition : Edition) (g : Graph) (needs_drawing : Bool) (grid : GridSize) (d : Drawing) (before : List SheetLine) → IsDrawn g grid d →
    AreRightLines g before (BodyDue edition needs_drawing) (parts_of edition g d)
right_parts edition g needs_drawing grid d before h =
    let n = length g.nodes in
    let e = length g.edges in
    let few_nodes = h.station.few_nodes in
    let few_edges = h.station.few_edges in
    let places = h.size.places in
    let lines = h.size.lines in
    let placed = placed_lines edition g 0 d.places in
    let counted = before ++ NodesLine n ∷ [] in
    let edges : AreRightLines g (counted ++ placed) (EdgesDue edition) (EdgesLine e ∷ drawn_lines edition g 0 d.lines) = (
      record { is_due = tt; form = omega (arith, few_edges); range = tt; of_graph = refl; shape = tt; measured = tt },
      right_edges edition g grid ((counted ++ placed) ++ EdgesLine e ∷ []) 0 d.lines h.station h.tracks h.is_grid (omega (arith, lines)) h.are_lines
          (All-lists (IsOnGrid grid) d.lines (all_back (IsOnGrid grid) d.places (flat_map (λ l. l) d.lines) h.on_grid)),
    ) in (
      record { is_due = count_due edition needs_drawing n; form = omega (arith, few_nodes); range = tt; of_graph = refl; shape = tt; measured = tt },
      right_append g counted (node_due edition g 0) placed (EdgesLine e ∷ drawn_lines edition g 0 d.lines)
          (right_nodes edition g grid counted 0 d.places h.station h.names h.is_grid (omega (arith, places))
          (all_front (IsOnGrid grid) d.places (flat_map (λ l. l) d.lines) h.on_grid))
          (subst (λ (due : LineDue). AreRightLines g (counted ++ placed) due (EdgesLine e ∷ drawn_lines edition g 0 d.lines))
          (sym (due_nodes edition g d.places places)) edges),
    )

-- with its values and the ending
right_drawn : (edition : Edition) (g : Graph) (needs_drawing : Bool) (grid : GridSize) (order : List Criterion) (d : Drawing) (e : Ending) → IsDrawn g grid d →
    IsOrder order → MayEnd true e → StatesSettled order true e → AreRightLines g (head_lines edition grid order) (BodyDue edition needs_drawing)
    (drawing_lines edition g d ++ EndLine e ∷ [])
right_drawn edition g needs_drawing grid order d e h is may settled =
    let head = head_lines edition grid order in
    let parts = parts_of edition g d in
    let before = head ++ parts in
    let told : drawing_told before ≡ d = drawing_grown head parts d refl (parts_tell edition g d) in
    let ordered : order_told before ≡ order = order_kept head parts order (no_criteria edition g d) (head_order edition grid order) in
    let last : order_told (before ++ ValuesLine (values_of d) ∷ []) ≡ order = order_kept before (ValuesLine (values_of d) ∷ []) order refl ordered in
    let values : IsRight g before ValuesDue (ValuesLine (values_of d)) =
    record {
      is_due = tt;
      form = small_values g grid d h.station h.is_grid h.size h.on_grid h.are_lines;
      range = tt;
      of_graph = tt;
      shape = tt;
      measured = ap
          values_of (sym told);
    } in
    let end : IsRight g (before ++ ValuesLine (values_of d) ∷ []) EndDue (EndLine e) =
    record {
      is_due = may;
      form = small_ending order true e is settled;
      range = subst (λ (o : List Criterion). StatesSettled o true e) (sym last) settled;
      of_graph = tt;
      shape = tt;
      measured = tt;
    } in
    subst (λ (lines : List SheetLine). AreRightLines g head (BodyDue edition needs_drawing) lines) (sym (lines_are edition g d e h.size))
    (right_append g head (BodyDue edition needs_drawing) parts (ValuesLine (values_of d) ∷ EndLine e ∷ []) (right_parts edition g needs_drawing grid d head h)
    (subst (λ (due : LineDue). AreRightLines g before due (ValuesLine (values_of d) ∷ EndLine e ∷ [])) (sym (due_parts edition g d h.size))
    (values, (end, tt))))

-- ---- the whole sheet

grid_form : (edition : Edition) (grid : GridSize) → IsGrid grid → StandsForLeast edition grid → HasForm (GridLine edition grid)
grid_form First grid is stands = let w = is.width_limit in let h = is.height_limit in ((omega (arith, w), (omega (arith, h), tt)), stands)
grid_form Second grid is stands = let w = is.width_limit in let h = is.height_limit in let l = is.least_limit in
    ((omega (arith, w), (omega (arith, h), (omega (arith, l), tt))), tt)

right_head : (edition : Edition) (g : Graph) (needs_drawing : Bool) (grid : GridSize) (order : List Criterion) → IsGrid grid → StandsForLeast edition grid →
    IsOrder order → AreRightLines g [] (TitleDue needs_drawing) (head_lines edition grid order)
right_head edition g needs_drawing grid order is_grid stands is_order = (
  record { is_due = tt; form = tt; range = tt; of_graph = tt; shape = tt; measured = tt },
  (
    record { is_due = refl; form = grid_form edition grid is_grid stands; range = is_grid; of_graph = tt; shape = tt; measured = tt },
    (
      record {
        is_due = tt;
        form = record {
          from = is_order.some;
          to = few_criteria order is_order.each_once;
        };
        range = is_order;
        of_graph = tt;
        shape = tt;
        measured = tt;
      },
      tt,
    ),
  ),
)

-- what every sheet keeps
pub record IsKept (s : Sheet) : Type 0 where
  pub is_grid : IsGrid s.grid
  pub is_order : IsOrder s.order
  pub are_lines : IfSome s.found (λ d. All (λ l. is_line l ≡ true) d.lines)
  pub may_end : MayEnd (is_some s.found) s.ending

-- what is known of a sheet that may be written
pub record IsWritable (g : Graph) (s : Sheet) : Type 0 where
  pub station : IsStationGraph g
  pub names : (n : ℕ) → n < length g.nodes → IsName (node g n).name
  pub tracks : (e : ℕ) → e < length g.edges → IsName (edge g e).track
  pub kept : IsKept s
  pub draws_all : DrawsAll g s
  pub on_grid : DrawsOnGrid s
  pub settled : StatesSettled s.order (is_some s.found) s.ending

right_undrawn : (edition : Edition) (g : Graph) (grid : GridSize) (order : List Criterion) (e : Ending) → IsOrder order → MayEnd false e →
    StatesSettled order false e → AreRightLines g (head_lines edition grid order) (BodyDue edition false) (EndLine e ∷ [])
right_undrawn edition g grid order e is may settled = (
  record {
    is_due = may;
    form = small_ending order false e is settled;
    range = subst (λ (o : List Criterion). StatesSettled o false e) (sym (head_order edition grid order)) settled;
    of_graph = tt;
    shape = tt;
    measured = tt;
  },
  tt,
)

right_found : (edition : Edition) (g : Graph) (s : Sheet) (needs_drawing : Bool) → IsWritable g s → (needs_drawing ≡ true → is_some s.found ≡ true) →
    AreRightLines g (head_lines edition s.grid s.order) (BodyDue edition needs_drawing) (found_lines edition g s.found ++ EndLine s.ending ∷ [])
right_found edition g s needs_drawing h drawn = by_case needs_drawing s.found drawn h.draws_all h.on_grid h.kept.are_lines h.kept.may_end h.settled
  where
    by_case : (needs_drawing : Bool) (found : Option Drawing) → (needs_drawing ≡ true → is_some found ≡ true) → IfSome found (HasSizeOf g) →
        IfSome found (λ d. All (IsOnGrid s.grid) (all_points d)) → IfSome found (λ d. All (λ l. is_line l ≡ true) d.lines) →
        MayEnd (is_some found) s.ending → StatesSettled s.order (is_some found) s.ending →
        AreRightLines g (head_lines edition s.grid s.order) (BodyDue edition needs_drawing) (found_lines edition g found ++ EndLine s.ending ∷ [])
    by_case true None drawn size on are may settled = absurd (false≢true (drawn refl))
    by_case false None drawn size on are may settled = right_undrawn edition g s.grid s.order s.ending h.kept.is_order may settled
    by_case needs_drawing (Some d) drawn size on are may settled =
        right_drawn edition g needs_drawing s.grid s.order d s.ending
        (record { station = h.station; names = h.names; tracks = h.tracks; is_grid = h.kept.is_grid; size = size; on_grid = on; are_lines = are })
        h.kept.is_order may settled

pub written : (edition : Edition) (g : Graph) (s : Sheet) (needs_drawing : Bool) → StandsForLeast edition s.grid → IsWritable g s →
    (needs_drawing ≡ true → is_some s.found ≡ true) → IsSheetText g needs_drawing (text_in edition g s) s
written edition g s needs_drawing stands h drawn = record {
  edition = edition;
  draws_all = h.draws_all;
  right = right_append g [] (TitleDue needs_drawing) (head_lines edition s.grid s.order) (found_lines edition g s.found ++ EndLine s.ending ∷ [])
      (right_head edition g needs_drawing s.grid s.order h.kept.is_grid stands h.kept.is_order) (right_found edition g s needs_drawing h drawn);
  spelled = refl;
}
