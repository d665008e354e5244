-- The lines that were read, one after another, and the first line with a fault.
use Rattle.std.proofs.Common.{◌≡◌, ℕ, suc, ◌+◌, ◌<◌, ◌≤◌, Bool, true, if◌then◌else◌, List, [], ◌∷◌, ◌++◌, length, refl, sym, ◌∙◌, ap, subst, arith}
use Rattle.std.proofs.Common.{append_assoc, length-append}
use Rattle.std.specs.Prelude.{flat_map}
use Rattle.std.specs.declared.result.Result.{Result}
use Rattle.std.specs.Result.{IsErrAnd, MatchResult}
use Rattle.std.proofs.lemmas.Grind.{flat_map-append}
use Rattle.std.proofs.lemmas.List.{append-nil}
use Rattle.std.proofs.lemmas.Bool.{lt-ltb}
use Rattle.std.proofs.Common.{Ok, Err, Option, None, Some, MatchOption}
use Rattle.plan_core.specs.declared.point.Point.{Point}
use Rattle.plan_core.specs.declared.criterion.Criterion.{Criterion}
use Rattle.plan_core.specs.Grid.{GridSize, IsGrid}
use Rattle.plan_core.specs.Graph.{Graph, node, edge}
use Rattle.plan_core.specs.Values.{values_of}
use Rattle.plan_write.specs.declared.edition.Edition.{Edition}
use Rattle.plan_write.specs.declared.edition.Edition.TheVariants.{First, Second}
use Rattle.plan_write.specs.declared.ending.Ending.{Ending}
use Rattle.plan_core.specs.Drawing.{Drawing, drawing}
use Rattle.plan_text.specs.declared.sheet_fault.SheetFault.{SheetFault}
use Rattle.plan_text.specs.declared.sheet_fault.SheetFault.TheVariants.{Sheet as SheetHas, Memory}
use Rattle.plan_write.specs.SheetLine.{SheetLine, Title, GridLine, NodeLine, EdgeLine, ValuesLine, EndLine, text_of_line, MayEnd}
use Rattle.plan_write.specs.SheetText.{StatesSettled, mileage_field, track_field}
use Rattle.plan_text.specs.SheetFaults.{LineDue, TitleDue, GridDue, NodeDue, EdgesDue, EdgeDue, ValuesDue, EndDue, IsToldIn, IsDue, node_due, edge_due}
use Rattle.plan_text.specs.SheetFaults.{due_behind, due_after, criteria_told, place_told, line_told, order_told, drawing_told, IsInRange, IsOfGraph, HasShape}
use Rattle.plan_text.specs.SheetFaults.{IsMeasured, AreRightLines, HasWrongLine}
use Rattle.plan_text.specs.SheetReading.{IsLineTo, placed_lines, drawn_lines, AreReadTo, IsFaultHere, IsFaultFrom}

-- ---- results

pub fails : {A E : Type 0} (r : Result A E) (P : A → Type 0) (Q : E → Type 0) (x : E) → IsErrAnd r (λ e. e ≡ x) → Q x → MatchResult r P Q
fails (Ok a) P Q x is h = absurd is
fails (Err e) P Q x is h = subst Q (sym is) h

-- ---- lists of lines

pub due_append : (g : Graph) (due : LineDue) (a b : List SheetLine) → due_after g due (a ++ b) ≡ due_after g (due_after g due a) b
due_append g due [] b = refl
due_append g due (l ∷ a) b = due_append g (due_behind g due l) a b

regroup : (before a : List SheetLine) (l : SheetLine) → before ++ (l ∷ a) ≡ (before ++ l ∷ []) ++ a
regroup before a l = sym (append_assoc before (l ∷ []) a)

pub right_append : (g : Graph) (before : List SheetLine) (due : LineDue) (a b : List SheetLine) → AreRightLines g before due a →
    AreRightLines g (before ++ a) (due_after g due a) b → AreRightLines g before due (a ++ b)
right_append g before due [] b h k = subst (λ (lines : List SheetLine). AreRightLines g lines due b) (append-nil before) k
right_append g before due (l ∷ a) b h k = (
  h.0,
  right_append g (before ++ l ∷ []) (due_behind g due l) a b h.1 (subst (λ (lines : List SheetLine). AreRightLines g lines
      (due_after g (due_behind g due l) a) b) (regroup before a l) k),
)

pub read_none : (g : Graph) (before : List SheetLine) (due : LineDue) (text : List ℕ) → AreReadTo g before due text [] text
read_none g before due text = record { right = tt; spelled = refl }

pub read_append : (g : Graph) (before : List SheetLine) (due : LineDue) (text mid rest : List ℕ) (a b : List SheetLine) → AreReadTo g before due text a mid →
    AreReadTo g (before ++ a) (due_after g due a) mid b rest → AreReadTo g before due text (a ++ b) rest
read_append g before due text mid rest a b h k = record {
  right = right_append g before due a b h.right k.right;
  spelled = h.spelled
      ∙ ap (λ (t : List ℕ). flat_map text_of_line a ++ t) k.spelled
      ∙ sym (append_assoc (flat_map text_of_line a) (flat_map text_of_line b) rest)
      ∙ ap (λ (t : List ℕ). t ++ rest) (sym (flat_map-append text_of_line a b));
}

pub read_one : (g : Graph) (before : List SheetLine) (due : LineDue) (text rest : List ℕ) (line : SheetLine) → IsDue due line → IsInRange before due line →
    IsOfGraph g due line → HasShape line → IsMeasured before line → IsLineTo text line rest → AreReadTo g before due text (line ∷ []) rest
read_one g before due text rest line is range of shape measured to = record {
  right = (record { is_due = is; form = to.form; range = range; of_graph = of; shape = shape; measured = measured }, tt);
  spelled = to.spelled ∙ ap (λ (t : List ℕ). t ++ rest) (sym (append-nil (text_of_line line)));
}

-- ---- the first fault

pub first_here : (g : Graph) (before : List SheetLine) (due : LineDue) (text : List ℕ) (number line : ℕ) (fault : SheetFault) → line ≡ number →
    IsFaultHere g before due text line fault → IsFaultFrom g before due text number fault
first_here g before due text number line (SheetHas what at) same h = record {
  lines = [];
  rest = text;
  read = read_none g before due text;
  counted = h.0 ∙ same ∙ add_none number;
  fault = subst (λ (lines : List SheetLine). HasWrongLine g lines due text what) (sym (append-nil before)) h.1;
}
  where
    add_none : (n : ℕ) → n ≡ n + 0
    add_none n = omega arith
first_here g before due text number line Memory same h = tt

pub first_later : (g : Graph) (before : List SheetLine) (due : LineDue) (text mid : List ℕ) (a : List SheetLine) (number line : ℕ) (fault : SheetFault) →
    AreReadTo g before due text a mid → line ≡ number + length a → IsFaultFrom g (before ++ a) (due_after g due a) mid line fault →
    IsFaultFrom g before due text number fault
first_later g before due text mid a number line (SheetHas what at) h same f = record {
  lines = a ++ f.lines;
  rest = f.rest;
  read = read_append g before due text mid f.rest a f.lines h f.read;
  counted = counted_on at line number (length a) (length f.lines) (length (a ++ f.lines)) f.counted same (length-append a f.lines);
  fault = subst (λ (lines : List SheetLine). HasWrongLine g lines (due_after g due (a ++ f.lines)) f.rest what) (append_assoc before a f.lines)
      (subst (λ (d : LineDue). HasWrongLine g ((before ++ a) ++ f.lines) d f.rest what) (sym (due_append g due a f.lines)) f.fault);
}
  where
    counted_on : (at line number a b c : ℕ) → at ≡ line + b → line ≡ number + a → c ≡ a + b → at ≡ number + c
    counted_on at line number a b c e f h = omega (arith, e, f, h)
first_later g before due text mid a number line Memory h same f = tt

pub later_here : (g : Graph) (before : List SheetLine) (due : LineDue) (text mid : List ℕ) (a : List SheetLine) (number line : ℕ) (fault : SheetFault) →
    AreReadTo g before due text a mid → line ≡ number + length a → IsFaultHere g (before ++ a) (due_after g due a) mid line fault →
    IsFaultFrom g before due text number fault
later_here g before due text mid a number line fault h same f =
    first_later g before due text mid a number line fault h same (first_here g (before ++ a) (due_after g due a) mid line line fault refl f)

-- ---- the nodes and the edges, one by one

pub mileage_told : (edition : Edition) (g : Graph) (n : ℕ) → IsToldIn edition (mileage_field edition g n)
mileage_told First g n = tt
mileage_told Second g n = tt

pub track_told : (edition : Edition) (g : Graph) (e : ℕ) → IsToldIn edition (track_field edition g e)
track_told First g e = tt
track_told Second g e = tt

pub node_due_at : (edition : Edition) (g : Graph) (n : ℕ) → n < length g.nodes → node_due edition g n ≡ NodeDue edition n
node_due_at edition g n less = ap (λ (b : Bool). if b then NodeDue edition n else EdgesDue edition) (lt-ltb n (length g.nodes) less)

pub edge_due_at : (edition : Edition) (g : Graph) (e : ℕ) → e < length g.edges → edge_due edition g e ≡ EdgeDue edition e
edge_due_at edition g e less = ap (λ (b : Bool). if b then EdgeDue edition e else ValuesDue) (lt-ltb e (length g.edges) less)

pub due_places : (edition : Edition) (g : Graph) (k : ℕ) (places : List Point) → k + length places ≤ length g.nodes →
    due_after g (node_due edition g k) (placed_lines edition g k places) ≡ node_due edition g (k + length places)
due_places edition g k [] fits = ap (node_due edition g) (omega arith)
due_places edition g k (p ∷ places) fits =
    ap (λ (d : LineDue). due_after g (due_behind g d (NodeLine k (node g k).name p (mileage_field edition g k))) (placed_lines edition g (k + 1) places))
    (node_due_at edition g k (omega (arith, fits)))
    ∙ due_places edition g (k + 1) places (omega (arith, fits))
    ∙ ap (node_due edition g) (omega arith)

pub due_lines : (edition : Edition) (g : Graph) (k : ℕ) (lines : List (List Point)) → k + length lines ≤ length g.edges →
    due_after g (edge_due edition g k) (drawn_lines edition g k lines) ≡ edge_due edition g (k + length lines)
due_lines edition g k [] fits = ap (edge_due edition g) (omega arith)
due_lines edition g k (l ∷ lines) fits =
    ap (λ (d : LineDue). due_after g (due_behind g d (EdgeLine k (track_field edition g k) (edge g k).west (edge g k).east l))
    (drawn_lines edition g (k + 1) lines)) (edge_due_at edition g k (omega (arith, fits)))
    ∙ due_lines edition g (k + 1) lines (omega (arith, fits))
    ∙ ap (edge_due edition g) (omega arith)

placed_more : (edition : Edition) (g : Graph) (k : ℕ) (places : List Point) (p : Point) →
    placed_lines edition g k (places ++ p ∷ []) ≡ placed_lines edition g k places ++ NodeLine (k + length places) (node g (k + length places)).name p
    (mileage_field edition g (k + length places)) ∷ []
placed_more edition g k [] p = ap (λ (n : ℕ). NodeLine n (node g n).name p (mileage_field edition g n) ∷ []) (omega arith)
placed_more edition g k (q ∷ places) p = ap (λ (lines : List SheetLine). NodeLine k (node g k).name q (mileage_field edition g k) ∷ lines)
    (placed_more edition g (k + 1) places p ∙ ap (λ (n : ℕ). placed_lines edition g (k + 1) places ++ NodeLine n (node g n).name p (mileage_field edition g n)
    ∷ []) (omega arith))

drawn_more : (edition : Edition) (g : Graph) (k : ℕ) (lines : List (List Point)) (l : List Point) →
    drawn_lines edition g k (lines ++ l ∷ []) ≡ drawn_lines edition g k lines ++ EdgeLine (k + length lines) (track_field edition g (k + length lines))
    (edge g (k + length lines)).west (edge g (k + length lines)).east l ∷ []
drawn_more edition g k [] l = ap (λ (n : ℕ). EdgeLine n (track_field edition g n) (edge g n).west (edge g n).east l ∷ []) (omega arith)
drawn_more edition g k (m ∷ lines) l = ap (λ (more : List SheetLine). EdgeLine k (track_field edition g k) (edge g k).west (edge g k).east m ∷ more)
    (drawn_more edition g (k + 1) lines l ∙ ap (λ (n : ℕ). drawn_lines edition g (k + 1) lines ++ EdgeLine n (track_field edition g n) (edge g n).west
    (edge g n).east l ∷ []) (omega arith))

pub placed_length : (edition : Edition) (g : Graph) (k : ℕ) (places : List Point) → length (placed_lines edition g k places) ≡ length places
placed_length edition g k [] = refl
placed_length edition g k (p ∷ places) = ap suc (placed_length edition g (k + 1) places)

pub drawn_length : (edition : Edition) (g : Graph) (k : ℕ) (lines : List (List Point)) → length (drawn_lines edition g k lines) ≡ length lines
drawn_length edition g k [] = refl
drawn_length edition g k (l ∷ lines) = ap suc (drawn_length edition g (k + 1) lines)

-- what is due behind the first n nodes
due_there : (edition : Edition) (g : Graph) (n : ℕ) (places : List Point) → n < length g.nodes → length places ≡ n →
    due_after g (node_due edition g 0) (placed_lines edition g 0 places) ≡ NodeDue edition n
due_there edition g n places less count = let there : 0 + length places ≡ n = omega (arith, count) in due_places edition g 0 places (omega (arith, less, count))
    ∙ ap (node_due edition g) there ∙ node_due_at edition g n less

due_there_edge : (edition : Edition) (g : Graph) (e : ℕ) (lines : List (List Point)) → e < length g.edges → length lines ≡ e →
    due_after g (edge_due edition g 0) (drawn_lines edition g 0 lines) ≡ EdgeDue edition e
due_there_edge edition g e lines less count = let there : 0 + length lines ≡ e = omega (arith, count) in due_lines edition g 0 lines
    (omega (arith, less, count)) ∙ ap (edge_due edition g) there ∙ edge_due_at edition g e less

pub place_read : (edition : Edition) (g : Graph) (text mid rest : List ℕ) (n : ℕ) (places : List Point) (p : Point) → n < length g.nodes → length places ≡ n →
    ((before : List SheetLine) → AreReadTo g before (node_due edition g 0) text (placed_lines edition g 0 places) mid) →
    IsLineTo mid (NodeLine n (node g n).name p (mileage_field edition g n)) rest → (before : List SheetLine) →
    AreReadTo g before (node_due edition g 0) text (placed_lines edition g 0 (places ++ p ∷ [])) rest
place_read edition g text mid rest n places p less count so_far to before =
    let due = due_there edition g n places less count in
    let there : n ≡ 0 + length places = omega (arith, count) in
    let one = read_one g (before ++ placed_lines edition g 0 places) (NodeDue edition n) mid rest (NodeLine n (node g n).name p (mileage_field edition g n))
    (mileage_told edition g n) tt (refl, refl, refl) tt tt to in
    let grown = read_append g before (node_due edition g 0) text mid rest (placed_lines edition g 0 places)
    (NodeLine n (node g n).name p (mileage_field edition g n) ∷ []) (so_far before)
    (subst (λ (d : LineDue). AreReadTo g (before ++ placed_lines edition g 0 places) d mid (NodeLine n (node g n).name p (mileage_field edition g n) ∷ []) rest)
    (sym due) one) in
    subst (λ (lines : List SheetLine). AreReadTo g before (node_due edition g 0) text lines rest)
    (ap (λ (k : ℕ). placed_lines edition g 0 places ++ NodeLine k (node g k).name p (mileage_field edition g k) ∷ []) there
    ∙ sym (placed_more edition g 0 places p)) grown

pub place_fault : (edition : Edition) (g : Graph) (text mid : List ℕ) (n line : ℕ) (places : List Point) (fault : SheetFault) → n < length g.nodes →
    length places ≡ n → ((before : List SheetLine) → AreReadTo g before (node_due edition g 0) text (placed_lines edition g 0 places) mid) →
    line ≡ 5 + n → ((before : List SheetLine) → IsFaultHere g before (NodeDue edition n) mid line fault) → (before : List SheetLine) →
    IsFaultFrom g before (node_due edition g 0) text 5 fault
place_fault edition g text mid n line places fault less count so_far numbered h before =
    let k = placed_length edition g 0 places in
    later_here g before (node_due edition g 0) text mid (placed_lines edition g 0 places) 5 line fault (so_far before) (omega (arith, k, count, numbered))
    (subst (λ (d : LineDue). IsFaultHere g (before ++ placed_lines edition g 0 places) d mid line fault) (sym (due_there edition g n places less count))
    (h (before ++ placed_lines edition g 0 places)))

pub line_read : (edition : Edition) (g : Graph) (text mid rest : List ℕ) (e : ℕ) (lines : List (List Point)) (l : List Point) → e < length g.edges →
    length lines ≡ e → ((before : List SheetLine) → AreReadTo g before (edge_due edition g 0) text (drawn_lines edition g 0 lines) mid) →
    HasShape (EdgeLine e (track_field edition g e) (edge g e).west (edge g e).east l) →
    IsLineTo mid (EdgeLine e (track_field edition g e) (edge g e).west (edge g e).east l) rest → (before : List SheetLine) →
    AreReadTo g before (edge_due edition g 0) text (drawn_lines edition g 0 (lines ++ l ∷ [])) rest
line_read edition g text mid rest e lines l less count so_far shape to before =
    let due = due_there_edge edition g e lines less count in
    let there : e ≡ 0 + length lines = omega (arith, count) in
    let line : SheetLine = EdgeLine e (track_field edition g e) (edge g e).west (edge g e).east l in
    let one = read_one g (before ++ drawn_lines edition g 0 lines) (EdgeDue edition e) mid rest line (track_told edition g e) tt (refl, refl, refl, refl) shape
    tt to in
    let grown = read_append g before (edge_due edition g 0) text mid rest (drawn_lines edition g 0 lines) (line ∷ []) (so_far before)
    (subst (λ (d : LineDue). AreReadTo g (before ++ drawn_lines edition g 0 lines) d mid (line ∷ []) rest) (sym due) one) in
    subst (λ (more : List SheetLine). AreReadTo g before (edge_due edition g 0) text more rest)
    (ap (λ (k : ℕ). drawn_lines edition g 0 lines ++ EdgeLine k (track_field edition g k) (edge g k).west (edge g k).east l ∷ []) there
    ∙ sym (drawn_more edition g 0 lines l)) grown

pub line_fault : (edition : Edition) (g : Graph) (text mid : List ℕ) (e line first : ℕ) (lines : List (List Point)) (fault : SheetFault) → e < length g.edges →
    length lines ≡ e → ((before : List SheetLine) → AreReadTo g before (edge_due edition g 0) text (drawn_lines edition g 0 lines) mid) →
    line ≡ first + e → ((before : List SheetLine) → IsFaultHere g before (EdgeDue edition e) mid line fault) → (before : List SheetLine) →
    IsFaultFrom g before (edge_due edition g 0) text first fault
line_fault edition g text mid e line first lines fault less count so_far numbered h before =
    let k = drawn_length edition g 0 lines in
    later_here g before (edge_due edition g 0) text mid (drawn_lines edition g 0 lines) first line fault (so_far before) (omega (arith, k, count, numbered))
    (subst (λ (d : LineDue). IsFaultHere g (before ++ drawn_lines edition g 0 lines) d mid line fault) (sym (due_there_edge edition g e lines less count))
    (h (before ++ drawn_lines edition g 0 lines)))

-- ---- one more of a list

pub count_more : {A : Type 0} (new old : List A) (a : A) (n : ℕ) → new ≡ old ++ a ∷ [] → length old ≡ n → length new ≡ n + 1
count_more new old a n grown count = let e = ap length grown in let f = length-append old (a ∷ []) in omega (arith, e, f, count)

-- ---- the head

pub read_title : (edition : Edition) (g : Graph) (needs_drawing : Bool) (text rest : List ℕ) → IsLineTo text (Title edition) rest →
    AreReadTo g [] (TitleDue needs_drawing) text (Title edition ∷ []) rest
read_title edition g needs_drawing text rest to = read_one g [] (TitleDue needs_drawing) text rest (Title edition) tt tt tt tt tt to

pub read_grid : (edition : Edition) (g : Graph) (needs_drawing : Bool) (text mid rest : List ℕ) (grid : GridSize) → IsLineTo text (Title edition) mid →
    IsGrid grid → IsLineTo mid (GridLine edition grid) rest → AreReadTo g [] (TitleDue needs_drawing) text (Title edition ∷ GridLine edition grid ∷ []) rest
read_grid edition g needs_drawing text mid rest grid title is to =
    read_append g [] (TitleDue needs_drawing) text mid rest (Title edition ∷ []) (GridLine edition grid ∷ [])
    (read_title edition g needs_drawing text mid title)
    (read_one g (Title edition ∷ []) (GridDue edition needs_drawing) mid rest (GridLine edition grid) refl is tt tt tt to)

pub order_kept : (before lines : List SheetLine) (order : List Criterion) → order_told lines ≡ [] → order_told before ≡ order →
    order_told (before ++ lines) ≡ order
order_kept before lines order none told = flat_map-append criteria_told before lines ∙ ap (λ (o : List Criterion). order_told before ++ o) none
    ∙ append-nil (order_told before) ∙ told

pub drawing_grown : (before lines : List SheetLine) (d : Drawing) → drawing_told before ≡ drawing [] [] → drawing_told lines ≡ d →
    drawing_told (before ++ lines) ≡ d
drawing_grown before lines d none told =
    let places : flat_map place_told (before ++ lines) ≡ flat_map place_told lines = flat_map-append place_told before lines
    ∙ ap (λ (d : Drawing). d.places ++ flat_map place_told lines) none in
    let drawn : flat_map line_told (before ++ lines) ≡ flat_map line_told lines = flat_map-append line_told before lines
    ∙ ap (λ (d : Drawing). d.lines ++ flat_map line_told lines) none in
    ap (λ (ps : List Point). drawing ps (flat_map line_told (before ++ lines))) places
    ∙ ap (λ (ls : List (List Point)). drawing (flat_map place_told lines) ls) drawn ∙ told

-- ---- the end of a sheet with a drawing

pub read_values : (g : Graph) (before : List SheetLine) (d : Drawing) (text rest : List ℕ) → drawing_told before ≡ d →
    IsLineTo text (ValuesLine (values_of d)) rest → AreReadTo g before ValuesDue text (ValuesLine (values_of d) ∷ []) rest
read_values g before d text rest told to = read_one g before ValuesDue text rest (ValuesLine (values_of d)) tt tt tt tt (ap values_of (sym told)) to

pub read_ending : (g : Graph) (before : List SheetLine) (order : List Criterion) (d : Drawing) (text mid rest : List ℕ) (e : Ending) →
    order_told before ≡ order → drawing_told before ≡ d → IsLineTo text (ValuesLine (values_of d)) mid → MayEnd true e → StatesSettled order true e →
    IsLineTo mid (EndLine e) rest →
    AreReadTo g before ValuesDue text (ValuesLine (values_of d) ∷ EndLine e ∷ []) rest
read_ending g before order d text mid rest e ordered told values may settled to =
    read_append g before ValuesDue text mid rest (ValuesLine (values_of d) ∷ []) (EndLine e ∷ []) (read_values g before d text mid told values)
    (read_one g (before ++ ValuesLine (values_of d) ∷ []) EndDue mid rest (EndLine e) may
    (subst (λ (o : List Criterion). StatesSettled o true e) (sym (order_kept before (ValuesLine (values_of d) ∷ []) order refl ordered)) settled) tt tt tt to)

-- ---- options

pub some_case : {A : Type 0} (o : Option A) (P : Type 0) (Q : A → Type 0) (x : A) → MatchOption o P Q → o ≡ Some x → Q x
some_case None P Q x h is = cc
some_case (Some y) P Q x h is = let same : y ≡ x = cc in subst Q same h

pub none_case : {A : Type 0} (o : Option A) (P : Type 0) (Q : A → Type 0) → MatchOption o P Q → o ≡ None → P
none_case None P Q h is = h
none_case (Some y) P Q h is = cc
