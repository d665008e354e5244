-- A text is that of one sheet, or has one first fault.
use Rattle.std.proofs.Common.{◌≡◌, ◌⊎◌, ℕ, ◌+◌, Bool, true, Result, Ok, Err, MatchResult, List, [], ◌∷◌, ◌++◌, Option, None, Some, IfSome, length, refl, sym}
use Rattle.std.proofs.Common.{◌∙◌, ap, subst, arith, append_assoc, length-append}
use Rattle.std.specs.Prelude.{flat_map}
use Rattle.std.proofs.lemmas.Grind.{flat_map-append}
use Rattle.std.proofs.lemmas.List.{append_cancel_left, append-nil}
use Rattle.std.proofs.lemmas.Option.{same_Some}
use Rattle.plan_core.specs.declared.point.Point.{Point}
use Rattle.plan_core.specs.declared.criterion.Criterion.{Criterion}
use Rattle.plan_core.specs.declared.criterion.Values.{Values}
use Rattle.plan_core.specs.Grid.{GridSize}
use Rattle.plan_core.specs.Graph.{Graph}
use Rattle.plan_core.specs.Drawing.{Drawing, drawing}
use Rattle.plan_core.specs.Values.{values_of}
use Rattle.plan_core.specs.Exactly.{AnswersExactly}
use Rattle.plan_core.proofs.ExactlyLemmas.{answers_exactly}
use Rattle.plan_write.specs.declared.edition.Edition.{Edition}
use Rattle.plan_write.specs.declared.ending.Ending.{Ending}
use Rattle.plan_text.specs.declared.sheet_fault.SheetWhat.{SheetWhat}
use Rattle.plan_text.specs.declared.sheet_fault.SheetWhat.TheVariants as whats
use Rattle.plan_text.specs.declared.sheet_fault.SheetFault.{SheetFault}
use Rattle.plan_text.specs.declared.sheet_fault.SheetFault.TheVariants.{Sheet as SheetHas, Memory}
use Rattle.plan_write.specs.SheetLine.{SheetLine, Title, GridLine, OrderLine, NodesLine, EdgeLine, ValuesLine, EndLine, text_of_line}
use Rattle.plan_core.specs.Lawful.{HasSizeOf}
use Rattle.plan_write.specs.SheetText.{Sheet, DrawsAll, picture_lines, drawing_lines, found_lines, sheet_lines}
use Rattle.plan_text.specs.SheetFaults.{LineDue, TitleDue, BodyDue, NoneDue, due_behind, due_after, place_told, line_told, drawing_told, BeginsWithLine}
use Rattle.plan_text.specs.SheetFaults.{IsMisformed, HasWrongLine, IsInRange, IsOfGraph, HasShape, IsMeasured, IsRight, AreRightLines, IsSheetText}
use Rattle.plan_text.specs.SheetFaults.{IsDrawingOf, HasSheetFault, IsSheetFault}
use Rattle.plan_text.proofs.LineAgain.{once_due, none_due}
use Rattle.plan_text.proofs.ReadingLemmas.{due_append}
use Rattle.plan_text.proofs.SheetAgain.{parts_of, parts_are, parts_tell, due_parts}

abbrev texts : List SheetLine → List ℕ
texts lines = flat_map text_of_line lines

-- ---- the first line

-- the lines that one text begins with are one
one_begin : (due : LineDue) (text : List ℕ) (l m : SheetLine) → BeginsWithLine due text l → BeginsWithLine due text m → l ≡ m
one_begin due text l m a b = (once_due due l m a.is_due b.is_due a.behind b.behind a.form b.form (sym a.spelled ∙ b.spelled)).line

right_begins : (g : Graph) (before : List SheetLine) (due : LineDue) (text rest : List ℕ) (l : SheetLine) → IsRight g before due l →
    text ≡ text_of_line l ++ rest → BeginsWithLine due text l
right_begins g before due text rest l right e = record { is_due = right.is_due; form = right.form; behind = rest; spelled = e }

-- nothing of the form that is due begins a text that is misformed
misformed : (due : LineDue) (text : List ℕ) (l : SheetLine) → IsMisformed due text → BeginsWithLine due text l → ⊥
misformed NoneDue text l h b = none_due l b.is_due
misformed due text l h b = h l b

-- where a line is right, no line has a fault
right_or_fault : (g : Graph) (before : List SheetLine) (due : LineDue) (text rest : List ℕ) (l : SheetLine) (what : SheetWhat) → IsRight g before due l →
    text ≡ text_of_line l ++ rest → HasWrongLine g before due text what → ⊥
right_or_fault g before due text rest l whats.Form right e f = misformed due text l f (right_begins g before due text rest l right e)
right_or_fault g before due text rest l whats.Range right e (m, b, not) =
    not (subst (IsInRange before due) (one_begin due text l m (right_begins g before due text rest l right e) b) right.range)
right_or_fault g before due text rest l whats.Graph right e (m, b, not) =
    not (subst (IsOfGraph g due) (one_begin due text l m (right_begins g before due text rest l right e) b) right.of_graph)
right_or_fault g before due text rest l whats.Shape right e (m, b, of, not) =
    not (subst HasShape (one_begin due text l m (right_begins g before due text rest l right e) b) right.shape)
right_or_fault g before due text rest l whats.Values right e (m, b, not) =
    not (subst (IsMeasured before) (one_begin due text l m (right_begins g before due text rest l right e) b) right.measured)

-- ---- lines up to a fault

-- the lines b are the first of a, and the rest of them stand in front of what is behind a
record Front (a b : List SheetLine) (q r : List ℕ) : Type 0 where
  more : List SheetLine
  split : a ≡ b ++ more
  left : r ≡ texts more ++ q

-- nothing is right behind the lines in front of a fault
up_to_fault : (g : Graph) (before : List SheetLine) (due : LineDue) (a b : List SheetLine) (q r : List ℕ) (what : SheetWhat) → AreRightLines g before due a →
    AreRightLines g before due b →
    HasWrongLine g (before ++ a) (due_after g due a) q what → texts a ++ q ≡ texts b ++ r → Front a b q r
up_to_fault g before due a [] q r what h k f e = record { more = a; split = refl; left = sym e }
up_to_fault g before due [] (m ∷ b) q r what h k f e =
    absurd (right_or_fault g before due q (texts b ++ r) m what k.0 (e ∙ append_assoc (text_of_line m) (texts b) r)
    (subst (λ (lines : List SheetLine). HasWrongLine g lines due q what) (append-nil before) f))
up_to_fault g before due (l ∷ a) (m ∷ b) q r what h k f e =
    let same = once_due due l m h.0.is_due k.0.is_due (texts a ++ q) (texts b ++ r) h.0.form k.0.form
    (sym (append_assoc (text_of_line l) (texts a) q) ∙ e ∙ append_assoc (text_of_line m) (texts b) r) in
    let right : AreRightLines g (before ++ l ∷ []) (due_behind g due l) b = subst (λ (n : SheetLine). AreRightLines g (before ++ n ∷ []) (due_behind g due n) b)
    (sym same.line) k.1 in
    let fault : HasWrongLine g ((before ++ l ∷ []) ++ a) (due_after g (due_behind g due l) a) q what = subst
    (λ (lines : List SheetLine). HasWrongLine g lines (due_after g (due_behind g due l) a) q what) (sym (append_assoc before (l ∷ []) a)) f in
    let later = up_to_fault g (before ++ l ∷ []) (due_behind g due l) a b q r what h.1 right fault same.behind in
    record {
      more = later.more;
      split = ap (λ (lines : List SheetLine). l ∷ lines) later.split ∙ ap (λ (n : SheetLine). n ∷ (b ++ later.more)) same.line;
      left = later.left;
    }

-- ---- a text with a fault is no sheet's

-- the lines of a drawing and of an ending are those of its points and lines, its values and the ending
pub lines_are : (edition : Edition) (g : Graph) (d : Drawing) (e : Ending) → HasSizeOf g d →
    drawing_lines edition g d ++ EndLine e ∷ [] ≡ parts_of edition g d ++ ValuesLine (values_of d) ∷ EndLine e ∷ []
lines_are edition g d e size =
    ap (λ (lines : List SheetLine). NodesLine (length g.nodes) ∷ lines) (append_assoc (picture_lines edition g d) (ValuesLine (values_of d) ∷ [])
    (EndLine e ∷ []))
    ∙ ap (λ (lines : List SheetLine). lines ++ ValuesLine (values_of d) ∷ EndLine e ∷ []) (sym (parts_are edition g d size))

-- nothing is due behind a sheet
due_behind_found : (edition : Edition) (g : Graph) (needs_drawing : Bool) (found : Option Drawing) (e : Ending) → IfSome found (HasSizeOf g) →
    due_after g (BodyDue edition needs_drawing) (found_lines edition g found ++ EndLine e ∷ []) ≡ NoneDue
due_behind_found edition g needs_drawing None e all = refl
due_behind_found edition g needs_drawing (Some d) e all =
    ap (due_after g (BodyDue edition true)) (lines_are edition g d e all)
    ∙ due_append g (BodyDue edition true) (parts_of edition g d) (ValuesLine (values_of d) ∷ EndLine e ∷ [])
    ∙ ap (λ (due : LineDue). due_after g due (ValuesLine (values_of d) ∷ EndLine e ∷ [])) (due_parts edition g d all)

due_at_end : (edition : Edition) (g : Graph) (needs_drawing : Bool) (s : Sheet) → DrawsAll g s →
    due_after g (TitleDue needs_drawing) (sheet_lines edition g s) ≡ NoneDue
due_at_end edition g needs_drawing s all = due_behind_found edition g needs_drawing s.found s.ending all

-- where no text is left and no line is due, there is no fault
no_fault_left : (g : Graph) (before : List SheetLine) (text : List ℕ) (what : SheetWhat) → text ≡ [] → HasWrongLine g before NoneDue text what → ⊥
no_fault_left g before text whats.Form none f = f none
no_fault_left g before text whats.Range none (l, b, not) = none_due l b.is_due
no_fault_left g before text whats.Graph none (l, b, not) = none_due l b.is_due
no_fault_left g before text whats.Shape none (l, b, of, not) = none_due l b.is_due
no_fault_left g before text whats.Values none (l, b, not) = none_due l b.is_due

-- a line has a text
some_text : (l : SheetLine) (rest : List ℕ) → [] ≡ text_of_line l ++ rest → ⊥
some_text (Title edition) rest e = cc
some_text l rest e = cc

pub sheet_or_fault : (g : Graph) (needs_drawing : Bool) (text : List ℕ) (s : Sheet) (what : SheetWhat) (line : ℕ) → IsSheetText g needs_drawing text s →
    HasSheetFault g needs_drawing text what line → ⊥
sheet_or_fault g needs_drawing text s what line h f =
    let due = TitleDue needs_drawing in
    let front = up_to_fault g [] due f.before (sheet_lines h.edition g s) f.rest [] what f.right h.right f.fault
    (sym f.spelled ∙ h.spelled ∙ sym (append-nil (texts (sheet_lines h.edition g s)))) in
    none_more front.more front.split front.left
  where
    none_more : (more : List SheetLine) → f.before ≡ sheet_lines h.edition g s ++ more → [] ≡ texts more ++ f.rest → ⊥
    none_more [] split left =
        let whole : f.before ≡ sheet_lines h.edition g s = split ∙ append-nil (sheet_lines h.edition g s) in
        no_fault_left g f.before f.rest what (sym left)
        (subst (λ (due : LineDue). HasWrongLine g f.before due f.rest what) (ap (due_after g (TitleDue needs_drawing)) whole
        ∙ due_at_end h.edition g needs_drawing s h.draws_all) f.fault)
    none_more (l ∷ more) split left = some_text l (texts more ++ f.rest) (left ∙ append_assoc (text_of_line l) (texts more) f.rest)

-- ---- one first fault

-- a line is of one kind, so that it can be out of range, of another graph or wrong in its values, but not two of these
range_or_graph : (g : Graph) (before : List SheetLine) (due : LineDue) (l : SheetLine) → (IsInRange before due l → ⊥) → (IsOfGraph g due l → ⊥) → ⊥
range_or_graph g before due (GridLine edition grid) h k = k tt
range_or_graph g before due (OrderLine order) h k = k tt
range_or_graph g before due (EndLine e) h k = k tt
range_or_graph g before due l h k = h tt

range_or_shape : (before : List SheetLine) (due : LineDue) (l : SheetLine) → (IsInRange before due l → ⊥) → (HasShape l → ⊥) → ⊥
range_or_shape before due (EdgeLine number track west east points) h k = h tt
range_or_shape before due l h k = k tt

range_or_values : (before : List SheetLine) (due : LineDue) (l : SheetLine) → (IsInRange before due l → ⊥) → (IsMeasured before l → ⊥) → ⊥
range_or_values before due (ValuesLine values) h k = h tt
range_or_values before due l h k = k tt

graph_or_values : (g : Graph) (before : List SheetLine) (due : LineDue) (l : SheetLine) → (IsOfGraph g due l → ⊥) → (IsMeasured before l → ⊥) → ⊥
graph_or_values g before due (ValuesLine values) h k = h tt
graph_or_values g before due l h k = k tt

shape_or_values : (before : List SheetLine) (l : SheetLine) → (HasShape l → ⊥) → (IsMeasured before l → ⊥) → ⊥
shape_or_values before (ValuesLine values) h k = h tt
shape_or_values before l h k = k tt

-- one text has one fault at its first line
one_fault : (g : Graph) (before : List SheetLine) (due : LineDue) (text : List ℕ) (what other : SheetWhat) → HasWrongLine g before due text what →
    HasWrongLine g before due text other → what ≡ other
one_fault g before due text whats.Form whats.Form f h = refl
one_fault g before due text whats.Form whats.Range f (m, b, not) = absurd (misformed due text m f b)
one_fault g before due text whats.Form whats.Graph f (m, b, not) = absurd (misformed due text m f b)
one_fault g before due text whats.Form whats.Shape f (m, b, of, not) = absurd (misformed due text m f b)
one_fault g before due text whats.Form whats.Values f (m, b, not) = absurd (misformed due text m f b)
one_fault g before due text whats.Range whats.Form (l, a, isnt) h = absurd (misformed due text l h a)
one_fault g before due text whats.Graph whats.Form (l, a, isnt) h = absurd (misformed due text l h a)
one_fault g before due text whats.Shape whats.Form (l, a, of, isnt) h = absurd (misformed due text l h a)
one_fault g before due text whats.Values whats.Form (l, a, isnt) h = absurd (misformed due text l h a)
one_fault g before due text whats.Range whats.Range f h = refl
one_fault g before due text whats.Range whats.Graph (l, a, isnt) (m, b, not) =
    absurd (range_or_graph g before due l isnt (λ is. not (subst (IsOfGraph g due) (one_begin due text l m a b) is)))
one_fault g before due text whats.Range whats.Shape (l, a, isnt) (m, b, of, not) =
    absurd (range_or_shape before due l isnt (λ is. not (subst HasShape (one_begin due text l m a b) is)))
one_fault g before due text whats.Range whats.Values (l, a, isnt) (m, b, not) =
    absurd (range_or_values before due l isnt (λ is. not (subst (IsMeasured before) (one_begin due text l m a b) is)))
one_fault g before due text whats.Graph whats.Range (l, a, isnt) (m, b, not) =
    absurd (range_or_graph g before due m not (λ is. isnt (subst (IsOfGraph g due) (one_begin due text m l b a) is)))
one_fault g before due text whats.Graph whats.Graph f h = refl
one_fault g before due text whats.Graph whats.Shape (l, a, isnt) (m, b, of, not) =
    absurd (isnt (subst (IsOfGraph g due) (one_begin due text m l b a) of))
one_fault g before due text whats.Graph whats.Values (l, a, isnt) (m, b, not) =
    absurd (graph_or_values g before due l isnt (λ is. not (subst (IsMeasured before) (one_begin due text l m a b) is)))
one_fault g before due text whats.Shape whats.Range (l, a, of, isnt) (m, b, not) =
    absurd (range_or_shape before due m not (λ is. isnt (subst HasShape (one_begin due text m l b a) is)))
one_fault g before due text whats.Shape whats.Graph (l, a, of, isnt) (m, b, not) =
    absurd (not (subst (IsOfGraph g due) (one_begin due text l m a b) of))
one_fault g before due text whats.Shape whats.Shape f h = refl
one_fault g before due text whats.Shape whats.Values (l, a, of, isnt) (m, b, not) =
    absurd (shape_or_values before l isnt (λ is. not (subst (IsMeasured before) (one_begin due text l m a b) is)))
one_fault g before due text whats.Values whats.Range (l, a, isnt) (m, b, not) =
    absurd (range_or_values before due m not (λ is. isnt (subst (IsMeasured before) (one_begin due text m l b a) is)))
one_fault g before due text whats.Values whats.Graph (l, a, isnt) (m, b, not) =
    absurd (graph_or_values g before due m not (λ is. isnt (subst (IsMeasured before) (one_begin due text m l b a) is)))
one_fault g before due text whats.Values whats.Shape (l, a, isnt) (m, b, of, not) =
    absurd (shape_or_values before m not (λ is. isnt (subst (IsMeasured before) (one_begin due text m l b a) is)))
one_fault g before due text whats.Values whats.Values f h = refl

-- the lines before the first fault of a text, and the text from it on, are known
record SameFirst (a b : List SheetLine) (q r : List ℕ) : Type 0 where
  lines : a ≡ b
  left : q ≡ r

both_fronts : (a b : List SheetLine) (q r : List ℕ) → Front a b q r → Front b a r q → SameFirst a b q r
both_fronts a b q r f h = ends f.more h.more f.split h.split f.left
  where
    ends : (more rest : List SheetLine) → a ≡ b ++ more → b ≡ a ++ rest → r ≡ texts more ++ q → SameFirst a b q r
    ends [] rest split other left = record { lines = split ∙ append-nil b; left = sym left }
    ends (l ∷ more) rest split other left =
        let n : length a ≡ length b + length (l ∷ more) = ap length split ∙ length-append b (l ∷ more) in
        let m : length b ≡ length a + length rest = ap length other ∙ length-append a rest in
        absurd (omega (arith, n, m))

same_first : (g : Graph) (needs_drawing : Bool) (text : List ℕ) (what other : SheetWhat) (line at : ℕ) (f : HasSheetFault g needs_drawing text what line)
    (h : HasSheetFault g needs_drawing text other at) → SameFirst f.before h.before f.rest h.rest
same_first g needs_drawing text what other line at f h =
    let due = TitleDue needs_drawing in
    both_fronts f.before h.before f.rest h.rest
    (up_to_fault g [] due f.before h.before f.rest h.rest what f.right h.right f.fault (sym f.spelled ∙ h.spelled))
    (up_to_fault g [] due h.before f.before h.rest f.rest other h.right f.right h.fault (sym h.spelled ∙ f.spelled))

pub one_kind : (g : Graph) (needs_drawing : Bool) (text : List ℕ) (what other : SheetWhat) (line at : ℕ) → HasSheetFault g needs_drawing text what line →
    HasSheetFault g needs_drawing text other at → what ≡ other
one_kind g needs_drawing text what other line at f h =
    let same = same_first g needs_drawing text what other line at f h in
    let there : HasWrongLine g f.before (due_after g (TitleDue needs_drawing) f.before) f.rest other =
    subst (λ (lines : List SheetLine). HasWrongLine g lines (due_after g (TitleDue needs_drawing) lines) f.rest other) (sym same.lines)
    (subst (λ (t : List ℕ). HasWrongLine g h.before (due_after g (TitleDue needs_drawing) h.before) t other) (sym same.left) h.fault) in
    one_fault g f.before (due_after g (TitleDue needs_drawing) f.before) f.rest what other f.fault there

pub one_line : (g : Graph) (needs_drawing : Bool) (text : List ℕ) (what other : SheetWhat) (line at : ℕ) → HasSheetFault g needs_drawing text what line →
    HasSheetFault g needs_drawing text other at → line ≡ at
one_line g needs_drawing text what other line at f h =
    f.counted
    ∙ ap (λ (lines : List SheetLine). length lines + 1) (same_first g needs_drawing text what other line at f h).lines
    ∙ sym h.counted

-- ---- one sheet

-- right lines of one text are the same
same_lines : (g : Graph) (before : List SheetLine) (due : LineDue) (a b : List SheetLine) → AreRightLines g before due a → AreRightLines g before due b →
    texts a ≡ texts b → a ≡ b
same_lines g before due [] [] h k e = refl
same_lines g before due [] (m ∷ b) h k e = absurd (some_text m (texts b) e)
same_lines g before due (l ∷ a) [] h k e = absurd (some_text l (texts a) (sym e))
same_lines g before due (l ∷ a) (m ∷ b) h k e =
    let same = once_due due l m h.0.is_due k.0.is_due (texts a) (texts b) h.0.form k.0.form e in
    let right : AreRightLines g (before ++ l ∷ []) (due_behind g due l) b = subst (λ (n : SheetLine). AreRightLines g (before ++ n ∷ []) (due_behind g due n) b)
    (sym same.line) k.1 in
    ap (λ (lines : List SheetLine). l ∷ lines) (same_lines g (before ++ l ∷ []) (due_behind g due l) a b h.1 right same.behind)
    ∙ ap (λ (n : SheetLine). n ∷ b) same.line

same_edition : (e f : Edition) → Title e ≡ Title f → e ≡ f
same_edition e f s = cc

same_grid : (e f : Edition) (a b : GridSize) → GridLine e a ≡ GridLine f b → a ≡ b
same_grid e f a b s = cc

same_order : (a b : List Criterion) → OrderLine a ≡ OrderLine b → a ≡ b
same_order a b e = cc

same_ending : (a b : Ending) → EndLine a ∷ [] ≡ EndLine b ∷ [] → a ≡ b
same_ending a b e = cc

-- a count isn't an ending
no_ending : (n : ℕ) (lines : List SheetLine) (e : Ending) → NodesLine n ∷ lines ≡ EndLine e ∷ [] → ⊥
no_ending n lines e s = cc

-- the values and the ending tell no point and no line
nothing_told : (lines : List SheetLine) (v : Values) (e : Ending) → drawing_told (lines ++ ValuesLine v ∷ EndLine e ∷ []) ≡ drawing_told lines
nothing_told lines v e =
    let end : List SheetLine = ValuesLine v ∷ EndLine e ∷ [] in
    ap (λ (ps : List Point). drawing ps (flat_map line_told (lines ++ end))) (flat_map-append place_told lines end ∙ append-nil (flat_map place_told lines))
    ∙ ap (λ (ls : List (List Point)). drawing (flat_map place_told lines) ls) (flat_map-append line_told lines end ∙ append-nil (flat_map line_told lines))

-- the lines of a drawing and an ending tell the drawing
told : (edition : Edition) (g : Graph) (d : Drawing) (e : Ending) → HasSizeOf g d → drawing_told (found_lines edition g (Some d) ++ EndLine e ∷ []) ≡ d
told edition g d e size = ap drawing_told (lines_are edition g d e size) ∙ nothing_told (parts_of edition g d) (values_of d) e ∙ parts_tell edition g d

-- lines that tell one drawing and one ending
record SameEnd (a b : Option Drawing) (e f : Ending) : Type 0 where
  found : a ≡ b
  ending : e ≡ f

same_end : (edition : Edition) (g : Graph) (a b : Option Drawing) (e f : Ending) → IfSome a (HasSizeOf g) → IfSome b (HasSizeOf g) →
    found_lines edition g a ++ EndLine e ∷ [] ≡ found_lines edition g b ++ EndLine f ∷ [] → SameEnd a b e f
same_end edition g None None e f h k s = record { found = refl; ending = same_ending e f s }
same_end edition g None (Some d) e f h k s = absurd (no_ending (length g.nodes) ((picture_lines edition g d ++ ValuesLine (values_of d) ∷ []) ++ EndLine f ∷ [])
    e (sym s))
same_end edition g (Some d) None e f h k s = absurd (no_ending (length g.nodes) ((picture_lines edition g d ++ ValuesLine (values_of d) ∷ []) ++ EndLine e ∷ [])
    f s)
same_end edition g (Some c) (Some d) e f h k s =
    let same : c ≡ d = sym (told edition g c e h) ∙ ap drawing_told s ∙ told edition g d f k in
    record {
      found = ap (λ (x : Drawing). Some x) same;
      ending = same_ending e f (append_cancel_left (drawing_lines edition g d) (EndLine e ∷ []) (EndLine f ∷ [])
          (ap (λ (x : Drawing). drawing_lines edition g x ++ EndLine e ∷ []) (sym same) ∙ s));
    }

first_lines : (a b c d e f : SheetLine) (xs ys : List SheetLine) → a ∷ b ∷ c ∷ xs ≡ d ∷ e ∷ f ∷ ys → (a ≡ d) × (b ≡ e) × (c ≡ f) × (xs ≡ ys)
first_lines a b c d e f xs ys s = (cc, cc, cc, cc)

sheet : GridSize → List Criterion → Option Drawing → Ending → Sheet
sheet grid order found ending = record { grid = grid; order = order; found = found; ending = ending }

same_sheet : (a b : Sheet) → a.grid ≡ b.grid → a.order ≡ b.order → a.found ≡ b.found → a.ending ≡ b.ending → a ≡ b
unfolding sheet
same_sheet a b g o f e =
    ap (λ (x : GridSize). sheet x a.order a.found a.ending) g
    ∙ ap (λ (x : List Criterion). sheet b.grid x a.found a.ending) o
    ∙ ap (λ (x : Option Drawing). sheet b.grid b.order x a.ending) f
    ∙ ap (λ (x : Ending). sheet b.grid b.order b.found x) e

end_lines : Edition → Graph → Sheet → List SheetLine
end_lines edition g s = found_lines edition g s.found ++ EndLine s.ending ∷ []

pub one_sheet : (g : Graph) (needs_drawing : Bool) (text : List ℕ) (a b : Sheet) → IsSheetText g needs_drawing text a → IsSheetText g needs_drawing text b →
    a ≡ b
unfolding end_lines
one_sheet g needs_drawing text a b h k =
    let e = h.edition in
    let f = k.edition in
    let same : sheet_lines e g a ≡ sheet_lines f g b = same_lines g [] (TitleDue needs_drawing) (sheet_lines e g a) (sheet_lines f g b) h.right k.right
    (sym h.spelled ∙ k.spelled) in
    let first = first_lines (Title e) (GridLine e a.grid) (OrderLine a.order) (Title f) (GridLine f b.grid) (OrderLine b.order) (end_lines e g a)
    (end_lines f g b) same in
    let left : end_lines e g a ≡ end_lines e g b = first.3 ∙ ap (λ (o : Edition). end_lines o g b) (sym (same_edition e f first.0)) in
    let end = same_end e g a.found b.found a.ending b.ending h.draws_all k.draws_all left in
    same_sheet a b (same_grid e f a.grid b.grid first.1) (same_order a.order b.order first.2) end.found end.ending

-- ---- exactly one answer

one_fault_of : (g : Graph) (needs_drawing : Bool) (text : List ℕ) (e f : SheetFault) → IsSheetFault g needs_drawing text e →
    IsSheetFault g needs_drawing text f → e ≡ f
one_fault_of g needs_drawing text (SheetHas what line) (SheetHas other at) h k =
    ap (λ (w : SheetWhat). SheetHas w line) (one_kind g needs_drawing text what other line at h k)
    ∙ ap (λ (n : ℕ). SheetHas other n) (one_line g needs_drawing text what other line at h k)
one_fault_of g needs_drawing text Memory f h k = absurd h
one_fault_of g needs_drawing text (SheetHas what line) Memory h k = absurd k

no_fault_of : (g : Graph) (needs_drawing : Bool) (text : List ℕ) (s : Sheet) (f : SheetFault) → IsSheetText g needs_drawing text s →
    IsSheetFault g needs_drawing text f → ⊥
no_fault_of g needs_drawing text s (SheetHas what line) h k = sheet_or_fault g needs_drawing text s what line h k
no_fault_of g needs_drawing text s Memory h k = k

pub sheet_exactly : (g : Graph) (needs_drawing : Bool) (text : List ℕ) (result : Result Sheet SheetFault) →
    MatchResult result (IsSheetText g needs_drawing text) (λ fault. (fault ≡ Memory) ⊎ IsSheetFault g needs_drawing text fault) →
    AnswersExactly result Memory (IsSheetText g needs_drawing text) (IsSheetFault g needs_drawing text)
sheet_exactly g needs_drawing text (Ok s) h = answers_exactly (Ok s) Memory (IsSheetText g needs_drawing text) (IsSheetFault g needs_drawing text) h tt
    (one_sheet g needs_drawing text) (one_fault_of g needs_drawing text) (no_fault_of g needs_drawing text)
sheet_exactly g needs_drawing text (Err e) h = answers_exactly (Err e) Memory (IsSheetText g needs_drawing text) (IsSheetFault g needs_drawing text) tt h
    (one_sheet g needs_drawing text) (one_fault_of g needs_drawing text) (no_fault_of g needs_drawing text)

pair : GridSize → Drawing → GridSize × Drawing
pair grid d = (grid, d)

same_pair : (p q : GridSize × Drawing) → p.0 ≡ q.0 → p.1 ≡ q.1 → p ≡ q
unfolding pair
same_pair p q e f = ap (λ (x : GridSize). pair x p.1) e ∙ ap (λ (x : Drawing). pair q.0 x) f

one_drawing : (g : Graph) (text : List ℕ) (p q : GridSize × Drawing) → IsDrawingOf g text p.0 p.1 → IsDrawingOf g text q.0 q.1 → p ≡ q
one_drawing g text p q h k =
    let same = one_sheet g true text h.sheet k.sheet h.told k.told in
    same_pair p q
    (sym h.on_grid ∙ ap (λ (s : Sheet). s.grid) same ∙ k.on_grid)
    (same_Some p.1 q.1 (sym h.found ∙ ap (λ (s : Sheet). s.found) same ∙ k.found))

no_fault_drawn : (g : Graph) (text : List ℕ) (p : GridSize × Drawing) (f : SheetFault) → IsDrawingOf g text p.0 p.1 → IsSheetFault g true text f → ⊥
no_fault_drawn g text p f h k = no_fault_of g true text h.sheet f h.told k

pub drawing_exactly : (g : Graph) (text : List ℕ) (result : Result (GridSize × Drawing) SheetFault) →
    MatchResult result (λ p. IsDrawingOf g text p.0 p.1) (λ fault. (fault ≡ Memory) ⊎ IsSheetFault g true text fault) →
    AnswersExactly result Memory (λ p. IsDrawingOf g text p.0 p.1) (IsSheetFault g true text)
drawing_exactly g text (Ok p) h = answers_exactly (Ok p) Memory (λ q. IsDrawingOf g text q.0 q.1) (IsSheetFault g true text) h tt (one_drawing g text)
    (one_fault_of g true text) (no_fault_drawn g text)
drawing_exactly g text (Err e) h = answers_exactly (Err e) Memory (λ q. IsDrawingOf g text q.0 q.1) (IsSheetFault g true text) tt h (one_drawing g text)
    (one_fault_of g true text) (no_fault_drawn g text)
