-- Whichever sheet a text of draw is read as, and whichever one stands at the front of a text of signals: what it says is
-- true, and its drawing, if it has one, is lawful.
use Rattle.std.proofs.Common.{◌≡◌, ℕ, false, List, [], ◌∷◌, ◌++◌, None, Some, refl, sym, ◌∙◌, ap, subst, append_assoc}
use Rattle.std.specs.Prelude.{IfSome, flat_map}
use Rattle.std.specs.declared.option.Option.{Option}
use Rattle.std.proofs.lemmas.List.{append-nil}
use Rattle.outside_io.specs.Contents.{Told}
use Rattle.plan_core.specs.declared.criterion.Criterion.{Criterion}
use Rattle.plan_core.specs.Grid.{GridSize}
use Rattle.plan_core.specs.Graph.{Graph}
use Rattle.plan_core.specs.Drawing.{Drawing}
use Rattle.plan_core.specs.Lawful.{Lawful}
use Rattle.plan_core.specs.Values.{IsBest}
use Rattle.track_order.specs.Order.{EdgeOrder, is_above}
use Rattle.railml_read.specs.declared.rows.SignalElem.{SignalElem}
use Rattle.plan_objects.specs.declared.places.SignalPlace.{SignalPlace}
use Rattle.plan_objects.specs.SignalsText.{signals_text}
use Rattle.plan_write.specs.declared.ending.Ending.{Ending}
use Rattle.plan_write.specs.declared.ending.Ending.TheVariants as endings
use Rattle.plan_write.specs.declared.edition.Edition.{Edition}
use Rattle.plan_write.specs.SheetLine.{SheetLine, Title, GridLine, OrderLine, EndLine, text_of_line}
use Rattle.plan_text.specs.SheetText.{Sheet, found_lines, sheet_lines}
use Rattle.plan_text.specs.SheetFaults.{LineDue, TitleDue, GridDue, OrderDue, BodyDue, NodeDue, EdgesDue, EdgeDue, ValuesDue, EndDue, NoneDue, due_behind}
use Rattle.plan_text.specs.SheetFaults.{due_after, IsDue, AreRightLines, IsSheetText}
use Rattle.plan_text.proofs.LineAgain.{none_due, once_due}
use Rattle.plan_text.proofs.SheetLaws.{one_sheet}
use Rattle.run_input.specs.declared.status.Status.{Status}
use Rattle.run_input.specs.declared.status.Status.TheVariants.{Done, Refused, WordsRefused, NoDrawing, Unfinished, Unread, Unwritten, NoMemory, Broken}
use Rattle.run_input.specs.Status.{IsAnswered}
use Rattle.run_input.specs.Input.{IsStationOf}
use Rattle.run_draw_front.specs.Signalled.{StandApart, signals_behind}
use Rattle.schematic_main.specs.So.{OfSignals, NoneLawful, SaysTruly, IsTrueSheet, IsLawfulSheet, sheet_saying, IsTextOf, IsUnfinishedSheet, grid_for}
use Rattle.schematic_main.specs.So.{DrawIsSo, SignalsAreSo}
use Rattle.schematic_main.proofs.SoExcludes.{at_station}

-- ---- what a true sheet says of its drawing

truly_lawful : (g : Graph) (o : EdgeOrder) (grid : GridSize) (order : List Criterion) (d : Drawing) (ending : Ending) →
    SaysTruly g o grid order (Some d) ending → Lawful g (is_above o) grid d
truly_lawful g o grid order d endings.Best so = so.lawful
truly_lawful g o grid order d (endings.Conflicts settled) so = so.lawful
truly_lawful g o grid order d (endings.Room settled) so = so.lawful
truly_lawful g o grid order d endings.NoDrawing so = so

found_lawful : (g : Graph) (o : EdgeOrder) (grid : GridSize) (order : List Criterion) (found : Option Drawing) (ending : Ending) →
    SaysTruly g o grid order found ending → IfSome found (Lawful g (is_above o) grid)
found_lawful g o grid order None ending so = tt
found_lawful g o grid order (Some d) ending so = truly_lawful g o grid order d ending so

both_so : (g : Graph) (o : EdgeOrder) (said : Sheet) → IsTrueSheet g o said → IsLawfulSheet g o said × IsTrueSheet g o said
both_so g o said so = (found_lawful g o said.grid said.order said.found said.ending so, so)

-- ---- a text that a sheet stands at the front of

-- nothing is due behind the line of an ending, and none but that is the last of right lines
ending_due : (g : Graph) (due : LineDue) (e : Ending) → IsDue due (EndLine e) → due_behind g due (EndLine e) ≡ NoneDue
ending_due g (TitleDue needs) e is = absurd is
ending_due g (GridDue edition needs) e is = absurd is
ending_due g (OrderDue edition needs) e is = absurd is
ending_due g (BodyDue edition needs) e is = refl
ending_due g (NodeDue edition n) e is = absurd is
ending_due g (EdgesDue edition) e is = absurd is
ending_due g (EdgeDue edition n) e is = absurd is
ending_due g ValuesDue e is = absurd is
ending_due g EndDue e is = refl
ending_due g NoneDue e is = absurd is

none_behind : (g : Graph) (before : List SheetLine) (due : LineDue) (lines : List SheetLine) (e : Ending) →
    AreRightLines g before due (lines ++ EndLine e ∷ []) → due_after g due (lines ++ EndLine e ∷ []) ≡ NoneDue
none_behind g before due [] e right = ending_due g due e right.0.is_due
none_behind g before due (l ∷ lines) e right = none_behind g (before ++ l ∷ []) (due_behind g due l) lines e right.1

none_behind_sheet : (edition : Edition) (g : Graph) (s : Sheet) → AreRightLines g [] (TitleDue false) (sheet_lines edition g s) →
    due_after g (TitleDue false) (sheet_lines edition g s) ≡ NoneDue
none_behind_sheet edition g s right = none_behind g [] (TitleDue false)
    (Title edition ∷ GridLine edition s.grid ∷ OrderLine s.order ∷ found_lines edition g s.found) s.ending right

-- right lines behind which none is due are the same where they stand at the front of one text
same_in_front : (g : Graph) (before : List SheetLine) (due : LineDue) (a b : List SheetLine) (q r : List ℕ) → AreRightLines g before due a →
    AreRightLines g before due b → due_after g due a ≡ NoneDue → due_after g due b ≡ NoneDue →
    flat_map text_of_line a ++ q ≡ flat_map text_of_line b ++ r → a ≡ b
same_in_front g before due [] [] q r h k none also e = refl
same_in_front g before due [] (m ∷ b) q r h k none also e = absurd (none_due m (subst (λ (x : LineDue). IsDue x m) none k.0.is_due))
same_in_front g before due (l ∷ a) [] q r h k none also e = absurd (none_due l (subst (λ (x : LineDue). IsDue x l) also h.0.is_due))
same_in_front g before due (l ∷ a) (m ∷ b) q r h k none also e =
    let texts : List SheetLine → List ℕ = λ lines. flat_map text_of_line lines in
    let same = once_due due l m h.0.is_due k.0.is_due (texts a ++ q) (texts b ++ r) h.0.form k.0.form
    (sym (append_assoc (text_of_line l) (texts a) q) ∙ e ∙ append_assoc (text_of_line m) (texts b) r) in
    let right : AreRightLines g (before ++ l ∷ []) (due_behind g due l) b = subst (λ (n : SheetLine). AreRightLines g (before ++ n ∷ []) (due_behind g due n) b)
    (sym same.line) k.1 in
    let ends : due_after g (due_behind g due l) b ≡ NoneDue = subst (λ (n : SheetLine). due_after g (due_behind g due n) b ≡ NoneDue) (sym same.line) also in
    ap (λ (lines : List SheetLine). l ∷ lines) (same_in_front g (before ++ l ∷ []) (due_behind g due l) a b q r h.1 right none ends same.behind)
    ∙ ap (λ (n : SheetLine). n ∷ b) same.line

-- so the sheet at the front of a text is one
sheet_in_front : (g : Graph) (s t q r : List ℕ) (a b : Sheet) → IsSheetText g false s a → IsSheetText g false t b → s ++ q ≡ t ++ r → s ≡ t
sheet_in_front g s t q r a b h k e =
    let x = sheet_lines h.edition g a in
    let y = sheet_lines k.edition g b in
    let lines : x ≡ y = same_in_front g [] (TitleDue false) x y q r h.right k.right (none_behind_sheet h.edition g a h.right)
    (none_behind_sheet k.edition g b k.right) (ap (λ (xs : List ℕ). xs ++ q) (sym h.spelled) ∙ e ∙ ap (λ (xs : List ℕ). xs ++ r) k.spelled) in
    h.spelled ∙ ap (λ (ls : List SheetLine). flat_map text_of_line ls) lines ∙ sym k.spelled

-- what one sheet at the front of a text says is true, and so it is with each
true_in_front : (g : Graph) (o : EdgeOrder) (s t q r : List ℕ) (a b : Sheet) → IsSheetText g false s a → IsSheetText g false t b → s ++ q ≡ t ++ r →
    IsTrueSheet g o a → IsLawfulSheet g o b × IsTrueSheet g o b
true_in_front g o s t q r a b h k e so =
    let read : IsSheetText g false t a = subst (λ (xs : List ℕ). IsSheetText g false xs a) (sheet_in_front g s t q r a b h k e) h in
    both_so g o b (subst (λ (x : Sheet). IsTrueSheet g o x) (one_sheet g false t a b read k) so)

-- ---- draw

pub drawn_so_only : (told : Told) (input : List ℕ) (grid : GridSize) (order : List Criterion) (g : Graph) (o : EdgeOrder) (said : Sheet) (status : Status)
    (text : List ℕ) → IsAnswered status → IsStationOf input (Some told) g o → IsSheetText g false text said →
    DrawIsSo input grid order (Some told) status text → IsLawfulSheet g o said × IsTrueSheet g o said
drawn_so_only told input grid order g o said Done text answered is read so =
    let P : Graph → EdgeOrder → Type 0 = λ h p. (e : Drawing) × IsBest h (is_above p) grid order e × IsTextOf h (sheet_saying grid order (Some e) endings.Best)
    text in
    let found : P g o = at_station P told input g o is so in
    true_in_front g o text text [] [] (sheet_saying grid order (Some found.0) endings.Best) said found.2.read read refl found.1
drawn_so_only told input grid order g o said NoDrawing text answered is read so =
    let P : Graph → EdgeOrder → Type 0 = λ h p. NoneLawful h p grid × IsTextOf h (sheet_saying grid order None endings.NoDrawing) text in
    let found : P g o = at_station P told input g o is so in
    true_in_front g o text text [] [] (sheet_saying grid order None endings.NoDrawing) said found.1.read read refl found.0
drawn_so_only told input grid order g o said Unfinished text answered is read so =
    let P : Graph → EdgeOrder → Type 0 = λ h p. (found : Option Drawing) × IsUnfinishedSheet h p grid order found text in
    let found : P g o = at_station P told input g o is so in
    true_in_front g o text text [] [] (sheet_saying grid order found.0 found.1.ending) said found.1.text_is.read read refl found.1.so
drawn_so_only told input grid order g o said Refused text answered is read so = absurd answered
drawn_so_only told input grid order g o said WordsRefused text answered is read so = absurd answered
drawn_so_only told input grid order g o said Unread text answered is read so = absurd answered
drawn_so_only told input grid order g o said Unwritten text answered is read so = absurd answered
drawn_so_only told input grid order g o said NoMemory text answered is read so = absurd answered
drawn_so_only told input grid order g o said Broken text answered is read so = absurd so

-- ---- signals

-- what holds of some station of a file and its signals holds of the file's station
at_signals : (R : Graph → EdgeOrder → List SignalElem → List SignalPlace → Type 0) (told : Told) (input : List ℕ) (g : Graph) (o : EdgeOrder) →
    IsStationOf input (Some told) g o → OfSignals (Some told) input R → (signals : List SignalElem) × (places : List SignalPlace) × R g o signals places
at_signals R told input g o is (h, p, signals, places, (bytes, also, has), holds) =
    at_station (λ x y. (ss : List SignalElem) × (ps : List SignalPlace) × R x y ss ps) told input g o is
    (h, p, (bytes, also, has.has_station), (signals, places, holds))

pub signals_so_only : (told : Told) (input : List ℕ) (grid : GridSize) (order : List Criterion) (g : Graph) (o : EdgeOrder) (said : Sheet) (status : Status)
    (sheet behind text : List ℕ) → IsAnswered status → IsStationOf input (Some told) g o → text ≡ sheet ++ behind → IsSheetText g false sheet said →
    SignalsAreSo input grid order (Some told) status text → IsLawfulSheet g o said × IsTrueSheet g o said
signals_so_only told input grid order g o said Done sheet behind text answered is cut read so =
    let R : Graph → EdgeOrder → List SignalElem → List SignalPlace → Type 0 = λ h p signals places. (d : Drawing)
    × IsBest h (is_above p) (grid_for places grid) order d × StandApart places (Some d) × (front : List ℕ)
    × IsTextOf h (sheet_saying (grid_for places grid) order (Some d) endings.Best) front × (text ≡ front ++ signals_text signals places d) in
    let found = at_signals R told input g o is so in
    let holds : R g o found.0 found.1 = found.2 in
    true_in_front g o holds.3 sheet (signals_text found.0 found.1 holds.0) behind
    (sheet_saying (grid_for found.1 grid) order (Some holds.0) endings.Best) said holds.4.read read (sym holds.5 ∙ cut) holds.1
signals_so_only told input grid order g o said NoDrawing sheet behind text answered is cut read so =
    let R : Graph → EdgeOrder → List SignalElem → List SignalPlace → Type 0 = λ h p signals places. NoneLawful h p (grid_for places grid)
    × IsTextOf h (sheet_saying (grid_for places grid) order None endings.NoDrawing) text in
    let found = at_signals R told input g o is so in
    let holds : R g o found.0 found.1 = found.2 in
    true_in_front g o text sheet [] behind (sheet_saying (grid_for found.1 grid) order None endings.NoDrawing) said holds.1.read read (append-nil text ∙ cut)
    holds.0
signals_so_only told input grid order g o said Unfinished sheet behind text answered is cut read so =
    let R : Graph → EdgeOrder → List SignalElem → List SignalPlace → Type 0 = λ h p signals places. (some : Option Drawing) × StandApart places some
    × (front : List ℕ) × IsUnfinishedSheet h p (grid_for places grid) order some front × (text ≡ front ++ signals_behind signals places some) in
    let found = at_signals R told input g o is so in
    let holds : R g o found.0 found.1 = found.2 in
    true_in_front g o holds.2 sheet (signals_behind found.0 found.1 holds.0) behind (sheet_saying (grid_for found.1 grid) order holds.0 holds.3.ending) said
    holds.3.text_is.read read (sym holds.4 ∙ cut) holds.3.so
signals_so_only told input grid order g o said Refused sheet behind text answered is cut read so = absurd answered
signals_so_only told input grid order g o said WordsRefused sheet behind text answered is cut read so = absurd answered
signals_so_only told input grid order g o said Unread sheet behind text answered is cut read so = absurd answered
signals_so_only told input grid order g o said Unwritten sheet behind text answered is cut read so = absurd answered
signals_so_only told input grid order g o said NoMemory sheet behind text answered is cut read so = absurd answered
signals_so_only told input grid order g o said Broken sheet behind text answered is cut read so = absurd so
