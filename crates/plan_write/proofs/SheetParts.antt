-- The parts of a sheet's text are the whole.
use Rattle.std.proofs.Common.{◌≡◌, ℕ, ◌+◌, List, [], ◌∷◌, ◌++◌, map, refl, sym, ◌∙◌, ap, append_assoc}
use Rattle.std.specs.Prelude.{flat_map}
use Rattle.std.specs.List.{range_with_len}
use Rattle.std.specs.declared.option.Option.{Option}
use Rattle.std.proofs.lemmas.Grind.{flat_map-append}
use Rattle.std.proofs.lemmas.List.{append-nil}
use Rattle.plan_core.specs.declared.criterion.Criterion.{Criterion}
use Rattle.plan_core.specs.Grid.{GridSize}
use Rattle.plan_core.specs.Graph.{Graph}
use Rattle.plan_core.specs.Drawing.{Drawing}
use Rattle.plan_write.specs.declared.edition.Edition.TheVariants.{Second}
use Rattle.plan_write.specs.declared.ending.Ending.{Ending}
use Rattle.plan_write.specs.SheetLine.{SheetLine, Title, GridLine, OrderLine, EndLine, text_of_line}
use Rattle.plan_write.specs.SheetText.{Sheet, found_lines, sheet_text}
use Rattle.outside_io.proofs.LineLemmas.{line_more}

abbrev texts : List SheetLine → List ℕ
texts lines = flat_map text_of_line lines

-- ---- one more line of a numbered list

texts_numbered : (line : ℕ → SheetLine) (numbers : List ℕ) → texts (map line numbers) ≡ flat_map (λ (n : ℕ). text_of_line (line n)) numbers
texts_numbered line [] = refl
texts_numbered line (n ∷ numbers) = ap (λ (t : List ℕ). text_of_line (line n) ++ t) (texts_numbered line numbers)

pub text_more : (line : ℕ → SheetLine) (old into new : List ℕ) (n : ℕ) → into ≡ old ++ texts (map line (range_with_len 0 n)) →
    new ≡ into ++ text_of_line (line n) → new ≡ old ++ texts (map line (range_with_len 0 (n + 1)))
text_more line old into new n so_far now =
    line_more (λ (k : ℕ). text_of_line (line k)) old into new n (so_far ∙ ap (λ (t : List ℕ). old ++ t) (texts_numbered line (range_with_len 0 n))) now
    ∙ ap (λ (t : List ℕ). old ++ t) (sym (texts_numbered line (range_with_len 0 (n + 1))))

-- ---- parts one after another

pub parts_appended : (a b c : List SheetLine) (old one two three : List ℕ) → one ≡ old ++ texts a → two ≡ one ++ texts b → three ≡ two ++ texts c →
    three ≡ old ++ texts (a ++ (b ++ c))
parts_appended a b c old one two three e f g =
    g
    ∙ ap (λ (t : List ℕ). t ++ texts c) (f ∙ ap (λ (t : List ℕ). t ++ texts b) e ∙ append_assoc old (texts a) (texts b))
    ∙ append_assoc old (texts a ++ texts b) (texts c)
    ∙ ap (λ (t : List ℕ). old ++ t) (
    append_assoc (texts a) (texts b) (texts c)
    ∙ ap (λ (t : List ℕ). texts a ++ t) (sym (flat_map-append text_of_line b c))
    ∙ sym (flat_map-append text_of_line a (b ++ c)))

-- where the first two parts are one list
-- two parts
pub both_appended : (a b : List SheetLine) (old one two : List ℕ) → one ≡ old ++ texts a → two ≡ one ++ texts b → two ≡ old ++ texts (a ++ b)
both_appended a b old one two e f =
    f ∙ ap (λ (t : List ℕ). t ++ texts b) e ∙ append_assoc old (texts a) (texts b) ∙ ap (λ (t : List ℕ). old ++ t) (sym (flat_map-append text_of_line a b))

-- a line is a part
pub line_appended : (line : SheetLine) (into new : List ℕ) → new ≡ into ++ text_of_line line → new ≡ into ++ texts (line ∷ [])
line_appended line into new e = e ∙ ap (λ (t : List ℕ). into ++ t) (sym (append-nil (text_of_line line)))

abbrev sheet_of : GridSize → List Criterion → Option Drawing → Ending → Sheet
sheet_of grid order found ending = record { grid = grid; order = order; found = found; ending = ending }

pub sheet_appended : (g : Graph) (s : Sheet) (grid : GridSize) (order : List Criterion) (found : Option Drawing) (ending : Ending)
    (old one two three four five : List ℕ) →
    sheet_of grid order found ending ≡ s → one ≡ old ++ text_of_line (Title Second) → two ≡ one ++ text_of_line (GridLine Second grid) →
    three ≡ two ++ text_of_line (OrderLine order) → four ≡ three ++ texts (found_lines Second g s.found) → five ≡ four ++ text_of_line (EndLine ending) →
    five ≡ old ++ sheet_text g s
sheet_appended g s grid order found ending old one two three four five is a b c d e =
    let head : List SheetLine = Title Second ∷ GridLine Second grid ∷ OrderLine order ∷ [] in
    let begun : three ≡ old ++ texts head = parts_appended (Title Second ∷ []) (GridLine Second grid ∷ []) (OrderLine order ∷ []) old one two three
    (line_appended (Title Second) old one a) (line_appended (GridLine Second grid) one two b) (line_appended (OrderLine order) two three c) in
    parts_appended head (found_lines Second g s.found) (EndLine ending ∷ []) old three four five begun d (line_appended (EndLine ending) four five e)
    ∙ ap (λ (t : Sheet). old ++ texts (Title Second ∷ GridLine Second t.grid ∷ OrderLine t.order ∷ (found_lines Second g s.found ++ EndLine t.ending ∷ []))) is
