-- Which fault a line has that is of its form.
use Rattle.std.proofs.Common.{◌≡◌, ◌≢◌, ℕ, Bool, true, List, ◌++◌, get_or, sym, ◌∙◌, ap, subst, arith}
use Rattle.std.specs.Prelude.{◌&&◌, codes}
use Rattle.std.proofs.Math.Dec.{eqb}
use Rattle.std.proofs.lemmas.Bool.{eq-eqb, and_from}
use Rattle.plan_core.specs.declared.criterion.Criterion.{Criterion}
use Rattle.plan_core.specs.declared.criterion.Values.{Values}
use Rattle.plan_core.specs.Graph.{Graph}
use Rattle.plan_write.specs.declared.edition.Edition.TheVariants.{First, Second}
use Rattle.plan_write.specs.declared.ending.Ending.{Ending}
use Rattle.plan_write.specs.declared.ending.Ending.TheVariants.{Best, NoDrawing, Conflicts, Room}
use Rattle.plan_text.specs.declared.sheet_fault.SheetWhat.{SheetWhat}
use Rattle.plan_text.specs.declared.sheet_fault.SheetWhat.TheVariants as whats
use Rattle.plan_write.specs.SheetLine.{SheetLine, Title, EndLine, text_of_line, HasForm, IsSmallEnding, MayEnd}
use Rattle.plan_write.specs.SheetText.{StatesSettled}
use Rattle.plan_text.specs.SheetFaults.{LineDue, TitleDue, EndDue, IsDue, BeginsWithLine, IsInRange, IsOfGraph, HasWrongLine, order_told}
use Rattle.plan_text.specs.SheetReading.{IsEndFault}

pub begins : (due : LineDue) (text rest : List ℕ) (line : SheetLine) → IsDue due line → HasForm line → text ≡ text_of_line line ++ rest →
    BeginsWithLine due text line
begins due text rest line is form e = record { is_due = is; form = form; behind = rest; spelled = e }

pub out_of_range : (g : Graph) (before : List SheetLine) (due : LineDue) (text rest : List ℕ) (line : SheetLine) → IsDue due line → HasForm line →
    text ≡ text_of_line line ++ rest → (IsInRange before due line → ⊥) → HasWrongLine g before due text whats.Range
out_of_range g before due text rest line is form e out = (line, begins due text rest line is form e, out)

pub not_of_graph : (g : Graph) (before : List SheetLine) (due : LineDue) (text rest : List ℕ) (line : SheetLine) → IsDue due line → HasForm line →
    text ≡ text_of_line line ++ rest → (IsOfGraph g due line → ⊥) → HasWrongLine g before due text whats.Graph
not_of_graph g before due text rest line is form e not = (line, begins due text rest line is form e, not)

-- ---- the title

pub no_title : (text : List ℕ) → ((rest : List ℕ) → text ≢ codes "railplan 1\n" ++ rest) → ((rest : List ℕ) → text ≢ codes "railplan 2\n" ++ rest) →
    (needs_drawing : Bool) (line : SheetLine) → BeginsWithLine (TitleDue needs_drawing) text line → ⊥
no_title text first second needs_drawing (Title First) b = first b.behind b.spelled
no_title text first second needs_drawing (Title Second) b = second b.behind b.spelled
no_title text first second needs_drawing line b = b.is_due

-- ---- the ending

-- a text that says that there is no drawing doesn't say that there is one
only_none : (text rest other : List ℕ) (e : Ending) → text ≡ text_of_line (EndLine NoDrawing) ++ rest → text ≡ text_of_line (EndLine e) ++ other →
    MayEnd true e → ⊥
only_none text rest other Best a b may = fifth (sym a ∙ b)
  where
    fifth : text_of_line (EndLine NoDrawing) ++ rest ≡ text_of_line (EndLine Best) ++ other → ⊥
    fifth e = let z : 110 ≡ 98 = ap (λ (t : List ℕ). get_or t 4 0) e in absurd (omega (arith, z))
only_none text rest other NoDrawing a b may = may
only_none text rest other (Conflicts n) a b may = fifth (sym a ∙ b)
  where
    fifth : text_of_line (EndLine NoDrawing) ++ rest ≡ text_of_line (EndLine (Conflicts n)) ++ other → ⊥
    fifth e = let z : 110 ≡ 99 = ap (λ (t : List ℕ). get_or t 4 0) e in absurd (omega (arith, z))
only_none text rest other (Room n) a b may = fifth (sym a ∙ b)
  where
    fifth : text_of_line (EndLine NoDrawing) ++ rest ≡ text_of_line (EndLine (Room n)) ++ other → ⊥
    fifth e = let z : 110 ≡ 114 = ap (λ (t : List ℕ). get_or t 4 0) e in absurd (omega (arith, z))

no_line : (text rest : List ℕ) (line : SheetLine) → text ≡ text_of_line (EndLine NoDrawing) ++ rest → BeginsWithLine EndDue text line → ⊥
no_line text rest (EndLine e) a b = only_none text rest b.behind e a b.spelled b.is_due
no_line text rest line a b = b.is_due

pub end_fault : (g : Graph) (before : List SheetLine) (text rest : List ℕ) (order : List Criterion) (e : Ending) (what : SheetWhat) → IsSmallEnding e →
    text ≡ text_of_line (EndLine e) ++ rest → IsEndFault order true e what → order_told before ≡ order → HasWrongLine g before EndDue text what
end_fault g before text rest order NoDrawing whats.Form small is h told = λ line b. no_line text rest line is b
end_fault g before text rest order Best whats.Form small is h told = absurd (h tt)
end_fault g before text rest order (Conflicts n) whats.Form small is h told = absurd (h tt)
end_fault g before text rest order (Room n) whats.Form small is h told = absurd (h tt)
end_fault g before text rest order e whats.Range small is h told = (
  EndLine e,
  begins EndDue text rest (EndLine e) h.0 small is,
  λ s. h.1
      (subst (λ (o : List Criterion). StatesSettled o true e) told s),
)
end_fault g before text rest order e what small is h told = absurd h

-- ---- the values

pub same_values : (a b : Values) → a ≡ b → (eqb a.height b.height && (eqb a.bends b.bends && (eqb a.diagonal b.diagonal && eqb a.width b.width))) ≡ true
same_values a b e =
    and_from _ _ (eq-eqb a.height b.height (ap (λ (v : Values). v.height) e)) (
    and_from _ _ (eq-eqb a.bends b.bends (ap (λ (v : Values). v.bends) e)) (
    and_from _ _ (eq-eqb a.diagonal b.diagonal (ap (λ (v : Values). v.diagonal) e))
    (eq-eqb a.width b.width (ap (λ (v : Values). v.width) e))))
