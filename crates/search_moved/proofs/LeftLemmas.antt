-- What a log tells after an error.
use Rattle.std.proofs.Common.{◌≡◌, ◌≤◌, ℕ, [], ◌∷◌, ◌++◌, map, refl, sym, ◌∙◌, ap, subst, arith, append-nil}
use Rattle.cnf_core.specs.Formula.{Cnf}
use Rattle.refute_log.specs.declared.line.LogLine.TheVariants.{Formula}
use Rattle.refute_log.specs.Told.{Lines}
use Rattle.refute_log.specs.Log.{clause_lines}
use Rattle.refute_log.specs.Steps.{ToldBehind, GoesOn, Leaves}
use Rattle.refute_log.proofs.LogLemmas.{derives_none}
use Rattle.refute_log.proofs.StepLemmas.{leaves_same, leaves_then, counted_within, few_within, few_left}
use Rattle.drawing_cnf.specs.Encoding.{Encoding}
use Rattle.drawing_cnf.specs.Whole.{IsWhole}
use Rattle.drawing_cnf.specs.Layout.{Layout, layout_of}
use Rattle.drawing_cnf.specs.Moved.{Former}
use Rattle.cdcl_core.specs.Kept.{Kept, blank}
use Rattle.cdcl_core.specs.Belongs.{Belongs}
use Rattle.cdcl_core.proofs.ViewLemmas.{new_belongs}
use Rattle.search_moved.specs.Known.{formula_of, KnowsMoved}
use Rattle.search_moved.specs.Told.{IsCounting, IsMovedLeft}
use Rattle.search_moved.proofs.StartLemmas.{both_are}

-- an error behind what is known that tells nothing
pub known_left : (y : Layout) (former : Former) (budget room : ℕ) (k : Kept) (log : Lines → Type 0) → ((a b : Lines) → log a → log b → a ≡ b) →
    Leaves budget [] (KnowsMoved y former budget room k) log log
known_left y former budget room k log one = leaves_same (KnowsMoved y former budget room k) log (λ lines h. h.belongs.derives) one

-- an error behind a question
pub later_left : (y : Layout) (former : Former) (budget room : ℕ) (old new : Kept) (l0 l1 l2 : Lines → Type 0) (n0 n1 : ℕ) (R : Lines → Lines → Type 0) →
    GoesOn (KnowsMoved y former budget room old) (KnowsMoved y former budget room new) l0 l1 n0 n1 R →
    Leaves budget [] (KnowsMoved y former budget room new) l1 l2 →
    Leaves budget [] (KnowsMoved y former budget room old) l0 l2
later_left y former budget room old new l0 l1 l2 n0 n1 R goes h =
    leaves_then (KnowsMoved y former budget room old) (KnowsMoved y former budget room new) l0 l1 l2 n0 n1 R [] [] goes
    (λ lines more ka kb r. kb.told_are ∙ sym ka.told_are ∙ sym (append-nil (clause_lines lines)))
    (λ lines more ka kb r. few_within budget lines (lines ++ more) (subst (λ n. n ≤ budget) kb.learnt_are kb.spent)) h

-- ---- the whole search

-- nothing was told
pub left_none : (y : Layout) (former : Former) (budget : ℕ) (log : Lines → Type 0) → ((a b : Lines) → log a → log b → a ≡ b) → log [] →
    (lines : Lines) → log lines →
    IsMovedLeft y former budget lines
left_none y former budget log one none lines is = subst (IsMovedLeft y former budget) (one [] lines none is) (record {
  derives = derives_none;
  begins = (map Formula (formula_of y former), refl);
  within = counted_within budget [] (omega arith);
})

-- an error in the formula's clauses
pub left_begun : (e : Encoding) (former : Former) (budget room : ℕ) (a f : Cnf) (old : Kept) (l0 l1 : Lines → Type 0) → IsWhole e →
    e.bounds ≡ [] → a ≡ e.formula →
    IsCounting (layout_of e) former room f → old ≡ blank room →
    Leaves 0 (map Formula (a.clauses ++ f.clauses)) (λ ls. Belongs ls old) l0 l1 → l0 [] → (lines : Lines) → l1 lines →
    IsMovedLeft (layout_of e) former budget lines
left_begun e former budget room a f old l0 l1 whole none is counting blank_is h nil lines told =
    let left = h [] (new_belongs old room blank_is) nil lines told in
    record {
      derives = left.derives;
      begins = (
        left.begins.0,
        ap (map Formula) (sym (both_are e former room a f whole none is counting)) ∙ left.begins.1
            ∙ ap (λ (ls : Lines). ls ++ left.begins.0) (sym left.gives),
      );
      within = few_left 0 budget [] lines (omega arith) (omega arith) left.few;
    }

-- an error behind them
pub left_later : (e : Encoding) (former : Former) (budget room : ℕ) (a f : Cnf) (old mid : Kept) (l0 l1 l2 : Lines → Type 0) (n0 n1 : ℕ) → IsWhole e →
    e.bounds ≡ [] → a ≡ e.formula → IsCounting (layout_of e) former room f → old ≡ blank room →
    GoesOn (λ ls. Belongs ls old) (λ ls. Belongs ls mid) l0 l1 n0 n1 (λ lines more. more ≡ map Formula (a.clauses ++ f.clauses)) →
    KnowsMoved (layout_of e) former budget room mid (map Formula (formula_of (layout_of e) former)) →
    Leaves budget [] (KnowsMoved (layout_of e) former budget room mid) l1 l2 → l0 [] → (lines : Lines) → l2 lines →
    IsMovedLeft (layout_of e) former budget lines
left_later e former budget room a f old mid l0 l1 l2 n0 n1 whole none is counting blank_is goes knows h nil lines told =
    let start : Lines = map Formula (formula_of (layout_of e) former) in
    let run : ToldBehind (λ ls. Belongs ls mid) l0 l1 n0 n1 [] (λ more. more ≡ map Formula (a.clauses ++ f.clauses)) = goes []
    (new_belongs old room blank_is) in
    let began : l1 start = subst l1 (run.does ∙ ap (map Formula) (both_are e former room a f whole none is counting)) (run.told [] nil) in
    let left = h start knows began lines told in
    let nothing : left.front ≡ [] = nothing_begins left.front left.begins.0 left.begins.1 in
    record {
      derives = left.derives;
      begins = (
        [],
        sym knows.told_are ∙ sym (append-nil (clause_lines start)) ∙ ap (λ (ls : Lines). clause_lines start ++ ls) (sym nothing) ∙ sym left.gives
            ∙ sym (append-nil (clause_lines lines)),
      );
      within = few_left budget budget start lines (omega arith) (subst (λ n. n ≤ budget) knows.learnt_are knows.spent) left.few;
    }
  where
    nothing_begins : (front rest : Lines) → [] ≡ front ++ rest → front ≡ []
    nothing_begins [] rest e = refl
    nothing_begins (l ∷ front) rest e = absurd (cc)
