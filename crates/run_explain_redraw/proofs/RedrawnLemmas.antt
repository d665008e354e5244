-- What redraw answers once the three files were read, and what it leaves.
use Rattle.std.proofs.Common.{◌≡◌, ◌≢◌, ◌⊎◌, ℕ, List, [], ◌∷◌, map, append-nil, None, Some, refl, sym, ◌∙◌, ap, subst, inl, inr, arith}
use Rattle.std.specs.Prelude.{Result, Ok, Err, IfOk, IfSome}
use Rattle.std.specs.declared.option.Option.{Option}
use Rattle.outside_io.specs.Contents.{FilesAt, WhereTold, SameFiles}
use Rattle.plan_core.specs.Graph.{Graph}
use Rattle.plan_core.specs.Lawful.{HasSizeOf}
use Rattle.track_order.specs.Order.{EdgeOrder}
use Rattle.refute_log.specs.Told.{Lines}
use Rattle.refute_log.specs.declared.line.LogLine.TheVariants.{Formula}
use Rattle.refute_log.specs.Log.{clause_lines}
use Rattle.refute_log.specs.FileLog.{BeginsLog}
use Rattle.refute_log.proofs.LogLemmas.{derives_none}
use Rattle.refute_log.proofs.StepLemmas.{counted_within}
use Rattle.drawing_cnf.specs.Layout.{Layout}
use Rattle.drawing_cnf.specs.Moved.{Former}
use Rattle.search_least.specs.declared.fewest.Fewest.{Fewest}
use Rattle.search_least.specs.declared.fewest.Fewest.TheVariants.{Best, NoDrawing, Spent, Room}
use Rattle.search_least.specs.Fewest.{IsRightFewest}
use Rattle.search_moved.specs.Known.{formula_of}
use Rattle.search_moved.specs.Told.{IsMovedEnd, IsMovedLeft}
use Rattle.run_input.specs.declared.status.Status.{Status}
use Rattle.run_input.specs.declared.status.Status.TheVariants as statuses
use Rattle.run_input.specs.Met.{Met, between, HasRead, IsUnwritten, LeftSo}
use Rattle.run_input.specs.Answer.{text_input}
use Rattle.run_input.specs.ThreeFiles.{IsAnswerToThree}
use Rattle.run_input.specs.SearchLog.{HasToldEnd, TellsIfNew, IsRunLog}
use Rattle.run_input.proofs.DerivesLemmas.{tells_weaker}
use Rattle.run_input.proofs.ThreeFilesLemmas.{three_weaker, read_three}
use Rattle.run_input.specs.Written.{file_named}
use Rattle.run_input.proofs.FiledLemmas.{log_later}
use Rattle.run_input.proofs.LeavesLemmas.{NamedMay, leaves_weaker, leaves_later}
use Rattle.run_explain_redraw.specs.MovedText.{fewest_found, moved_text}
use Rattle.run_explain_redraw.specs.Redrawn.{RedrawJob, moved_in, status_of_moved, HasEndedMoved, IsLeftOfRedraw, HasSearchedMoved, IsRedrawn}
use Rattle.run_explain_redraw.specs.Judged.{AreJudged, HaveFault}
use Rattle.run_explain_redraw.specs.Answer.{IsRedrawAnswer, HaveFormerIn, HasReadFormer, IsLeftByRedraw, RedrawMayTell}
use Rattle.run_explain_redraw.proofs.JudgedLemmas.{judged_weaker}

-- ---- the search

-- what a search told that came to its end
pub searched_moved : {E : Type 0} (g : Graph) (o : EdgeOrder) (asked : RedrawJob) (former : Former) (IsTold : Lines → Type 0) (r : Result Fewest E) →
    IfOk r (λ outcome. HasToldEnd (HasEndedMoved g o asked former outcome) IsTold) → IfOk r (HasSearchedMoved g o asked former IsTold)
searched_moved g o asked former IsTold (Ok outcome) s = record { right = s.ended.0; lines = s.lines; told = s.told; ended = s.ended.1 }
searched_moved g o asked former IsTold (Err e) s = tt

-- the drawing that was found has a point for each node and a line for each edge
pub fewest_size : (g : Graph) (o : EdgeOrder) (asked : RedrawJob) (former : Former) (outcome : Fewest) → IsRightFewest (moved_in g o asked former) outcome →
    IfSome (fewest_found outcome) (HasSizeOf g)
fewest_size g o asked former (Best d) right = right.0.fits.size
fewest_size g o asked former NoDrawing right = tt
fewest_size g o asked former (Spent None) right = tt
fewest_size g o asked former (Spent (Some d)) right = right.fits.size
fewest_size g o asked former (Room None) right = tt
fewest_size g o asked former (Room (Some d)) right = right.fits.size

-- a search and the text of its outcome are an answer
pub redrawn : (asked inside : RedrawJob) (IsTold : Lines → Type 0) (g : Graph) (o : EdgeOrder) (points former : Former) (outcome : Fewest) (status : Status)
    (text : List ℕ) → inside ≡ asked → former ≡ points →
    HasSearchedMoved g o asked points IsTold outcome → status ≡ status_of_moved outcome → text ≡ moved_text g inside.grid former outcome →
    IsRedrawn g o asked points IsTold status text
redrawn asked inside IsTold g o points former outcome status text is same searched status_is spelled = record {
  outcome = outcome;
  searched = searched;
  status_is = status_is;
  spelled = spelled ∙ ap (λ (f : Former). moved_text g inside.grid f outcome) same ∙ ap (λ (j : RedrawJob). moved_text g j.grid points outcome) is;
}

-- ---- after the reads

redrawn_later : (asked : RedrawJob) (old mid new : FilesAt) (traced : Lines → Type 0) (g : Graph) (o : EdgeOrder) (former : Former) (status : Status)
    (text : List ℕ) → WhereTold old.contents mid.contents SameFiles →
    IsRedrawn g o asked former (IsRunLog asked.log (between mid new) traced) status text →
    IsRedrawn g o asked former (IsRunLog asked.log (between old new) traced) status text
redrawn_later asked old mid new traced g o former status text same r =
    let s = r.searched in
    record {
      outcome = r.outcome;
      searched = record { right = s.right; lines = s.lines; told = log_later asked.log old mid new traced s.lines same s.told; ended = s.ended };
      status_is = r.status_is;
      spelled = r.spelled;
    }

-- the three files were read, had this station and these former points, and that was answered so
pub redrawn_on : (input former sheet : List ℕ) (asked : RedrawJob) (old mid new : FilesAt) (traced : Lines → Type 0) (g : Graph) (o : EdgeOrder)
    (points : Former) (status : Status) (text : List ℕ) →
    HaveFormerIn input former sheet old.contents g o points → WhereTold old.contents mid.contents SameFiles → HasRead (between old new) 3 →
    IsRedrawn g o asked points (IsRunLog asked.log (between mid new) traced) status text →
    IsRedrawAnswer input former sheet asked (between old new) traced status text
redrawn_on input former sheet asked old mid new traced g o points status text in_files same read answer =
    let have = in_files.have in
    let Redrawn : Graph → EdgeOrder → Former → Status → List ℕ → Type 0 = λ g o points. IsRedrawn g o asked points
    (IsRunLog asked.log (between old new) traced) in
    read_three input former (text_input 3 sheet) (between old new) (AreJudged Redrawn) in_files.bytes in_files.old in_files.said status text in_files.inputs
    read (inl (
      g,
      o,
      have.has_station,
      inl (
        have.old_graph,
        have.old_order,
        have.old_station,
        inl
            (points, have.gives, redrawn_later asked old mid new traced g o points status text same answer),
      ),
    ))

-- a fault is answered whatever is asked
pub rejected_on : (input former sheet : List ℕ) (asked : RedrawJob) (met : Met) (traced : Lines → Type 0) (status : Status) (text : List ℕ) →
    IsAnswerToThree input former (text_input 3 sheet) met HaveFault status text → IsRedrawAnswer input former sheet asked met traced status text
rejected_on input former sheet asked met traced status text =
    let None : Graph → EdgeOrder → Former → Status → List ℕ → Type 0 = λ g o points status text. ⊥ in
    let Redrawn : Graph → EdgeOrder → Former → Status → List ℕ → Type 0 = λ g o points. IsRedrawn g o asked points (IsRunLog asked.log met traced) in
    three_weaker input former (text_input 3 sheet) met (AreJudged None) (AreJudged Redrawn) status text
    (λ bytes old said. judged_weaker None Redrawn bytes old said status text (λ g o points none. absurd none))

-- ---- what is left, and what isn't written nor told

pub redraw_leaves : (input former sheet : List ℕ) (asked : RedrawJob) (old mid new : FilesAt) (Refused : Type 0) →
    HasReadFormer input former sheet (between old new) → WhereTold old.contents mid.contents SameFiles → (Refused → ⊥) →
    WhereTold mid.contents new.contents (LeftSo (NamedMay asked.log BeginsLog)) →
    WhereTold old.contents new.contents (LeftSo (λ file bytes. (Refused → ⊥) × IsLeftByRedraw input former sheet asked (between old new) file bytes))
redraw_leaves input former sheet asked old mid new Refused found same answered leaves =
    let May : (file bytes : List ℕ) → Type 0 = λ file bytes. (Refused → ⊥) × IsLeftByRedraw input former sheet asked (between old new) file bytes in
    leaves_later May old.contents mid.contents new.contents same
    (leaves_weaker (NamedMay asked.log BeginsLog) May mid.contents new.contents (λ file bytes may. (answered, (found, may.0, may.1))) leaves)

pub redraw_unwritten : (log : Option (List ℕ)) (input former sheet : List ℕ) (old mid new : FilesAt) (Refused : Type 0) →
    HasReadFormer input former sheet (between old new) → (Refused → ⊥) → IsUnwritten (between old mid) →
    (log ≡ None → IsUnwritten (between mid new)) → Refused ⊎ ((file_named log ≢ []) × HasReadFormer input former sheet (between old new) → ⊥) →
    IsUnwritten (between old new)
redraw_unwritten log input former sheet old mid new Refused found answered before after (inl refused) = absurd (answered refused)
redraw_unwritten None input former sheet old mid new Refused found answered before after (inr none) = after refl ∙ before
redraw_unwritten (Some file) input former sheet old mid new Refused found answered before after (inr none) = absurd
    (none ((λ e. let no : file ∷ [] ≡ [] = e in absurd (cc)), found))

pub redraw_untold : {T : Type 0} (log : Option (List ℕ)) (input former sheet : List ℕ) (old new : FilesAt) (Refused : Type 0) (before after : T) →
    HasReadFormer input former sheet (between old new) → (Refused → ⊥) →
    (log ≢ None → after ≡ before) → Refused ⊎ ((log ≡ None) × HasReadFormer input former sheet (between old new) → ⊥) → after ≡ before
redraw_untold log input former sheet old new Refused before after found answered same (inl refused) = absurd (answered refused)
redraw_untold None input former sheet old new Refused before after found answered same (inr none) = absurd (none (refl, found))
redraw_untold (Some file) input former sheet old new Refused before after found answered same (inr none) = same
    (λ e. let no : Some file ≡ None = e in absurd (cc))

-- ---- what it tells

-- the lines of a search that came to its end begin what is expected
pub moved_left : (y : Layout) (former : Former) (budget room : ℕ) (o : Fewest) (lines : Lines) → IsMovedEnd y former budget room o lines →
    IsMovedLeft y former budget lines
moved_left y former budget room o lines (inl log) = record {
  derives = log.derives;
  begins = ([], sym log.told ∙ sym (append-nil (clause_lines lines)));
  within = counted_within budget lines log.within;
}
moved_left y former budget room o lines (inr none) =
    subst (IsMovedLeft y former budget) (sym none.1) (record {
      derives = derives_none;
      begins = (map Formula (formula_of y former), refl);
      within = counted_within budget [] (omega arith);
    })

-- lines of the search for what was read are such of redraw
pub redraw_tells : (input former sheet : List ℕ) (asked : RedrawJob) (met : Met) (found : HasReadFormer input former sheet met) (old new : Lines → Type 0) →
    TellsIfNew (IsLeftOfRedraw asked found.graph found.order found.points) old new → TellsIfNew (RedrawMayTell input former sheet asked met) old new
redraw_tells input former sheet asked met found old new =
    tells_weaker (IsLeftOfRedraw asked found.graph found.order found.points) (RedrawMayTell input former sheet asked met) old new
    (λ lines left. inr (found, left))
