-- What redraw answers to the bytes of its three files: the first of their faults, those of the file before those of the
-- former file and of the sheet, or what it answers to the station and the former points.
use Rattle.std.specs.Prelude.{◌≡◌, ◌⊎◌, ℕ, List, ◌++◌, true, codes}
use Rattle.plan_core.specs.Grid.{GridSize}
use Rattle.plan_core.specs.Graph.{Graph}
use Rattle.plan_core.specs.Drawing.{Drawing}
use Rattle.track_order.specs.Order.{EdgeOrder}
use Rattle.plan_text.specs.SheetFaults.{IsDrawingOf}
use Rattle.drawing_cnf.specs.Moved.{Former}
use Rattle.run_input.specs.declared.fault.RunFault.{RunFault}
use Rattle.run_input.specs.declared.status.Status.{Status}
use Rattle.run_input.specs.Fault.{fault_line, fault_status}
use Rattle.run_input.specs.Input.{HasStation, HasFileFault}
use Rattle.run_input.specs.Answer.{IsFileJudged, IsSheetRefused}
use Rattle.run_explain_redraw.specs.FormerPoints.{AreFormer}

-- the former file's bytes have a fault, and this is its line, behind a word that tells which file it is of
pub record IsFormerRefused (old : List ℕ) (status : Status) (text : List ℕ) : Type 0 where
  pub fault : RunFault
  pub has : HasFileFault old fault
  pub status_is : status ≡ fault_status fault
  pub line_is : text ≡ codes "old " ++ fault_line fault

-- the sheet's text is that of a drawing of the former graph, lawful or not, which gives these former points
pub record GivesFormer (g old : Graph) (sheet : List ℕ) (former : Former) : Type 0 where
  pub grid : GridSize
  pub drawn : Drawing
  pub has : IsDrawingOf old sheet grid drawn
  pub are_former : AreFormer g old drawn former

-- it gives former points and these are answered so, or it has a fault; a drawing is due
abbrev pub IsFormerSheetJudged : (Former → Status → List ℕ → Type 0) → (g old : Graph) → (sheet : List ℕ) →
    Status → List ℕ → Type 0
IsFormerSheetJudged Answers g old sheet status text =
    ((former : Former) × GivesFormer g old sheet former × Answers former status text)
    ⊎ IsSheetRefused old true sheet status text

-- the former file has a station, and the sheet is judged by its graph, or it has a fault
abbrev pub IsFormerJudged : (Former → Status → List ℕ → Type 0) → Graph → (old sheet : List ℕ) → Status → List ℕ →
    Type 0
IsFormerJudged Answers g old sheet status text =
    ((h : Graph) × (q : EdgeOrder) × HasStation old h q × IsFormerSheetJudged Answers g h sheet status text)
    ⊎ IsFormerRefused old status text

-- the file, the former file and the sheet are judged in this order, and the station and the former points are answered
-- so
abbrev pub AreJudged : (Graph → EdgeOrder → Former → Status → List ℕ → Type 0) → (bytes old sheet : List ℕ) → Status →
    List ℕ → Type 0
AreJudged Answers bytes old sheet status text =
    IsFileJudged (λ g o. IsFormerJudged (Answers g o) g old sheet) bytes status text

-- the three have this station and these former points
pub record HaveFormer (bytes old sheet : List ℕ) (g : Graph) (o : EdgeOrder) (former : Former) : Type 0 where
  pub has_station : HasStation bytes g o
  pub old_graph : Graph
  pub old_order : EdgeOrder
  pub old_station : HasStation old old_graph old_order
  pub gives : GivesFormer g old_graph sheet former

-- one of the three has a fault, and this is what is answered, whatever would be to a station and former points
abbrev pub HaveFault : (bytes old sheet : List ℕ) → Status → List ℕ → Type 0
HaveFault bytes old sheet status text = AreJudged (λ g o former status text. ⊥) bytes old sheet status text
