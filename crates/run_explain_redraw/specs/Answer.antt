-- What redraw answers to the files of three names, what it leaves and what it tells.
use Rattle.std.specs.Prelude.{◌≡◌, ◌⊎◌, ℕ, List, [], Some}
use Rattle.std.specs.declared.option.Option.{Option}
use Rattle.outside_io.specs.Contents.{Told}
use Rattle.plan_core.specs.Graph.{Graph}
use Rattle.track_order.specs.Order.{EdgeOrder}
use Rattle.drawing_cnf.specs.Moved.{Former}
use Rattle.refute_log.specs.Told.{Lines}
use Rattle.refute_log.specs.FileLog.{BeginsLog}
use Rattle.run_input.specs.declared.status.Status.{Status}
use Rattle.run_input.specs.Met.{Met, HasRead}
use Rattle.run_input.specs.Answer.{text_input}
use Rattle.run_input.specs.ThreeFiles.{IsAnswerToThree, AreThreeFiles}
use Rattle.run_input.specs.SearchLog.{IsRunLog}
use Rattle.run_explain_redraw.specs.Redrawn.{RedrawJob, IsRedrawn, IsLeftOfRedraw}
use Rattle.run_explain_redraw.specs.Judged.{AreJudged, HaveFormer}

-- what redraw answers, with what the run met and what the trace was told
abbrev pub IsRedrawAnswer : (input former sheet : List ℕ) → RedrawJob → Met → (traced : Lines → Type 0) → Status →
    List ℕ → Type 0
IsRedrawAnswer input former sheet asked met traced status text =
    IsAnswerToThree input former (text_input 3 sheet) met
    (AreJudged (λ g o points. IsRedrawn g o asked points (IsRunLog asked.log met traced))) status text

-- the three files have this station and these former points
pub record HaveFormerIn (input former sheet : List ℕ) (contents : Option Told) (g : Graph) (o : EdgeOrder)
    (points : Former) : Type 0 where
  pub bytes : List ℕ
  pub old : List ℕ
  pub said : List ℕ
  pub inputs : AreThreeFiles input former (text_input 3 sheet) contents bytes old said
  pub have : HaveFormer bytes old said g o points

-- the three files were read, and no other, and have such: there is something to search
pub record HasReadFormer (input former sheet : List ℕ) (met : Met) : Type 0 where
  pub read : HasRead met 3
  pub graph : Graph
  pub order : EdgeOrder
  pub points : Former
  pub have : HaveFormerIn input former sheet met.before.contents graph order points

-- the bytes with which redraw may leave the file of this name: there was something to search, and where this file is
-- named for the log they begin the text of some log
abbrev pub IsLeftByRedraw : (input former sheet : List ℕ) → RedrawJob → Met → (name bytes : List ℕ) → Type 0
IsLeftByRedraw input former sheet asked met name bytes =
    HasReadFormer input former sheet met × (asked.log ≡ Some name) × BeginsLog bytes

-- what redraw may tell a log that had no line: nothing, or lines of the search that there was
abbrev pub RedrawMayTell : (input former sheet : List ℕ) → RedrawJob → Met → Lines → Type 0
RedrawMayTell input former sheet asked met lines = (lines ≡ [])
    ⊎ ((found : HasReadFormer input former sheet met) × IsLeftOfRedraw asked found.graph found.order found.points lines)
