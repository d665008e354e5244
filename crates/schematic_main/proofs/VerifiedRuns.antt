-- A whole run of verify ends with 0 exactly where the drawing of the sheet that it reads is lawful.
use Rattle.std.proofs.Common.{◌≢◌, ℕ, true, List, None, lit<}
use Rattle.std.specs.Prelude.{⊤}
use Rattle.plan_core.specs.Grid.{GridSize}
use Rattle.plan_core.specs.Graph.{Graph}
use Rattle.plan_core.specs.Drawing.{Drawing}
use Rattle.track_order.specs.Order.{EdgeOrder}
use Rattle.plan_words.specs.declared.command.Command.TheVariants.{Verify}
use Rattle.plan_text.proofs.ShortSheet.{short_sheet}
use Rattle.run_input.specs.declared.status.Status.{Status}
use Rattle.run_input.specs.Met.{Met}
use Rattle.run_input.specs.Answer.{text_input, IsAnswerAfter, IsAnswerOn}
use Rattle.run_check.specs.Verdict.{IsSheetJudged, IsVerified, HasDrawnFiles}
use Rattle.run_check.proofs.VerdictLemmas.{judged_at}
use Rattle.schematic_main.specs.Commands.{Owes}
use Rattle.schematic_main.specs.Run.{FailsIn}
use Rattle.schematic_main.proofs.CertifiedRuns.{bytes_answered}

abbrev OnSheet : (sheet : List ℕ) → Met → (file : List ℕ) → Status → List ℕ → Type 0
OnSheet sheet met file = IsAnswerOn (text_input 2 sheet) 1 met (IsAnswerAfter 2 met (IsVerified file))

pub verified_run : (input sheet : List ℕ) (met : Met) (g : Graph) (o : EdgeOrder) (grid : GridSize) (d : Drawing) (status : Status) (line : List ℕ) →
    met.before.contents ≢ None →
    (files : HasDrawnFiles met.before.contents input sheet g o grid d) → (FailsIn (Verify input sheet) met → ⊥) →
    Owes (Verify input sheet) met (λ lines. ⊤) status line →
    IsSheetJudged g o files.text status line
verified_run input sheet met g o grid d status line told files read owes =
    let file_short = files.station.has_graph.has_topology.has_rows.few in
    let sheet_short = short_sheet g true files.text files.has.sheet files.station.has_graph.built.station files.has.told in
    let first = bytes_answered (text_input 1 input) 0 met files.file (OnSheet sheet met) status line told files.is_file file_short
    (λ fails. read (0, lit< tt, fails)) owes in
    let second = bytes_answered (text_input 2 sheet) 1 met files.text (IsAnswerAfter 2 met (IsVerified files.file)) status line told files.is_sheet sheet_short
    (λ fails. read (1, lit< tt, fails)) first in
    judged_at files.file files.text g o status line files.station second.1
