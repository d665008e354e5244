-- How a whole run of front ends.
use Rattle.std.proofs.Common.{◌≡◌, ◌≢◌, ℕ, List, None, lit<}
use Rattle.std.specs.Prelude.{⊤}
use Rattle.plan_core.specs.declared.criterion.Criterion.{Criterion}
use Rattle.plan_core.specs.Grid.{GridSize}
use Rattle.plan_core.specs.Graph.{Graph}
use Rattle.plan_core.specs.Lawful.{Lawful}
use Rattle.track_order.specs.Order.{EdgeOrder, is_above}
use Rattle.trade_off.specs.Front.{Pairs}
use Rattle.trade_off.specs.Outcome.{IsRightFront}
use Rattle.trade_off.specs.declared.outcome.FrontEnd.{FrontEnd}
use Rattle.trade_off.specs.declared.outcome.FrontEnd.TheVariants as fronts
use Rattle.plan_words.specs.declared.command.Command.TheVariants.{Front}
use Rattle.refute_log.specs.Told.{Lines}
use Rattle.run_input.specs.declared.status.Status.{Status}
use Rattle.run_input.specs.Input.{IsStationOf}
use Rattle.run_input.specs.Met.{Met}
use Rattle.run_input.specs.Answer.{text_input, IsFileJudged, IsAnswerAfter}
use Rattle.run_draw_front.specs.Fronted.{front_job, status_of_front, IsFrontAnswer}
use Rattle.schematic_main.specs.Commands.{Owes}
use Rattle.schematic_main.specs.Run.{FailsIn}
use Rattle.schematic_main.specs.SearchedRuns.{EndsExactly}
use Rattle.schematic_main.proofs.CertifiedRuns.{bytes_answered}
use Rattle.schematic_main.proofs.SearchEnds.{ends_found, ends_without, ends_open, answered_at}

front_ends : (g : Graph) (o : EdgeOrder) (grid : GridSize) (a b : Criterion) (pairs : Pairs) (ending : FrontEnd) (status : Status) →
    IsRightFront (Lawful g (is_above o) grid) a b pairs ending → status ≡ status_of_front ending →
    EndsExactly g o grid status
front_ends g o grid a b pairs fronts.Whole status right is = ends_found g o grid status is right.0
front_ends g o grid a b pairs fronts.Empty status right is = ends_without g o grid status is right.0
front_ends g o grid a b pairs fronts.Conflicts status right is = ends_open g o grid status is
front_ends g o grid a b pairs fronts.Room status right is = ends_open g o grid status is

pub front_run : (input : List ℕ) (a b : Criterion) (grid : GridSize) (budget : ℕ) (met : Met) (g : Graph) (o : EdgeOrder) (status : Status) (text : List ℕ) →
    met.before.contents ≢ None → IsStationOf input met.before.contents g o →
    (FailsIn (Front input a b grid budget) met → ⊥) → Owes (Front input a b grid budget) met (λ lines. ⊤) status text → EndsExactly g o grid status
front_run input a b grid budget met g o status text told (bytes, is, has) read owes =
    let traced : Lines → Type 0 = λ lines. ⊤ in
    let asked = front_job grid a b budget in
    let first =
    bytes_answered (text_input 1 input) 0 met bytes (IsAnswerAfter 1 met (IsFileJudged (IsFrontAnswer asked traced))) status text told is
    has.has_graph.has_topology.has_rows.few (λ fails. read (0, lit< tt, fails)) owes in
    let answer = answered_at (IsFrontAnswer asked traced) bytes g o status text has first.1 in
    front_ends g o grid a b answer.pairs answer.ending status answer.right answer.status_is
