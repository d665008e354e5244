-- How a whole run of draw ends.
use Rattle.std.proofs.Common.{◌≢◌, ℕ, List, None, lit<}
use Rattle.std.specs.Prelude.{⊤}
use Rattle.std.specs.declared.option.Option.{Option}
use Rattle.plan_core.specs.declared.criterion.Criterion.{Criterion}
use Rattle.plan_core.specs.Grid.{GridSize}
use Rattle.plan_core.specs.Graph.{Graph}
use Rattle.track_order.specs.Order.{EdgeOrder}
use Rattle.plan_words.specs.declared.command.Command.TheVariants.{Draw}
use Rattle.refute_log.specs.Told.{Lines}
use Rattle.run_input.specs.declared.status.Status.{Status}
use Rattle.run_input.specs.Input.{IsStationOf}
use Rattle.run_input.specs.Met.{Met}
use Rattle.run_input.specs.Answer.{text_input, IsFileJudged, IsAnswerAfter}
use Rattle.run_draw_front.specs.Drawn.{job, IsDrawAnswer}
use Rattle.schematic_main.specs.Commands.{Owes}
use Rattle.schematic_main.specs.Run.{FailsIn}
use Rattle.schematic_main.specs.SearchedRuns.{EndsExactly}
use Rattle.schematic_main.proofs.CertifiedRuns.{bytes_answered}
use Rattle.schematic_main.proofs.SearchEnds.{best_ends, answered_at}

pub drawn_run : (input : List ℕ) (grid : GridSize) (order : List Criterion) (budget : ℕ) (svg log : Option (List ℕ)) (met : Met) (g : Graph) (o : EdgeOrder)
    (status : Status) (text : List ℕ) → met.before.contents ≢ None →
    IsStationOf input met.before.contents g o → (FailsIn (Draw input grid order budget svg log) met → ⊥) →
    Owes (Draw input grid order budget svg log) met (λ lines. ⊤) status text → EndsExactly g o grid status
drawn_run input grid order budget svg log met g o status text told (bytes, is, has) read owes =
    let traced : Lines → Type 0 = λ lines. ⊤ in
    let asked = job grid order budget svg log in
    let first =
    bytes_answered (text_input 1 input) 0 met bytes (IsAnswerAfter 1 met (IsFileJudged (IsDrawAnswer asked met traced))) status text told is
    has.has_graph.has_topology.has_rows.few (λ fails. read (0, lit< tt, fails)) owes in
    let answer = answered_at (IsDrawAnswer asked met traced) bytes g o status text has first.1 in
    best_ends g o asked answer.drawn.outcome answer.drawn.searched.lines status answer.drawn.searched.ended answer.drawn.status_is
