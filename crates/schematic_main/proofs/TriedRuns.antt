-- How a whole run of trial ends.
use Rattle.std.proofs.Common.{ℕ, List}
use Rattle.std.specs.Prelude.{⊤}
use Rattle.plan_core.specs.Graph.{Graph}
use Rattle.track_order.specs.Order.{EdgeOrder}
use Rattle.plan_words.specs.declared.command.Command.TheVariants.{Trial}
use Rattle.refute_log.specs.Told.{Lines}
use Rattle.station_make.specs.StationText.{station_text}
use Rattle.run_input.specs.declared.status.Status.{Status}
use Rattle.run_input.specs.Input.{HasStation}
use Rattle.run_input.specs.Met.{Met}
use Rattle.run_draw_front.specs.Tried.{trial_grid, trial_job, IsTried}
use Rattle.schematic_main.specs.Commands.{Owes}
use Rattle.schematic_main.specs.SearchedRuns.{EndsExactly}
use Rattle.schematic_main.proofs.SearchEnds.{best_ends, answered_at}

pub tried_run : (n : ℕ) (met : Met) (g : Graph) (o : EdgeOrder) (status : Status) (text : List ℕ) → HasStation (station_text n) g o →
    Owes (Trial n) met (λ lines. ⊤) status text → EndsExactly g o trial_grid status
tried_run n met g o status text has owes =
    let traced : Lines → Type 0 = λ lines. ⊤ in
    let tried = answered_at (IsTried n traced) (station_text n) g o status text has owes in
    best_ends g o trial_job tried.outcome tried.searched.lines status tried.searched.ended tried.status_is
