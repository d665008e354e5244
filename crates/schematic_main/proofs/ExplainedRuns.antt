-- How a whole run of explain ends, and what it says.
use Rattle.std.proofs.Common.{◌≢◌, ℕ, List, None, refl, lit<}
use Rattle.std.specs.Prelude.{⊤, map}
use Rattle.plan_core.specs.Grid.{GridSize}
use Rattle.plan_core.specs.Graph.{Graph}
use Rattle.track_order.specs.Order.{EdgeOrder, is_above}
use Rattle.plan_words.specs.declared.command.Command.TheVariants.{Explain}
use Rattle.refute_log.specs.Told.{Lines}
use Rattle.lawful_check.specs.Breaks.{break_of}
use Rattle.search_why.proofs.OutcomeLemmas.{none_lawful}
use Rattle.run_input.specs.declared.status.Status.{Status}
use Rattle.run_input.specs.Input.{IsStationOf}
use Rattle.run_input.specs.Met.{Met}
use Rattle.run_input.specs.Answer.{text_input, IsFileJudged, IsAnswerAfter}
use Rattle.run_explain_redraw.specs.Explained.{explain_job, IsExplainAnswer}
use Rattle.run_explain_redraw.proofs.ExplainedLemmas.{by_why}
use Rattle.schematic_main.specs.Commands.{Owes}
use Rattle.schematic_main.specs.Run.{FailsIn}
use Rattle.schematic_main.specs.SearchedRuns.{SaysExactly}
use Rattle.schematic_main.proofs.CertifiedRuns.{bytes_answered}
use Rattle.schematic_main.proofs.SearchEnds.{answered_at}
use Rattle.schematic_main.proofs.SoReadBack.{no_laws_exist}

pub explained_run : (input : List ℕ) (grid : GridSize) (budget : ℕ) (met : Met) (g : Graph) (o : EdgeOrder) (status : Status) (text : List ℕ) →
    met.before.contents ≢ None → IsStationOf input met.before.contents g o →
    (FailsIn (Explain input grid budget) met → ⊥) → Owes (Explain input grid budget) met (λ lines. ⊤) status text → SaysExactly g o grid status text
explained_run input grid budget met g o status text told (bytes, is, has) read owes =
    let traced : Lines → Type 0 = λ lines. ⊤ in
    let asked = explain_job grid budget in
    let first =
    bytes_answered (text_input 1 input) 0 met bytes (IsAnswerAfter 1 met (IsFileJudged (IsExplainAnswer asked traced))) status text told is
    has.has_graph.has_topology.has_rows.few (λ fails. read (0, lit< tt, fails)) owes in
    let answer = answered_at (IsExplainAnswer asked traced) bytes g o status text has first.1 in
    by_why asked traced g o status text (SaysExactly g o grid) answer (λ d lawful finished. (refl, (λ e. (d, lawful), λ h. refl)))
    (λ laws without explains irreducible finished.
    (refl, (λ e. absurd (no_laws_exist g (map break_of laws) without e), λ h. absurd (none_lawful g (is_above o) grid laws explains h.0 h.1))))
    (λ finished. absurd (finished refl)) (λ finished. absurd (finished refl))
