-- How a run ends by what its search found; and what is answered to a file that has a station.
use Rattle.std.proofs.Common.{◌≡◌, List, ℕ, sym, ◌∙◌, inl, inr}
use Rattle.plan_core.specs.Grid.{GridSize}
use Rattle.plan_core.specs.Graph.{Graph}
use Rattle.track_order.specs.Order.{EdgeOrder}
use Rattle.refute_log.specs.Told.{Lines}
use Rattle.search_least.specs.declared.outcome.Outcome.{Outcome}
use Rattle.search_least.specs.declared.outcome.Outcome.TheVariants as outcomes
use Rattle.run_input.specs.declared.status.Status.{Status}
use Rattle.run_input.specs.declared.status.Status.TheVariants.{Done, NoDrawing, Unfinished}
use Rattle.run_input.specs.Input.{HasStation}
use Rattle.run_input.specs.Answer.{IsFileJudged}
use Rattle.run_input.proofs.InputLemmas.{station_or_fault}
use Rattle.run_check.proofs.RecheckedLemmas.{of_station}
use Rattle.run_draw_front.specs.Drawn.{Job, status_of, HasEnded}
use Rattle.schematic_main.specs.So.{NoneLawful, SomeLawful}
use Rattle.schematic_main.specs.SearchedRuns.{EndsExactly}

-- ---- the status

pub ends_found : (g : Graph) (o : EdgeOrder) (grid : GridSize) (status : Status) → status ≡ Done → SomeLawful g o grid → EndsExactly g o grid status
ends_found g o grid status is some = λ finished. (
  (λ done. some, λ lawful. is),
  (λ other. (let no : Done ≡ NoDrawing = sym is ∙ other in absurd (cc)), λ none. absurd (none some.0 some.1)),
)

pub ends_without : (g : Graph) (o : EdgeOrder) (grid : GridSize) (status : Status) → status ≡ NoDrawing → NoneLawful g o grid → EndsExactly g o grid status
ends_without g o grid status is none = λ finished. (
  (λ done. (let no : Done ≡ NoDrawing = sym done ∙ is in absurd (cc)), λ some. absurd (none some.0 some.1)),
  (λ other. none, λ unlawful. is),
)

pub ends_open : (g : Graph) (o : EdgeOrder) (grid : GridSize) (status : Status) → status ≡ Unfinished → EndsExactly g o grid status
ends_open g o grid status is = λ finished. absurd (finished is)

-- a search for the best drawing
pub best_ends : (g : Graph) (o : EdgeOrder) (asked : Job) (outcome : Outcome) (lines : Lines) (status : Status) → HasEnded g o asked outcome lines →
    status ≡ status_of outcome → EndsExactly g o asked.grid status
best_ends g o asked (outcomes.Best d) lines status ended is = ends_found g o asked.grid status is (d, ended.lawful)
best_ends g o asked outcomes.NoDrawing lines status ended is = ends_without g o asked.grid status is ended.none_lawful
best_ends g o asked (outcomes.Spent found settled) lines status ended is = ends_open g o asked.grid status is
best_ends g o asked (outcomes.Room found settled) lines status ended is = ends_open g o asked.grid status is

-- ---- the file

-- bytes that have a station are answered by it
pub answered_at : (Answers : Graph → EdgeOrder → Status → List ℕ → Type 0) (bytes : List ℕ) (g : Graph) (o : EdgeOrder) (status : Status) (text : List ℕ) →
    HasStation bytes g o → IsFileJudged Answers bytes status text → Answers g o status text
answered_at Answers bytes g o status text has (inl (h, p, also, answer)) = of_station (λ x y. Answers x y status text) bytes g h o p has also answer
answered_at Answers bytes g o status text has (inr refused) = absurd (station_or_fault bytes g o refused.fault has refused.has)
