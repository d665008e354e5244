-- The status of an outcome, and its lines.
use Rattle.std.proofs.Common.{◌≡◌, List, None, Some, refl, arith}
use Rattle.std.specs.Prelude.{length, min}
use Rattle.plan_core.specs.declared.criterion.Criterion.{Criterion}
use Rattle.refute_log.specs.Told.{Lines}
use Rattle.refute_log.specs.Expected.{bound_vars, caps}
use Rattle.refute_log.proofs.StepLemmas.{counted_within}
use Rattle.search_least.specs.Task.{Task, greatest_of}
use Rattle.search_least.specs.Outcome.{IsOutcome, IsSearched, IsLeastLeft}
use Rattle.search_least.specs.declared.outcome.Outcome.{Outcome}
use Rattle.search_least.specs.declared.outcome.Outcome.TheVariants as outcomes
use Rattle.run_input.specs.declared.status.Status.{Status}
use Rattle.run_input.specs.declared.status.Status.TheVariants.{Done, NoDrawing, Unfinished}
use Rattle.run_draw_front.specs.Drawn.{status_of}

-- how a run ends after an outcome
pub on_outcome : (P : Status → Type 0) (outcome : Outcome) → P Done → P NoDrawing → P Unfinished → P (status_of outcome)
on_outcome P (outcomes.Best d) done none unfinished = done
on_outcome P outcomes.NoDrawing done none unfinished = none
on_outcome P (outcomes.Spent best settled) done none unfinished = unfinished
on_outcome P (outcomes.Room best settled) done none unfinished = unfinished

-- the lines of every search
pub searched_of : (p : Task) (order : List Criterion) (outcome : Outcome) (lines : Lines) → IsOutcome p order outcome lines → IsSearched p order lines
searched_of p order (outcomes.Best d) lines ended = ended.searched
searched_of p order outcomes.NoDrawing lines ended = ended.searched
searched_of p order (outcomes.Spent None settled) lines ended = ended.searched
searched_of p order (outcomes.Spent (Some d) settled) lines ended = ended.searched
searched_of p order (outcomes.Room None settled) lines ended = ended.searched
searched_of p order (outcomes.Room (Some d) settled) lines ended = ended.searched

-- they derive, and begin what is expected for their own caps
pub outcome_left : (p : Task) (order : List Criterion) (outcome : Outcome) (lines : Lines) → IsOutcome p order outcome lines → IsLeastLeft p order lines
outcome_left p order outcome lines ended =
    let searched = searched_of p order outcome lines ended in
    record {
      derives = searched.derives;
      cap = caps (greatest_of p) lines;
      capped = λ c. let e : min (length (bound_vars c lines)) (greatest_of p c) ≡ caps (greatest_of p) lines c = refl in omega (arith, e);
      begins = searched.front;
      within = counted_within p.budget lines searched.within;
    }
