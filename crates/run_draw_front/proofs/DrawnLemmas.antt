-- What the outcome of a search says of the sheet that is written.
use Rattle.std.proofs.Common.{◌≡◌, ℕ, ◌<◌, true, false, List, length, None, Some, sym, subst, arith}
use Rattle.std.specs.Prelude.{⊤, IfSome}
use Rattle.std.specs.Option.{is_some}
use Rattle.plan_core.specs.declared.criterion.Criterion.{Criterion}
use Rattle.plan_core.specs.Graph.{Graph}
use Rattle.plan_core.specs.Lawful.{HasSizeOf}
use Rattle.plan_core.specs.Order.{IsOrder}
use Rattle.plan_core.proofs.LimitLemmas.{points_on_grid}
use Rattle.track_order.specs.Order.{EdgeOrder, is_above}
use Rattle.plan_text.specs.SheetText.{Sheet, MayBeSettled, DrawsAll, DrawsOnGrid, StatesSettled}
use Rattle.refute_log.specs.Told.{Lines}
use Rattle.search_least.specs.declared.outcome.Outcome.{Outcome}
use Rattle.search_least.specs.declared.outcome.Outcome.TheVariants as outcomes
use Rattle.search_least.specs.Outcome.{IsOutcome}
use Rattle.run_draw_front.specs.Drawn.{Job, search_of, sheet_of, found_by, HasSearched}

-- ---- an order, criterion by criterion

-- the drawing has a point for each node and a line for each edge
ended_draws : (g : Graph) (o : EdgeOrder) (asked : Job) (outcome : Outcome) (lines : Lines) → IsOutcome (search_of g o asked) asked.order outcome lines →
    DrawsAll g (sheet_of asked outcome)
ended_draws g o asked (outcomes.Best d) lines ended = ended.lawful.fits.size
ended_draws g o asked outcomes.NoDrawing lines ended = tt
ended_draws g o asked (outcomes.Spent None settled) lines ended = tt
ended_draws g o asked (outcomes.Spent (Some d) settled) lines ended = ended.lawful.fits.size
ended_draws g o asked (outcomes.Room None settled) lines ended = tt
ended_draws g o asked (outcomes.Room (Some d) settled) lines ended = ended.lawful.fits.size

-- and its points lie on the grid
ended_on_grid : (g : Graph) (o : EdgeOrder) (asked : Job) (outcome : Outcome) (lines : Lines) → IsOutcome (search_of g o asked) asked.order outcome lines →
    DrawsOnGrid (sheet_of asked outcome)
ended_on_grid g o asked (outcomes.Best d) lines ended = points_on_grid g (is_above o) asked.grid d ended.lawful
ended_on_grid g o asked outcomes.NoDrawing lines ended = tt
ended_on_grid g o asked (outcomes.Spent None settled) lines ended = tt
ended_on_grid g o asked (outcomes.Spent (Some d) settled) lines ended = points_on_grid g (is_above o) asked.grid d ended.lawful
ended_on_grid g o asked (outcomes.Room None settled) lines ended = tt
ended_on_grid g o asked (outcomes.Room (Some d) settled) lines ended = points_on_grid g (is_above o) asked.grid d ended.lawful

none_settled : (order : List Criterion) (settled : ℕ) → IsOrder order → settled ≡ 0 → MayBeSettled order false settled
none_settled order settled is none = record { some_left = let some = is.some in omega arith; none_undrawn = λ _. none }

some_settled : (order : List Criterion) (settled : ℕ) → settled < length order → MayBeSettled order true settled
some_settled order settled below = record { some_left = below; none_undrawn = λ undrawn. absurd (cc) }

-- as many criteria are settled as a sheet may say
ended_settles : (g : Graph) (o : EdgeOrder) (asked : Job) (outcome : Outcome) (lines : Lines) → IsOrder asked.order →
    IsOutcome (search_of g o asked) asked.order outcome lines →
    StatesSettled (sheet_of asked outcome).order (is_some (sheet_of asked outcome).found) (sheet_of asked outcome).ending
ended_settles g o asked (outcomes.Best d) lines is ended = tt
ended_settles g o asked outcomes.NoDrawing lines is ended = tt
ended_settles g o asked (outcomes.Spent None settled) lines is ended = none_settled asked.order settled is ended.settled_is
ended_settles g o asked (outcomes.Spent (Some d) settled) lines is ended = some_settled asked.order settled ended.is_settled.below
ended_settles g o asked (outcomes.Room None settled) lines is ended = none_settled asked.order settled is ended.settled_is
ended_settles g o asked (outcomes.Room (Some d) settled) lines is ended = some_settled asked.order settled ended.is_settled.below

-- so a sheet that is that of the outcome may be written
pub ended_sheet : (g : Graph) (o : EdgeOrder) (asked : Job) (outcome : Outcome) (sheet : Sheet) → sheet ≡ sheet_of asked outcome → IsOrder asked.order →
    HasSearched g o asked (λ lines. ⊤) outcome →
    DrawsAll g sheet × DrawsOnGrid sheet × StatesSettled sheet.order (is_some sheet.found) sheet.ending
ended_sheet g o asked outcome sheet same is searched = (
  subst (λ (s : Sheet). DrawsAll g s) (sym same) (ended_draws g o asked outcome searched.lines searched.ended),
  subst (λ (s : Sheet). DrawsOnGrid s) (sym same) (ended_on_grid g o asked outcome searched.lines searched.ended),
  subst (λ (s : Sheet). StatesSettled s.order (is_some s.found) s.ending) (sym same) (ended_settles g o asked outcome searched.lines is searched.ended),
)

-- the drawing that was found has a point for each node and a line for each edge
pub found_draws : (g : Graph) (o : EdgeOrder) (asked : Job) (outcome : Outcome) (lines : Lines) → IsOutcome (search_of g o asked) asked.order outcome lines →
    IfSome (found_by outcome) (HasSizeOf g)
found_draws g o asked (outcomes.Best d) lines ended = ended_draws g o asked (outcomes.Best d) lines ended
found_draws g o asked outcomes.NoDrawing lines ended = tt
found_draws g o asked (outcomes.Spent found settled) lines ended = ended_draws g o asked (outcomes.Spent found settled) lines ended
found_draws g o asked (outcomes.Room found settled) lines ended = ended_draws g o asked (outcomes.Room found settled) lines ended
