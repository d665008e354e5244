-- How many bounds each criterion gets: its cap.
use Rattle.std.specs.Prelude.{◌≡◌, ◌≤◌, ◌<◌, ◌+◌, ◌⊎◌, ⊤, ℕ, zero, suc, min, List, Contains, take, Some, slice_get}
use Rattle.plan_core.specs.declared.criterion.Values.{Values}
use Rattle.plan_core.specs.declared.criterion.Criterion.{Criterion}
use Rattle.plan_core.specs.Values.{values_of, value_of}
use Rattle.plan_core.specs.Drawing.{Drawing}
use Rattle.refute_log.specs.Told.{Lines}
use Rattle.refute_log.specs.Expected.{caps}
use Rattle.refute_log.specs.Full.{NextSumPasses}
use Rattle.refute_log.specs.declared.stop.Stop.{Stop}
use Rattle.refute_log.specs.declared.stop.Stop.TheVariants.{RoomFull}
use Rattle.search_least.specs.Task.{Task, IsLawful, greatest_of}
use Rattle.refute_log.specs.Cause.{IsCause}
use Rattle.search_least.specs.Reached.{HasSameValues}

-- from this place on each value is 0
abbrev pub AllZero : List Criterion → ℕ → Values → Type 0
AllZero order i v = (k : ℕ) (c : Criterion) → i ≤ k → slice_get order k ≡ Some c → value_of v c ≡ 0

-- n bounds are built for the criterion c, which stands at place i, where it is reached with these values: none where
-- all values are 0 from there on; else one more than its value, and at most its greatest value
pub record IsCapAt (greatest : Criterion → ℕ) (order : List Criterion) (i : ℕ) (c : Criterion) (v : Values) (n : ℕ) :
    Type 0 where
  pub none : AllZero order i v → n ≡ 0
  pub some : (AllZero order i v → ⊥) → n ≡ min (value_of v c + 1) (greatest c)

-- the turn of the criterion at place i: it is reached with one drawing, and has the bounds that are built then; and it
-- is left with the drawing d, the same or one with less of it and the same values before it
pub record IsTurn (p : Task) (order : List Criterion) (i : ℕ) (reached d : Drawing) (cap : Criterion → ℕ) : Type 0 where
  pub lawful : IsLawful p reached
  pub criterion : Criterion
  pub at : slice_get order i ≡ Some criterion
  pub built : IsCapAt (greatest_of p) order i criterion (values_of reached) (cap criterion)
  pub left : (d ≡ reached) ⊎ ((value_of (values_of d) criterion < value_of (values_of reached) criterion)
      × HasSameValues order i (values_of reached) (values_of d))

-- a search comes to the drawing d by the turns of the first s criteria, one after another
abbrev pub IsByTurns : Task → List Criterion → ℕ → Drawing → (Criterion → ℕ) → Type 0
IsByTurns p order zero d cap = ⊤
IsByTurns p order (suc i) d cap = (reached : Drawing) × IsTurn p order i reached d cap × IsByTurns p order i reached cap

-- so many bounds each criterion has then: the first s those of their turns, and no other one any
pub record AreCapped (p : Task) (order : List Criterion) (s : ℕ) (d : Drawing) (cap : Criterion → ℕ) : Type 0 where
  pub turns : IsByTurns p order s d cap
  pub no_other : (c : Criterion) → (Contains (take s order) c → ⊥) → cap c ≡ 0

-- the criterion at place i was reached with a lawful drawing, which has the values of d at the places before and no
-- less at its own; and it has the bounds that are built then
abbrev pub WasReached : Task → List Criterion → ℕ → Criterion → Drawing → (Criterion → ℕ) → Type 0
WasReached p order i c d cap = (reached : Drawing) × IsLawful p reached
    × HasSameValues order i (values_of reached) (values_of d)
    × (value_of (values_of d) c ≤ value_of (values_of reached) c)
    × IsCapAt (greatest_of p) order i c (values_of reached) (cap c)

-- why a search stopped with this drawing, the first s criteria being settled: in a question on the criterion behind
-- them, in its turn; or for want of room for the bounds of the next criterion, before its turn
abbrev pub IsCauseWith : Task → List Criterion → ℕ → Stop → Drawing → Lines → Type 0
IsCauseWith p order s stop d lines = (IsCause p.budget p.room stop lines
    × AreCapped p order (s + 1) d (caps (greatest_of p) lines))
    ⊎ ((stop ≡ RoomFull) × (next : NextSumPasses p.encoding (greatest_of p) order lines (values_of d) p.room)
    × AreCapped p order next.next.place d (caps (greatest_of p) lines))
