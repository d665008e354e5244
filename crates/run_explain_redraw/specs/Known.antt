-- The search for a station with its former points, as one value; for private contracts.
use Rattle.std.specs.Prelude.{ℕ, List}
use Rattle.refute_log.specs.Told.{Lines}
use Rattle.search_least.specs.declared.fewest.Fewest.{Fewest}
use Rattle.run_input.specs.declared.status.Status.{Status}
use Rattle.run_explain_redraw.specs.declared.judging.Known.{Known}
use Rattle.run_explain_redraw.specs.Redrawn.{RedrawJob, HasEndedMoved, IsLeftOfRedraw, HasSearchedMoved, IsRedrawn}

abbrev pub HasEndedKnown : Known → RedrawJob → Fewest → Lines → Type 0
HasEndedKnown k asked outcome lines =
    HasEndedMoved k.station.graph k.station.order asked k.former.items outcome lines

abbrev pub IsLeftOfKnown : Known → RedrawJob → Lines → Type 0
IsLeftOfKnown k asked lines = IsLeftOfRedraw asked k.station.graph k.station.order k.former.items lines

abbrev pub HasSearchedKnown : Known → RedrawJob → (IsTold : Lines → Type 0) → Fewest → Type 0
HasSearchedKnown k asked IsTold outcome =
    HasSearchedMoved k.station.graph k.station.order asked k.former.items IsTold outcome

abbrev pub IsRedrawnKnown : Known → RedrawJob → (IsTold : Lines → Type 0) → Status → List ℕ → Type 0
IsRedrawnKnown k asked IsTold status text =
    IsRedrawn k.station.graph k.station.order asked k.former.items IsTold status text
