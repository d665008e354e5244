-- The outcome of a search, and what its lines are then.
use Rattle.std.specs.Prelude.{◌⊎◌, ⊤, map, ℕ, List, ◌++◌, All}
use Rattle.plan_core.specs.Lawful.{Instance, Lawful}
use Rattle.refute_log.specs.Told.{Lines}
use Rattle.search_why.specs.declared.outcome.Outcome.{Outcome}
use Rattle.search_why.specs.declared.outcome.Outcome.TheVariants.{Exists, Laws, Stopped}
use Rattle.search_why.specs.Explained.{IsExplanation, AreWithout}
use Rattle.search_why.specs.Task.{Task, law_at}
use Rattle.search_why.specs.Asked.{NoneMeetsAll, IsNoModel}
use Rattle.refute_log.specs.Cause.{IsCause}

-- the laws at these places
abbrev pub laws_at : Task → List ℕ → List Instance
laws_at p places = map (law_at p) places

-- a drawing that exists is lawful; else the laws at the places are an explanation, and none of them can be left out
abbrev pub IsRightOutcome : Task → Outcome → Type 0
IsRightOutcome p (Exists d) = Lawful p.graph p.above p.grid d
IsRightOutcome p (Laws places without) =
    IsExplanation p.graph p.above p.grid (laws_at p places)
    × AreWithout p.graph p.grid (laws_at p places) without
IsRightOutcome p (Stopped stop) = ⊤

-- what a search with this outcome tells behind these lines: where it stopped, they have the cause, and it keeps no
-- lawful drawing back: it found none, or none is lawful
abbrev pub TellsOutcome : Task → Outcome → (lines more : Lines) → Type 0
TellsOutcome p (Exists d) lines more = ⊤
TellsOutcome p (Laws places without) lines more = ⊤
TellsOutcome p (Stopped stop) lines more =
    IsCause p.budget p.room stop (lines ++ more) × (All IsNoModel more ⊎ NoneMeetsAll p)
