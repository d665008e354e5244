-- One question: a loose drawing that meets the laws at some places.
use Rattle.std.specs.Prelude.{◌≢◌, ◌<◌, ⊤, ℕ, List, ◌++◌, All, AllPairs, Contains, length, Option, None, Some}
use Rattle.plan_core.specs.Drawing.{Drawing}
use Rattle.refute_log.specs.declared.line.LogLine.{LogLine}
use Rattle.refute_log.specs.declared.line.LogLine.TheVariants.{Model}
use Rattle.refute_log.specs.Told.{Lines}
use Rattle.refute_log.specs.Cause.{IsCause}
use Rattle.search_why.specs.declared.oracle.Reply.{Reply}
use Rattle.search_why.specs.declared.oracle.Reply.TheVariants.{Found, Refuted, Stopped}
use Rattle.refute_log.specs.declared.stop.Stop.{Stop}
use Rattle.search_why.specs.Explained.{IsLoose}
use Rattle.search_why.specs.Task.{Task, MeetsAt}

-- places of the list, each once
pub record AreLawPlaces (p : Task) (places : List ℕ) : Type 0 where
  pub there : All (λ n. n < length p.laws) places
  pub once : AllPairs (λ a b. a ≢ b) places

-- no loose drawing meets the laws at all these places
abbrev pub NoneMeetsLaws : Task → List ℕ → Type 0
NoneMeetsLaws p places = (d : Drawing) → IsLoose p.graph p.grid d → All (MeetsAt p d) places → ⊥

-- no loose drawing meets all laws: none is lawful
abbrev pub NoneMeetsAll : Task → Type 0
NoneMeetsAll p = (d : Drawing) → IsLoose p.graph p.grid d → ((n : ℕ) → n < length p.laws → MeetsAt p d n) → ⊥

-- a drawing that is found is loose and meets what was asked for; where there is none, some of what was asked for can't
-- be met already
abbrev pub IsRightReply : Task → List ℕ → Reply → Type 0
IsRightReply p wanted (Found d) = IsLoose p.graph p.grid d × All (MeetsAt p d) wanted
IsRightReply p wanted (Refuted core) = All (Contains wanted) core × NoneMeetsLaws p core
IsRightReply p wanted (Stopped stop) = ⊤

-- where a search stopped, and didn't go on, its lines have the cause
abbrev pub TellsStop : Task → Option Stop → Lines → Type 0
TellsStop p None lines = ⊤
TellsStop p (Some stop) lines = IsCause p.budget p.room stop lines

-- the line doesn't tell that a drawing was found
abbrev pub IsNoModel : LogLine → Type 0
IsNoModel Model = ⊥
IsNoModel line = ⊤

-- what a question with this reply tells behind these lines: where it stopped, they have the cause, and no drawing was
-- found
abbrev pub TellsReply : Task → Reply → (lines more : Lines) → Type 0
TellsReply p (Found d) lines more = ⊤
TellsReply p (Refuted core) lines more = ⊤
TellsReply p (Stopped stop) lines more = IsCause p.budget p.room stop (lines ++ more) × All IsNoModel more
