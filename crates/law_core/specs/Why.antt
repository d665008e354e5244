-- What the search for an explanation answers, and what its lines are.
use Rattle.std.specs.Prelude.{◌≡◌, ◌<◌, ◌≤◌, ◌⊎◌, ⊤, ℕ, List, [], All, Contains, length, map, flat_map}
use Rattle.plan_core.specs.Drawing.{Drawing}
use Rattle.plan_core.specs.Lawful.{Instance, Lawful}
use Rattle.cnf_core.specs.declared.limits.TheConstants.{VARS}
use Rattle.cnf_core.specs.Clause.{words_of}
use Rattle.lawful_check.specs.declared.law_break.LawBreak.{LawBreak}
use Rattle.lawful_check.specs.Breaks.{break_of}
use Rattle.track_order.specs.Order.{is_above}
use Rattle.refute_log.specs.declared.line.LogLine.TheVariants.{Formula, Model as ModelLine}
use Rattle.refute_log.specs.Lines.{MayAllBeTold}
use Rattle.refute_log.specs.Told.{Lines}
use Rattle.refute_log.specs.Log.{added, learnt, learnt_count, Derives, Due, BeginsLines, clause_lines}
use Rattle.refute_log.specs.declared.stop.Stop.TheVariants.{BudgetSpent, RoomFull}
use Rattle.refute_log.specs.Cause.{IsCause}
use Rattle.drawing_cnf.specs.Layout.{Layout}
use Rattle.search_why.specs.declared.outcome.Outcome.{Outcome}
use Rattle.search_why.specs.declared.outcome.Outcome.TheVariants as outcome
use Rattle.search_why.specs.Explained.{IsExplanation, AreWithout}
use Rattle.search_why.specs.Task.{Task}
use Rattle.law_core.specs.declared.ending.Why.{Why}
use Rattle.law_core.specs.declared.ending.Why.TheVariants.{Exists, Laws, Spent, Room}
use Rattle.law_core.specs.Chosen.{listed_law}
use Rattle.law_core.specs.Known.{formula_of, size_of, task_of}
use Rattle.law_core.specs.Query.{AreAboutLaws}

-- these are the names of laws that no loose drawing meets together, and the drawings, one for each, show that none of
-- them can be left out
pub record AreNamed (p : Task) (names : List LawBreak) (without : List Drawing) : Type 0 where
  pub laws : List Instance
  pub explanation : IsExplanation p.graph p.above p.grid laws
  pub irreducible : AreWithout p.graph p.grid laws without
  pub named : names ≡ map break_of laws

-- what an answer says of the drawings
abbrev pub IsRightWhy : Task → Why → Type 0
IsRightWhy p (Exists d) = Lawful p.graph p.above p.grid d
IsRightWhy p (Laws names without) = AreNamed p names without
IsRightWhy p Spent = ⊤
IsRightWhy p Room = ⊤

-- the Formula lines of a search
abbrev pub formula_lines : Layout → Lines
formula_lines y = map Formula (formula_of y)

-- the formula has more variables than there may be, or its words pass the room
abbrev pub FormulaPasses : Layout → (room : ℕ) → Type 0
FormulaPasses y room = (VARS < size_of y) ⊎ (room < words_of (formula_of y))

-- the lines keep no lawful drawing back: there is no Model line, or no drawing is lawful
abbrev pub KeepsNoneBack : Layout → Lines → Type 0
KeepsNoneBack y lines = (Contains lines ModelLine → ⊥)
    ⊎ ((d : Drawing) → Lawful y.graph (is_above y.order) y.grid d → ⊥)

-- why it answered so. With a drawing or an explanation the whole formula was told. So it was where the search stopped
-- in a question: the latest query has no answer, and no lawful drawing is kept back. As many clauses were learnt as the
-- budget allows, and the latest query is open; or one more clause has no room. Where the formula has no room, nothing
-- was told
abbrev pub IsWhyCause : Layout → (budget room : ℕ) → Why → Lines → Type 0
IsWhyCause y budget room (Exists d) lines = clause_lines lines ≡ formula_lines y
IsWhyCause y budget room (Laws names without) lines = clause_lines lines ≡ formula_lines y
IsWhyCause y budget room Spent lines = (clause_lines lines ≡ formula_lines y) × IsCause budget room BudgetSpent lines
    × KeepsNoneBack y lines
IsWhyCause y budget room Room lines = ((lines ≡ []) × FormulaPasses y room)
    ⊎ ((clause_lines lines ≡ formula_lines y) × IsCause budget room RoomFull lines × KeepsNoneBack y lines)

-- the lines of a search with this answer
pub record IsWhyLog (y : Layout) (budget room : ℕ) (w : Why) (lines : Lines) : Type 0 where
  pub formed : MayAllBeTold lines
  pub derives : Derives lines
  pub due : Due lines
  pub begins : BeginsLines (clause_lines lines) (formula_lines y)
  pub fits : words_of (flat_map added lines) ≤ room
  pub within : length (flat_map learnt lines) ≤ budget
  pub asked : AreAboutLaws (task_of y budget room) lines
  pub cause : IsWhyCause y budget room w lines

-- the lines of a search, also of one that ended with an error: they derive, their Formula and Bound lines begin those
-- of the formula, and there are no more Learnt lines, as a log counts them, than the budget allows
pub record IsWhyLeft (y : Layout) (budget : ℕ) (lines : Lines) : Type 0 where
  pub derives : Derives lines
  pub begins : BeginsLines (clause_lines lines) (formula_lines y)
  pub within : learnt_count lines ≤ budget

-- the places of an explanation are those of so many laws
abbrev pub HasLawPlaces : (count : ℕ) → Outcome → Type 0
HasLawPlaces count (outcome.Exists d) = ⊤
HasLawPlaces count (outcome.Laws places drawings) = All (λ n. n < count) places
HasLawPlaces count (outcome.Stopped stop) = ⊤

-- the answer is what the search came to, with the laws by their names
abbrev pub IsWhyOf : List Instance → Outcome → Why → Type 0
IsWhyOf laws (outcome.Exists d) (Exists e) = e ≡ d
IsWhyOf laws (outcome.Laws places drawings) (Laws names without) =
    (names ≡ map (λ n. break_of (listed_law laws n)) places) × (without ≡ drawings)
IsWhyOf laws (outcome.Stopped BudgetSpent) Spent = ⊤
IsWhyOf laws (outcome.Stopped RoomFull) Room = ⊤
IsWhyOf laws o w = ⊥
