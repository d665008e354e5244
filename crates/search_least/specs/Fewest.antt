-- What the outcome of a search for the least count says.
use Rattle.std.specs.Prelude.{◌≡◌, ◌≤◌, ⊤, ℕ, List, [], All, Contains, map, flat_map, length}
use Rattle.std.specs.Prelude.{MatchOption, Option, None, Some}
use Rattle.plan_core.specs.Drawing.{Drawing}
use Rattle.cnf_core.specs.Lit.{Literal}
use Rattle.cnf_core.specs.Clause.{words_of}
use Rattle.refute_log.specs.declared.line.LogLine.TheVariants.{Formula, Refuted, Model}
use Rattle.refute_log.specs.Lines.{MayAllBeTold}
use Rattle.refute_log.specs.Told.{Lines}
use Rattle.refute_log.specs.Log.{added, learnt, Derives, Due, clause_lines}
use Rattle.refute_log.specs.declared.stop.Stop.{Stop}
use Rattle.refute_log.specs.declared.stop.Stop.TheVariants.{BudgetSpent, RoomFull}
use Rattle.search_least.specs.declared.fewest.Fewest.{Fewest}
use Rattle.search_least.specs.declared.fewest.Fewest.TheVariants.{Best, NoDrawing, Spent, Room}
use Rattle.search_least.specs.CountTask.{CountTask, IsOne}
use Rattle.search_least.specs.CountPlaced.{AsksFor, MeetsModelled, AreCountsAsked}
use Rattle.refute_log.specs.Cause.{IsCause}

-- what it says of drawings
abbrev pub IsRightFewest : CountTask → Fewest → Type 0
IsRightFewest p (Best d) = IsOne p d × ((e : Drawing) → IsOne p e → p.count d ≤ p.count e)
IsRightFewest p NoDrawing = (d : Drawing) → IsOne p d → ⊥
IsRightFewest p (Spent best) = MatchOption best ⊤ (IsOne p)
IsRightFewest p (Room best) = MatchOption best ⊤ (IsOne p)

-- the lines refute a count below this one: there is a Refuted line with no literal but "at least so many"
pub record RefutesFewer (p : CountTask) (lines : Lines) (n : ℕ) : Type 0 where
  pub clause : List Literal
  pub among : Contains lines (Refuted clause)
  pub each : All (λ l. l ≡ p.at_least n) clause

-- where a search stopped: nothing was refuted; with a drawing its count is positive, the latest query asks for less,
-- and the last Model line answers one before it, for any or below a greater number (limits fall, so that no Model line
-- answers a query for less); without one no model was found and the latest query asks for any
abbrev pub IsStoppedSearch : CountTask → Stop → Option Drawing → Lines → Type 0
IsStoppedSearch p stop best lines = IsCause p.budget p.room stop lines
    × ((clause : List Literal) → Contains lines (Refuted clause) → ⊥)
    × MatchOption best ((Contains lines Model → ⊥) × AsksFor p None lines)
    (λ d. (1 ≤ p.count d) × AsksFor p (Some (p.count d)) lines × MeetsModelled p lines (p.count d))

-- the end of the lines: a Refuted line that leaves no count smaller than the drawing's, if that is
-- positive; one without literals, where there is no drawing; or the search stopped for its cause, with
-- nothing refuted
abbrev pub IsEnd : CountTask → Fewest → Lines → Type 0
IsEnd p (Best d) lines = 1 ≤ p.count d → RefutesFewer p lines (p.count d)
IsEnd p NoDrawing lines = Contains lines (Refuted [])
IsEnd p (Spent best) lines = IsStoppedSearch p BudgetSpent best lines
IsEnd p (Room best) lines = IsStoppedSearch p RoomFull best lines

-- the formula's clauses, as lines
abbrev pub formula_lines : CountTask → Lines
formula_lines p = map Formula p.clauses

-- the lines of a search with this outcome
pub record IsFewestLog (p : CountTask) (outcome : Fewest) (lines : Lines) : Type 0 where
  pub formed : MayAllBeTold lines
  pub derives : Derives lines
  pub due : Due lines
  pub told : clause_lines lines ≡ formula_lines p
  pub fits : words_of (flat_map added lines) ≤ p.room
  pub within : length (flat_map learnt lines) ≤ p.budget
  pub placed : AreCountsAsked p lines
  pub end : IsEnd p outcome lines

abbrev pub stopped_with : Stop → Option Drawing → Fewest
stopped_with BudgetSpent best = Spent best
stopped_with RoomFull best = Room best
