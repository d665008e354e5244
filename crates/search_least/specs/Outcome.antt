-- The outcome of a search, and what its lines are then.
-- A search is said of the list of all lines that it tells, whatever the log keeps of them.
use Rattle.std.specs.Prelude.{◌≡◌, ◌≢◌, ◌≤◌, ◌⊎◌, ℕ, List, [], Contains, map, flat_map, take, length, Option, None}
use Rattle.std.specs.Prelude.{Some}
use Rattle.plan_core.specs.declared.criterion.Values.{Values}
use Rattle.plan_core.specs.declared.criterion.Criterion.{Criterion}
use Rattle.plan_core.specs.Values.{values_of, Better, IsBest}
use Rattle.plan_core.specs.Drawing.{Drawing}
use Rattle.cnf_core.specs.declared.limits.TheConstants.{VARS}
use Rattle.cnf_core.specs.Clause.{words_of}
use Rattle.refute_log.specs.declared.line.LogLine.TheVariants.{Formula, Model}
use Rattle.refute_log.specs.Lines.{MayAllBeTold}
use Rattle.refute_log.specs.Told.{Lines}
use Rattle.refute_log.specs.Log.{added, learnt, learnt_count, Derives, Due, BeginsLines, clause_lines}
use Rattle.refute_log.specs.Bounds.{CoversDrawings}
use Rattle.refute_log.specs.Certified.{Certifies, CertifiesNone, IsSettled}
use Rattle.refute_log.specs.Expected.{caps, expected_lines, expected_vars, IsExpected, IsAllExpected}
use Rattle.refute_log.specs.Full.{CapsPass}
use Rattle.refute_log.specs.declared.stop.Stop.{Stop}
use Rattle.refute_log.specs.declared.stop.Stop.TheVariants.{BudgetSpent, RoomFull}
use Rattle.search_least.specs.declared.outcome.Outcome.{Outcome}
use Rattle.search_least.specs.declared.outcome.Outcome.TheVariants.{Best, NoDrawing, Spent, Room}
use Rattle.search_least.specs.Task.{Task, IsLawful, greatest_of}
use Rattle.refute_log.specs.Cause.{IsCause}
use Rattle.search_least.specs.Asked.{MeetsQuery}
use Rattle.search_least.specs.Placed.{AreInTurn}
use Rattle.search_least.specs.Caps.{AreCapped, IsCauseWith}

-- what the lines of every search are: they may be told and derive, each Learnt line is due, they cover the lawful
-- drawings, their Formula and Bound lines begin what is expected for their caps, their clauses have room, there are no
-- more Learnt lines than the budget allows, what is expected has no more variables than there may be, where there is
-- such a line, and each Query, Model and Bound line is due by the lines before it
pub record IsSearched (p : Task) (order : List Criterion) (lines : Lines) : Type 0 where
  pub formed : MayAllBeTold lines
  pub derives : Derives lines
  pub due : Due lines
  pub covers : CoversDrawings p.graph p.above p.grid lines
  pub front : IsExpected p.encoding (greatest_of p) order lines
  pub fits : words_of (flat_map added lines) ≤ p.room
  pub within : length (flat_map learnt lines) ≤ p.budget
  pub few : clause_lines lines ≢ [] → expected_vars p.encoding order (caps (greatest_of p) lines) ≤ VARS
  pub placed : AreInTurn p order lines

-- the Formula and Bound lines are the whole of what is expected, the drawing's values are certified on the whole order,
-- and each criterion has the bounds of its turn
pub record IsBestEnd (p : Task) (order : List Criterion) (d : Drawing) (lines : Lines) : Type 0 where
  pub searched : IsSearched p order lines
  pub whole : IsAllExpected p.encoding (greatest_of p) order lines
  pub lawful : IsLawful p d
  pub none_better : (other : Drawing) → IsLawful p other → Better order (values_of other) (values_of d) → ⊥
  pub certified : Certifies (greatest_of p) lines order (values_of d) (length order)
  pub capped : AreCapped p order (length order) d (caps (greatest_of p) lines)

-- there is no Bound line, and it is certified that no drawing is lawful
pub record IsNoneEnd (p : Task) (order : List Criterion) (lines : Lines) : Type 0 where
  pub searched : IsSearched p order lines
  pub whole : IsAllExpected p.encoding (greatest_of p) order lines
  pub unbounded : clause_lines lines ≡ map Formula p.encoding.clauses
  pub none_lawful : (d : Drawing) → IsLawful p d → ⊥
  pub certified : CertifiesNone lines

-- the search stopped with this drawing, whose values are certified and can't be less at the first places, so many and
-- no more: in a question, or for want of room for the next criterion's lines. Each criterion that had its turn has the
-- bounds of it
pub record IsUnfinishedEnd (p : Task) (order : List Criterion) (settled : ℕ) (stop : Stop) (d : Drawing) (lines : Lines)
    : Type 0 where
  pub searched : IsSearched p order lines
  pub whole : IsAllExpected p.encoding (greatest_of p) order lines
  pub lawful : IsLawful p d
  pub none_better : (other : Drawing) → IsLawful p other → Better (take settled order) (values_of other) (values_of d) →
      ⊥
  pub is_settled : IsSettled (greatest_of p) lines order (values_of d) settled
  pub not_certified : Certifies (greatest_of p) lines order (values_of d) (length order) → ⊥
  pub query : MeetsQuery lines (values_of d)
  pub cause : IsCauseWith p order settled stop d lines

-- the search stopped before there was an answer, and before there were bounds: in the first question, or, with no line
-- told, for want of room for the formula
pub record IsUnfoundEnd (p : Task) (order : List Criterion) (settled : ℕ) (stop : Stop) (lines : Lines) : Type 0 where
  pub searched : IsSearched p order lines
  pub told : IsAllExpected p.encoding (greatest_of p) order lines ⊎ (lines ≡ [])
  pub settled_is : settled ≡ 0
  pub unbounded : (c : Criterion) → caps (greatest_of p) lines c ≡ 0
  pub no_model : Contains lines Model → ⊥
  pub not_none : CertifiesNone lines → ⊥
  pub cause : IsCause p.budget p.room stop lines ⊎ ((stop ≡ RoomFull)
      × CapsPass p.encoding order lines p.room (caps (greatest_of p) lines))

-- a search that stopped with a drawing (`IsUnfinishedEnd`), or without one (`IsUnfoundEnd`)
abbrev pub IsStoppedEnd : Task → List Criterion → ℕ → Stop → Option Drawing → Lines → Type 0
IsStoppedEnd p order settled stop None lines = IsUnfoundEnd p order settled stop lines
IsStoppedEnd p order settled stop (Some d) lines = IsUnfinishedEnd p order settled stop d lines

-- these are the lines of a search with this outcome
abbrev pub IsOutcome : Task → List Criterion → Outcome → Lines → Type 0
IsOutcome p order (Best d) lines = IsBestEnd p order d lines
IsOutcome p order NoDrawing lines = IsNoneEnd p order lines
IsOutcome p order (Spent best settled) lines = IsStoppedEnd p order settled BudgetSpent best lines
IsOutcome p order (Room best settled) lines = IsStoppedEnd p order settled RoomFull best lines

-- the lines of a search for least values, also of one that ended with an error: they derive, their Formula and Bound
-- lines begin those that are expected with some caps, each at most the criterion's greatest value, and there are no
-- more Learnt lines, as a log counts them, than the budget allows
pub record IsLeastLeft (p : Task) (order : List Criterion) (lines : Lines) : Type 0 where
  pub derives : Derives lines
  pub cap : Criterion → ℕ
  pub capped : (c : Criterion) → cap c ≤ greatest_of p c
  pub begins : BeginsLines (clause_lines lines) (expected_lines p.encoding order cap)
  pub within : learnt_count lines ≤ p.budget

-- the outcome of a search that stopped
abbrev pub stopped_with : Stop → Option Drawing → ℕ → Outcome
stopped_with BudgetSpent best settled = Spent best settled
stopped_with RoomFull best settled = Room best settled

-- the clauses of the drawings alone were told
pub record IsFresh (p : Task) (cap : Criterion → ℕ) (vars : ℕ) : Type 0 where
  pub none : (c : Criterion) → cap c ≡ 0
  pub vars_are : vars ≡ p.encoding.vars

-- the lines of the clauses of the drawings alone
abbrev pub first_lines : Task → Lines
first_lines p = map Formula p.encoding.clauses

-- what is said of the best drawing so far: it is lawful, and none is better on the settled criteria; where
-- there is none, none is settled
abbrev pub IsRightSoFar : Task → List Criterion → ℕ → Option Drawing → Type 0
IsRightSoFar p order settled None = settled ≡ 0
IsRightSoFar p order settled (Some d) =
    IsLawful p d × ((other : Drawing) → IsLawful p other → Better (take settled order) (values_of other) (values_of d) →
    ⊥)

-- what the outcome says of drawings, whatever the log keeps: the best is lawful and none is better; none is
-- lawful; or it is right so far
abbrev pub IsRightOutcome : Task → List Criterion → Outcome → Type 0
IsRightOutcome p order (Best d) = IsBest p.graph p.above p.grid order d
IsRightOutcome p order NoDrawing = (d : Drawing) → IsLawful p d → ⊥
IsRightOutcome p order (Spent best settled) = IsRightSoFar p order settled best
IsRightOutcome p order (Room best settled) = IsRightSoFar p order settled best

-- the values of the drawing that was found, if one was
abbrev pub values_found : Option Drawing → Option Values
values_found None = None
values_found (Some d) = Some (values_of d)
