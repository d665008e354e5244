-- What is searched, when the solver can be asked, and which lines are known.
use Rattle.std.specs.Prelude.{◌≡◌, ◌≤◌, ⊤, ℕ, false, List, ◌++◌, All, map, flat_map, length}
use Rattle.plan_core.specs.Graph.{IsTrackGraph}
use Rattle.plan_core.specs.Lawful.{Instance}
use Rattle.cnf_core.specs.declared.limits.TheConstants.{VARS}
use Rattle.cnf_core.specs.Clause.{Clauses, words_of}
use Rattle.cnf_core.specs.Formula.{Cnf}
use Rattle.track_order.specs.Order.{is_above, is_overlap, IsOrderOf}
use Rattle.refute_log.specs.declared.line.LogLine.TheVariants.{Formula}
use Rattle.refute_log.specs.Told.{Lines}
use Rattle.refute_log.specs.Log.{added, learnt, clause_lines}
use Rattle.refute_log.specs.declared.stop.Stop.TheVariants.{BudgetSpent, RoomFull}
use Rattle.refute_log.specs.Cause.{IsCause}
use Rattle.drawing_cnf.specs.Expected.{laws_first, instances}
use Rattle.drawing_cnf.specs.Layout.{Layout}
use Rattle.cdcl_core.specs.declared.answer.Answer.{Answer}
use Rattle.cdcl_core.specs.declared.answer.Answer.TheVariants.{Model, Refuted, Spent, Room}
use Rattle.cdcl_core.specs.Kept.{Kept, AreGiven}
use Rattle.cdcl_core.specs.Belongs.{Belongs}
use Rattle.search_why.specs.Task.{Task}
use Rattle.search_why.specs.Asked.{IsNoModel}
use Rattle.law_core.specs.declared.parties.Law.{Law}
use Rattle.law_core.specs.Law.{instance_of}
use Rattle.law_core.specs.Choices.{why_clauses, why_size, selectors}
use Rattle.law_core.specs.Chosen.{SoundChoices, CoversChoices, why_task}
use Rattle.law_core.specs.Query.{AreAboutLaws}

-- the laws of a layout
abbrev pub laws_of : Layout → List Instance
laws_of y = instances y.graph (is_above y.order) (is_overlap y.order)

-- the clauses of a layout, in which each of its laws can be selected
abbrev pub formula_of : Layout → Clauses
formula_of y = why_clauses y.graph (is_above y.order) (is_overlap y.order) y.grid

-- how many variables these clauses have
abbrev pub size_of : Layout → ℕ
size_of y = why_size y.graph (is_above y.order) (is_overlap y.order) y.grid

-- and what is searched in it
abbrev pub task_of : Layout → (budget room : ℕ) → Task
task_of y budget room = why_task y.graph y.order y.grid budget room

-- the formula is both ways what it is to be, and its variables are numbers of variables
pub record IsWhyFormula (y : Layout) : Type 0 where
  pub graph : IsTrackGraph y.graph
  pub sound : SoundChoices y.graph y.grid (laws_of y) (formula_of y)
  pub covers : CoversChoices y.graph y.grid (laws_of y) (formula_of y)
  pub few : size_of y ≤ VARS

-- these are the selecting variables of the laws
abbrev pub AreSelecting : Layout → List ℕ → Type 0
AreSelecting y selecting = selecting ≡ selectors (laws_first y.graph y.grid) (laws_of y)

-- these laws and this formula, with that room, are the layout's, and there is room for it
pub record HasFormula (y : Layout) (room : ℕ) (laws : List Law) (f : Cnf) : Type 0 where
  pub facts : IsWhyFormula y
  pub ordered : IsOrderOf y.graph y.order
  pub laws_are : map instance_of laws ≡ laws_of y
  pub clauses : f.clauses ≡ formula_of y
  pub vars : f.vars ≡ size_of y
  pub kept : f.room ≡ room
  pub words_fit : words_of (formula_of y) ≤ room

-- the solver was given the formula; nothing has failed
pub record IsReady (y : Layout) (selecting : List ℕ) (budget room : ℕ) (k : Kept) : Type 0 where
  pub facts : IsWhyFormula y
  pub selecting_are : AreSelecting y selecting
  pub working : k.failed ≡ false
  pub vars : k.vars ≡ size_of y
  pub room_is : k.room ≡ room
  pub given : AreGiven (formula_of y) k.clauses
  pub spent : k.learnt ≤ budget

-- the lines belong to the solver, their Formula lines are the formula's, their queries select laws, and their Model
-- lines answer them
pub record KnowsWhy (p : Task) (k : Kept) (lines : Lines) : Type 0 where
  pub belongs : Belongs lines k
  pub told_are : clause_lines lines ≡ map Formula p.clauses
  pub learnt_are : k.learnt ≡ length (flat_map learnt lines)
  pub spent : k.learnt ≤ p.budget
  pub fits : words_of (flat_map added lines) ≤ p.room
  pub asked : AreAboutLaws p lines

-- where the solver gave a question up, the lines that are told behind these have the cause, and tell of no model
abbrev pub TellsAnswer : Task → Answer → (lines more : Lines) → Type 0
TellsAnswer p Model lines more = ⊤
TellsAnswer p Refuted lines more = ⊤
TellsAnswer p Spent lines more = IsCause p.budget p.room BudgetSpent (lines ++ more) × All IsNoModel more
TellsAnswer p Room lines more = IsCause p.budget p.room RoomFull (lines ++ more) × All IsNoModel more
