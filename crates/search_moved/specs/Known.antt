-- What is searched, when the solver can be asked, and which lines are known.
use Rattle.std.specs.Prelude.{◌≡◌, ◌≤◌, ℕ, false, List, [], ◌∷◌, ◌++◌, All, map, flat_map, length, Option}
use Rattle.cnf_core.specs.Lit.{Literal, positive_of}
use Rattle.cnf_core.specs.Clause.{Clauses, IsNamed, words_of}
use Rattle.track_order.specs.Order.{is_above, is_overlap}
use Rattle.refute_log.specs.declared.line.LogLine.TheVariants.{Formula, Refuted as RefutedLine, Model as ModelLine}
use Rattle.refute_log.specs.Told.{Lines}
use Rattle.refute_log.specs.Log.{added, learnt, clause_lines}
use Rattle.drawing_cnf.specs.Encoding.{Encoding}
use Rattle.drawing_cnf.specs.Whole.{IsWhole}
use Rattle.drawing_cnf.specs.Layout.{Layout, layout_of}
use Rattle.cdcl_core.specs.declared.answer.Answer.{Answer}
use Rattle.cdcl_core.specs.declared.answer.Answer.TheVariants.{Model, Refuted, Spent, Room}
use Rattle.cdcl_core.specs.Kept.{Kept, AreGiven}
use Rattle.cdcl_core.specs.Belongs.{Belongs}
use Rattle.refute_log.specs.declared.stop.Stop.TheVariants.{BudgetSpent, RoomFull}
use Rattle.drawing_cnf.specs.Moved.{Former, matched}
use Rattle.search_moved.specs.MovedFormula.{moved_formula, moved_size, moved_variable, moved_nodes}
use Rattle.search_moved.specs.MovedFormula.{SoundMoved, CoversMoved}
use Rattle.search_least.specs.CountTask.{CountTask, CoversCounts}
use Rattle.refute_log.specs.Cause.{IsCause}
use Rattle.search_least.specs.CountAsked.{SaysReached, IsAsked}

-- the clauses of a layout's drawings, and behind them those that count the moved nodes
abbrev pub formula_of : Layout → Former → Clauses
formula_of y former = moved_formula y.graph (is_above y.order) (is_overlap y.order) y.grid former

-- the lawful drawings of a layout, and how many of their nodes moved
abbrev pub moved_task : Layout → Former → (budget room : ℕ) → CountTask
moved_task y former budget room = record {
  graph = y.graph;
  above = is_above y.order;
  grid = y.grid;
  count = moved_nodes former;
  most = matched former;
  at_least = λ j. positive_of (moved_variable y.graph (is_above y.order) (is_overlap y.order) y.grid j);
  clauses = formula_of y former;
  budget = budget;
  room = room;
}

-- the formula is both ways what it is to be
pub record IsMovedFormula (y : Layout) (former : Former) : Type 0 where
  pub sound : SoundMoved y.graph (is_above y.order) (is_overlap y.order) y.grid former
  pub covers : CoversMoved y.graph (is_above y.order) (is_overlap y.order) y.grid former
  pub named : (j : ℕ) → 1 ≤ j → j ≤ matched former → IsNamed (formula_of y former)
      (moved_variable y.graph (is_above y.order) (is_overlap y.order) y.grid j)

-- the solver was given the formula; nothing has failed
pub record IsReady (e : Encoding) (former : Former) (budget room : ℕ) (k : Kept) : Type 0 where
  pub whole : IsWhole e
  pub bounds : e.bounds ≡ []
  pub same : length former ≡ length e.graph.nodes
  pub facts : IsMovedFormula (layout_of e) former
  pub working : k.failed ≡ false
  pub vars : k.vars ≡ moved_size e.graph (is_above e.order) (is_overlap e.order) e.grid former
  pub room_is : k.room ≡ room
  pub given : AreGiven (formula_of (layout_of e) former) k.clauses
  pub spent : k.learnt ≤ budget

-- the lines belong to the solver, and their Formula lines are the formula's
pub record KnowsMoved (y : Layout) (former : Former) (budget room : ℕ) (k : Kept) (lines : Lines) : Type 0 where
  pub belongs : Belongs lines k
  pub told_are : clause_lines lines ≡ map Formula (formula_of y former)
  pub learnt_are : k.learnt ≡ length (flat_map learnt lines)
  pub spent : k.learnt ≤ budget
  pub covers : CoversCounts (moved_task y former budget room) lines
  pub fits : words_of (flat_map added lines) ≤ room

-- the lines of a question that the solver answered so
abbrev pub TellsAnswer : CountTask → Lines → Option ℕ → Answer → Lines → Type 0
TellsAnswer p lines limit Model more = IsAsked p limit (ModelLine ∷ []) more
TellsAnswer p lines limit Refuted more =
    (clause : List Literal) × All (SaysReached p limit) clause × IsAsked p limit (RefutedLine clause ∷ []) more
TellsAnswer p lines limit Spent more = IsAsked p limit [] more × IsCause p.budget p.room BudgetSpent (lines ++ more)
TellsAnswer p lines limit Room more = IsAsked p limit [] more × IsCause p.budget p.room RoomFull (lines ++ more)
