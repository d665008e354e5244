-- What a search for the fewest moved nodes keeps, as one value.
use Rattle.cnf_core.specs.Clause.{Clauses}
use Rattle.refute_log.specs.Told.{Lines}
use Rattle.drawing_cnf.specs.Layout.{layout_of}
use Rattle.cdcl_core.specs.Kept.{Kept}
use Rattle.search_least.specs.CountTask.{CountTask}
use Rattle.search_moved.specs.declared.asking.MovedKnown.{MovedKnown}
use Rattle.search_moved.specs.Known.{formula_of, moved_task, IsReady, KnowsMoved}

-- what is searched
abbrev pub task_with : MovedKnown → CountTask
task_with s = moved_task (layout_of s.encoded) s.former.now s.budget s.room

-- the clauses of its formula
abbrev pub formula_with : MovedKnown → Clauses
formula_with s = formula_of (layout_of s.encoded) s.former.now

-- the solver can be asked
abbrev pub IsReadyWith : MovedKnown → Kept → Type 0
IsReadyWith s k = IsReady s.encoded s.former.now s.budget s.room k

-- these lines are known of the solver
abbrev pub KnowsWith : MovedKnown → Kept → Lines → Type 0
KnowsWith s k lines = KnowsMoved (layout_of s.encoded) s.former.now s.budget s.room k lines
