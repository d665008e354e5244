-- What a search with the solver keeps, as one value.
use Rattle.refute_log.specs.Told.{Lines}
use Rattle.cdcl_core.specs.Kept.{Kept}
use Rattle.search_least.specs.Task.{Task}
use Rattle.drawing_cnf.specs.Layout.{layout_of}
use Rattle.lex_minimise.specs.declared.search.Known.{Known}
use Rattle.lex_minimise.specs.Known.{KnowsLines, IsReady}
use Rattle.lex_minimise.specs.Task.{task_of}

-- what is searched
abbrev pub task_with : Known → Task
task_with s = task_of (layout_of s.encoded) s.budget s.room

-- the solver can be asked
abbrev pub IsReadyWith : Known → Kept → Type 0
IsReadyWith s k = IsReady s.encoded s.told.items s.budget s.room k

-- these lines are known of the solver
abbrev pub KnowsWith : Known → Kept → Lines → Type 0
KnowsWith s k lines = KnowsLines (layout_of s.encoded) s.told.items s.budget s.room k lines
