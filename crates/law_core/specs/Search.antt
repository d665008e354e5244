-- What a search for an explanation keeps, as one value.
use Rattle.std.specs.Prelude.{ℕ, List}
use Rattle.cnf_core.specs.Clause.{Clauses}
use Rattle.cnf_core.specs.Lit.{Literal}
use Rattle.refute_log.specs.Told.{Lines}
use Rattle.drawing_cnf.specs.Layout.{Layout, layout}
use Rattle.cdcl_core.specs.Kept.{Kept}
use Rattle.search_why.specs.Task.{Task}
use Rattle.law_core.specs.declared.asking.WhyKnown.{WhyKnown}
use Rattle.law_core.specs.Known.{formula_of, task_of, IsReady, KnowsWhy}
use Rattle.law_core.specs.Query.{query_of}

-- the layout that is searched
abbrev pub layout_with : WhyKnown → Layout
layout_with s = layout s.graph.now s.order.now s.grid.now

-- what is searched
abbrev pub task_with : WhyKnown → Task
task_with s = task_of (layout_with s) s.budget s.room

-- the clauses of its formula
abbrev pub formula_with : WhyKnown → Clauses
formula_with s = formula_of (layout_with s)

-- the laws at these places, as assumptions
abbrev pub query_with : WhyKnown → List ℕ → List Literal
query_with s wanted = query_of s.selecting.items wanted

-- the solver can be asked
abbrev pub IsReadyWith : WhyKnown → Kept → Type 0
IsReadyWith s k = IsReady (layout_with s) s.selecting.items s.budget s.room k

-- these lines are known of the solver
abbrev pub KnowsWith : WhyKnown → Kept → Lines → Type 0
KnowsWith s k lines = KnowsWhy (task_with s) k lines
