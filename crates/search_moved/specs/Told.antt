-- How the search for the fewest moved nodes ends.
use Rattle.std.specs.Prelude.{◌≡◌, ◌<◌, ◌≤◌, ◌⊎◌, ℕ, List, [], map, None}
use Rattle.cnf_core.specs.declared.limits.TheConstants.{VARS}
use Rattle.cnf_core.specs.Clause.{Clauses, words_of}
use Rattle.cnf_core.specs.Formula.{Cnf}
use Rattle.track_order.specs.Order.{is_above, is_overlap}
use Rattle.refute_log.specs.declared.line.LogLine.TheVariants.{Formula}
use Rattle.refute_log.specs.Told.{Lines}
use Rattle.refute_log.specs.Log.{learnt_count, Derives, BeginsLines, clause_lines}
use Rattle.edge_shape.specs.declared.edge_vars.NodeVars.{NodeVars}
use Rattle.drawing_cnf.specs.Encoding.{Encoding, encoded_vars}
use Rattle.drawing_cnf.specs.Expected.{drawing_vars, formula_size}
use Rattle.drawing_cnf.specs.Layout.{Layout}
use Rattle.drawing_cnf.specs.Moved.{Former}
use Rattle.drawing_cnf.specs.MovedClauses.{count_clauses}
use Rattle.drawing_cnf.specs.Nodes.{node_at}
use Rattle.search_moved.specs.MovedFormula.{moved_size}
use Rattle.search_least.specs.declared.fewest.Fewest.{Fewest}
use Rattle.search_least.specs.declared.fewest.Fewest.TheVariants.{Room}
use Rattle.search_least.specs.Fewest.{IsFewestLog}
use Rattle.search_moved.specs.Known.{formula_of, moved_task}

-- the formula has more variables than there may be, or its words pass the room
abbrev pub FormulaPasses : Layout → Former → ℕ → Type 0
FormulaPasses y former room =
    (VARS < moved_size y.graph (is_above y.order) (is_overlap y.order) y.grid former)
    ⊎ (room < words_of (formula_of y former))

-- how the search ends with these lines: as one that was told the formula; or without room for the formula, and then
-- nothing was told
abbrev pub IsMovedEnd : Layout → Former → (budget room : ℕ) → Fewest → Lines → Type 0
IsMovedEnd y former budget room o lines =
    IsFewestLog (moved_task y former budget room) o lines
    ⊎ ((o ≡ Room None) × (lines ≡ []) × FormulaPasses y former room)

-- the lines of a search, also of one that ended with an error: they derive, their Formula and Bound lines begin those
-- of the formula, and there are no more Learnt lines, as a log counts them, than the budget allows
pub record IsMovedLeft (y : Layout) (former : Former) (budget : ℕ) (lines : Lines) : Type 0 where
  pub derives : Derives lines
  pub begins : BeginsLines (clause_lines lines) (map Formula (formula_of y former))
  pub within : learnt_count lines ≤ budget

-- the list has each node's integers
abbrev pub AreNodes : Encoding → List NodeVars → ℕ → Type 0
AreNodes e nodes n = (k : ℕ) → k < n → node_at nodes k ≡ (encoded_vars e).node k

-- the count's clauses, as they stand behind the formula of the drawings
abbrev pub count_clauses_behind : Encoding → Former → Clauses
count_clauses_behind e former =
    count_clauses (encoded_vars e).node former (formula_size e.graph (is_above e.order) (is_overlap e.order) e.grid)

-- how many variables there are with the count's clauses
abbrev pub size_with : Encoding → Former → ℕ
size_with e former = moved_size e.graph (is_above e.order) (is_overlap e.order) e.grid former

-- the count's clauses as a formula of their own, with as many variables as behind the formula of the
-- drawings; the words of both together are within the room
pub record IsCounting (y : Layout) (former : Former) (room : ℕ) (f : Cnf) : Type 0 where
  pub vars : f.vars ≡ moved_size y.graph (is_above y.order) (is_overlap y.order) y.grid former
  pub clauses : f.clauses ≡ count_clauses (drawing_vars y.graph y.grid).node former
      (formula_size y.graph (is_above y.order) (is_overlap y.order) y.grid)
  pub words_fit : words_of (formula_of y former) ≤ room
