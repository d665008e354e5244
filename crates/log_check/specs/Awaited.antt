-- The lines that are still awaited of a log: those that are expected, behind the ones that came.
-- No public clause names this.
use Rattle.std.specs.Prelude.{◌≤◌, ◌<◌, ⊤, ℕ, ◌+◌, ◌-◌, List, [], ◌∷◌, ◌++◌, All, length, map, take, drop}
use Rattle.cnf_core.specs.declared.limits.TheConstants.{VARS}
use Rattle.cnf_core.specs.Clause.{Clauses}
use Rattle.refute_log.specs.declared.line.LogLine.TheVariants.{Formula}
use Rattle.refute_log.specs.Told.{Lines}
use Rattle.refute_log.specs.Expected.{bound_lines}
use Rattle.drawing_cnf.specs.Lists.{variables_behind}
use Rattle.log_check.specs.declared.awaited.Part.{Part}
use Rattle.log_check.specs.declared.awaited.Part.TheVariants.{ClausesTo, Bounds}
use Rattle.log_check.specs.declared.awaited.Awaited.{Awaited}

-- of these parts, where this is the number of the next clause, and so many bounds of the first part came
abbrev pub lines_from : Clauses → List Part → (clause : ℕ) → (bound : ℕ) → Lines
lines_from clauses [] clause bound = []
lines_from clauses (ClausesTo end ∷ parts) clause bound =
    map Formula (take (end - clause) (drop clause clauses)) ++ lines_from clauses parts end 0
lines_from clauses (Bounds c last cap ∷ parts) clause bound =
    bound_lines c (bound + 1) (variables_behind (last + bound) (cap - bound)) ++ lines_from clauses parts clause 0

-- the number of the clause that comes behind the parts
abbrev pub clause_after : List Part → ℕ → ℕ
clause_after [] clause = clause
clause_after (ClausesTo end ∷ parts) clause = clause_after parts end
clause_after (Bounds c last cap ∷ parts) clause = clause_after parts clause

-- it ends at a clause that there is, or has variables that there may be
abbrev pub IsPart : Clauses → Part → Type 0
IsPart clauses (ClausesTo end) = end ≤ length clauses
IsPart clauses (Bounds c last cap) = last + cap ≤ VARS

-- so it is of each part
abbrev pub AreParts : Clauses → List Part → Type 0
AreParts clauses parts = All (IsPart clauses) parts

abbrev pub awaited_lines : Awaited → Lines
awaited_lines a = lines_from a.formula.now.clauses a.parts.now a.clause a.bound

abbrev pub IsAwaited : Awaited → Type 0
IsAwaited a = AreParts a.formula.now.clauses a.parts.now

-- the first part has a line more, or there is none
abbrev pub HasMore : List Part → ℕ → ℕ → Type 0
HasMore [] clause bound = ⊤
HasMore (ClausesTo end ∷ parts) clause bound = clause < end
HasMore (Bounds c last cap ∷ parts) clause bound = bound < cap
