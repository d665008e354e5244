-- What a checker's tables are good for.
-- No public clause names this but the view and the invariant of Checker.
use Rattle.std.specs.Prelude.{◌≤◌, ⊤, Bool, true, false}
use Rattle.cnf_core.specs.Formula.{Cnf}
use Rattle.cnf_core.specs.Propagation.{Falsifies, greatest_var, nothing}
use Rattle.refute_check.specs.declared.tables.Tables.{Tables}
use Rattle.refute_check.specs.declared.keeping.Standing.{Standing}
use Rattle.refute_check.specs.declared.keeping.Standing.TheVariants.{Open, Contradiction, Lost}
use Rattle.refute_check.specs.Settled.{AreSettled}

-- some clause is falsified without assumptions
pub record IsContradicted (f : Cnf) : Type 0 where
  pub falsified : Falsifies f.clauses nothing
  pub greatest : f.vars ≤ greatest_var f.clauses

-- the tables are right, and no clause is
pub record IsOpenChecker (f : Cnf) (t : Tables) : Type 0 where
  pub settled : AreSettled f.vars f.clauses t
  pub greatest : f.vars ≤ greatest_var f.clauses

-- what a checker keeps of its tables, by how they stand: they are right, or some clause is falsified
-- without assumptions, or nothing, where memory was wanting once
abbrev pub IsChecker : Cnf → Tables → Standing → Type 0
IsChecker f t Open = IsOpenChecker f t
IsChecker f t Contradiction = IsContradicted f
IsChecker f t Lost = ⊤

-- memory couldn't be had once
abbrev pub is_lost : Standing → Bool
is_lost Open = false
is_lost Contradiction = false
is_lost Lost = true
