-- A call that adds the clauses of some instances, and makes their variables.
use Rattle.std.specs.Prelude.{ℕ, ◌+◌, List, Result}
use Rattle.plan_core.specs.Graph.{Graph}
use Rattle.plan_core.specs.Lawful.{Instance}
use Rattle.cnf_core.specs.declared.fault.CnfFault.{CnfFault}
use Rattle.cnf_core.specs.Formula.{Cnf}
use Rattle.cnf_core.specs.Added.{AddsBlock}
use Rattle.cnf_laws.specs.Stands.{DrawingVars}
use Rattle.cnf_laws.specs.LawClauses.{laws_size, laws_clauses}

abbrev pub AddsLaws : {T : Type 0} → Result T CnfFault → Cnf → Cnf → Graph → DrawingVars → ℕ → List Instance → ℕ →
    Type 0
AddsLaws r old new g x width laws longest =
    AddsBlock r old new (laws_size g laws) (laws_clauses g x width (old.vars + 1) laws) longest
