-- What a look at one clause answers.
-- No public clause names this.
use Rattle.std.specs.Prelude.{◌≡◌, false, List, All}
use Rattle.cnf_core.specs.Lit.{Literal, negate}
use Rattle.cnf_core.specs.Propagation.{LiteralSet, IsIn}
use Rattle.refute_check.specs.declared.scan.Scan.{Scan}
use Rattle.refute_check.specs.declared.scan.Scan.TheVariants.{Falsified, Unit as UnitOf, Quiet}
use Rattle.refute_check.specs.declared.scan.Truth.{Truth}
use Rattle.refute_check.specs.declared.scan.Truth.TheVariants.{True, False, Unset}
use Rattle.refute_check.specs.Tables.{IsQuiet, IsUnsetUnit}

abbrev pub IsTruth : LiteralSet → Literal → Truth → Type 0
IsTruth set l True = IsIn set l
IsTruth set l False = IsIn set (negate l)
IsTruth set l Unset = (set l ≡ false) × (set (negate l) ≡ false)

abbrev pub IsScan : LiteralSet → List Literal → Scan → Type 0
IsScan set clause Falsified = All (λ k. IsIn set (negate k)) clause
IsScan set clause (UnitOf l) = IsUnsetUnit set clause l
IsScan set clause Quiet = IsQuiet set set clause
