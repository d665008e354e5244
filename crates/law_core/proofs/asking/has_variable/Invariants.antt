use Rattle.std.proofs.Common.{◌≡◌, drop}
use Rattle.law_core.specs.Query.{has_variable}
use Rattle.law_core.proofs.asking.has_variable.Given as goal

abbrev pub invariant-loop-l : goal.invariant-loop-l
invariant-loop-l l = has_variable l.literals l.x ≡ has_variable (drop l.l-index l.literals) l.x
