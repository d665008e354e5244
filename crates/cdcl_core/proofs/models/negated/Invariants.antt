use Rattle.std.proofs.Common.{◌≡◌, map, take}
use Rattle.cnf_core.specs.Lit.{negate}
use Rattle.cdcl_core.proofs.models.negated.Given as goal

-- those of the literals so far
abbrev pub invariant-loop-l : goal.invariant-loop-l
invariant-loop-l l = l.others.items ≡ map negate (take l.l-index l.lits)
