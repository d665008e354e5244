use Rattle.std.proofs.Common.{◌≡◌, take}
use Rattle.std.specs.Prelude.{◌↔◌, Any, Contains}
use Rattle.plan_core.specs.Values.{value_of}
use Rattle.cnf_core.specs.Lit.{Literal}
use Rattle.refute_check.specs.Lacking.{IsUnreached}
use Rattle.refute_check.proofs.lacking.unreached.Given as goal

abbrev pub invariant-loop-bound : goal.invariant-loop-bound
invariant-loop-bound l = (k : Literal) → Contains l.literals.items k ↔ Any (λ b. IsUnreached (value_of l.greatest) l.earlier l.c l.v b × (b.literal ≡ k))
    (take l.bound-index l.bounds)
