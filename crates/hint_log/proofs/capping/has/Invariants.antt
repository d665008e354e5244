use Rattle.std.proofs.Common.{◌≡◌, ◌≢◌, ◌<◌, ℕ, Some}
use Rattle.std.specs.Prelude.{slice_get}
use Rattle.plan_core.specs.declared.criterion.Criterion.{Criterion}
use Rattle.hint_log.proofs.capping.has.Given as goal

-- none of the criteria so far is this one
abbrev pub invariant-loop-i : goal.invariant-loop-i
invariant-loop-i l = (k : ℕ) (d : Criterion) → k < l.i → slice_get l.order k ≡ Some d → d ≢ l.c
