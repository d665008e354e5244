use Rattle.std.proofs.Common.{ℕ, ◌<◌, get_or}
use Rattle.outside_io.specs.Fields.{EndsField}
use Rattle.outside_io.proofs.cutting.front_field.Given as goal

abbrev pub invariant-loop-end : goal.invariant-loop-end
invariant-loop-end l = (k : ℕ) → k < l.end → EndsField (get_or l.text k 0) → ⊥
