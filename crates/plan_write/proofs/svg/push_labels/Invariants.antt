use Rattle.std.specs.Prelude.{◌≡◌, ◌++◌, flat_map}
use Rattle.std.specs.List.{range_with_len}
use Rattle.plan_write.specs.SvgText.{label}
use Rattle.plan_write.proofs.svg.push_labels.Given as goal

abbrev pub invariant-loop-n : goal.invariant-loop-n
invariant-loop-n l = l.into.items ≡ l.fn.into.items ++ flat_map (label l.g l.d) (range_with_len 0 l.n)
