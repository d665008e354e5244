use Rattle.std.specs.Prelude.{◌≡◌, ◌++◌, flat_map}
use Rattle.std.specs.List.{range_with_len}
use Rattle.plan_objects.specs.SignalsText.{signal_line}
use Rattle.plan_objects.proofs.writing.push_signals.Given as goal

abbrev pub invariant-loop-i : goal.invariant-loop-i
invariant-loop-i l = l.into.items ≡ l.fn.into.items ++ flat_map (signal_line l.signals l.placed l.d) (range_with_len 0 l.i)
