use Rattle.std.proofs.Common.{◌-◌, length}
use Rattle.plan_core.specs.Searching.{NoneBefore}
use Rattle.refute_log.specs.Log.{IsRefutedWithin}
use Rattle.refute_log.proofs.line_list.LineList.first_refuted.Given as goal

abbrev pub invariant-loop-i : goal.invariant-loop-i
invariant-loop-i l = NoneBefore (λ _ line. IsRefutedWithin l.allowed line) l.self l.i

abbrev pub decreases-loop-i : goal.decreases-loop-i
decreases-loop-i l = length l.self-inside.lines.items - l.i
