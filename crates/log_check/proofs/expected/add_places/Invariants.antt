use Rattle.std.proofs.Common.{take}
use Rattle.plan_core.specs.Values.{value_of}
use Rattle.drawing_cnf.specs.Layout.{layout_of}
use Rattle.log_check.specs.Expecting.{IsExpecting}
use Rattle.log_check.proofs.expected.add_places.Given as goal

abbrev pub invariant-loop-i : goal.invariant-loop-i
invariant-loop-i l = IsExpecting (layout_of l.fn.e.encoded) (take l.i l.order) (value_of l.caps) l.e.encoded l.e.parts.items
