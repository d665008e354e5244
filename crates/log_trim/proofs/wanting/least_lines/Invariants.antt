use Rattle.std.proofs.Common.{◌≡◌, take}
use Rattle.plan_core.specs.Values.{value_of}
use Rattle.log_trim.specs.Wanted.{AreOfLeast}
use Rattle.log_trim.proofs.wanting.least_lines.Given as goal

abbrev pub invariant-loop-i : goal.invariant-loop-i
invariant-loop-i l = record {
  held : l.earlier.items ≡ take l.i l.order;
  wanted : AreOfLeast (value_of l.greatest) l.lines l.order l.v l.i l.wanted.items;
}
