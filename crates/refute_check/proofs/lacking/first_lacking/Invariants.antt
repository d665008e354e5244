use Rattle.std.proofs.Common.{◌≡◌, take}
use Rattle.plan_core.specs.Values.{value_of}
use Rattle.refute_log.specs.Told.{Lines}
use Rattle.refute_log.specs.Certified.{Certifies}
use Rattle.refute_check.specs.Lacking.{KnowsLog}
use Rattle.refute_check.proofs.lacking.first_lacking.Given as goal

abbrev pub invariant-loop-i : goal.invariant-loop-i
invariant-loop-i l = record {
  held : l.earlier.items ≡ take l.i l.order;
  certified : (lines : Lines) → KnowsLog lines l.checker l.bounds → Certifies (value_of l.greatest) lines l.order l.v l.i;
}
