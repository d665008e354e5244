use Rattle.std.proofs.Common.{◌≡◌, take}
use Rattle.plan_core.specs.Values.{value_of}
use Rattle.refute_log.specs.Told.{Lines}
use Rattle.refute_log.specs.Certified.{Certifies}
use Rattle.hint_log.specs.HintedLines.{HintLines}
use Rattle.log_check.specs.Hinted.{log_of, KnowsHints}
use Rattle.log_check.proofs.hint_lacking.first_lacking.Given as goal

abbrev pub invariant-loop-i : goal.invariant-loop-i
invariant-loop-i l = record {
  held : l.earlier.items ≡ take l.i l.order;
  certified : (told : Lines) (lines : HintLines) → KnowsHints told lines l.checker l.bounds →
      Certifies (value_of l.greatest) (log_of told lines) l.order l.v l.i;
}
