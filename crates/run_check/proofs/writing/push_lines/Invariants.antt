use Rattle.std.proofs.Common.{◌≡◌, ◌++◌, drop}
use Rattle.std.specs.Prelude.{flat_map}
use Rattle.hint_log.specs.HintText.{ended_hint}
use Rattle.run_check.proofs.writing.push_lines.Given as goal

abbrev pub invariant-loop-line : goal.invariant-loop-line
invariant-loop-line l = l.into.items ++ flat_map ended_hint (drop l.line-index l.lines) ≡ l.fn.into.items ++ flat_map ended_hint l.lines
