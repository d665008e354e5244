use Rattle.std.proofs.Common.{◌≡◌, ◌+◌, ◌++◌, drop}
use Rattle.run_explain_redraw.specs.WhyText.{without_texts}
use Rattle.run_explain_redraw.proofs.writing.push_withouts.Given as goal

abbrev pub invariant-loop-d : goal.invariant-loop-d
invariant-loop-d l = record {
  place : l.number ≡ l.d-index + 1;
  text : l.into.items ++ without_texts l.g l.number (drop l.d-index l.drawings) ≡ l.fn.into.items ++ without_texts l.g 1 l.drawings;
}
