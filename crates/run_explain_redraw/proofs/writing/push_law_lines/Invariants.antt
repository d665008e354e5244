use Rattle.std.specs.Prelude.{◌≡◌, ◌++◌, flat_map, take}
use Rattle.run_explain_redraw.specs.WhyText.{law_line}
use Rattle.run_explain_redraw.proofs.writing.push_law_lines.Given as goal

abbrev pub invariant-loop-law : goal.invariant-loop-law
invariant-loop-law l = l.into.items ≡ l.fn.into.items ++ flat_map law_line (take l.law-index l.laws)
