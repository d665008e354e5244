use Rattle.std.specs.Prelude.{◌≡◌, ◌++◌, flat_map, map}
use Rattle.std.specs.List.{range_with_len}
use Rattle.plan_write.specs.declared.edition.Edition.TheVariants.{Second}
use Rattle.plan_write.specs.SheetLine.{text_of_line}
use Rattle.plan_write.specs.SheetText.{node_line}
use Rattle.plan_write.proofs.sheet_text.push_node_lines.Given as goal

abbrev pub invariant-loop-n : goal.invariant-loop-n
invariant-loop-n l = l.into.items ≡ l.fn.into.items ++ flat_map text_of_line (map (node_line Second l.g l.d) (range_with_len 0 l.n))
