use Rattle.std.proofs.Common.{◌≡◌, ◌++◌, drop, map}
use Rattle.outside_io.specs.Contents.{Begins}
use Rattle.outside_io.specs.Fields.{spaced}
use Rattle.outside_io.specs.Criteria.{criterion_word}
use Rattle.plan_write.proofs.sheet_text.push_criteria.Given as goal

abbrev pub invariant-loop-i : goal.invariant-loop-i
invariant-loop-i l = record {
  begins : Begins l.fn.into.items l.into.items;
  left : l.into.items ++ spaced (map criterion_word (drop l.i l.order)) ≡ l.fn.into.items ++ spaced (map criterion_word l.order);
}
