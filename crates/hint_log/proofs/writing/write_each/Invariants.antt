use Rattle.std.proofs.Common.{◌≡◌, ◌++◌, drop, map, decimal}
use Rattle.outside_io.specs.Contents.{Begins}
use Rattle.outside_io.specs.Fields.{spaced}
use Rattle.hint_log.proofs.writing.write_each.Given as goal

-- what is written, with the text of what is left, is the whole text
abbrev pub invariant-loop-number : goal.invariant-loop-number
invariant-loop-number l = record {
  left : l.into.items ++ spaced (map decimal (drop l.number-index l.numbers)) ≡ l.fn.into.items ++ spaced (map decimal l.numbers);
  begins : Begins l.fn.into.items l.into.items;
}
