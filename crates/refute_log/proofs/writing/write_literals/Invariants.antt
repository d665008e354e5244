use Rattle.std.proofs.Common.{◌≡◌, ◌++◌, drop, map}
use Rattle.outside_io.specs.Contents.{Begins}
use Rattle.refute_log.specs.Lines.{literal_text}
use Rattle.outside_io.specs.Fields.{spaced}
use Rattle.refute_log.proofs.writing.write_literals.Given as goal

-- what is written, with the text of what is left, is the whole text
abbrev pub invariant-loop-literal : goal.invariant-loop-literal
invariant-loop-literal l = record {
  left : l.into.items ++ spaced (map literal_text (drop l.literal-index l.literals)) ≡ l.fn.into.items ++ spaced (map literal_text l.literals);
  begins : Begins l.fn.into.items l.into.items;
}
