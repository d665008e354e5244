use Rattle.std.proofs.Common.{◌≡◌, ◌++◌, drop}
use Rattle.outside_io.specs.Contents.{Begins}
use Rattle.plan_write.specs.SvgText.{escaped}
use Rattle.plan_write.proofs.svg.push_escaped.Given as goal

abbrev pub invariant-loop-b : goal.invariant-loop-b
invariant-loop-b l = record {
  begins : Begins l.fn.into.items l.into.items;
  left : l.into.items ++ escaped (drop l.b-index l.name) ≡ l.fn.into.items ++ escaped l.name;
}
