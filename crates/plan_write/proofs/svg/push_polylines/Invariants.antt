use Rattle.std.proofs.Common.{◌≡◌, ◌++◌, drop}
use Rattle.std.specs.Prelude.{flat_map}
use Rattle.outside_io.specs.Contents.{Begins}
use Rattle.plan_write.specs.SvgText.{polyline}
use Rattle.plan_write.proofs.svg.push_polylines.Given as goal

abbrev pub invariant-loop-line : goal.invariant-loop-line
invariant-loop-line l = record {
  begins : Begins l.fn.into.items l.into.items;
  left : l.into.items ++ flat_map (polyline l.height) (drop l.line-index l.lines) ≡ l.fn.into.items ++ flat_map (polyline l.height) l.lines;
}
