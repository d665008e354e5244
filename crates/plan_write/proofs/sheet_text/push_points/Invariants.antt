use Rattle.std.proofs.Common.{◌≡◌, ◌++◌, drop, map}
use Rattle.std.specs.Prelude.{flat_map}
use Rattle.std.specs.Fmt.{decimal}
use Rattle.outside_io.specs.Contents.{Begins}
use Rattle.outside_io.specs.Fields.{spaced}
use Rattle.plan_write.specs.SheetLine.{coordinates}
use Rattle.plan_write.proofs.sheet_text.push_points.Given as goal

abbrev pub invariant-loop-p : goal.invariant-loop-p
invariant-loop-p l = record {
  begins : Begins l.fn.into.items l.into.items;
  left : l.into.items ++ spaced (map decimal (flat_map coordinates (drop l.p-index l.points))) ≡ l.fn.into.items ++ spaced
      (map decimal (flat_map coordinates l.points));
}
