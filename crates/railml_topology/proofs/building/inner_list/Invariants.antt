use Rattle.std.proofs.Common.{take}
use Rattle.std.specs.List.{AllZip}
use Rattle.railml_topology.specs.Resolved.{IsInnerOf}
use Rattle.railml_topology.proofs.building.inner_list.Given as goal

abbrev pub invariant-loop-number : goal.invariant-loop-number
invariant-loop-number l = AllZip (IsInnerOf l.site.rows.now l.site.layouts.now l.begin) (take l.number-index l.numbers) l.list
