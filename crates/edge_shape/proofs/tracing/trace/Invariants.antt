use Rattle.std.proofs.Common.{◌-◌}
use Rattle.edge_shape.specs.Columns.{listed_height}
use Rattle.edge_shape.proofs.TraceLemmas.{IsTracing}
use Rattle.edge_shape.proofs.tracing.trace.Given as goal

abbrev pub invariant-loop-c : goal.invariant-loop-c
invariant-loop-c l = IsTracing (listed_height l.heights) l.west (l.east - l.west - 1) l.c l.points.items
