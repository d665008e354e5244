use Rattle.std.proofs.Common.{◌≡◌, ◌++◌, map, filter, drop, All}
use Rattle.railml_topology.specs.declared.order.Standing.{Standing as Placed}
use Rattle.railml_topology.specs.Plans.{is_inner as passes_inner, IsStanding}
use Rattle.railml_topology.proofs.order.standings.Given as goal

abbrev pub invariant-loop-number : goal.invariant-loop-number
invariant-loop-number l = record {
  rows : map (λ (s : Placed). s.row) l.list.items ++ filter (passes_inner l.rows) (drop l.number-index l.numbers) ≡ filter (passes_inner l.rows) l.numbers;
  standing : All (IsStanding l.rows) l.list.items;
}
