use Rattle.std.proofs.Common.{refl, None}
use Rattle.plan_core.specs.Lawful.{Ordered, Joined, Aligned, Over, Parted}
use Rattle.track_order.specs.Order.{is_above}
use Rattle.lawful_check.proofs.BreakLemmas.{Asked, begins, next, of_ordered, of_joined, of_aligned, of_over, of_parted, searched_on_grid, searched_lines}
use Rattle.lawful_check.proofs.BreakLemmas.{searched_nodes, searched_edge, searched_node, searched_apart, searched_edges, all_judged}
use Rattle.lawful_check.proofs.breaking.broken.Goals as goal

pub returns : goal.returns
returns c =
    let q : Asked = record { graph = c.args.g.now; above = is_above c.args.t.now; grid = c.args.grid.now; drawing = c.args.d.now } in
    let size = c.requires.fitting in
    all_judged q c.or-7.result size c.line_off_grid.ensures.are_lines
    (next q 7 _ _ _ c.or-7.ensures
    (next q 6 _ _ _ c.or-6.ensures
    (next q 5 _ _ _ c.or-5.ensures
    (next q 4 _ _ _ c.or-4.ensures
    (next q 3 _ _ _ c.or-3.ensures
    (next q 2 _ _ _ c.or-2.ensures
    (next q 1 _ _ _ c.or.ensures
    (next q 0 None _ _ refl (begins q)
    (searched_on_grid q size _ _ c.for_node.ensures c.node_off_grid.ensures))
    (searched_lines q size _ _ c.for_edge.ensures c.line_off_grid.ensures.first))
    (searched_nodes q 2 2 Ordered of_ordered (λ a b. refl) _ _ c.for_nodes.ensures c.disordered.ensures))
    (searched_edge q 3 3 Joined of_joined (λ n. refl) _ _ c.for_edge-2.ensures c.unjoined.ensures))
    (searched_node q 4 4 Aligned of_aligned (λ n. refl) _ _ c.for_node-2.ensures c.unaligned.ensures))
    (searched_apart q size _ _ c.for_nodes-2.ensures c.meeting.ensures))
    (searched_edges q 6 6 Over of_over (λ a b. refl) _ _ c.for_edges.ensures c.least_not_over.ensures))
    (searched_edges q 7 7 Parted of_parted (λ a b. refl) _ _ c.for_edges-2.ensures c.least_not_parted.ensures))
