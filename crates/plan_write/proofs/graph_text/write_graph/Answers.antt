use Rattle.std.specs.Prelude.{◌≡◌, ℕ, ◌++◌, codes, length}
use Rattle.std.proofs.Common.{ap, ◌∙◌}
use Rattle.std.proofs.lemmas.Result.{on_ok_weaker}
use Rattle.track_order.specs.Order.{is_above}
use Rattle.plan_write.specs.GraphText.{nodes_text, edges_text, order_text}
use Rattle.plan_write.proofs.PictureLineLemmas.{appended_four, begins_more}
use Rattle.plan_write.proofs.graph_text.write_graph.Goals as goal

pub returns-clause-ok : goal.returns-clause-ok
returns-clause-ok c =
    on_ok_weaker c.push_order.result
    (λ (last : c.push_order.new.into.items ≡ c.push_edges.new.into.items ++ order_text (is_above c.args.t.now) c.args.t.now.edges).
    appended_four c.args.into.now.items (codes "railgraph 1\n") (nodes_text c.args.g.now) (edges_text c.args.g.now)
    (order_text (is_above c.args.t.now) (length c.args.g.now.edges))
    c.push_text.new.into.items c.push_nodes.new.into.items c.push_edges.new.into.items c.push_order.new.into.items
    c.in_ok-push_text.ensures.ok c.in_ok-push_nodes.ensures.ok c.in_ok-push_edges.ensures.ok
    (last ∙ ap (λ (n : ℕ). c.push_edges.new.into.items ++ order_text (is_above c.args.t.now) n) c.requires.edges))
    c.push_order.ensures.ok

pub returns-clause-begins : goal.returns-clause-begins
returns-clause-begins c = begins_more _ _ _ (begins_more _ _ _ (begins_more _ _ _ c.push_text.ensures.begins c.push_nodes.ensures.begins)
    c.push_edges.ensures.begins) c.push_order.ensures.begins
