use Rattle.std.proofs.Common.{◌∷◌, [], ◌∙◌, ap, refl, length, length-append, arith}
use Rattle.search_moved.proofs.StartLemmas.{nodes_none, nodes_more}
use Rattle.search_moved.proofs.counting.node_list.Goals as goal

pub loop-k-init : goal.loop-k-init
loop-k-init c = record {
  size = ap length c.new-nodes.ensures.items;
  each = nodes_none c.args.encoded.now c.new-nodes.result.items 0 refl;
}

pub loop-k-preserved : goal.loop-k-preserved
loop-k-preserved c =
    let now = c.in_ok-push.ensures.items in
    record {
      size = (let s = ap length now ∙ length-append c.loop-k.nodes.items (c.node.result ∷ []) in let t = c.loop-k.invariant.size in omega (arith, s, t));
      each = nodes_more c.args.encoded.now c.loop-k.nodes.items c.push.new.self.items c.node.result c.loop-k.k c.loop-k.invariant.size c.loop-k.invariant.each
          now c.node.ensures.x c.node.ensures.y;
    }
