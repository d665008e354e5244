use Rattle.std.proofs.Common.{[], ◌∷◌, length, sym, ◌∙◌, subst, arith}
use Rattle.plan_core.specs.Lawful.{Ordered, Apart, Over, Parted}
use Rattle.cnf_core.specs.Truths.{assignment}
use Rattle.track_order.specs.Order.{is_above, is_overlap}
use Rattle.cnf_laws.specs.Expected.{laws_first, instance_pairs}
use Rattle.drawing_cnf.specs.Puts.{IsPutTo, PutsLaws}
use Rattle.drawing_cnf.proofs.PutLaws.{put_to_more, all_put, sizes_of_all}
use Rattle.drawing_cnf.proofs.put_laws.put_laws.Goals as goal

pub put_apart_pairs-next-requires-clause-ordered : goal.put_apart_pairs-next-requires-clause-ordered
put_apart_pairs-next-requires-clause-ordered c = λ u v pair. c.requires.lawful.laws (Ordered u v) pair

pub put_apart_pairs-next-requires-clause-apart : goal.put_apart_pairs-next-requires-clause-apart
put_apart_pairs-next-requires-clause-apart c = λ u v pair. c.requires.lawful.laws (Apart u v) pair

pub put_apart_pairs-next-requires-clause-put : goal.put_apart_pairs-next-requires-clause-put
put_apart_pairs-next-requires-clause-put c =
    let s = c.args.s.now in
    subst (λ n. IsPutTo s.graph.now s.grid.now s.drawing.now (assignment c.args.m.now) n) (sym c.laws_start-first.ensures) c.requires.put

pub put_apart_pairs-next-requires-clause-to : goal.put_apart_pairs-next-requires-clause-to
put_apart_pairs-next-requires-clause-to c =
    let s = c.args.s.now in
    let sizes = sizes_of_all s.graph.now s.grid.now s.drawing.now (is_above s.order.now) (is_overlap s.order.now) (assignment c.args.m.now)
    (laws_first s.graph.now s.grid.now) c.requires.lawful c.requires.put in
    let is = c.laws_start-first.ensures in
    let to = c.requires.to in
    omega arith

pub put_apart_pairs-next-requires-clause-small : goal.put_apart_pairs-next-requires-clause-small
put_apart_pairs-next-requires-clause-small c =
    let s = c.args.s.now in
    let sizes = sizes_of_all s.graph.now s.grid.now s.drawing.now (is_above s.order.now) (is_overlap s.order.now) (assignment c.args.m.now)
    (laws_first s.graph.now s.grid.now) c.requires.lawful c.requires.put in
    let is = c.laws_start-first.ensures in
    let to = c.requires.small in
    omega arith

pub put_edge_pairs-requires-clause-over : goal.put_edge_pairs-requires-clause-over
put_edge_pairs-requires-clause-over c = λ a b pair. c.requires.lawful.laws (Over a b) pair

pub put_edge_pairs-requires-clause-parted : goal.put_edge_pairs-requires-clause-parted
put_edge_pairs-requires-clause-parted c = λ a b pair. c.requires.lawful.laws (Parted a b) pair

pub put_edge_pairs-requires-clause-put : goal.put_edge_pairs-requires-clause-put
put_edge_pairs-requires-clause-put c =
    let s = c.args.s.now in
    let p = c.put_apart_pairs-next.ensures in
    let is = c.laws_start-first.ensures in
    let behind = p.next in
    put_to_more s.graph.now s.grid.now s.drawing.now (assignment c.args.m.now) (assignment c.put_apart_pairs-next.new.m) (laws_first s.graph.now s.grid.now)
    c.put_apart_pairs-next.result c.requires.put (omega arith)
    (λ y low. p.puts.same.below y (omega arith))

pub put_edge_pairs-requires-clause-to : goal.put_edge_pairs-requires-clause-to
put_edge_pairs-requires-clause-to c =
    let s = c.args.s.now in
    let sizes = sizes_of_all s.graph.now s.grid.now s.drawing.now (is_above s.order.now) (is_overlap s.order.now) (assignment c.args.m.now)
    (laws_first s.graph.now s.grid.now) c.requires.lawful c.requires.put in
    let is = c.laws_start-first.ensures in
    let behind = c.put_apart_pairs-next.ensures.next in
    let same = c.put_apart_pairs-next.ensures.vars in
    let to = c.requires.to in
    omega arith

pub put_edge_pairs-requires-clause-small : goal.put_edge_pairs-requires-clause-small
put_edge_pairs-requires-clause-small c =
    let s = c.args.s.now in
    let sizes = sizes_of_all s.graph.now s.grid.now s.drawing.now (is_above s.order.now) (is_overlap s.order.now) (assignment c.args.m.now)
    (laws_first s.graph.now s.grid.now) c.requires.lawful c.requires.put in
    let is = c.laws_start-first.ensures in
    let behind = c.put_apart_pairs-next.ensures.next in
    let to = c.requires.small in
    omega arith

pub returns : goal.returns
returns c =
    let s = c.args.s.now in
    let g = s.graph.now in
    let p = c.put_apart_pairs-next.ensures in
    let is = c.laws_start-first.ensures in
    let behind = p.next in
    record {
      puts = all_put g s.grid.now s.drawing.now (is_above s.order.now) (is_overlap s.order.now) (laws_first g s.grid.now) c.put_apart_pairs-next.result
          (assignment c.args.m.now) (assignment c.put_apart_pairs-next.new.m) (assignment c.put_edge_pairs.new.m) c.requires.lawful c.requires.put
          (subst (λ n. PutsLaws g s.grid.now (instance_pairs (length g.nodes) (λ u v. Apart u v ∷ [])) n (assignment c.args.m.now)
          (assignment c.put_apart_pairs-next.new.m)) is p.puts) (omega arith) c.put_edge_pairs.ensures.puts;
      vars = c.put_edge_pairs.ensures.vars ∙ p.vars;
    }
