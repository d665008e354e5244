use Rattle.std.proofs.Common.{◌∙◌, arith}
use Rattle.cnf_core.specs.Truths.{assignment}
use Rattle.track_order.specs.Order.{is_above, is_overlap}
use Rattle.cnf_laws.proofs.BaseLemmas.{lawful_loose}
use Rattle.drawing_cnf.proofs.PutWhole.{put_base_to, drawing_reads, drawing_holds}
use Rattle.drawing_cnf.proofs.put.put_drawing.Goals as goal

pub put_base-requires-clause-loose : goal.put_base-requires-clause-loose
put_base-requires-clause-loose c =
    let s = c.args.s.now in
    lawful_loose s.graph.now (is_above s.order.now) s.grid.now s.drawing.now c.nodes.ensures.station.track_graph c.requires.lawful

pub put_base-requires-clause-there : goal.put_base-requires-clause-there
put_base-requires-clause-there c = let to = c.requires.there in omega arith

pub put_laws-requires-clause-put : goal.put_laws-requires-clause-put
put_laws-requires-clause-put c =
    let s = c.args.s.now in
    let small = c.requires.small in
    put_base_to s.graph.now s.grid.now s.drawing.now (assignment c.put_base.new.m) c.nodes.ensures.station.track_graph c.width.ensures.is_grid (omega arith)
    (lawful_loose s.graph.now (is_above s.order.now) s.grid.now s.drawing.now c.nodes.ensures.station.track_graph c.requires.lawful) c.put_base.ensures.reads

pub put_laws-requires-clause-to : goal.put_laws-requires-clause-to
put_laws-requires-clause-to c = let to = c.requires.there in let same = c.put_base.ensures.vars in omega arith

pub put_laws-requires-clause-small : goal.put_laws-requires-clause-small
put_laws-requires-clause-small c = let small = c.requires.small in omega arith

pub returns : goal.returns
returns c =
    let s = c.args.s.now in
    let small = c.requires.small in
    let put = put_base_to s.graph.now s.grid.now s.drawing.now (assignment c.put_base.new.m) c.nodes.ensures.station.track_graph c.width.ensures.is_grid
    (omega arith)
    (lawful_loose s.graph.now (is_above s.order.now) s.grid.now s.drawing.now c.nodes.ensures.station.track_graph c.requires.lawful) c.put_base.ensures.reads in
    record {
      reads = drawing_reads s.graph.now (is_above s.order.now) (is_overlap s.order.now) s.grid.now s.drawing.now (assignment c.put_base.new.m)
          (assignment c.put_laws.new.m) put c.put_laws.ensures.puts;
      holds = drawing_holds s.graph.now (is_above s.order.now) (is_overlap s.order.now) s.grid.now s.drawing.now (assignment c.put_base.new.m)
          (assignment c.put_laws.new.m) put c.put_base.ensures.satisfies c.put_laws.ensures.puts;
      later = λ y high. c.put_laws.ensures.puts.same.above y (omega arith) ∙ c.put_base.ensures.later y (omega arith);
      vars = c.put_laws.ensures.vars ∙ c.put_base.ensures.vars;
    }
