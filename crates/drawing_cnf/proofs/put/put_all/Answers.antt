use Rattle.std.proofs.Common.{◌+◌, map, ◌∙◌, arith}
use Rattle.cnf_core.specs.Truths.{assignment}
use Rattle.track_order.specs.Order.{is_above, is_overlap}
use Rattle.cnf_laws.specs.Expected.{drawing_vars, formula_size, formula_clauses}
use Rattle.drawing_cnf.specs.Bounded.{bounds_clauses}
use Rattle.drawing_cnf.specs.Kept.{bound_of}
use Rattle.drawing_cnf.specs.Whole.{bounds_last}
use Rattle.cnf_laws.proofs.BaseLemmas.{lawful_loose}
use Rattle.drawing_cnf.proofs.WholeLemmas.{last_rises}
use Rattle.drawing_cnf.proofs.PutWhole.{put_drawing_to, whole_stands, whole_holds}
use Rattle.drawing_cnf.proofs.put.put_all.Goals as goal

pub put_drawing-requires-clause-there : goal.put_drawing-requires-clause-there
put_drawing-requires-clause-there c =
    let s = c.args.s.now in
    let rise = last_rises s.graph.now (drawing_vars s.graph.now s.grid.now) s.grid.now
    (formula_size s.graph.now (is_above s.order.now) (is_overlap s.order.now) s.grid.now) (map bound_of c.args.bounds.now) c.requires.behind in
    let to = c.requires.there in
    omega arith

pub put_drawing-requires-clause-small : goal.put_drawing-requires-clause-small
put_drawing-requires-clause-small c =
    let s = c.args.s.now in
    let rise = last_rises s.graph.now (drawing_vars s.graph.now s.grid.now) s.grid.now
    (formula_size s.graph.now (is_above s.order.now) (is_overlap s.order.now) s.grid.now) (map bound_of c.args.bounds.now) c.requires.behind in
    let to = c.requires.small in
    omega arith

pub put_bounds-requires-clause-put : goal.put_bounds-requires-clause-put
put_bounds-requires-clause-put c =
    let s = c.args.s.now in
    let rise = last_rises s.graph.now (drawing_vars s.graph.now s.grid.now) s.grid.now
    (formula_size s.graph.now (is_above s.order.now) (is_overlap s.order.now) s.grid.now) (map bound_of c.args.bounds.now) c.requires.behind in
    let to = c.requires.small in
    let is = c.nodes.ensures.station.track_graph in
    put_drawing_to s.graph.now (is_above s.order.now) (is_overlap s.order.now) s.grid.now s.drawing.now (assignment c.put_drawing.new.m) is
    c.width.ensures.is_grid (omega arith)
    (lawful_loose s.graph.now (is_above s.order.now) s.grid.now s.drawing.now is c.requires.lawful) c.put_drawing.ensures.reads

pub put_bounds-requires-clause-there : goal.put_bounds-requires-clause-there
put_bounds-requires-clause-there c = let to = c.requires.there in let same = c.put_drawing.ensures.vars in omega arith

pub returns : goal.returns
returns c =
    let s = c.args.s.now in
    let g = s.graph.now in
    let above = is_above s.order.now in
    let overlap = is_overlap s.order.now in
    let last = formula_size g above overlap s.grid.now in
    let rise = last_rises g (drawing_vars g s.grid.now) s.grid.now last (map bound_of c.args.bounds.now) c.requires.behind in
    let to = c.requires.small in
    let is = c.nodes.ensures.station.track_graph in
    let below = c.put_bounds.ensures.below in
    let put = put_drawing_to g above overlap s.grid.now s.drawing.now (assignment c.put_drawing.new.m) is c.width.ensures.is_grid (omega arith)
    (lawful_loose g above s.grid.now s.drawing.now is c.requires.lawful) c.put_drawing.ensures.reads in
    record {
      stands = whole_stands g s.grid.now s.drawing.now (last + 1) (assignment c.put_drawing.new.m) (assignment c.put_bounds.new.m) put
          (λ y lt. below y (omega arith));
      model = whole_holds last (bounds_last g (drawing_vars g s.grid.now) s.grid.now last (map bound_of c.args.bounds.now) + 1) (assignment c.put_drawing.new.m)
          (assignment c.put_bounds.new.m)
          (formula_clauses g above overlap s.grid.now) (bounds_clauses g (drawing_vars g s.grid.now) s.grid.now (map bound_of c.args.bounds.now))
          c.put_drawing.ensures.holds below c.put_bounds.ensures.holds;
      later = λ y high. c.put_bounds.ensures.later y high ∙ c.put_drawing.ensures.later y (omega arith);
      vars = c.put_bounds.ensures.vars ∙ c.put_drawing.ensures.vars;
    }
