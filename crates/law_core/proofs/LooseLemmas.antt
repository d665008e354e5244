-- Loose drawings, as the sentences of laws 1 and 3 have them and as the clauses do.
use Rattle.std.proofs.Common.{◌≡◌, true, [], ap, arith}
use Rattle.plan_core.specs.declared.point.Point.{Point}
use Rattle.plan_core.specs.Grid.{GridSize}
use Rattle.plan_core.specs.Graph.{Graph, edge, IsTrackGraph}
use Rattle.plan_core.specs.Line.{is_line}
use Rattle.plan_core.specs.Drawing.{Drawing, line}
use Rattle.edge_shape.proofs.GridLemmas.{on_grid_heights, heights_on_grid}
use Rattle.drawing_cnf.specs.Stands.{IsJoinedOnGrid}
use Rattle.search_why.specs.Explained.{IsLoose}

pub joined_loose : (g : Graph) (grid : GridSize) (d : Drawing) → IsJoinedOnGrid g grid d → IsLoose g grid d
joined_loose g grid d h = record {
  fits = h.fits;
  nodes_on_grid = h.on_grid;
  lines_on_grid = λ e lt.
      let j = h.joins e lt in
      heights_on_grid grid (line d e) j.shape j.in_height (let w = j.in_width in let z = ap (λ (p : Point). p.x) j.ends in omega arith);
  joined = λ e lt. let j = h.joins e lt in record { begins = j.begins; ends = j.ends; is_long = j.long };
}

pub loose_joined : (g : Graph) (grid : GridSize) (d : Drawing) → IsTrackGraph g → IsLoose g grid d → IsJoinedOnGrid g grid d
loose_joined g grid d is h = record {
  fits = h.fits;
  on_grid = h.nodes_on_grid;
  joins = λ e lt.
      let shape : is_line (line d e) ≡ true = h.fits.are_lines e [] (let z = h.fits.size.lines in omega arith) in
      let ends = h.joined e lt in
      record {
        shape = shape;
        begins = ends.begins;
        ends = ends.ends;
        long = ends.is_long;
        in_width = (h.nodes_on_grid (edge g e).east (is.nodes e lt).1).in_width;
        in_height = λ c. on_grid_heights grid (line d e) c shape (h.lines_on_grid e lt);
      };
}
