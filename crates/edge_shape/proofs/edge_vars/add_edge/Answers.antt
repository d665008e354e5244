use Rattle.std.proofs.Common.{◌+◌, ◌*◌, ◌≤◌, arith}
use Rattle.cnf_core.specs.Clause.{words_of}
use Rattle.edge_shape.specs.EdgeVars.{edge_lits, edge_size, node_ints}
use Rattle.edge_shape.specs.Edge.{edge_clauses}
use Rattle.edge_shape.proofs.LineMeans.{models_are_lines}
use Rattle.edge_shape.proofs.LineExtends.{rows_of, line_extends}
use Rattle.edge_shape.proofs.WordLemmas.{edge_words, edge_vars_few}
use Rattle.edge_shape.proofs.edge_vars.add_edge.Goals as goal

pub returns-clause-words : goal.returns-clause-words
returns-clause-words c =
    let g = c.args.grid.now in
    let first = c.args.f.now.vars + 1 in
    let size = edge_size g.height g.width in
    let west = c.requires.west in
    let east = c.requires.east in
    let is = c.make_edge.ensures.is_grid in
    let wx = west.x_there in
    let wy = west.y_there in
    let ex = east.x_there in
    let ey = east.y_there in
    let added = c.make_edge.ensures.adds.words in
    let most : words_of (edge_clauses (edge_lits first g.height g.width) (node_ints c.args.west.now.x c.args.west.now.y)
    (node_ints c.args.east.now.x c.args.east.now.y) g.least g.height g.width) ≤ 2000 * ((g.width + 1) * (g.height + 1)) =
    edge_words first g.height g.width (c.args.f.now.vars + size) g.least (node_ints c.args.west.now.x c.args.west.now.y)
    (node_ints c.args.east.now.x c.args.east.now.y)
    (record { from = omega arith; rows = is.height_limit; some_columns = is.some_width; columns = is.width_limit }) (omega arith)
    (record {
      from = wx.from;
      to = omega arith;
    }) (record { from = wy.from; to = omega arith }) (record { from = ex.from; to = omega arith }) (record { from = ey.from; to = omega arith })
    (let low = west.x_low in let high = west.x_high in omega arith) (let low = west.y_low in let high = west.y_high in omega arith)
    (let low = east.y_low in let high = east.y_high in omega arith) in
    omega (arith, added, most)

pub returns-clause-vars : goal.returns-clause-vars
returns-clause-vars c =
    let g = c.args.grid.now in
    let made = c.make_edge.ensures.adds.vars in
    let few = edge_vars_few g.height g.width in
    omega (arith, made, few)

pub returns-clause-models : goal.returns-clause-models
returns-clause-models c = λ v p q rx ra rz rb h.
    let g = c.args.grid.now in
    let first = c.args.f.now.vars + 1 in
    let wide = c.requires.east.x_high in
    let far = rz.high in
    models_are_lines v (edge_lits first g.height g.width) (node_ints c.args.west.now.x c.args.west.now.y) (node_ints c.args.east.now.x c.args.east.now.y)
    g.least g.height g.width p q (rows_of first g.height g.width) c.make_edge.ensures.is_grid.some_least (omega arith) rx ra rz rb h

pub returns-clause-lines : goal.returns-clause-lines
returns-clause-lines c = λ v p q line rx ra rz rb j.
    let g = c.args.grid.now in
    let first = c.args.f.now.vars + 1 in
    line_extends v first g.height g.width g.least (node_ints c.args.west.now.x c.args.west.now.y) (node_ints c.args.east.now.x c.args.east.now.y) p q line
    (record {
      x = c.requires.west.x_there.to;
      y = c.requires.west.y_there.to;
    }) (record { x = c.requires.east.x_there.to; y = c.requires.east.y_there.to }) rx ra rz rb j
