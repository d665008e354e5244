use Rattle.track_order.specs.Order.{is_above, is_overlap}
use Rattle.cnf_laws.proofs.MainLemmas.{formula_sound, formula_covers, order_tables, few_variables}
use Rattle.cnf_laws.proofs.JoinedLemmas.{least_one}
use Rattle.cnf_laws.proofs.FormulaWords.{formula_words, formula_variables}
use Rattle.drawing_cnf.proofs.WholeLemmas.{whole_made}
use Rattle.drawing_cnf.proofs.encoded.encode.Goals as goal

pub returns-clause-sound : goal.returns-clause-sound
returns-clause-sound c =
    let g = c.args.g.now in
    let t = c.args.t.now in
    formula_sound g (is_above t) (is_overlap t) c.args.grid.now c.nodes.ensures.station.track_graph c.width.ensures.is_grid (order_tables g t c.requires.order)

pub returns-clause-covers : goal.returns-clause-covers
returns-clause-covers c =
    let g = c.args.g.now in
    let t = c.args.t.now in
    let s = c.nodes.ensures.station in
    formula_covers g (is_above t) (is_overlap t) c.args.grid.now s.track_graph c.width.ensures.is_grid
    (few_variables g c.args.grid.now c.width.ensures.is_grid s.few_nodes s.few_edges) (order_tables g t c.requires.order)

pub returns-clause-words_bounded : goal.returns-clause-words_bounded
returns-clause-words_bounded c =
    let g = c.args.g.now in
    let t = c.args.t.now in
    let s = c.nodes.ensures.station in
    formula_words g (is_above t) (is_overlap t) c.args.grid.now s.track_graph c.width.ensures.is_grid
    (few_variables g c.args.grid.now c.width.ensures.is_grid s.few_nodes s.few_edges)

pub returns-clause-vars_bounded : goal.returns-clause-vars_bounded
returns-clause-vars_bounded c = formula_variables c.args.g.now (is_above c.args.t.now) (is_overlap c.args.t.now) c.args.grid.now

pub returns-clause-least_1 : goal.returns-clause-least_1
returns-clause-least_1 c = λ one. least_one c.args.g.now (is_above c.args.t.now) (is_overlap c.args.t.now) c.args.grid.now one

pub returns-clause-whole : goal.returns-clause-whole
returns-clause-whole c =
    let e = c.make_encoded.ensures in
    whole_made c.make_encoded.result c.args.g.now c.args.t.now c.args.grid.now c.requires.order e.graph e.order e.grid e.clauses e.vars e.bounds
