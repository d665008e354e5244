use Rattle.track_order.specs.Order.{is_above, is_overlap}
use Rattle.drawing_cnf.specs.Layout.{layout}
use Rattle.drawing_cnf.proofs.MainLemmas.{order_tables, few_variables}
use Rattle.outside_io.proofs.Results.{on_err_anyway}
use Rattle.search_moved.proofs.MovedDrawingLemmas.{moved_sound, moved_covers}
use Rattle.search_moved.proofs.LeftLemmas.{left_none}
use Rattle.search_moved.proofs.beginning.fewest_moved.Goals as goal

pub returns-in_err-solver-clause-sound : goal.returns-in_err-solver-clause-sound
returns-in_err-solver-clause-sound g c = let station = c.nodes.ensures.station in
    moved_sound c.args.g.now (is_above c.args.t.now) (is_overlap c.args.t.now) c.args.grid.now c.args.former.now station.track_graph c.width.ensures.is_grid
    (order_tables c.args.g.now c.args.t.now c.requires.order) c.requires.same

pub returns-in_err-solver-clause-covers : goal.returns-in_err-solver-clause-covers
returns-in_err-solver-clause-covers g c = let station = c.nodes.ensures.station in
    let size = c.width.ensures.is_grid in
    moved_covers c.args.g.now (is_above c.args.t.now) (is_overlap c.args.t.now) c.args.grid.now c.args.former.now station.track_graph size
    (few_variables c.args.g.now c.args.grid.now size station.few_nodes station.few_edges)
    (order_tables c.args.g.now c.args.t.now c.requires.order) c.requires.same

pub returns-clause-sound : goal.returns-clause-sound
returns-clause-sound g c = let station = c.nodes.ensures.station in
    moved_sound c.args.g.now (is_above c.args.t.now) (is_overlap c.args.t.now) c.args.grid.now c.args.former.now station.track_graph c.width.ensures.is_grid
    (order_tables c.args.g.now c.args.t.now c.requires.order) c.requires.same

pub returns-clause-covers : goal.returns-clause-covers
returns-clause-covers g c = let station = c.nodes.ensures.station in
    let size = c.width.ensures.is_grid in
    moved_covers c.args.g.now (is_above c.args.t.now) (is_overlap c.args.t.now) c.args.grid.now c.args.former.now station.track_graph size
    (few_variables c.args.g.now c.args.grid.now size station.few_nodes station.few_edges)
    (order_tables c.args.g.now c.args.t.now c.requires.order) c.requires.same

pub returns-in_err-solver-clause-left : goal.returns-in_err-solver-clause-left
returns-in_err-solver-clause-left g c =
    let k = g.L.LogSink in
    on_err_anyway _ _ (left_none (layout c.args.g.now c.args.t.now c.args.grid.now) c.args.former.now c.args.limits.now.budget
    (k.tells c.args.log.now)
    (g.met.L.LogSink.one_reading c.args.log.now))
