use Rattle.track_order.specs.Order.{is_above, is_overlap}
use Rattle.drawing_cnf.proofs.MainLemmas.{order_tables, few_variables}
use Rattle.search_moved.proofs.MovedDrawingLemmas.{moved_sound, moved_covers}
use Rattle.search_moved.proofs.laws.moved_formula_stands_for_drawings.Goals as goal

pub returns : goal.returns
returns c = record {
  sound = λ g o grid former station order size same. moved_sound g (is_above o) (is_overlap o) grid former station.track_graph size (order_tables g o order)
      same;
  covers = λ g o grid former station order size same. moved_covers g (is_above o) (is_overlap o) grid former station.track_graph size
      (few_variables g grid size station.few_nodes station.few_edges) (order_tables g o order) same;
}
