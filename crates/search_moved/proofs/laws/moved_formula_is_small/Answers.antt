use Rattle.track_order.specs.Order.{is_above, is_overlap}
use Rattle.search_moved.proofs.MovedDrawingLemmas.{moved_is_named, moved_words, moved_vars}
use Rattle.search_moved.proofs.laws.moved_formula_is_small.Goals as goal

pub returns : goal.returns
returns c = record {
  named = λ g o grid former j from to. moved_is_named g (is_above o) (is_overlap o) grid former j from to;
  words = moved_words;
  vars = moved_vars;
}
