-- The text of a front: its first line, the two criteria, a line for each pair, and how the search for them ended.
use Rattle.std.specs.Prelude.{ℕ, List, [], ◌∷◌, ◌++◌, codes, flat_map}
use Rattle.std.specs.Fmt.{decimal}
use Rattle.plan_core.specs.declared.criterion.Criterion.{Criterion}
use Rattle.outside_io.specs.Fields.{line_text}
use Rattle.outside_io.specs.Criteria.{criterion_word}
use Rattle.trade_off.specs.declared.outcome.FrontEnd.{FrontEnd}
use Rattle.trade_off.specs.declared.outcome.FrontEnd.TheVariants.{Whole, Empty, Conflicts, Room}
use Rattle.trade_off.specs.Front.{Pairs}

-- the pairs are the whole front; no drawing is lawful; the budget is spent; there is no room for more
abbrev pub end_word : FrontEnd → List ℕ
end_word Whole = codes "whole"
end_word Empty = codes "none"
end_word Conflicts = codes "conflicts"
end_word Room = codes "room"

-- the line of a pair
abbrev pub pair_line : ℕ × ℕ → List ℕ
pair_line pair = line_text (codes "pair") (decimal pair.0 ∷ decimal pair.1 ∷ [])

-- the text of a front with these pairs and this end
abbrev pub front_text : Criterion → Criterion → Pairs → FrontEnd → List ℕ
front_text a b pairs ending =
    codes "railplan-front 1\n"
    ++ line_text (codes "front") (criterion_word a ∷ criterion_word b ∷ [])
    ++ flat_map pair_line pairs
    ++ line_text (codes "end") (end_word ending ∷ [])
