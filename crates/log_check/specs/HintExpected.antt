-- The bounds of what is expected, for private contracts alone.
use Rattle.std.specs.Prelude.{List, [], flat_map}
use Rattle.refute_check.specs.declared.told_bound.ToldBound.{ToldBound}
use Rattle.refute_check.specs.Lacking.{told_bound}
use Rattle.refute_log.specs.Expected.{bound_lines}
use Rattle.drawing_cnf.specs.Lists.{variables_behind}
use Rattle.log_check.specs.declared.awaited.Part.{Part}
use Rattle.log_check.specs.declared.awaited.Part.TheVariants.{ClausesTo, Bounds}

-- the bounds of a part, and of parts one after another
abbrev pub bounds_of_part : Part → List ToldBound
bounds_of_part (ClausesTo end) = []
bounds_of_part (Bounds c last cap) = flat_map told_bound (bound_lines c 1 (variables_behind last cap))

abbrev pub bounds_of : List Part → List ToldBound
bounds_of parts = flat_map bounds_of_part parts
