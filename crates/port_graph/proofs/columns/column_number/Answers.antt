use Rattle.std.proofs.lemmas.Int.{to_z-of_z}
use Rattle.port_graph.proofs.ColumnLemmas.{always_found, place_found}
use Rattle.port_graph.proofs.columns.column_number.Goals as goal

pub unreachable-requires : goal.unreachable-requires
unreachable-requires c =
    always_found c.args.columns.now c.args.mileage c.in-Err.field-0 c.requires.rise c.requires.there
    (simp (to_z-of_z _ _ c.ranges.mileage) at c.in-Err.ensures.position)

pub returns : goal.returns
returns c =
    place_found c.args.columns.now c.args.mileage c.in-Ok.place
    (simp (to_z-of_z _ _ c.ranges.mileage) at c.in-Ok.ensures.ok) c.in-Ok.ensures.bound
