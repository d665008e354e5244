use Rattle.railml_topology.proofs.BuildLemmas.{either_numbers, either_id}
use Rattle.railml_topology.proofs.building.end_of.Goals as goal

pub mileage_of-mile-requires-clause-numbers : goal.mileage_of-mile-requires-clause-numbers
mileage_of-mile-requires-clause-numbers c = either_numbers c.args.site.now.rows.now c.requires.ready.sound c.args.number c.row_at-row.result.now
    c.requires.an_end c.row_at-row.ensures

pub copied-requires : goal.copied-requires
copied-requires c = either_id c.args.site.now.rows.now c.requires.ready.sound c.args.number c.row_at-row.result.now c.requires.an_end c.row_at-row.ensures
